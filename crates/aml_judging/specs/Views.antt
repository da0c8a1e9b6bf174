-- What the code has, in the words of the judgement.
use Rattle.std.specs.Prelude.{ℕ, min, List}
use Rattle.aml_kinds.specs.Kinds.{Shape}
use Rattle.aml_meaning.specs.declared.mutex.TakenMutex.{TakenMutex}
use Rattle.aml_known.specs.Views.{env_of, exits_of, kind_of}
use Rattle.aml_judged.specs.Known as known
use Rattle.aml_judged.specs.Judged as judged
use Rattle.aml_judged.specs.Judged.{Exits}
use Rattle.aml_judged.specs.Verdicts.{most_steps}
use Rattle.aml_judging.specs.declared.names.Read.{Read}
use Rattle.aml_judging.specs.declared.progress.Progress.{Progress}

-- what is read of a name
abbrev pub read_of : (ℕ → Shape) → Read → judged.Yield
read_of shapes r = judged.Always (kind_of shapes r.kind)

-- costs from 2 to the power 63 on are one
abbrev pub held_cost : ℕ → ℕ
held_cost n = min n most_steps

-- where a judgement stands: in an environment, with the exits and the cost so far
pub record Standing : Type 0 where
  pub env : known.Env
  pub exits : Exits
  pub cost : ℕ

abbrev pub standing : (ℕ → Shape) → (ℕ → List TakenMutex) → Progress → Standing
standing shapes lists p = record {
  env = env_of shapes lists p.env;
  exits = exits_of shapes lists p.exits;
  cost = held_cost p.cost;
}

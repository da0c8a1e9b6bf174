-- Where the walk over a method begins.
use Rattle.std.specs.Prelude.{◌≡◌, ℕ, List}
use Rattle.aml_kinds.specs.Kinds.{Shape}
use Rattle.aml_meaning.specs.declared.mutex.TakenMutex.{TakenMutex}
use Rattle.aml_judged.specs.Judged.{no_exits}
use Rattle.aml_judged.specs.Bodies.{entry}
use Rattle.aml_known.specs.declared.known.Known.{Known}
use Rattle.aml_known.specs.Views.{CanBeRead, env_of, exits_of, kinds_of}
use Rattle.aml_judging.specs.declared.progress.Progress.{Progress}

-- where a method begins: nothing is left, and nothing paid for
pub record Begins (shapes : ℕ → Shape) (args : List Known) (p : Progress) : Type 0 where
  pub env : (lists : ℕ → List TakenMutex) → env_of shapes lists p.env ≡ entry (kinds_of shapes args)
  pub exits : (lists : ℕ → List TakenMutex) → exits_of shapes lists p.exits ≡ no_exits
  pub cost : p.cost ≡ 0
  pub read : CanBeRead p.locks.takings.items

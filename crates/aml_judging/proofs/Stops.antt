-- How what changes little follows its rule, where a refusal follows, and where memory is wanted.
use Rattle.std.proofs.Common.{◌≡◌, ℕ, List, Option, Some, None, Result, Ok, Err, refl, arith}
use Rattle.std.specs.Prelude.{min}
use Rattle.aml_causes.specs.declared.cause.Refusal.{Refusal}
use Rattle.aml_kinds.specs.Joins.{join}
use Rattle.aml_kinds.specs.Kinds.{Shape}
use Rattle.aml_meaning.specs.declared.mutex.TakenMutex.{TakenMutex}
use Rattle.aml_judged.specs.Known.{join_env}
use Rattle.aml_judged.specs.Judged as judged
use Rattle.aml_judged.specs.Judged.{Exits, either, join_exits, no_exits, Rule, Stops}
use Rattle.aml_known.specs.declared.stop.Stop.{Stop}
use Rattle.aml_known.specs.declared.stop.Stop.TheVariants as stop
use Rattle.aml_known.specs.Views.{AreApart, env_of, exits_of, Says}
use Rattle.aml_known.proofs.Takings.{same_grown}
use Rattle.aml_judging.specs.declared.progress.Progress.{Progress}
use Rattle.aml_judging.specs.Follows.{FollowsIn, Judges}

with_none : {X : Type 0} (f : X → X → X) (a : Option X) → a ≡ either f a None
with_none f (Some x) = refl
with_none f None = refl

pub no_exits_more : (x : Exits) → x ≡ join_exits x no_exits
no_exits_more x = λ i. record {
  broke = with_none join_env x.broke i;
  continued = with_none join_env x.continued i;
  returned = with_none join x.returned i;
  least = with_none min x.least i;
}

-- a rule that costs nothing and leaves nothing, where takings stay
pub free_judges : {X K : Type 0} {shapes : ℕ → Shape} {see : X → K} {rule : Rule K} (p : Progress) (x : X) → ((lists : ℕ → List TakenMutex) → AreApart shapes → Says lists p.locks.takings.items → rule (env_of shapes lists p.env) ≡ judged.Goes (see x) (env_of shapes lists p.env) no_exits 0) → Judges shapes (λ l. see) rule p p (Ok x)
free_judges {shapes} p x g = record {
  read = λ h. h;
  grows = same_grown p.locks.takings.items;
  follows = λ lists apart says. record {
    exits = no_exits;
    cost = 0;
    goes = g lists apart says;
    joined = no_exits_more (exits_of shapes lists p.exits);
    counted = omega arith;
  };
}

-- one that stops
pub refused_judges : {X K : Type 0} {shapes : ℕ → Shape} {see : X → K} {rule : Rule K} (p : Progress) (r : Refusal) → ((lists : ℕ → List TakenMutex) → AreApart shapes → Says lists p.locks.takings.items → rule (env_of shapes lists p.env) ≡ Stops r) → Judges shapes (λ l. see) rule p p (Err (stop.Refused r))
refused_judges p r g = record {
  read = λ h. h;
  grows = same_grown p.locks.takings.items;
  follows = λ lists apart says. g lists apart says;
}

pub wanting_judges : {X K : Type 0} {shapes : ℕ → Shape} {see : X → K} {rule : Rule K} (p : Progress) → Judges shapes (λ l. see) rule p p (Err stop.NoMemory)
wanting_judges p = record {
  read = λ h. h;
  grows = same_grown p.locks.takings.items;
  follows = λ lists apart says. tt;
}

-- what is given where memory may be wanted follows, and nothing changes
pub given_judges : {X K : Type 0} {shapes : ℕ → Shape} {see : X → K} {rule : Rule K} (p : Progress) (r : Result X Stop) → FollowsIn shapes see rule p.env r → Judges shapes (λ l. see) rule p p r
given_judges p (Ok x) g = free_judges p x (λ lists apart says. g lists)
given_judges p (Err (stop.Refused r)) g = refused_judges p r (λ lists apart says. g lists)
given_judges p (Err stop.NoMemory) g = wanting_judges p

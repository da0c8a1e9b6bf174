-- How code follows a rule of the judgement.
use Rattle.std.specs.Prelude.{◌≡◌, ℕ, ◌+◌, Bool, List, Result, Ok, Err}
use Rattle.aml_operators.specs.Tree.{Trees}
use Rattle.aml_meaning.specs.declared.action.Action.{Action}
use Rattle.aml_causes.specs.declared.cause.Refusal.{Refusal}
use Rattle.aml_kinds.specs.Kinds.{Shape}
use Rattle.aml_meaning.specs.declared.mutex.TakenMutex.{TakenMutex}
use Rattle.aml_judged.specs.Known.{Env}
use Rattle.aml_judged.specs.Judged as judged
use Rattle.aml_judged.specs.Judge.{judged_act}
use Rattle.aml_judged.specs.Verdicts.{Verdict}
use Rattle.aml_judged.specs.Judged.{Around, Exits, join_exits, no_exits, Judged, Rule, Stops}
use Rattle.aml_known.specs.declared.stop.Stop.{Stop}
use Rattle.aml_known.specs.declared.stop.Stop.TheVariants as stop
use Rattle.aml_known.specs.declared.env.Env as program
use Rattle.aml_known.specs.declared.accepted.Accepted.{Accepted}
use Rattle.aml_known.specs.declared.accepted.Yield.{Yield}
use Rattle.aml_known.specs.Views.{accepted_of, AreApart, CanBeRead, env_of, Grown, Says, yield_of}
use Rattle.aml_judging.specs.declared.progress.Progress.{Progress}
use Rattle.aml_judging.specs.Views.{held_cost, Standing, standing}

-- a rule goes from one standing to another, and gives something
pub record Goes {K : Type 0} (rule : Rule K) (old new : Standing) (k : K) : Type 0 where
  pub exits : Exits
  pub cost : ℕ
  pub goes : rule old.env ≡ judged.Goes k new.env exits cost
  pub joined : new.exits ≡ join_exits old.exits exits
  pub counted : new.cost ≡ held_cost (old.cost + cost)

-- so does an answer say; or it is the rule's refusal; or memory was wanted
abbrev pub Follows : {X K : Type 0} → (X → K) → Rule K → Standing → Standing → Result X Stop →
    Type 0
Follows see rule old new (Ok x) = Goes rule old new (see x)
Follows see rule old new (Err (stop.Refused r)) = rule old.env ≡ Stops r
Follows see rule old new (Err stop.NoMemory) = Unit {0}

-- code judges by a rule: takings of mutexes are kept, and whatever they say, the answer follows
pub record Judges {X K : Type 0} (shapes : ℕ → Shape) (see : (ℕ → List TakenMutex) → X → K)
    (rule : Rule K) (old new : Progress) (result : Result X Stop) : Type 0 where
  pub grows : Grown old.locks.takings.items new.locks.takings.items
  pub read : CanBeRead old.locks.takings.items → CanBeRead new.locks.takings.items
  pub follows : (lists : ℕ → List TakenMutex) → AreApart shapes →
      Says lists new.locks.takings.items →
      Follows (see lists) rule (standing shapes lists old) (standing shapes lists new) result

-- a rule that changes nothing, and costs nothing
abbrev pub given : {X K : Type 0} → (X → K) → Result X Refusal → Env → Judged K
given see (Ok x) env = judged.Goes (see x) env no_exits 0
given see (Err r) env = Stops r

abbrev pub Gives : {X K : Type 0} → (X → K) → Rule K → Result X Refusal → Type 0
Gives see rule result = (env : Env) → rule env ≡ given see result env

-- one that costs something
abbrev pub priced : {X K : Type 0} → (X → K) → (X → ℕ) → Result X Refusal → Env → Judged K
priced see cost (Ok x) env = judged.Goes (see x) env no_exits (cost x)
priced see cost (Err r) env = Stops r

abbrev pub Costs : {X K : Type 0} → (X → K) → (X → ℕ) → Rule K → Result X Refusal → Type 0
Costs see cost rule result = (env : Env) → rule env ≡ priced see cost result env

-- a rule that costs nothing, in an environment
abbrev pub GivesIn : {X K : Type 0} → (ℕ → Shape) → (X → K) → Rule K → program.Env →
    Result X Refusal → Type 0
GivesIn shapes see rule env result =
    (lists : ℕ → List TakenMutex) →
    rule (env_of shapes lists env) ≡ given see result (env_of shapes lists env)

-- the same, where memory may be wanted
abbrev pub given_if_memory : {X K : Type 0} → (X → K) → Rule K → Env → Result X Stop → Type 0
given_if_memory see rule env (Ok x) = rule env ≡ judged.Goes (see x) env no_exits 0
given_if_memory see rule env (Err (stop.Refused r)) = rule env ≡ Stops r
given_if_memory see rule env (Err stop.NoMemory) = Unit {0}

abbrev pub FollowsIn : {X K : Type 0} → (ℕ → Shape) → (X → K) → Rule K → program.Env →
    Result X Stop → Type 0
FollowsIn shapes see rule env result =
    (lists : ℕ → List TakenMutex) → given_if_memory see rule (env_of shapes lists env) result

-- whatever the environment
abbrev pub GivesOrMemory : {X K : Type 0} → (X → K) → Rule K → Result X Stop → Type 0
GivesOrMemory see rule result = (env : Env) → given_if_memory see rule env result

-- an answer is the verdict, or tells that memory was wanted
abbrev pub IsVerdict : (ℕ → Shape) → Verdict → Result Accepted Stop → Type 0
IsVerdict shapes verdict (Ok a) = verdict ≡ Ok (accepted_of shapes a)
IsVerdict shapes verdict (Err (stop.Refused r)) = verdict ≡ Err r
IsVerdict shapes verdict (Err stop.NoMemory) = Unit {0}

-- what an operator's action is, behind its step
abbrev pub Acts : (ℕ → Shape) → Around → Bool → Action → ℕ → Trees → Progress → Progress →
    Result Yield Stop → Type 0
Acts shapes here w does at parts old new result =
    Judges shapes (λ lists. yield_of shapes) (judged_act here w does at parts) old new result

-- a cost is paid, and nothing else changes
pub record Paid (cost : ℕ) (old new : Progress) : Type 0 where
  pub env : new.env ≡ old.env
  pub exits : new.exits ≡ old.exits
  pub takings : new.locks.takings.items ≡ old.locks.takings.items
  pub paid : held_cost new.cost ≡ held_cost (held_cost old.cost + cost)

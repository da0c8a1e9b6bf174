-- The words of the proofs that what a rule judges is safe, where a body stands and its kinds are known.
use Rattle.std.proofs.Common.{ℕ, Option}
use Rattle.aml_values.specs.Values.{Value}
use Rattle.aml_kinds.specs.Kinds.{Kind}
use Rattle.aml_meaning.specs.State.{State, Out}
use Rattle.aml_meaning.specs.Meaning.{Setting}
use Rattle.aml_judged.specs.Known.{Env}
use Rattle.aml_judged.specs.Judged.{NameKinds, Yield, Seen, Around, Judged}
use Rattle.aml_judged.specs.Safe.{IsOf, FitsState, FitsYield, IsSafe}

-- where the rules around a body are those of where it stands
abbrev pub around_of : Setting → NameKinds → (ℕ → Seen) → Around
around_of here kinds callee = record { table = here.table; width = here.width; link = here.link; lone = here.lone; object = here.object; field = here.field; buffer_field = here.buffer_field; literal = here.literal; kinds = kinds; callee = callee }

pub record Words : Type 1 where
  -- what the rules go by
  pub around : Around
  -- what is known of a state holds there
  pub Fine : Env → State → Type 0
  -- an outcome is as a judgement says
  pub Safe : {V K : Type 0} → (V → K → State → Type 0) → ℕ → Judged K → Out V → Type 0
  pub Is : Value → Kind → Type 0
  pub Yields : Option Value → Yield → Type 0

abbrev pub words_of : Setting → NameKinds → (ℕ → Seen) → ℕ → Words
words_of here kinds callee above = record {
  around = around_of here kinds callee;
  Fine = FitsState here.width kinds above;
  Safe = λ {V} {K} P before j o. IsSafe here.width kinds above P before j o;
  Is = IsOf here.width;
  Yields = FitsYield here.width;
}

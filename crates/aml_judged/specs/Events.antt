-- What reads and writes of fields take: as many steps as they have events.
use Rattle.std.specs.Prelude.{◌≡◌, ℕ, ◌+◌, ◌≤◌, ◌<◌, List}
use Rattle.aml_regions.specs.Events.{Event}
use Rattle.aml_regions.specs.declared.field.AnyField.{AnyField}
use Rattle.aml_meaning.specs.State as state
use Rattle.aml_meaning.specs.State.{State, Out, Halts, NoAnswer, Spent}
use Rattle.aml_meaning.specs.Fields.{read_value, write_bits, read_count, write_count}

-- within so many steps, short of them only where fewer were there; the frame and the names stay
abbrev pub Costs : {V : Type 0} → ℕ → State → Out V → Type 0
Costs n before (state.Goes v s) =
    (before.steps ≤ s.steps + n) × (s.frame ≡ before.frame) × (s.names ≡ before.names)
Costs n before (Halts stop s) = ⊥
Costs n before (NoAnswer s) = Unit {0}
Costs n before (Spent s) = before.steps < n

pub record FieldsCost : Type 0 where
  pub read :
      (width : ℕ) (f : AnyField) (script : List Event) (s : State) →
      Costs (read_count f) s ((read_value width f).run script s)
  pub write :
      (f : AnyField) (bit : ℕ → ℕ) (script : List Event) (s : State) →
      Costs (write_count f) s ((write_bits f bit).run script s)

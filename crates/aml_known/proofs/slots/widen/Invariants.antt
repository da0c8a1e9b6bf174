use Rattle.std.proofs.Common.{◌≡◌, ◌<◌, ℕ, length}
use Rattle.std.specs.Prelude.{Bool, false, slice_get, unwrap_or}
use Rattle.aml_kinds.specs.Kinds.{Shape}
use Rattle.aml_judged.specs.Known.{widened}
use Rattle.aml_objects.specs.Widths.{bits_of}
use Rattle.aml_known.specs.Views.{slots_of}
use Rattle.aml_known.proofs.OneByOne.{widened_from}
use Rattle.aml_known.proofs.slots.widen.Given as goal

-- the slots so far, and what is left
abbrev pub invariant-loop-i : goal.invariant-loop-i
invariant-loop-i l = (shapes : ℕ → Shape) (is : ℕ → Bool) → ((i : ℕ) → i < length l.initial.slots → is i ≡ unwrap_or (slice_get l.targets i) false) → widened_from is (bits_of l.width) l.i l.i (slots_of shapes l.slots) ≡ widened is (bits_of l.width) 0 (slots_of shapes l.initial.slots)

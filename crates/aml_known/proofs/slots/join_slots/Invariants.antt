use Rattle.std.proofs.Common.{◌≡◌, ℕ}
use Rattle.aml_kinds.specs.Kinds.{Shape}
use Rattle.aml_judged.specs.Known.{join_slots}
use Rattle.aml_known.specs.Views.{AreApart, slots_of}
use Rattle.aml_known.proofs.OneByOne.{joined_from}
use Rattle.aml_known.proofs.slots.join_slots.Given as goal

-- the joins so far, and those of what is left
abbrev pub invariant-loop-i : goal.invariant-loop-i
invariant-loop-i l = (shapes : ℕ → Shape) → AreApart shapes → joined_from l.i (slots_of shapes l.slots) (slots_of shapes l.others) ≡ join_slots (slots_of shapes l.initial.slots) (slots_of shapes l.others)

use Rattle.std.proofs.Common.{◌≡◌, ℕ, drop}
use Rattle.aml_kinds.specs.Kinds.{Shape}
use Rattle.aml_known.specs.Views.{kinds_of}
use Rattle.aml_judged.specs.Integers.{are_integers}
use Rattle.aml_integers.proofs.names.are_integers.Given as goal

-- those so far are kinds of integers
abbrev pub invariant-kinds : goal.invariant-kinds
invariant-kinds l =
    (shapes : ℕ → Shape) → are_integers (kinds_of shapes (drop l.i l.kinds)) ≡ are_integers (kinds_of shapes l.kinds)

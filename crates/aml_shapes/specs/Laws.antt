-- What holds of tables that grow.
use Rattle.std.specs.Prelude.{◌≡◌, List, length}
use Rattle.aml_kinds.specs.Kinds.{Shape}
use Rattle.aml_known.specs.declared.known.Known.{Known}
use Rattle.aml_known.specs.Views.{kind_of}
use Rattle.aml_shapes.specs.Numbers.{IsKnown, Keeps, numbered}

-- the kind that is known by the numbers of a table stays
abbrev pub KindsStay : Type 0
KindsStay = (old new : List Shape) (k : Known) → Keeps old new → IsKnown (length old) k →
    kind_of (numbered new) k ≡ kind_of (numbered old) k

-- what is kept twice is kept
abbrev pub KeepOn : Type 0
KeepOn =
    (first second third : List Shape) → Keeps first second → Keeps second third → Keeps first third

-- What parts of keys tell of elements, by the shapes of a table.
use Rattle.std.specs.Prelude.{◌≡◌, List, length, map}
use Rattle.aml_kinds.specs.Kinds.{ElementKind, Shape}
use Rattle.aml_shapes.specs.Keys.{AreBelow, IsBelow, part_kind}
use Rattle.aml_shapes.specs.Numbers.{numbered}
use Rattle.aml_shapes.specs.declared.key.Part.{Part}

-- a part of an element
abbrev pub TellsPart : List Shape → Part → ElementKind → Type 0
TellsPart shapes p e = IsBelow (length shapes) p × (part_kind (numbered shapes) p ≡ e)

-- the parts of some elements, in order
abbrev pub TellParts : List Shape → List Part → List ElementKind → Type 0
TellParts shapes ps es = AreBelow (length shapes) ps × (map (part_kind (numbered shapes)) ps ≡ es)

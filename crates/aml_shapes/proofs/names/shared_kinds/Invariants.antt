use Rattle.std.proofs.Common.{◌≡◌, length, map, take}
use Rattle.std.specs.Option.{option_map}
use Rattle.aml_namespace.specs.Shows.{shown}
use Rattle.aml_contents.proofs.FirstNames.{kinds_in}
use Rattle.aml_known.specs.Views.{kind_of}
use Rattle.aml_shapes.specs.Numbers.{AreKnown, Keeps, numbered}
use Rattle.aml_shapes.proofs.names.shared_kinds.Given as goal

-- the kinds of the objects so far, by the shapes that are there now
abbrev pub invariant-loop-i : goal.invariant-loop-i
invariant-loop-i l = record {
  kinds : map (option_map (kind_of (numbered l.table))) l.kinds.items ≡ kinds_in (shown l.namespace) (take l.i (shown l.namespace).entries);
  known : AreKnown (length l.table) l.kinds.items;
  keeps : Keeps l.initial.table l.table;
}

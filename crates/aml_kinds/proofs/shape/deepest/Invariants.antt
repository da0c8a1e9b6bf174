use Rattle.std.proofs.Common.{◌≡◌, ◌≤◌, max, drop}
use Rattle.aml_values.specs.Values.{most_nested}
use Rattle.aml_kinds.specs.Kinds.{inner_depth}
use Rattle.aml_kinds.specs.KindViews.{shape_of}
use Rattle.aml_kinds.proofs.shape.deepest.Given as goal

-- the deepest so far, with the deepest of what is left, is the deepest of all
abbrev pub invariant-loop-each : goal.invariant-loop-each
invariant-loop-each l = record {
  whole : max l.deepest (inner_depth (shape_of (drop l.each-index l.places))) ≡ inner_depth (shape_of l.places);
  shallow : l.deepest ≤ most_nested;
}

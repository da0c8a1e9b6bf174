use Rattle.std.proofs.Common.{◌≡◌, ◌≤◌, max, drop}
use Rattle.aml_values.specs.Values.{greatest_depth, most_nested}
use Rattle.aml_values.specs.Views.{elements_of}
use Rattle.aml_values.proofs.package.deepest.Given as goal

-- the deepest so far, with the deepest of what is left, is the deepest of all
abbrev pub invariant-loop-each : goal.invariant-loop-each
invariant-loop-each l = record {
  whole : max l.deepest (greatest_depth (elements_of (drop l.each-index l.elements))) ≡ greatest_depth (elements_of l.elements);
  shallow : l.deepest ≤ most_nested;
}

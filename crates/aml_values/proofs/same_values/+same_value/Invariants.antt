use Rattle.std.proofs.Common.{◌≡◌, drop, length}
use Rattle.aml_values.specs.SameValues.{same_elements}
use Rattle.aml_values.specs.Views.{elements_of}
use Rattle.aml_values.proofs.same_values.+same_value.Given as goal

-- what is left decides
abbrev pub invariant-all_match-loop-i : goal.invariant-all_match-loop-i
invariant-all_match-loop-i l = record {
  lengths : length l.ds ≡ length l.es;
  decides : same_elements (elements_of (drop l.i l.ds)) (elements_of (drop l.i l.es)) ≡ same_elements (elements_of l.ds) (elements_of l.es);
}

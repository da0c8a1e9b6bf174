use Rattle.std.proofs.Common.{◌≡◌, drop, length, ◌+◌, ◌*◌}
use Rattle.aml_values.specs.Views.{elements_of, element, view}
use Rattle.aml_values.specs.Values.{depth, element_depth, greatest_depth}
use Rattle.aml_kinds.specs.Fits.{fits_shape}
use Rattle.aml_kinds.specs.KindViews.{shape_of}
use Rattle.aml_kinds.proofs.fitting.+fits.Given as goal

-- what is left decides
abbrev pub invariant-fit-loop-i : goal.invariant-fit-loop-i
invariant-fit-loop-i l = record {
  lengths : length l.elements ≡ length l.places;
  decides : fits_shape (elements_of (drop l.i l.elements)) (shape_of (drop l.i l.places)) ≡ fits_shape (elements_of l.elements) (shape_of l.places);
}

-- an element stands below its package, and a value in an element below that
abbrev pub decreases-fits : goal.decreases-fits
decreases-fits l = 3 * depth (view l.value.now)

abbrev pub decreases-fits_in_place : goal.decreases-fits_in_place
decreases-fits_in_place l = 3 * element_depth (element l.each.now) + 1

abbrev pub decreases-fit : goal.decreases-fit
decreases-fit l = 3 * greatest_depth (elements_of l.elements.now) + 2

use Rattle.std.proofs.Common.{◌≡◌, map, take, ◌+◌, ◌*◌}
use Rattle.aml_values.specs.Views.{element, elements_of, view}
use Rattle.aml_values.specs.Values.{depth, element_depth, greatest_depth}
use Rattle.aml_kinds.specs.KindViews.{element_kind}
use Rattle.aml_contents.specs.FirstKinds.{place_by}
use Rattle.aml_contents.proofs.first_kinds.+first_kind.Given as goal

-- the kinds of the elements so far
abbrev pub invariant-places_by-loop-each : goal.invariant-places_by-loop-each
invariant-places_by-loop-each l =
    map element_kind l.places.items ≡ map (λ e. place_by (element e)) (take l.each-index l.elements)

-- an element stands below its package, and a value in an element below that
abbrev pub decreases-kind_by : goal.decreases-kind_by
decreases-kind_by l = 4 * depth (view l.value.now)

abbrev pub decreases-place_by : goal.decreases-place_by
decreases-place_by l = 4 * element_depth (element l.each.now) + 1

abbrev pub decreases-places_by : goal.decreases-places_by
decreases-places_by l = 4 * greatest_depth (elements_of l.elements.now) + 2

abbrev pub decreases-shape_by : goal.decreases-shape_by
decreases-shape_by l = 4 * greatest_depth (elements_of l.elements.now) + 3

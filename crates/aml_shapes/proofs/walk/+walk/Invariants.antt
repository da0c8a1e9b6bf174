use Rattle.std.proofs.Common.{◌≡◌, ◌+◌, ◌*◌, length, map, take}
use Rattle.aml_operators.specs.Tree.{view, views}
use Rattle.aml_namespace.proofs.Weights.{weight, weights}
use Rattle.aml_contents.specs.DataKinds.{tree_place}
use Rattle.aml_shapes.specs.Keys.{AreBelow, part_kind}
use Rattle.aml_shapes.specs.Numbers.{Keeps, numbered}
use Rattle.aml_shapes.proofs.walk.+walk.Given as goal

-- the elements so far are what their terms tell, by the shapes that are there now
abbrev pub invariant-parts_in-loop-term : goal.invariant-parts_in-loop-term
invariant-parts_in-loop-term g l =
    let shapes = g.N.Numbering.shapes in
    record {
      below : AreBelow (length (shapes l.numbers)) l.parts.items;
      kinds : map (part_kind (numbered (shapes l.numbers))) l.parts.items ≡ map (λ t. tree_place l.width (view t)) (take l.term-index l.terms);
      keeps : Keeps (shapes l.initial.numbers) (shapes l.numbers);
      stays : g.N.Numbering.stays → shapes l.numbers ≡ shapes l.initial.numbers;
    }

abbrev pub decreases-package : goal.decreases-package
decreases-package g l = 2 * weights (views l.parts.now) + 1

abbrev pub decreases-parts_in : goal.decreases-parts_in
decreases-parts_in g l = 2 * weights (views l.terms.now)

abbrev pub decreases-part_of : goal.decreases-part_of
decreases-part_of g l = 2 * weight (view l.term.now) + 1

abbrev pub decreases-value_part : goal.decreases-value_part
decreases-value_part g l = 2 * weights (views l.parts.now) + 2

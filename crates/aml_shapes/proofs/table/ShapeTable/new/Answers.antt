use Rattle.std.proofs.Common.{ap, ◌∙◌}
use Rattle.std.specs.Map.{lookup}
use Rattle.std.specs.Ordering.{is_eq}
use Rattle.aml_shapes.specs.Keys.{key_order}
use Rattle.aml_shapes.specs.Tables.{shapes_kept}
use Rattle.aml_shapes.proofs.TableLaws.{no_shapes, no_table}
use Rattle.aml_shapes.proofs.table.ShapeTable.new.Goals as goal

pub invariant_of-result : goal.invariant_of-result
invariant_of-result c =
    rw c.new.ensures.items (no_table c.new-2.result (λ q. ap (λ entries. lookup (λ k. is_eq (key_order q k)) entries) c.new-2.ensures.empty))

pub returns : goal.returns
returns c = ap shapes_kept c.new.ensures.items ∙ no_shapes

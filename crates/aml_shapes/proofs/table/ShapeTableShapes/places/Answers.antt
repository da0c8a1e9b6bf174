use Rattle.std.proofs.Common.{map, sym, ap, ◌∙◌}
use Rattle.aml_kinds.specs.Kinds.{places, shaped}
use Rattle.aml_shapes.specs.Keys.{part_kind}
use Rattle.aml_shapes.specs.Numbers.{numbered}
use Rattle.aml_shapes.proofs.Numbers.{places_counted}
use Rattle.aml_shapes.proofs.table.ShapeTableShapes.places.Goals as goal

pub returns-clause-count : goal.returns-clause-count
returns-clause-count c =
    let key = c.in_ok-kept.kept.now.key in
    sym (ap places c.in_ok-kept.ensures.stands.shape ∙ places_counted key.places (shaped (map (part_kind (numbered c.args.self.now)) key.parts.items)))

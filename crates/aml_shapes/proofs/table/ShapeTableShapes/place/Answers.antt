use Rattle.std.proofs.Common.{sym, ap, ◌∙◌}
use Rattle.aml_shapes.specs.Numbers.{numbered}
use Rattle.aml_judged.specs.KindRules.{place_numbered}
use Rattle.aml_shapes.proofs.table.ShapeTableShapes.place.Goals as goal

pub returns-clause-place : goal.returns-clause-place
returns-clause-place c =
    c.place.ensures (numbered c.args.self.now) ∙ ap (λ s. place_numbered s c.args.number) (sym c.in_ok-kept.ensures.stands.shape)

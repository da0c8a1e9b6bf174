use Rattle.std.proofs.Common.{◌∙◌, ◌+◌, ◌*◌, ap}
use Rattle.aml_bounds.specs.Steps.{held, most_steps}
use Rattle.aml_bounds.proofs.Held.{turned_as}
use Rattle.aml_bounds.proofs.bound.turned_steps.Goals as goal

pub returns : goal.returns
returns c =
    c.sum.ensures ∙ ap (λ n. held (c.args.test + n)) (c.times-turning.ensures ∙ ap (λ n. held (c.args.turns * n)) c.sum-turn.ensures)
    ∙ turned_as most_steps c.args.turns c.args.test c.args.body

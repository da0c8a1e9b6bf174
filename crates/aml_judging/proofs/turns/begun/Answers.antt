use Rattle.std.proofs.Common.{refl, sym, arith, ◌≡◌, length, rules, ◌<◌}
use Rattle.aml_operators.specs.Tree.{views}
use Rattle.aml_bounds.specs.Shapes.{assigns_in, is_arg, is_local}
use Rattle.aml_judging.proofs.turns.begun.Goals as goal

pub returns : goal.returns
returns g c = λ lists.
    let eight : length c.args.env.locals ≡ 8 = search rules in
    let seven : length c.args.env.args ≡ 7 = search rules in
    rw (c.widen.ensures (g.A.Shapes.numbered c.args.here.now) (λ i. assigns_in (is_local i) (views c.args.body.now)) (λ i lt. let below : i < 8 = omega (arith, lt, eight) in sym (c.targets_in-targets.ensures.locals i below)), c.widen-2.ensures (g.A.Shapes.numbered c.args.here.now) (λ i. assigns_in (is_arg i) (views c.args.body.now)) (λ i lt. let below : i < 7 = omega (arith, lt, seven) in sym (c.targets_in-targets.ensures.args i below)), c.width.ensures, c.width-2.ensures) refl

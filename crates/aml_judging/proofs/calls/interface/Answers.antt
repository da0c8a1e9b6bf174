use Rattle.std.proofs.Common.{◌≡◌, ◌≤◌, ◌<◌, length, arith}
use Rattle.std.proofs.lemmas.Result.{err_from_is_err_and}
use Rattle.aml_judging.proofs.Calling.{no_string, not_asked}
use Rattle.aml_judging.proofs.calls.interface.Goals as goal

pub returns-in_err-interface_kind-in-len1-len1 : goal.returns-in_err-interface_kind-in-len1-len1
returns-in_err-interface_kind-in-len1-len1 g c = λ env.
    let p = err_from_is_err_and c.from_residual.result c.from_residual.ensures.1 in
    let some : 1 ≤ length c.args.arguments.now = grind (arith, c.in-len1-len1) in
    let below : length c.args.arguments.now < 2 = grind (arith, c.in-len1-len1) in
    let any : 1 ≤ length c.args.kinds.now = grind (arith, c.in-len1-len1) in
    let only : length c.args.kinds.now < 2 = grind (arith, c.in-len1-len1) in
    rw (p.1, p.2) (no_string (g.A.Shapes.numbered c.args.here.now) (g.A.Around.around c.args.here.now) c.args.at c.args.arguments.now c.argument-item.result c.args.kinds.now _ _ _ _ some below c.argument-item.is any only c.width.ensures c.place.ensures (c.in_err-interface_kind-in-len1-len1.ensures (g.A.Shapes.numbered c.args.here.now)) env)

pub returns-in-empty-default : goal.returns-in-empty-default
returns-in-empty-default g c = λ env.
    let others : (length c.args.arguments.now ≡ 1) × (length c.args.kinds.now ≡ 1) → ⊥ = λ both. grind (arith, both.0, both.1) in
    not_asked (g.A.Shapes.numbered c.args.here.now) (g.A.Around.around c.args.here.now) c.args.at c.args.arguments.now c.args.kinds.now _ others c.refusal.ensures env

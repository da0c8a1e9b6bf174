use Rattle.std.proofs.Common.{◌≡◌, ◌≤◌, length, arith}
use Rattle.aml_judging.proofs.Calling.{not_alike}
use Rattle.aml_judging.proofs.calls.+are_within.Goals as goal

pub returns-in-empty-empty-len1-up : goal.returns-in-empty-empty-len1-up
returns-in-empty-empty-len1-up g t c = λ apart env.
    let none : (length c.args.given.now ≡ 0) × (length c.args.taken.now ≡ 0) × (length c.args.arguments.now ≡ 0) → ⊥ = λ all. grind (arith, all.0, all.1, all.2) in
    let some : (1 ≤ length c.args.given.now) × (1 ≤ length c.args.taken.now) × (1 ≤ length c.args.arguments.now) → ⊥ = λ all. grind (arith, all.0, all.1, all.2) in
    not_alike (g.A.Shapes.numbered c.args.here.now) (g.A.Around.around c.args.here.now) c.args.given.now c.args.taken.now c.args.arguments.now _ none some c.refusal.ensures env

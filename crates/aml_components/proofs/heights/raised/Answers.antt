use Rattle.std.proofs.Common.{List, ℕ, sym, subst}
use Rattle.aml_calls.specs.Pairs.{calls_in, numbers}
use Rattle.aml_components.specs.Heights.{MayRaise}
use Rattle.aml_components.proofs.Raising.{may_raise}
use Rattle.aml_components.proofs.heights.raised.Goals as goal

pub raise-requires-clause-may : goal.raise-requires-clause-may
raise-requires-clause-may c =
    let ps = c.args.pairs.now in
    let ordered = numbers c.args.order.0.now in
    subst (λ (hs : List ℕ). MayRaise (calls_in ps) ordered hs) (sym c.deref_mut.ensures.value)
    (may_raise ps ordered (numbers c.args.order.1.now) c.in_ok-heights.heights.items c.args.room
    c.requires.order c.requires.room c.in_ok-heights.ensures)

use Rattle.std.proofs.Common.{◌≡◌, ◌<◌, ℕ, List, sym, subst, take, arith, true}
use Rattle.aml_paths.specs.declared.scope.ObjectId.{ObjectId}
use Rattle.aml_calls.specs.Chains.{is_among}
use Rattle.aml_calls.specs.Pairs.{named, named_by, numbers}
use Rattle.aml_calls.proofs.Among.{among_cases}
use Rattle.aml_calls.proofs.Places.{named_more, room_more}
use Rattle.aml_calls.proofs.calls.room_for.Goals as goal

pub pairs-preserved : goal.pairs-preserved
pairs-preserved c = λ k e.
    let ps = c.args.pairs.now in
    let i = c.pairs.pair-index in
    let p = c.pair-item.result in
    let one = c.in_ok-room.ensures in
    let all = c.in_ok-room-2.ensures in
    room_more (named (take i ps)) (named_by p) c.pairs.room c.in_ok-room-2.room c.pairs.invariant (omega (arith, one.0, all.0))
    (λ j f. among_cases (j < c.in_ok-room-2.room) j p.0.0 (numbers p.1.items) f (λ same. omega (arith, same, one.1, all.0))
    (λ g. all.1 j (subst (λ (xs : List ObjectId). is_among j (numbers xs) ≡ true) (sym c.deref.ensures.value) g)))
    k (subst (λ (ks : List ℕ). is_among k ks ≡ true) (named_more ps i p c.pairs-test.true c.pair-item.is) e)

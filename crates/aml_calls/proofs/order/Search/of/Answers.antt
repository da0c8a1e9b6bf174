use Rattle.std.proofs.Common.{◌≡◌, List, true, subst}
use Rattle.aml_paths.specs.declared.scope.ObjectId.{ObjectId}
use Rattle.aml_calls.specs.Chains.{is_among}
use Rattle.aml_calls.specs.Pairs.{calls_in, named, numbers}
use Rattle.aml_calls.proofs.Among.{first_among, rest_among}
use Rattle.aml_calls.proofs.GoingOn.{pair_more}
use Rattle.aml_calls.proofs.Places.{among_named}
use Rattle.aml_calls.proofs.order.Search.of.Goals as goal

pub pairs-init : goal.pairs-init
pairs-init c =
    let ps = c.args.calls.now.pairs.now in
    record { searches = c.in_ok-search.ensures.begun (calls_in ps) (named ps) c.requires.room; ended = c.in_ok-search.ensures.ended; begun = λ k e. absurd cc }

pub visit-requires-clause-method : goal.visit-requires-clause-method
visit-requires-clause-method c =
    let p = c.pair-item.result in
    among_named c.args.calls.now.pairs.now c.pairs.pair-index p c.pairs-test.true c.pair-item.is p.0.0 (first_among p.0.0 (numbers p.1.items))

pub visit_all-requires-clause-methods : goal.visit_all-requires-clause-methods
visit_all-requires-clause-methods c = λ k e.
    let p = c.pair-item.result in
    among_named c.args.calls.now.pairs.now c.pairs.pair-index p c.pairs-test.true c.pair-item.is k (rest_among k p.0.0 (numbers p.1.items) (subst (λ (xs : List ObjectId). is_among k (numbers xs) ≡ true) c.deref.ensures.value e))

pub pairs-preserved : goal.pairs-preserved
pairs-preserved c =
    let ps = c.args.calls.now.pairs.now in
    let p = c.pair-item.result in
    pair_more ps c.pairs.pair-index p c.deref.result.now c.pairs.search c.visit.new.self c.visit_all.new.self c.pairs-test.true c.pair-item.is c.deref.ensures.value c.pairs.invariant c.in_ok-visit.ensures c.in_ok-visit_all.ensures

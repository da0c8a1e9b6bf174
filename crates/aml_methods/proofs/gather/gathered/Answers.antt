use Rattle.std.proofs.Common.{◌≡◌, List, length, refl, ap, ◌∙◌, arith}
use Rattle.std.proofs.lemmas.List.{length-map, take_all}
use Rattle.aml_calls.specs.Chains.{is_among}
use Rattle.aml_calls.specs.Pairs.{numbers}
use Rattle.aml_namespace.specs.Shows.{shown}
use Rattle.aml_paths.specs.declared.scope.ObjectId.{ObjectId}
use Rattle.aml_methods.proofs.Calls.{all_gathered, methods_listed, pair_more}
use Rattle.aml_methods.proofs.Keeping.{all_kept, none_kept, one_kept}
use Rattle.aml_methods.proofs.Places.{number_at}
use Rattle.aml_methods.proofs.gather.gathered.Goals as goal

pub loop-id-init : goal.loop-id-init
loop-id-init c =
    let none = none_kept (shown c.args.namespace.now) (numbers c.methods-methods.result.now) c.in_ok-kept.kept.items (c.in_ok-kept.ensures.count ∙ c.len.ensures) c.in_ok-kept.ensures.none in
    rw c.in-Ok.ensures.items ((tt, refl), none, λ are. are)

pub loop-id-preserved : goal.loop-id-preserved
loop-id-preserved c =
    let ids = c.methods-methods.result.now in
    let i = c.loop-id.id-index in (
      pair_more (shown c.args.namespace.now) ids i _ c.loop-id.calls.items c.keep.new.pairs.items c.in_ok-callees.callees c.loop-id-test.true c.in_ok-keep.ensures c.loop-id.invariant.0 c.in_ok-callees.ensures.called,
      rw c.put.ensures (one_kept (shown c.args.namespace.now) (numbers ids) i c.loop-id.kept.items c.loop-id.invariant.1 _ (number_at ids i _ c.loop-id-test.true) c.in_ok-callees.one c.in_ok-callees.ensures.kept),
      λ are. c.in_ok-callees.ensures.trees (c.loop-id.invariant.2 are),
    )

pub returns-clause-calls : goal.returns-clause-calls
returns-clause-calls c =
    all_gathered (shown c.args.namespace.now) c.loop-id.calls.items c.loop-id.invariant.0.0
    (c.loop-id.invariant.0.1 ∙ take_all c.loop-id.id-index c.methods-methods.result.now c.loop-id-test.false ∙ c.methods-methods.ensures)

pub returns-clause-all_kept : goal.returns-clause-all_kept
returns-clause-all_kept c =
    let ids = c.methods-methods.result.now in
    let count : length (numbers ids) ≡ length ids = length-map ids (λ (id : ObjectId). id.0) in
    all_kept (shown c.args.namespace.now) (numbers ids) c.loop-id.id-index c.loop-id.kept.items c.loop-id.invariant.1 (omega (arith, count, c.loop-id-test.false))
    (λ k m is. ap (λ (x : List ObjectId). is_among k (numbers x)) c.methods-methods.ensures ∙ methods_listed (shown c.args.namespace.now) k m is)

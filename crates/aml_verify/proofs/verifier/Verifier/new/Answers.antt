use Rattle.std.proofs.Common.{◌∙◌}
use Rattle.aml_calls.specs.Pairs.{numbers}
use Rattle.aml_namespace.specs.Shows.{shown}
use Rattle.aml_signatures.specs.Signed.{kinds_told}
use Rattle.aml_verify.proofs.Beginning.{begins}
use Rattle.aml_verify.proofs.Handed.{are_handed}
use Rattle.aml_verify.proofs.Linked.{are_meant}
use Rattle.aml_verify.proofs.Marking.{none_marked}
use Rattle.aml_verify.proofs.verifier.Verifier.new.Goals as goal

pub returns-clause-verifier : goal.returns-clause-verifier
returns-clause-verifier c = record {
  at_work = begins (shown c.args.namespace.now) (kinds_told c.args.signatures.now) c.shared_kinds.new.table c.in_ok-shared.shared.items c.in_ok-heights.heights c.in_ok-components.components c.in_ok-shared.ensures.kinds
      c.in_ok-gathering.gathering.calls.items c.deref.result.now c.deref-2.result.now c.deref-5.result.now c.in_ok-gathering.ensures.calls c.deref.ensures.value c.deref-2.ensures.value c.deref-5.ensures.value
      c.in_ok-ordered.ordered.items c.in_ok-ordered.others.items c.deref-6.result.now c.in_ok-order.order.items c.in_ok-ordered.ensures c.in_ok-heights.ensures c.in_ok-components.ensures c.deref-6.ensures.value c.in_ok-order.ensures
      c.in_ok-verdicts.verdicts.items (c.in_ok-verdicts.ensures.count ∙ c.len-count.ensures) c.in_ok-verdicts.ensures.none;
  keeps = c.in_ok-gathering.ensures.kept;
  marks = none_marked (shown c.args.namespace.now) (kinds_told c.args.signatures.now) (numbers c.in_ok-order.order.items) c.in_ok-integers.integers.items (c.in_ok-integers.ensures.count ∙ c.len-count.ensures) c.in_ok-integers.ensures.none;
}

pub invariant_of-read : goal.invariant_of-read
invariant_of-read c = record {
  meant = are_meant (shown c.args.namespace.now) c.in_ok-gathering.gathering.kept.items c.in_ok-gathering.ensures.kept;
  all = c.in_ok-gathering.ensures.all_kept;
  handed = are_handed (shown c.args.namespace.now) _ (c.in_ok-gathering.ensures.trees (c.in_ok-trees.ensures (shown c.args.namespace.now)));
}

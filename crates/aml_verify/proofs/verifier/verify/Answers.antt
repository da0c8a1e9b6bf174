use Rattle.std.proofs.Common.{◌≡◌, ◌+◌, ◌≤◌, ap, ◌∙◌, subst, arith}
use Rattle.aml_signatures.specs.Signed.{kinds_told}
use Rattle.aml_verify.proofs.Beginning.{fewer}
use Rattle.aml_verify.specs.Verdicts.{IsChecked, left}
use Rattle.aml_verify.proofs.verifier.verify.Goals as goal

pub loop-init : goal.loop-init
loop-init c =
    let none : left c.in_ok-verifier.verifier + 0 ≤ c.left-end.result = omega (arith, c.left-end.ensures) in
    (c.in_ok-verifier.ensures.verifier, c.in_ok-verifier.ensures.namespace, c.in_ok-verifier.ensures.signatures, none)

pub loop-preserved : goal.loop-preserved
loop-preserved c = (
  c.in_ok-step.ensures.verifier c.loop.invariant.0,
  ap (λ n. n.now) c.in_ok-step.ensures.same.namespace ∙ c.loop.invariant.1,
  ap (λ n. n.now) c.in_ok-step.ensures.same.signatures ∙ c.loop.invariant.2,
  fewer c.loop.verifier c.step.new.self c.in_ok-step.field-0 c.loop.counter c.left-end.result c.in_ok-step.ensures.next c.in_ok-step.ensures.same.order c.loop.invariant.3 c.loop-test.true,
)

pub returns-clause-checked : goal.returns-clause-checked
returns-clause-checked c =
    let none : left c.loop.verifier ≡ 0 = omega (arith, c.loop.invariant.3, c.loop-test.false) in
    subst (λ s. IsChecked (kinds_told s) c.finish.result) c.loop.invariant.2 (c.finish.ensures.checked c.loop.invariant.0 none)

pub returns-clause-namespace : goal.returns-clause-namespace
returns-clause-namespace c = c.finish.ensures.namespace ∙ c.loop.invariant.1

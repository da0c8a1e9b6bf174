use Rattle.std.proofs.Common.{◌≡◌, ◌+◌, ◌≤◌}
use Rattle.aml_verify.specs.Verdicts.{IsVerifier, left}
use Rattle.aml_verify.proofs.verifier.verify.Given as goal

-- it is at work, and fewer are left with each step
abbrev pub invariant-loop : goal.invariant-loop
invariant-loop l =
    IsVerifier l.verifier
    × (l.verifier.read.namespace.now ≡ l.namespace)
    × (l.verifier.signatures.now ≡ l.signatures)
    × (left l.verifier + l.counter ≤ l.end)

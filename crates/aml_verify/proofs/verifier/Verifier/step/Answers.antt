use Rattle.std.proofs.Common.{◌<◌, length, refl, arith}
use Rattle.aml_calls.specs.Pairs.{numbers}
use Rattle.aml_namespace.specs.Shows.{shown}
use Rattle.aml_signatures.specs.Signed.{kinds_told}
use Rattle.aml_verify.proofs.Marking.{one_marked}
use Rattle.aml_methods.proofs.Places.{number_there}
use Rattle.aml_verify.proofs.Stepping.{one_step}
use Rattle.aml_verify.proofs.verifier.Verifier.step.Goals as goal

pub returns-clause-verifier : goal.returns-clause-verifier
returns-clause-verifier c = λ is. let v = c.args.self.now in
    let lt : v.judged < length v.order.items = omega (arith, c.if-self-len.false, c.len.ensures) in
    let at = number_there v.order.items v.judged c.index-id.result.now lt c.index-id.ensures in
    let found = c.in_ok-found.ensures is in
    record {
      at_work = rw c.keep.ensures (one_step (shown v.read.namespace.now) (kinds_told v.signatures.now) v.shapes v.shared.items v.heights v.components (numbers v.order.items) v.judged v.verdicts.items is.at_work c.index-id.result.now.0 c.in_ok-found.found.verdict at found.said);
      keeps = is.keeps;
      marks = rw c.put.ensures (one_marked (shown v.read.namespace.now) (kinds_told v.signatures.now) (numbers v.order.items) v.judged v.integers.items is.marks (λ all j. (is.at_work.calls all j).ready) c.index-id.result.now.0 at c.in_ok-found.found.integers found.marks);
    }

pub returns-clause-next : goal.returns-clause-next
returns-clause-next c =
    let lt : c.args.self.now.judged < length c.args.self.now.order.items = omega (arith, c.if-self-len.false, c.len.ensures) in
    (number_there c.args.self.now.order.items c.args.self.now.judged c.index-id.result.now lt c.index-id.ensures, refl)

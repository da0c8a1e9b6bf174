use Rattle.aml_calls.specs.Pairs.{numbers}
use Rattle.aml_namespace.specs.Shows.{shown}
use Rattle.aml_signatures.specs.Signed.{kinds_told}
use Rattle.aml_verify.proofs.Finding.{all_done}
use Rattle.aml_verify.proofs.Marking.{all_marked}
use Rattle.aml_verify.proofs.Stepping.{all_judged}
use Rattle.aml_verify.proofs.verifier.Verifier.finish.Goals as goal

pub returns-clause-checked : goal.returns-clause-checked
returns-clause-checked c = λ is none. let v = c.args.self in
    let done = all_done v none in
    record {
      right = is.at_work.right;
      all = all_judged (shown v.read.namespace.now) (kinds_told v.signatures.now) v.shapes v.shared.items v.heights v.components (numbers v.order.items) v.judged v.verdicts.items is.at_work done;
      only = is.at_work.only;
      kept = is.keeps;
      all_kept = v.read.all;
      integers = all_marked (shown v.read.namespace.now) (kinds_told v.signatures.now) (numbers v.order.items) v.judged v.integers.items is.marks done is.at_work.ordered;
    }

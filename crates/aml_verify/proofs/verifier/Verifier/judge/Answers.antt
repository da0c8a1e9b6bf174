use Rattle.std.proofs.Common.{sym}
use Rattle.aml_namespace.specs.Shows.{shown}
use Rattle.aml_verify.proofs.Finding.{unread_found}
use Rattle.aml_verify.proofs.Handed.{handed_statements}
use Rattle.aml_verify.proofs.Judged.{is_read}
use Rattle.aml_verify.proofs.verifier.Verifier.judge.Goals as goal

pub judge_body-requires-clause-read : goal.judge_body-requires-clause-read
judge_body-requires-clause-read c =
    rw c.deref.ensures.value (record {
      is = handed_statements (shown c.args.self.now.read.namespace.now) c.args.self.now.read.trees.bodies.items c.args.id.0 c.args.method c.in-Some.body.now c.args.self.now.read.handed (sym c.in-Some.ensures) c.requires.there;
    })

pub judge_body-requires-in-Ok-clause-read : goal.judge_body-requires-in-Ok-clause-read
judge_body-requires-in-Ok-clause-read c = rw c.deref-in-Ok.ensures.value (is_read (shown c.args.self.now.read.namespace.now) c.args.id.0 c.args.method _ (c.in-Ok.ensures c.args.method c.requires.there))

pub returns-in-Err-Refused : goal.returns-in-Err-Refused
returns-in-Err-Refused c = λ is.
    rw c.in-Err-Refused.refusal-is (unread_found c.args.self.now c.args.id.0 c.args.method c.in-Err-Refused.field-0 c.in-Err-Refused.refusal c.requires.there c.in-Err-Refused.field-0-is (c.in-Err-Refused.ensures c.args.method c.requires.there))

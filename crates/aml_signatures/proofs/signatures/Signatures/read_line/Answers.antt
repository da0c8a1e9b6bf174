use Rattle.std.proofs.Common.{sym, ◌∙◌}
use Rattle.aml_signatures.proofs.Told.{signs_put}
use Rattle.aml_signatures.proofs.signatures.Signatures.read_line.Goals as goal

pub returns-in_ok-insert-in-Some-clause-told : goal.returns-in_ok-insert-in-Some-clause-told
returns-in_ok-insert-in-Some-clause-told c =
    let is = rw c.in-Some.is at c.in_ok-path.ensures in
    signs_put c.args.line.now c.in-Some.path.now c.args.self.now (record { kinds = c.insert.new.self }) c.in_ok-from_slice-in-Some.field-0 c.in-Some.kinds
    (sym c.is_empty.ensures ∙ c.if-is_empty.false) (sym c.starts_with.ensures.value ∙ c.if-starts_with.false) is
    (sym c.contains_key.ensures ∙ c.if-not-contains_key.true) c.in_ok-from_slice-in-Some.ensures.items c.in_ok-insert-in-Some.ensures.updates

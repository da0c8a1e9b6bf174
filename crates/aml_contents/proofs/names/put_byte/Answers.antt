use Rattle.std.proofs.Common.{◌∙◌, sym, ap}
use Rattle.aml_contents.specs.Contents.{has_byte}
use Rattle.aml_contents.proofs.ContentLaws.{content_there, no_content, no_byte_changed, byte_changed}
use Rattle.aml_contents.proofs.names.put_byte.Goals as goal

pub returns-then-number-contents-clause-there : goal.returns-then-number-contents-clause-there
returns-then-number-contents-clause-there c =
    ap (λ v. has_byte v c.args.at) (sym (no_content c.args.contents.now c.args.number c.if-number-contents.true))

pub returns-then-number-contents-clause-put : goal.returns-then-number-contents-clause-put
returns-then-number-contents-clause-put c =
    no_byte_changed c.args.contents.now c.args.number c.args.at c.args.byte c.if-number-contents.true

pub returns-clause-there : goal.returns-clause-there
returns-clause-there c =
    c.put_in.ensures.there ∙ ap (λ v. has_byte v c.args.at) (sym (content_there c.args.contents.now c.args.number c.index-contents-number.result c.if-number-contents.false))

pub returns-clause-put : goal.returns-clause-put
returns-clause-put c =
    byte_changed c.args.contents.now c.args.number c.args.at c.args.byte c.index-contents-number.result c.put_in.new.held c.if-number-contents.false c.put_in.ensures.put

use Rattle.std.proofs.Common.{◌∙◌, sym, ap, true, false}
use Rattle.std.proofs.lemmas.Result.{err_from_is_err_and}
use Rattle.aml_lex.specs.Reading.{with_value, named}
use Rattle.aml_lex.proofs.Places.{rooted_at, relative_at}
use Rattle.aml_lex.proofs.name_reader.find_name_string.Goals as goal

pub returns-in_err-segments-clause-gives : goal.returns-in_err-segments-clause-gives
returns-in_err-segments-clause-gives c =
    let p = err_from_is_err_and c.from_residual.result c.from_residual.ensures.1 in
    rw (p.1, p.2) (rooted_at c.args.bytes.now c.args.at (sym c.starts_with_root-is_rooted.ensures.gives ∙ c.if-is_rooted.true) ∙ ap (with_value (named true 0)) c.in_err-segments.ensures.gives)

pub returns-then-is_rooted-clause-gives : goal.returns-then-is_rooted-clause-gives
returns-then-is_rooted-clause-gives c =
    rw c.if-is_rooted.true (rooted_at c.args.bytes.now c.args.at (sym c.starts_with_root-is_rooted.ensures.gives ∙ c.if-is_rooted.true) ∙ ap (with_value (named true 0)) c.in_ok-segments.ensures.gives)

pub returns-in_err-segments-2-clause-gives : goal.returns-in_err-segments-2-clause-gives
returns-in_err-segments-2-clause-gives c =
    let p = err_from_is_err_and c.from_residual-in_err-segments-2.result c.from_residual-in_err-segments-2.ensures.1 in
    rw (p.1, p.2) (relative_at c.args.bytes.now c.args.at c.leading_carets-carets.result (sym c.starts_with_root-is_rooted.ensures.gives ∙ c.if-is_rooted.false) c.leading_carets-carets.ensures.gives ∙ ap (with_value (named false c.leading_carets-carets.result)) c.in_err-segments-2.ensures.gives)

pub returns-clause-gives : goal.returns-clause-gives
returns-clause-gives c =
    rw c.if-is_rooted.false (relative_at c.args.bytes.now c.args.at c.leading_carets-carets.result (sym c.starts_with_root-is_rooted.ensures.gives ∙ c.if-is_rooted.false) c.leading_carets-carets.ensures.gives ∙ ap (with_value (named false c.leading_carets-carets.result)) c.in_ok-segments-2.ensures.gives)

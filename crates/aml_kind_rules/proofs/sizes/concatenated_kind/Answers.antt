use Rattle.std.proofs.Common.{◌∙◌, Err, ap, sym}
use Rattle.std.proofs.lemmas.Result.{err_from_is_err_and}
use Rattle.aml_kinds.specs.Kinds.{BufOf, StrOf}
use Rattle.aml_judged.specs.KindRules as rule
use Rattle.aml_known.specs.Views.{kind_of}
use Rattle.aml_rules.specs.Tells.{place_of}
use Rattle.aml_kind_rules.specs.Tells.{told}
use Rattle.aml_kind_rules.proofs.sizes.concatenated_kind.Goals as goal

pub returns-in_err-joined_size-in-Buf-Buf : goal.returns-in_err-joined_size-in-Buf-Buf
returns-in_err-joined_size-in-Buf-Buf c = λ shapes.
    let op = place_of c.args.operator in
    let p = place_of c.args.first_operand in
    let q = place_of c.args.second_operand in
    let is = err_from_is_err_and c.from_residual.result c.from_residual.ensures.1 in
    ap (told (kind_of shapes)) (is.1 ∙ ap Err is.2)
    ∙ c.in_err-joined_size-in-Buf-Buf.ensures BufOf
    ∙ sym (
    ap (λ j. rule.concatenated_kind op p (kind_of shapes j) q (kind_of shapes c.args.second)) c.in-Buf-Buf.is-0
    ∙ ap (λ k. rule.concatenated_kind op p (BufOf c.in-Buf-Buf.a) q (kind_of shapes k)) c.in-Buf-Buf.is-1
    )

pub returns-in_err-joined_size-in-Str-Str : goal.returns-in_err-joined_size-in-Str-Str
returns-in_err-joined_size-in-Str-Str c = λ shapes.
    let op = place_of c.args.operator in
    let p = place_of c.args.first_operand in
    let q = place_of c.args.second_operand in
    let is = err_from_is_err_and c.from_residual-in_err-joined_size-in-Str-Str.result c.from_residual-in_err-joined_size-in-Str-Str.ensures.1 in
    ap (told (kind_of shapes)) (is.1 ∙ ap Err is.2)
    ∙ c.in_err-joined_size-in-Str-Str.ensures StrOf
    ∙ sym (
    ap (λ j. rule.concatenated_kind op p (kind_of shapes j) q (kind_of shapes c.args.second)) c.in-Str-Str.is-0
    ∙ ap (λ k. rule.concatenated_kind op p (StrOf c.in-Str-Str.a) q (kind_of shapes k)) c.in-Str-Str.is-1
    )

pub returns-in_ok-joined_size-in-Buf-Buf : goal.returns-in_ok-joined_size-in-Buf-Buf
returns-in_ok-joined_size-in-Buf-Buf c = λ shapes.
    let op = place_of c.args.operator in
    let p = place_of c.args.first_operand in
    let q = place_of c.args.second_operand in
    c.in_ok-joined_size-in-Buf-Buf.ensures BufOf
    ∙ sym (
    ap (λ j. rule.concatenated_kind op p (kind_of shapes j) q (kind_of shapes c.args.second)) c.in-Buf-Buf.is-0
    ∙ ap (λ k. rule.concatenated_kind op p (BufOf c.in-Buf-Buf.a) q (kind_of shapes k)) c.in-Buf-Buf.is-1
    )

pub returns-in_ok-joined_size-in-Str-Str : goal.returns-in_ok-joined_size-in-Str-Str
returns-in_ok-joined_size-in-Str-Str c = λ shapes.
    let op = place_of c.args.operator in
    let p = place_of c.args.first_operand in
    let q = place_of c.args.second_operand in
    c.in_ok-joined_size-in-Str-Str.ensures StrOf
    ∙ sym (
    ap (λ j. rule.concatenated_kind op p (kind_of shapes j) q (kind_of shapes c.args.second)) c.in-Str-Str.is-0
    ∙ ap (λ k. rule.concatenated_kind op p (StrOf c.in-Str-Str.a) q (kind_of shapes k)) c.in-Str-Str.is-1
    )

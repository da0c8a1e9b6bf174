use Rattle.std.proofs.Common.{[], ◌∷◌, ◌++◌, Some, None, rules, arith, sym, ap, ◌∙◌, append_assoc, map, subst}
use Rattle.std.specs.Prelude.{vec_items}
use Rattle.std.proofs.lemmas.Str.Pattern.{split_parts}
use Rattle.aml_values.specs.Views.{view}
use Rattle.acpi_words.specs.Arguments.{AreArguments, elements}
use Rattle.acpi_words.proofs.Elements.{arguments_more, elements_more, elements_one, stops_at}
use Rattle.acpi_words.proofs.arguments.read_arguments.Goals as goal

pub returns-in_err-read_argument : goal.returns-in_err-read_argument
returns-in_err-read_argument c =
    let parts = split_parts 44 c.loop-element.rest.now (Some (c.in-Some.element, c.in-Some.more)) c.in-Some.ensures.cases (omega arith) in
    let (done, before, values) = c.loop-element.invariant.1 in
    let left = ap elements parts.0 ∙ elements_more c.in-Some.element.now c.in-Some.more.now parts.1 in
    stops_at c.args.text.now done (elements c.in-Some.more.now) c.in-Some.element.now _ c.from_residual.result
    (before ∙ ap (λ l. done ++ l) left) c.from_residual.ensures.1 c.in_err-read_argument.ensures

pub loop-element-preserved : goal.loop-element-preserved
loop-element-preserved c =
    let parts = split_parts 44 c.loop-element.rest.now (Some (c.in-Some.element, c.in-Some.more)) c.in-Some.ensures.cases (omega arith) in
    let (done, before, values) = c.loop-element.invariant.1 in
    let left = ap elements parts.0 ∙ elements_more c.in-Some.element.now c.in-Some.more.now parts.1 in
    let element = c.in-Some.element.now in (
      search rules,
      (
        done ++ (element ∷ []),
        before ∙ ap (λ l. done ++ l) left ∙ sym (append_assoc done (element ∷ []) (elements c.in-Some.more.now)),
        subst (λ vs. AreArguments (done ++ (element ∷ [])) (map view vs)) (sym c.in_ok-push.ensures.items)
            (arguments_more done c.loop-element.arguments.items element c.in_ok-read_argument.field-0 values c.in_ok-read_argument.ensures),
      ),
    )

pub returns-in_err-read_argument-2 : goal.returns-in_err-read_argument-2
returns-in_err-read_argument-2 c =
    let lacks = split_parts 44 c.loop-element.rest.now None c.in_default.ensures.cases (omega arith) in
    let (done, before, values) = c.loop-element.invariant.1 in
    stops_at c.args.text.now done [] c.loop-element.rest.now _ c.from_residual-in_err-read_argument-2.result
    (before ∙ ap (λ l. done ++ l) (elements_one c.loop-element.rest.now lacks)) c.from_residual-in_err-read_argument-2.ensures.1
    c.in_err-read_argument-2.ensures

pub returns : goal.returns
returns c =
    let lacks = split_parts 44 c.loop-element.rest.now None c.in_default.ensures.cases (omega arith) in
    let (done, before, values) = c.loop-element.invariant.1 in
    let last = c.loop-element.rest.now in
    let all = before ∙ ap (λ l. done ++ l) (elements_one last lacks) in
    subst (λ l. AreArguments l (map view (vec_items c.push-2.new.self))) (sym all)
    (subst (λ vs. AreArguments (done ++ (last ∷ [])) (map view vs)) (sym c.in_ok-push-2.ensures.items)
    (arguments_more done c.loop-element.arguments.items last c.in_ok-read_argument-2.field-0 values c.in_ok-read_argument-2.ensures))

use Rattle.std.proofs.Common.{◌+◌, [], ◌∷◌, ◌++◌, ◌∙◌, Some, None, rules, arith, ap, append_assoc, length, subst, sym}
use Rattle.std.specs.Prelude.{All}
use Rattle.std.proofs.lemmas.Bool.{MatchBool-at_false, MatchBool-at_true}
use Rattle.std.proofs.lemmas.List.{length-append, length_push}
use Rattle.std.proofs.lemmas.List.Elements.{All-push}
use Rattle.std.proofs.lemmas.Str.Pattern.{split_parts}
use Rattle.acpi_words.specs.Arguments.{IsAnyArgument, IsNoArgument, elements}
use Rattle.acpi_words.proofs.Elements.{elements_more, elements_one}
use Rattle.acpi_words.proofs.arguments.bad_argument.Goals as goal

-- the element is no value
pub returns-then-not-branch : goal.returns-then-not-branch
returns-then-not-branch c =
    let parts = split_parts 44 c.loop-element.rest.now (Some (c.in-Some.element, c.in-Some.behind)) c.in-Some.ensures.cases (omega arith) in
    let (done, before, count, values) = c.loop-element.invariant.2 in
    let element = c.in-Some.element.now in
    let left = ap elements parts.0 ∙ elements_more element c.in-Some.behind.now parts.1 in (
      done,
      elements c.in-Some.behind.now,
      before ∙ ap (λ l. done ++ l) left,
      count,
      values,
      MatchBool-at_false (IsAnyArgument element) (IsNoArgument element) c.if-not-branch.true c.in_ok-is_argument.ensures,
    )

-- the element is a value
pub loop-element-preserved : goal.loop-element-preserved
loop-element-preserved c =
    let parts = split_parts 44 c.loop-element.rest.now (Some (c.in-Some.element, c.in-Some.behind)) c.in-Some.ensures.cases (omega arith) in
    let (done, before, count, values) = c.loop-element.invariant.2 in
    let within = c.loop-element.invariant.1 in
    let element = c.in-Some.element.now in
    let left = ap elements parts.0 ∙ elements_more element c.in-Some.behind.now parts.1 in
    let long = ap length parts.0 ∙ length-append element (44 ∷ c.in-Some.behind.now) in (
      search rules,
      omega (arith, long, within),
      (
        done ++ (element ∷ []),
        before ∙ ap (λ l. done ++ l) left ∙ sym (append_assoc done (element ∷ []) (elements c.in-Some.behind.now)),
        length_push done element ∙ ap (λ n. n + 1) count,
        All-push IsAnyArgument done element values
            (MatchBool-at_true (IsAnyArgument element) (IsNoArgument element) c.if-not-branch.false c.in_ok-is_argument.ensures),
      ),
    )

-- the last element is no value
pub returns : goal.returns
returns c =
    let lacks = split_parts 44 c.loop-element.rest.now None c.in_default.ensures.cases (omega arith) in
    let (done, before, count, values) = c.loop-element.invariant.2 in
    let last = c.loop-element.rest.now in (
      done,
      [],
      before ∙ ap (λ l. done ++ l) (elements_one last lacks),
      count,
      values,
      MatchBool-at_false (IsAnyArgument last) (IsNoArgument last) c.if-branch.false c.in_ok-is_argument-2.ensures,
    )

-- each element is a value
pub returns-then-branch : goal.returns-then-branch
returns-then-branch c =
    let lacks = split_parts 44 c.loop-element.rest.now None c.in_default.ensures.cases (omega arith) in
    let (done, before, count, values) = c.loop-element.invariant.2 in
    let last = c.loop-element.rest.now in
    subst (All IsAnyArgument) (sym (before ∙ ap (λ l. done ++ l) (elements_one last lacks)))
    (All-push IsAnyArgument done last values (MatchBool-at_true (IsAnyArgument last) (IsNoArgument last) c.if-branch.true c.in_ok-is_argument-2.ensures))

use Rattle.std.proofs.Common.{◌≡◌, ◌++◌, [], List, Option, sym, ap, ◌∙◌}
use Rattle.std.specs.List.{cons_option}
use Rattle.std.proofs.lemmas.List.{append-nil}
use Rattle.aml_operators.specs.Tree.{view}
use Rattle.aml_own_names.specs.declared.own_names.OwnName.{OwnName}
use Rattle.aml_own_names.specs.OwnNames.{own_made}
use Rattle.aml_own_names.proofs.OwnFirsts.{own_names-push}
use Rattle.aml_own_names.proofs.own_names.own_names.Goals.{in-Some+in_ok-push, in_default}
use Rattle.aml_own_names.proofs.own_names.own_names.Goals as goal

pub loop-term-preserved : goal.loop-term-preserved
loop-term-preserved c =
    let bytes = c.args.bytes.now in
    let t = c.term-item.result in
    let before = c.loop-term.owns.items in
    let on = own_names-push bytes c.args.body.now c.loop-term.term-index t c.loop-term-test.true (sym c.term-item.is) in
    let with : Option OwnName → List OwnName = λ made. before ++ cons_option made [] in
    let step : c.match-own_made.owns.items ≡ with (own_made bytes (view t)) = elim c.match-own_made.branch [
      | in-Some+in_ok-push w ↦ ap (λ v. v.items) w.owns-is ∙ w.in_ok-push.ensures.items ∙ ap with w.in-Some.ensures
      | in_default w ↦ ap (λ v. v.items) w.owns-is ∙ sym (append-nil before) ∙ ap with w.in_default.ensures
    ] in
    step ∙ ap (λ (os : List OwnName). os ++ cons_option (own_made bytes (view t)) []) c.loop-term.invariant ∙ sym on

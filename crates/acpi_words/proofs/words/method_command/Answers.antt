use Rattle.std.proofs.Common.{◌||◌, true, ap, ap₂, ◌∙◌}
use Rattle.std.proofs.lemmas.Result.{IfOk-weaker}
use Rattle.clap.specs.Words.{Rule, rule_of, with_rule}
use Rattle.clap.specs.declared.builder.arg.Arg.{Arg}
use Rattle.acpi_words.proofs.words.method_command.Goals as goal

pub returns-clause-app : goal.returns-clause-app
returns-clause-app c =
    let local = ap (λ (a : Arg). a.global) c.required.ensures ∙ c.option_arg.ensures.local in
    let rule = ap rule_of c.required.ensures ∙ ap (λ (r : Rule). record r { required = true }) c.option_arg.ensures.rule in
    let first = c.in_ok-arg.ensures.shape local ∙ ap₂ with_rule c.new.ensures.app rule in
    let second = c.in_ok-arg-2.ensures.shape c.option_arg-2.ensures.local ∙ ap₂ with_rule first c.option_arg-2.ensures.rule in
    let third = c.in_ok-arg-3.ensures.shape c.option_arg-3.ensures.local ∙ ap₂ with_rule second c.option_arg-3.ensures.rule in
    IfOk-weaker c.arg-4.result _ _ (λ m added. added.shape c.steps_arg.ensures.local ∙ ap₂ with_rule third c.steps_arg.ensures.rule) c.arg-4.ensures

pub returns-clause-local : goal.returns-clause-local
returns-clause-local c =
    let local = ap (λ (a : Arg). a.global) c.required.ensures ∙ c.option_arg.ensures.local in
    let first = c.in_ok-arg.ensures.globals ∙ ap₂ (λ a b. a || b) c.new.ensures.local local in
    let second = c.in_ok-arg-2.ensures.globals ∙ ap₂ (λ a b. a || b) first c.option_arg-2.ensures.local in
    let third = c.in_ok-arg-3.ensures.globals ∙ ap₂ (λ a b. a || b) second c.option_arg-3.ensures.local in
    IfOk-weaker c.arg-4.result _ _ (λ m added. added.globals ∙ ap₂ (λ a b. a || b) third c.steps_arg.ensures.local) c.arg-4.ensures

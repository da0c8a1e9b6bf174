use Rattle.std.proofs.Common.{◌||◌, ap₂, ◌∙◌}
use Rattle.std.proofs.lemmas.Result.{IfOk-weaker}
use Rattle.clap.specs.Words.{with_rule}
use Rattle.acpi_words.proofs.words.eval_command.Goals as goal

pub returns-clause-app : goal.returns-clause-app
returns-clause-app c =
    let first = c.in_ok-arg.ensures.shape c.option_arg.ensures.local ∙ ap₂ with_rule c.in_ok-method_command.ensures.app c.option_arg.ensures.rule in
    let second = c.in_ok-arg-2.ensures.shape c.option_arg-2.ensures.local ∙ ap₂ with_rule first c.option_arg-2.ensures.rule in
    let third = c.in_ok-arg-3.ensures.shape c.flag_arg.ensures.local ∙ ap₂ with_rule second c.flag_arg.ensures.rule in
    IfOk-weaker c.arg-4.result _ _ (λ m added. added.shape c.files_arg.ensures.local ∙ ap₂ with_rule third c.files_arg.ensures.rule) c.arg-4.ensures

pub returns-clause-local : goal.returns-clause-local
returns-clause-local c =
    let first = c.in_ok-arg.ensures.globals ∙ ap₂ (λ a b. a || b) c.in_ok-method_command.ensures.local c.option_arg.ensures.local in
    let second = c.in_ok-arg-2.ensures.globals ∙ ap₂ (λ a b. a || b) first c.option_arg-2.ensures.local in
    let third = c.in_ok-arg-3.ensures.globals ∙ ap₂ (λ a b. a || b) second c.flag_arg.ensures.local in
    IfOk-weaker c.arg-4.result _ _ (λ m added. added.globals ∙ ap₂ (λ a b. a || b) third c.files_arg.ensures.local) c.arg-4.ensures

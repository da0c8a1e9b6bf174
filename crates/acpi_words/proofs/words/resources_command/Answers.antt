use Rattle.std.proofs.Common.{◌||◌, ap₂, ◌∙◌}
use Rattle.std.proofs.lemmas.Result.{IfOk-weaker}
use Rattle.clap.specs.Words.{with_rule}
use Rattle.acpi_words.proofs.words.resources_command.Goals as goal

pub returns-clause-app : goal.returns-clause-app
returns-clause-app c =
    let first = c.in_ok-arg.ensures.shape c.flag_arg.ensures.local ∙ ap₂ with_rule c.in_ok-object_command.ensures.app c.flag_arg.ensures.rule in
    IfOk-weaker c.arg-2.result _ _ (λ m added. added.shape c.files_arg.ensures.local ∙ ap₂ with_rule first c.files_arg.ensures.rule) c.arg-2.ensures

pub returns-clause-local : goal.returns-clause-local
returns-clause-local c =
    let first = c.in_ok-arg.ensures.globals ∙ ap₂ (λ a b. a || b) c.in_ok-object_command.ensures.local c.flag_arg.ensures.local in
    IfOk-weaker c.arg-2.result _ _ (λ m added. added.globals ∙ ap₂ (λ a b. a || b) first c.files_arg.ensures.local) c.arg-2.ensures

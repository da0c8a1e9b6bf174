use Rattle.std.proofs.Common.{ap₂, ◌∙◌}
use Rattle.std.proofs.lemmas.Result.{IfOk-weaker}
use Rattle.clap.specs.Words.{with_rule}
use Rattle.acpi_words.proofs.words.files_command.Goals as goal

pub returns-clause-app : goal.returns-clause-app
returns-clause-app c =
    IfOk-weaker c.arg.result _ _ (λ m added. added.shape c.files_arg.ensures.local ∙ ap₂ with_rule c.new.ensures.app c.files_arg.ensures.rule) c.arg.ensures

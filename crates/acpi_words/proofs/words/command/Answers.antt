use Rattle.std.proofs.Common.{ap, ap₂, ◌∙◌}
use Rattle.std.proofs.lemmas.Result.{IfOk-weaker}
use Rattle.clap.specs.Words.{App, with_subcommand}
use Rattle.acpi_words.proofs.words.command.Goals as goal

pub returns : goal.returns
returns c =
    let top = λ (a : App). a.top in
    let first = c.in_ok-subcommand.ensures.shape c.in_ok-files_command.ensures.local ∙ ap₂ with_subcommand c.program.ensures (ap top c.in_ok-files_command.ensures.app) in
    let second = c.in_ok-subcommand-2.ensures.shape c.in_ok-names_command.ensures.local ∙ ap₂ with_subcommand first (ap top c.in_ok-names_command.ensures.app) in
    let third = c.in_ok-subcommand-3.ensures.shape c.in_ok-verify_command.ensures.local ∙ ap₂ with_subcommand second (ap top c.in_ok-verify_command.ensures.app) in
    let fourth = c.in_ok-subcommand-4.ensures.shape c.in_ok-eval_command.ensures.local ∙ ap₂ with_subcommand third (ap top c.in_ok-eval_command.ensures.app) in
    let fifth = c.in_ok-subcommand-5.ensures.shape c.in_ok-resources_command.ensures.local ∙ ap₂ with_subcommand fourth (ap top c.in_ok-resources_command.ensures.app) in
    IfOk-weaker c.subcommand-6.result _ _
    (λ m added. added.shape c.in_ok-routing_command.ensures.local ∙ ap₂ with_subcommand fifth (ap top c.in_ok-routing_command.ensures.app)) c.subcommand-6.ensures

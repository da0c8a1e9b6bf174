use Rattle.std.proofs.Common.{arith}
use Rattle.std.proofs.lemmas.Grind.{common_steps}
use Rattle.acpi_listing.proofs.ByWords.{either_by_words}
use Rattle.acpi_listing.proofs.command_line.run_either.Goals as goal

pub returns : goal.returns
returns g c =
    either_by_words g.F.Source.answers _ _ c.args.words c.in-Ok.words c.as_slice.result.now _ _ _ _ c.in-Ok.is c.as_slice.ensures.value
    (λ none. let empty = c.if-is_empty in grind (arith, common_steps)) c.run_words_noted.ensures

use Rattle.std.proofs.Common.{Bor, List, ℕ, inl, inr, map, subst, vec_items}
use Rattle.acpi_listing.specs.Commands.{Reports, RunsWords}
use Rattle.acpi_sources.specs.Input.{hex_answers}
use Rattle.acpi_listing.proofs.program.run_noted.Goals as goal

pub returns-in-Ok-read_first_line : goal.returns-in-Ok-read_first_line
returns-in-Ok-read_first_line g c =
    let now = λ (word : Bor (List ℕ)). word.now in
    let start = c.in-Ok-read_first_line in
    let held = g.W.Write.contents c.args.out.now in
    let holds = g.W.Write.contents c.run_words_noted.new.out in
    inr (
      c.in-Ok.input,
      c.in-Ok.ensures,
      inl (
        map now (vec_items start.words),
        start.files,
        c.run_words_noted.new.files,
        start.ensures,
        subst (λ lent. RunsWords hex_answers (map now lent) start.files c.run_words_noted.new.files held holds c.run_words_noted.result)
            c.as_slice.ensures.value c.run_words_noted.ensures,
      ),
    )

pub returns : goal.returns
returns g c = inr (c.in-Ok.input, c.in-Ok.ensures, inr (c.in-Err.fault, c.in-Err.ensures, c.report-in-Err.ensures))

pub returns-in_default : goal.returns-in_default
returns-in_default g c =
    let held = g.W.Write.contents c.args.out.now in
    let holds = g.W.Write.contents c.report.new.out in
    inl (subst (λ f. Reports f held holds c.report.result) c.nowhere.ensures c.report.ensures)

use Rattle.std.proofs.Common.{◌≡◌, Some, None, false, ap, ◌∙◌, sym, codes}
use Rattle.std.specs.Option.{option_map_or}
use Rattle.std.specs.Str.{bytes_eq}
use Rattle.clap.specs.Words.{first_of, found_of, rows_of}
use Rattle.clap.proofs.WalkLemmas.{first_value-rows}
use Rattle.acpi_words.proofs.words.has_flag.Goals as goal

pub returns-in-Some : goal.returns-in-Some
returns-in-Some c =
    let found = found_of c.args.found.now in
    let row : first_of c.args.name.now (rows_of found) ≡ Some c.in-Some.text.now = sym (first_value-rows found c.args.name.now) ∙ sym c.in-Some.ensures in
    c.eq.ensures ∙ sym (ap (λ o. option_map_or (λ text. bytes_eq text (codes "true")) o false) row)

pub returns-in-None : goal.returns-in-None
returns-in-None c =
    let found = found_of c.args.found.now in
    let row : first_of c.args.name.now (rows_of found) ≡ None = sym (first_value-rows found c.args.name.now) ∙ sym c.in-None.ensures in
    sym (ap (λ o. option_map_or (λ text. bytes_eq text (codes "true")) o false) row)

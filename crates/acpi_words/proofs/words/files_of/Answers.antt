use Rattle.std.proofs.Common.{Some, ap, ◌∙◌, sym, inr, map, codes}
use Rattle.clap.specs.Words.{found_of}
use Rattle.clap.proofs.WalkLemmas.{raw_values-rows}
use Rattle.acpi_words.proofs.words.files_of.Goals as goal

pub returns-in_ok-from_slice-in-Some : goal.returns-in_ok-from_slice-in-Some
returns-in_ok-from_slice-in-Some c =
    sym (raw_values-rows (found_of c.args.found.now) (codes "files")) ∙ sym c.in-Some.ensures ∙ ap (λ files. Some (map (λ name. name.now) files)) (sym c.in_ok-from_slice-in-Some.ensures.items)

pub returns-in-None : goal.returns-in-None
returns-in-None c = inr (c.nowhere.ensures, sym (raw_values-rows (found_of c.args.found.now) (codes "files")) ∙ sym c.in-None.ensures)

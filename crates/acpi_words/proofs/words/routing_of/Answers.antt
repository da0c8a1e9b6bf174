use Rattle.std.proofs.Common.{◌∙◌, sym, codes}
use Rattle.clap.specs.Words.{found_of}
use Rattle.clap.proofs.WalkLemmas.{first_value-rows}
use Rattle.acpi_words.proofs.words.routing_of.Goals as goal

pub returns : goal.returns
returns c =
    let found = found_of c.args.found.now in
    (c.in_ok-object_of.ensures, sym (first_value-rows found (codes "madt")) ∙ sym c.get_str.ensures)

use Rattle.std.proofs.Common.{◌∙◌, ap, map, subst}
use Rattle.clap.specs.Words.{HasKind, fault_of, is_simple_and_free}
use Rattle.acpi_words.proofs.Asked.{takes_simple_words}
use Rattle.acpi_words.proofs.words.words_error.Goals as goal

pub returns : goal.returns
returns g c =
    let words = map g.S.AsStr.text c.args.words.now in
    let is = c.in-Ok.ensures in
    subst (λ a. HasKind (fault_of a words) c.in-Err.error) is (c.in-Err.ensures.kinds (ap is_simple_and_free is ∙ takes_simple_words))

use Rattle.std.proofs.Common.{◌∷◌, Some, None, arith}
use Rattle.std.proofs.lemmas.Str.Pattern.{strip_prefix_char}
use Rattle.acpi_words.proofs.Elements.{two_prefixes}
use Rattle.acpi_words.proofs.arguments.hex_digits.Goals as goal

pub returns-in-None : goal.returns-in-None
returns-in-None c = λ digits e. strip_prefix_char 48 c.args.element.now None c.in-None.ensures.cases (omega arith) (120 ∷ digits) e

pub returns-in-Some : goal.returns-in-Some
returns-in-Some c =
    two_prefixes c.args.element.now c.in-Some.rest.now c.strip_prefix-in-Some.result
    (strip_prefix_char 48 c.args.element.now (Some c.in-Some.rest) c.in-Some.ensures.cases (omega arith))
    (strip_prefix_char 120 c.in-Some.rest.now c.strip_prefix-in-Some.result c.strip_prefix-in-Some.ensures.cases (omega arith))

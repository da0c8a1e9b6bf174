use Rattle.aml_regions.proofs.Parts.{digits_utf8}
use Rattle.aml_regions.proofs.text.read_address.Goals as goal

pub returns-in_default : goal.returns-in_default
returns-in_default c = λ small numeral. c.in_default.ensures.cases.0 (digits_utf8 c.args.word.now numeral.1)

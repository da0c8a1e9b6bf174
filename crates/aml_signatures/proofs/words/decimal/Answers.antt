use Rattle.aml_signatures.proofs.Digits.{digits_utf8}
use Rattle.aml_signatures.proofs.words.decimal.Goals as goal

pub returns-in_default : goal.returns-in_default
returns-in_default c = λ n (small, numeral, is). c.in_default.ensures.cases.0 (digits_utf8 c.args.digits.now numeral.1)

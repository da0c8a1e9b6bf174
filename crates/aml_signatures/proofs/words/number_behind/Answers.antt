use Rattle.std.proofs.Common.{None, Some}
use Rattle.std.proofs.lemmas.Bool.Decides.{Decides-eqb}
use Rattle.std.proofs.lemmas.Slice.Eq.{strip_prefix_is}
use Rattle.aml_signatures.proofs.Digits.{behind}
use Rattle.aml_signatures.proofs.words.number_behind.Goals as goal

pub returns-in-None : goal.returns-in-None
returns-in-None c = λ n (digits, is, decimal). strip_prefix_is Decides-eqb c.args.word.now c.args.beginning.now None c.in-None.ensures.cases digits is

pub returns-in-Some : goal.returns-in-Some
returns-in-Some c =
    behind c.args.beginning.now c.args.word.now c.in-Some.digits.now c.decimal.result
    (strip_prefix_is Decides-eqb c.args.word.now c.args.beginning.now (Some c.in-Some.digits) c.in-Some.ensures.cases) c.decimal.ensures

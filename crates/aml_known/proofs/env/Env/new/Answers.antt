use Rattle.std.proofs.Common.{ap}
use Rattle.aml_known.proofs.Entered.{entered, seven}
use Rattle.aml_known.proofs.env.Env.new.Goals as goal

pub returns : goal.returns
returns c = λ shapes lists.
    rw (c.given.ensures, c.given-2.ensures, c.given-3.ensures, c.given-4.ensures, c.given-5.ensures, c.given-6.ensures, c.given-7.ensures) (ap entered (seven shapes c.args.args.now))

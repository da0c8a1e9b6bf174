use Rattle.aml_integers.proofs.Alike as laws
use Rattle.aml_integers.proofs.laws.calls_decide.Goals as goal

pub returns : goal.returns
returns c = laws.calls_decide

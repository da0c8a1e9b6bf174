use Rattle.aml_interp.proofs.Accepted.{ready}
use Rattle.aml_interp.proofs.evaluation.evaluate.Goals as goal

pub evaluate_ready-requires-clause-ready : goal.evaluate_ready-requires-clause-ready
evaluate_ready-requires-clause-ready g c = ready c.requires.checked.told c.args.checked.now c.requires.checked.checked

use Rattle.aml_meaning.proofs.InOrder.{calls_keep_the_frame}
use Rattle.aml_meaning.proofs.law.calls_keep_the_frame.Goals as goal

pub returns : goal.returns
returns c = calls_keep_the_frame

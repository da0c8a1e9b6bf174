use Rattle.aml_steady.proofs.Unwatched.{methods_go_unwatched}
use Rattle.aml_steady.proofs.methods_go_unwatched.Goals as goal

pub returns : goal.returns
returns c = methods_go_unwatched

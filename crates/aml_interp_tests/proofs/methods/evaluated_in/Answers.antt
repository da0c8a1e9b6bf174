use Rattle.aml_interp_tests.proofs.methods.evaluated_in.Goals as goal
use Rattle.aml_signatures.specs.Signed.{kinds_told}

pub evaluated_by-requires : goal.evaluated_by-requires
evaluated_by-requires g c = record { told = kinds_told c.new-signatures.result; checked = c.in-Ok.ensures.checked }

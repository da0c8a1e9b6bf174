use Rattle.aml_interp_tests.proofs.others.is_counted_in.Goals as goal
use Rattle.aml_signatures.specs.Signed.{kinds_told}

pub is_counted_by-requires : goal.is_counted_by-requires
is_counted_by-requires g c = record { told = kinds_told c.new-signatures.result; checked = c.in-Ok.ensures.checked }

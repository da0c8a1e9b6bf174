use Rattle.aml_kinds.proofs.Widens.{widens}
use Rattle.aml_kinds.proofs.law.fits_what_it_lies_within.Goals as goal

pub returns : goal.returns
returns c = widens

use Rattle.aml_own_names.proofs.OwnsRead.{owns_read}
use Rattle.aml_own_names.proofs.law.own_names_are_the_grammars.Goals as goal

pub returns : goal.returns
returns c = owns_read

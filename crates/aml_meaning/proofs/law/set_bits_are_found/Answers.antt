use Rattle.aml_meaning.proofs.Bits.{left_is_highest, right_is_lowest, zero_has_none}
use Rattle.aml_meaning.proofs.law.set_bits_are_found.Goals as goal

pub returns-clause-left : goal.returns-clause-left
returns-clause-left c = left_is_highest

pub returns-clause-right : goal.returns-clause-right
returns-clause-right c = right_is_lowest

pub returns-clause-zero : goal.returns-clause-zero
returns-clause-zero c = zero_has_none

use Rattle.std.proofs.Common.{refl}
use Rattle.aml_regions.specs.Bits.{number}
use Rattle.aml_fields.proofs.gather.U64Gathers.clear.Goals as goal

pub returns-clause-none : goal.returns-clause-none
unfolding number
returns-clause-none c = λ bit. refl

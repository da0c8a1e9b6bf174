use Rattle.std.proofs.Common.{arith}
use Rattle.aml_literal_laws.proofs.Bytes.{each_is_a_byte}
use Rattle.aml_literal_laws.proofs.are_bytes.Goals as goal

pub returns : goal.returns
returns c = each_is_a_byte c.args.bytes.now (λ i. omega (arith, c.type_inv.bytes i))

use Rattle.std.proofs.Common.{sym}
use Rattle.std.proofs.lemmas.Nat.Bits.{bit_at-lt}
use Rattle.aml_fields.proofs.Numbers.{number-lt, number_past}
use Rattle.aml_fields.proofs.source.part_of.Goals as goal

pub returns-then-from-lt64-clause-fits : goal.returns-then-from-lt64-clause-fits
returns-then-from-lt64-clause-fits c = rw c.run.ensures (number-lt c.args.k _ (λ i. bit_at-lt _ _))

pub returns-else-from-lt64-clause-is : goal.returns-else-from-lt64-clause-is
returns-else-from-lt64-clause-is c = sym (number_past c.args.k c.args.value c.args.from c.ranges.value.fits c.if-from-lt64.false)

use Rattle.std.proofs.Common.{length}
use Rattle.aml_rules.proofs.conversions.+bytes_integer.Given as goal

abbrev pub decreases-bytes_integer : goal.decreases-bytes_integer
decreases-bytes_integer l = length l.bytes.now

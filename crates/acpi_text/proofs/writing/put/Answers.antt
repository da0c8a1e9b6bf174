use Rattle.std.proofs.Common.{arith}
use Rattle.std.proofs.lemmas.Grind.{common_steps}
use Rattle.acpi_text.proofs.Listing.{took}
use Rattle.acpi_text.proofs.writing.put.Goals as goal

pub loop-rest-preserved : goal.loop-rest-preserved
loop-rest-preserved g c = took _ _ c.loop-rest.invariant c.in-Ok.ensures.bytes (grind (arith, common_steps))

use Rattle.acpi_resources.proofs.Spelled.{refusals_first}
use Rattle.acpi_resources.proofs.law.refusals_are_first.Goals as goal

pub returns : goal.returns
returns c = refusals_first

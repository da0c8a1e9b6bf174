use Rattle.acpi_resources.proofs.Spelled.{items_spelled}
use Rattle.acpi_resources.proofs.law.items_are_spelled.Goals as goal

pub returns : goal.returns
returns c = items_spelled

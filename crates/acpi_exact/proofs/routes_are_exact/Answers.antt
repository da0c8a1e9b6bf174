use Rattle.acpi_exact.proofs.Givens.{routes_are_exact}
use Rattle.acpi_exact.proofs.routes_are_exact.Goals as goal

pub returns : goal.returns
returns c = routes_are_exact

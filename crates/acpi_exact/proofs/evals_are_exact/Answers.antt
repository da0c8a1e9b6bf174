use Rattle.acpi_exact.proofs.Evals.{evals_are_exact}
use Rattle.acpi_exact.proofs.evals_are_exact.Goals as goal

pub returns : goal.returns
returns c = evals_are_exact

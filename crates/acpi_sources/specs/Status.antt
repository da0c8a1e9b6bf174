-- How a command ends.
use Rattle.std.specs.Prelude.{ℕ}
use Rattle.acpi_sources.specs.declared.status.Status.{Status}
use Rattle.acpi_sources.specs.declared.status.Status.TheVariants as exit

-- the number of a status
abbrev pub status_code : Status → ℕ
status_code exit.Done = 0
status_code exit.Fault = 1
status_code exit.NoCommand = 2
status_code exit.Refused = 3

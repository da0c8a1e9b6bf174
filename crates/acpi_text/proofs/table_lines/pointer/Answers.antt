use Rattle.std.proofs.Common.{rules}
use Rattle.acpi_text.specs.Tables.{pointer_line}
use Rattle.acpi_text.proofs.table_lines.pointer.Goals as goal

pub returns-in-None : goal.returns-in-None
unfolding pointer_line
returns-in-None c = rw c.in-None.is (search rules)

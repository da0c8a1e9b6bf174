use Rattle.std.proofs.Common.{◌≡◌, take, string_bytes}
use Rattle.acpi_text.specs.Text.{escaped}
use Rattle.acpi_text.proofs.escaped.escaped_text.Given as goal

abbrev pub invariant-loop-b : goal.invariant-loop-b
invariant-loop-b l = string_bytes l.text ≡ escaped (take l.b-index l.bytes)

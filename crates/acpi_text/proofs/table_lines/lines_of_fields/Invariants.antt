use Rattle.std.proofs.Common.{◌≡◌, take, string_bytes}
use Rattle.std.specs.List.{flat_map}
use Rattle.acpi_text.specs.Tables.{field_line}
use Rattle.acpi_text.proofs.table_lines.lines_of_fields.Given as goal

abbrev pub invariant-loop-name : goal.invariant-loop-name
invariant-loop-name l = string_bytes l.lines ≡ flat_map (λ field. field_line field.0.now (string_bytes field.1)) (take l.name-index l.fields)

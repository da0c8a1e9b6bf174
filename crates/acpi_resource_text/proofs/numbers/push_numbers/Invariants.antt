use Rattle.std.proofs.Common.{◌≡◌, ◌++◌, take, string_bytes}
use Rattle.std.specs.List.{flat_map}
use Rattle.acpi_resource_text.specs.Lines.{behind_comma}
use Rattle.acpi_resource_text.proofs.numbers.push_numbers.Given as goal

-- the numbers before were added
abbrev pub invariant-loop-number : goal.invariant-loop-number
invariant-loop-number l =
    string_bytes l.text ≡ string_bytes l.initial.text ++ flat_map behind_comma (take l.number-index l.numbers)

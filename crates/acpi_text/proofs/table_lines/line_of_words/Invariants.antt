use Rattle.std.proofs.Common.{◌≡◌, take, string_bytes}
use Rattle.std.specs.Prelude.{◌++◌}
use Rattle.std.specs.List.{flat_map}
use Rattle.acpi_text.proofs.table_lines.line_of_words.Given as goal

abbrev pub invariant-loop-lead : goal.invariant-loop-lead
invariant-loop-lead l = string_bytes l.line ≡ flat_map (λ word. word.0.now ++ string_bytes word.1) (take l.lead-index l.words)

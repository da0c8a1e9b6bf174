use Rattle.std.proofs.Common.{◌≡◌, ◌++◌, length}
use Rattle.std.specs.Prelude.{string_bytes}
use denote.Text.{Utf8}
use denote.Shadow.{shadow}
use Rattle.acpi_notes.specs.Near.{printed_segments}
use Rattle.acpi_notes.proofs.near.push_segments.Given as goal

-- what is written and what is left make the whole
abbrev pub invariant-loop-segment : goal.invariant-loop-segment
invariant-loop-segment l =
    shadow (Utf8 l.rest) × (string_bytes l.path ++ printed_segments l.rest ≡ string_bytes l.initial.path ++ printed_segments l.fn.text)

abbrev pub decreases-loop-segment : goal.decreases-loop-segment
decreases-loop-segment l = length l.rest

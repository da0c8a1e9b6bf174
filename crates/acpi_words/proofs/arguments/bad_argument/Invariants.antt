use Rattle.std.proofs.Common.{◌≡◌, ◌+◌, ◌≤◌, ℕ, List, ◌++◌, length}
use Rattle.std.specs.Prelude.{All}
use denote.Text.{Utf8}
use denote.Shadow.{shadow}
use Rattle.acpi_words.specs.Arguments.{IsAnyArgument, elements}
use Rattle.acpi_words.proofs.arguments.bad_argument.Given as goal

-- each element before the rest is a value
abbrev pub invariant-loop-element : goal.invariant-loop-element
invariant-loop-element l =
    shadow (Utf8 l.rest) × (l.number + length l.rest ≤ length l.fn.text)
    × ((done : List (List ℕ)) × (elements l.fn.text ≡ done ++ elements l.rest) × (length done ≡ l.number) × All IsAnyArgument done)

abbrev pub decreases-loop-element : goal.decreases-loop-element
decreases-loop-element l = length l.rest

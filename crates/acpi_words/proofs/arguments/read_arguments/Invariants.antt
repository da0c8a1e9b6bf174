use Rattle.std.proofs.Common.{◌≡◌, ℕ, List, ◌++◌, length, map, vec_items}
use denote.Text.{Utf8}
use denote.Shadow.{shadow}
use Rattle.aml_values.specs.Views.{view}
use Rattle.acpi_words.specs.Arguments.{elements, AreArguments}
use Rattle.acpi_words.proofs.arguments.read_arguments.Given as goal

-- the elements before the rest are the values so far
abbrev pub invariant-loop-element : goal.invariant-loop-element
invariant-loop-element l =
    shadow (Utf8 l.rest)
    × ((done : List (List ℕ)) × (elements l.fn.text ≡ done ++ elements l.rest) × AreArguments done (map view (vec_items l.arguments)))

abbrev pub decreases-loop-element : goal.decreases-loop-element
decreases-loop-element l = length l.rest

-- What people are told of bytes that are no list of resource descriptors.
use Rattle.std.specs.Prelude.{ℕ, List, [], ◌∷◌, codes, decimal}
use Rattle.acpi_text.specs.Text.{joined}
use Rattle.acpi_resources.specs.declared.fault.ResourceCause.{ResourceCause}
use Rattle.acpi_resources.specs.declared.fault.ResourceCause.TheVariants.{Truncated, BadItem, NoEnd}
use Rattle.acpi_resources.specs.declared.fault.ResourceRefusal.{ResourceRefusal}

-- what is wrong at a byte
abbrev pub found_text : ResourceCause → List ℕ
found_text Truncated = codes "begins a descriptor that goes beyond them"
found_text BadItem =
    codes "begins a descriptor of a length that it cannot have, or that holds fewer interrupts than it lists"
found_text NoEnd = codes "they end without an end tag"

-- the object that gives so many bytes, the place in them, and what is wrong there
unfoldable pub buffer_note : List ℕ → ℕ → ℕ → List ℕ → List ℕ
buffer_note path length at found =
    joined (path ∷ codes " gives a buffer of " ∷ decimal length ∷ codes " bytes: at byte "
    ∷ decimal at ∷ codes " " ∷ found ∷ [])

abbrev pub refusal_note : List ℕ → ℕ → ResourceRefusal → List ℕ
refusal_note path length refusal = buffer_note path length refusal.at (found_text refusal.cause)

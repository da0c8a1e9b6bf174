-- A law of the definitions: what structures are, and which are found.
use Rattle.std.specs.Prelude.{◌≡◌, ◌↔◌, ℕ, List, length}
use Rattle.std.specs.List.{sum_by}
use Rattle.acpi_tables.specs.Structure.{AreStructures, structures}

-- these are the structures that the bytes are made of just where they are found one after the other
-- from the front on, and are as long together as the bytes
abbrev pub StructuresAreFound : Type 0
StructuresAreFound =
    (ss : List (List ℕ)) (bytes : List ℕ) →
    AreStructures ss bytes ↔ ((structures bytes ≡ ss) × (sum_by length ss ≡ length bytes))

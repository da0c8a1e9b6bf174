-- What holds of lists of items: they are just what their bytes spell.
use Rattle.std.specs.Prelude.{◌≡◌, ◌↔◌, ◌≤◌, ℕ, List, Ok, Err, length}
use Rattle.acpi_resources.specs.Items.{items_of}
use Rattle.acpi_resources.specs.Spelling.{AreRefused, Begin}
use Rattle.acpi_resources.specs.declared.fault.ResourceRefusal.{ResourceRefusal}
use Rattle.acpi_resources.specs.declared.item.Item.{Item}

-- these are the items that are read just where their spellings, up to the first end tag, begin the
-- bytes
abbrev pub ItemsAreSpelled : Type 0
ItemsAreSpelled =
    (items : List Item) (bytes : List ℕ) → (items_of bytes ≡ Ok items) ↔ Begin items bytes

-- and this is the refusal just where it is the first: the bytes before its place spell items, and
-- go on with what it tells
abbrev pub RefusalsAreFirst : Type 0
RefusalsAreFirst =
    (refused : ResourceRefusal) (bytes : List ℕ) →
    (items_of bytes ≡ Err refused) ↔ ((before : List Item) × AreRefused before refused 0 bytes)

-- whose place is no greater than the number of bytes
abbrev pub RefusalsAreWithin : Type 0
RefusalsAreWithin = (refused : ResourceRefusal) (bytes : List ℕ) → items_of bytes ≡ Err refused →
    refused.at ≤ length bytes

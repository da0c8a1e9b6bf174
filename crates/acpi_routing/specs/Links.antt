-- The resource descriptors of link devices, one after the other.
use Rattle.std.specs.Prelude.{◌≡◌, ◌⊎◌, ◌++◌, List, [], ◌∷◌, Option, Some, None, Result, Ok, Err}
use Rattle.acpi_resources.specs.Interrupts.{Links}
use Rattle.acpi_resources.specs.declared.item.Item.{Item}
use Rattle.acpi_routing.specs.Crs.{HasItems}
use Rattle.acpi_routing.specs.declared.fault.LinkRefusal.{LinkRefusal}
use Rattle.aml_meaning.specs.State.{Names}
use Rattle.aml_paths.specs.declared.scope.ObjectId.{ObjectId}
use Rattle.aml_regions.specs.Events.{Log}
use Rattle.aml_verify.specs.declared.checked.Checked.{Checked}

-- a device with its items, where it has some
abbrev pub link_with : ObjectId → Option (List Item) → Links
link_with device (Some items) = (device, items) ∷ []
link_with device None = []

-- what a device has, in front of what the others have
abbrev pub leads : Links → Result Links LinkRefusal → Result Links LinkRefusal
leads first (Ok links) = Ok (first ++ links)
leads first (Err refusal) = Err refusal

-- the items of devices: of each in its turn, from what the one before it left; the first whose
-- bytes are no items ends it
abbrev pub HaveItems : Checked → List ObjectId → Result Links LinkRefusal → Names → Log →
    Names → Log → Type 0
HaveItems c [] r names log names_left log_left =
    (r ≡ Ok []) × (names_left ≡ names) × (log_left ≡ log)
HaveItems c (device ∷ devices) r names log names_left log_left =
    ((found : Option (List Item)) × (mid : Names) × (mid_log : Log) ×
    (rest : Result Links LinkRefusal)
    × HasItems c device (Ok found) names log mid mid_log
    × HaveItems c devices rest mid mid_log names_left log_left ×
    (r ≡ leads (link_with device found) rest))
    ⊎ ((refusal : LinkRefusal) × HasItems c device (Err refusal) names log names_left log_left ×
    (r ≡ Err refusal))

-- What an object gives whose value is taken as a _PRT, and the items of the links that it names.
use Rattle.std.specs.Prelude.{ℕ, List, [], Result, Ok, Err}
use Rattle.acpi_objects.specs.Gives.{GivesBy}
use Rattle.acpi_objects.specs.declared.given.Given.{Given}
use Rattle.acpi_objects.specs.declared.given.Given.TheVariants as given
use Rattle.acpi_resources.specs.Interrupts.{Links, crs_of_links}
use Rattle.acpi_routing.specs.Devices.{devices_in}
use Rattle.acpi_routing.specs.Links.{HaveItems}
use Rattle.acpi_routing.specs.declared.fault.LinkRefusal.{LinkRefusal}
use Rattle.acpi_routing.specs.declared.prt.Prt.{Prt}
use Rattle.acpi_verdicts.specs.Verdicts.{said_of}
use Rattle.aml_meaning.specs.State.{Names}
use Rattle.aml_paths.specs.declared.scope.ObjectId.{ObjectId}
use Rattle.aml_regions.specs.Events.{Log}
use Rattle.aml_values.specs.Views.{view}
use Rattle.aml_verify.specs.declared.checked.Checked.{Checked}

-- the devices that what an object gave names
abbrev pub devices_given : Given → List ObjectId
devices_given (given.Value prt) = devices_in (view prt)
devices_given g = []

-- an object gives something, and behind that the links that it names have these items, or one of
-- them is refused
abbrev pub GivesWith : Checked → ℕ → Given → Result Links LinkRefusal → Names → Log → Names →
    Log → Type 0
GivesWith c k g links names log names_left log_left =
    (mid : Names) × (mid_log : Log) × GivesBy c k (said_of c k) g names log mid mid_log
    × HaveItems c (devices_given g) links mid mid_log names_left log_left

-- the same by what comes of it: what the object gave with these items, or a link that is refused
abbrev pub GivesPrt : Checked → ℕ → Result Prt LinkRefusal → Names → Log → Names →
    Log → Type 0
GivesPrt c k (Ok prt) names log names_left log_left =
    GivesWith c k prt.given (Ok (crs_of_links prt.links.items)) names log names_left log_left
GivesPrt c k (Err refusal) names log names_left log_left =
    (g : Given) × GivesWith c k g (Err refusal) names log names_left log_left

-- The resource descriptors of a link device (ACPI 6.5, 6.2.2).
use Rattle.std.specs.Prelude.{◌≡◌, ◌++◌, ℕ, List, Option, Some, None, Result, Ok, Err, codes, if◌then◌else◌}
use Rattle.std.specs.Option.{option_and_then}
use Rattle.acpi_objects.specs.Gives.{GivesBy, gives_value}
use Rattle.acpi_objects.specs.declared.given.Given.{Given}
use Rattle.acpi_objects.specs.declared.given.Given.TheVariants as given
use Rattle.acpi_resources.specs.Items.{items_of}
use Rattle.acpi_resources.specs.declared.fault.ResourceRefusal.{ResourceRefusal}
use Rattle.acpi_resources.specs.declared.item.Item.{Item}
use Rattle.acpi_routing.specs.Faults.{link_refusal}
use Rattle.acpi_routing.specs.declared.fault.LinkRefusal.{LinkRefusal}
use Rattle.acpi_verdicts.specs.Verdicts.{said_of}
use Rattle.aml_meaning.specs.State.{Names}
use Rattle.aml_objects.specs.Entries.{object_at}
use Rattle.aml_namespace.specs.Load.{Shown}
use Rattle.aml_namespace.specs.PrintedObjects.{printed_object}
use Rattle.aml_namespace.specs.Shows.{shown}
use Rattle.aml_path_text.specs.Paths.{path_of}
use Rattle.aml_paths.specs.Printed.{path_text}
use Rattle.aml_paths.specs.declared.scope.ObjectId.{ObjectId}
use Rattle.aml_regions.specs.Events.{Log}
use Rattle.aml_values.specs.Values.{Buf, Value}
use Rattle.aml_values.specs.Views.{view}
use Rattle.aml_verify.specs.declared.checked.Checked.{Checked}

-- an object, where it gives a value
abbrev pub giving : Shown → ℕ → Option ℕ
giving ns id = if gives_value (object_at ns.entries id) then Some id else None

-- the object whose printed path, or an alias's, a text is, where it gives a value
abbrev pub value_under : Shown → List ℕ → Option ℕ
value_under ns path = option_and_then (giving ns) (printed_object ns.entries path)

-- the _CRS of a device, by its number: the object of its path with `._CRS` behind, where that gives
-- a value
abbrev pub crs_of : Shown → ℕ → Option ℕ
crs_of ns device = value_under ns (path_text (path_of ns.entries device) ++ codes "._CRS")

-- the bytes of a buffer
abbrev pub octets_of : Value → Option (List ℕ)
octets_of (Buf octets) = Some octets
octets_of v = None

-- the bytes of the buffer that an object gave, if it gave one
abbrev pub octets_given : Given → Option (List ℕ)
octets_given (given.Value v) = octets_of (view v)
octets_given g = None

-- the items of a device, by what its bytes spell
abbrev pub items_spelled : ObjectId → Result (List Item) ResourceRefusal →
    Result (Option (List Item)) LinkRefusal
items_spelled device (Ok items) = Ok (Some items)
items_spelled device (Err refusal) = Err (link_refusal device refusal)

abbrev pub items_in : ObjectId → Option (List ℕ) → Result (Option (List Item)) LinkRefusal
items_in device (Some octets) = items_spelled device (items_of octets)
items_in device None = Ok None

-- the items of a device, by what its _CRS gave: none where that was no buffer
abbrev pub items_given : ObjectId → Given → Result (Option (List Item)) LinkRefusal
items_given device g = items_in device (octets_given g)

-- the items of a device, by the number of its _CRS: what that gives, from what names hold and the
-- events so far; a device without one has no items, and changes nothing
abbrev pub HasItemsBy : Checked → ObjectId → Option ℕ → Result (Option (List Item)) LinkRefusal →
    Names → Log → Names → Log → Type 0
HasItemsBy c device (Some crs) r names log names_left log_left =
    (g : Given) × GivesBy c crs (said_of c crs) g names log names_left log_left ×
    (r ≡ items_given device g)
HasItemsBy c device None r names log names_left log_left =
    (r ≡ Ok None) × (names_left ≡ names) × (log_left ≡ log)

-- the items of a device, by its _CRS
abbrev pub HasItems : Checked → ObjectId → Result (Option (List Item)) LinkRefusal → Names →
    Log → Names → Log → Type 0
HasItems c device r names log names_left log_left =
    HasItemsBy c device (crs_of (shown c.namespace.now) device.0) r names log names_left log_left

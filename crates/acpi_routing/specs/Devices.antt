-- The link devices that a _PRT names (ACPI 6.5, 6.2.13).
use Rattle.std.specs.Prelude.{◌≡◌, ◌==◌, ◌++◌, ℕ, zero, suc, List, [], ◌∷◌, Bool, Option, Some, None, not, unwrap_or, if◌then◌else◌}
use Rattle.std.specs.BTreeSet.{BTreeSet, contains}
use Rattle.std.specs.List.{filter, list_any}
use Rattle.std.specs.Option.{option_and_then}
use Rattle.std.specs.Ordering.{nat_cmp}
use Rattle.acpi_resources.specs.Mappings.{fault_of, mapping_of}
use Rattle.acpi_resources.specs.declared.mapping.EntryFault.{EntryFault}
use Rattle.acpi_resources.specs.declared.mapping.EntryFault.TheVariants as wrong
use Rattle.aml_paths.specs.declared.scope.ObjectId.{ObjectId}
use Rattle.aml_values.specs.Values.{Element, Elements, Holds, Named, Pkg, Value, more, none}

-- the element with a number, from 0
abbrev pub element_in : Elements → ℕ → Option Element
element_in none n = None
element_in (more e es) zero = Some e
element_in (more e es) (suc n) = element_in es n

-- the device that a part names, if it is a name and names something
abbrev pub device_named : Option Element → Option ObjectId
device_named (Some (Named device)) = device
device_named e = None

-- the device that an element names: it is a package whose third part is that name, whatever else it
-- is
abbrev pub device_of : Element → Option ObjectId
device_of (Holds (Pkg parts)) = device_named (element_in parts 2)
device_of e = None

abbrev pub in_front : Option ObjectId → List ObjectId → List ObjectId
in_front None devices = devices
in_front (Some device) devices = device ∷ devices

-- the devices that elements name, in the order of the elements
abbrev pub devices_among : Elements → List ObjectId
devices_among none = []
devices_among (more e es) = in_front (device_of e) (devices_among es)

-- all but one device
abbrev pub without : ObjectId → List ObjectId → List ObjectId
without device = filter (λ (d : ObjectId). not (device.0 == d.0))

-- each once, where it first stands
abbrev pub once : List ObjectId → List ObjectId
once [] = []
once (device ∷ devices) = device ∷ without device (once devices)

-- the devices that a _PRT names, each once, in the order in which they first appear
abbrev pub devices_in : Value → List ObjectId
devices_in (Pkg es) = once (devices_among es)
devices_in v = []

-- the device that the element with a number names
abbrev pub device_in : Value → ℕ → Option ObjectId
device_in (Pkg es) number = option_and_then device_of (element_in es number)
device_in v number = None

-- what keeps an element from saying where an interrupt comes from, if anything does; where there is
-- no element there is no package
abbrev pub fault_of_one : Option Element → EntryFault
fault_of_one (Some e) = unwrap_or (fault_of (mapping_of e)) wrong.Parts
fault_of_one None = wrong.Parts

abbrev pub fault_in : Value → ℕ → EntryFault
fault_in (Pkg es) number = fault_of_one (element_in es number)
fault_in v number = wrong.Parts

-- whether a device is among others
abbrev pub is_among : ℕ → List ObjectId → Bool
is_among number devices = list_any (λ (d : ObjectId). d.0 == number) devices

-- devices and one more, unless it is among them
abbrev pub with_device : List ObjectId → ObjectId → List ObjectId
with_device devices device = if is_among device.0 devices then devices else devices ++ device ∷ []

-- a set has the numbers of just these devices
abbrev pub IsSetOf : BTreeSet ℕ → List ObjectId → Type 0
IsSetOf seen devices = (number : ℕ) → contains nat_cmp seen number ≡ is_among number devices

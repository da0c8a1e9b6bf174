-- Where the interrupts go that a _PRT lists (ACPI 6.5, 6.2.13).
use Rattle.std.specs.Prelude.{ℕ, ◌+◌, List, [], ◌∷◌, Option, Some, None, Result, Ok, Err}
use Rattle.aml_values.specs.Values.{Element, Elements, Pkg, Value, more, none}
use Rattle.acpi_resources.specs.Mappings.{mapping_of}
use Rattle.acpi_resources.specs.RouteFaults.{route_refusal}
use Rattle.acpi_resources.specs.declared.mapping.EntryFault.{EntryFault}
use Rattle.acpi_resources.specs.declared.mapping.Mapping.{Mapping}
use Rattle.acpi_resources.specs.declared.mapping.Source.{Source}
use Rattle.acpi_resources.specs.declared.mapping.Source.TheVariants.{Link, Global}
use Rattle.acpi_resources.specs.declared.route.GlobalInterrupt.{GlobalInterrupt}
use Rattle.acpi_resources.specs.declared.route.Route.{Route}
use Rattle.acpi_resources.specs.declared.route_fault.RouteCause.TheVariants.{BadEntry, NoLink}
use Rattle.acpi_resources.specs.declared.route_fault.RouteRefusal.{RouteRefusal}
use Rattle.acpi_resources.specs.declared.signal.Polarity.TheVariants.{Low}
use Rattle.acpi_resources.specs.declared.signal.Trigger.TheVariants.{Level}

-- the interrupt of a source: of the device that its name names; one without a device is level
-- triggered and active low, as PCI has it
abbrev pub source_interrupt : (ℕ → Option GlobalInterrupt) → Source → Option GlobalInterrupt
source_interrupt of_device (Link (Some device)) = of_device device.0
source_interrupt of_device (Link None) = None
source_interrupt of_device (Global number) =
    Some (record { number = number; trigger = Level; polarity = Low })

-- a pin's route, where it has an interrupt
abbrev pub routed : ℕ → Mapping → Option GlobalInterrupt → Result Route RouteRefusal
routed number mapping (Some interrupt) =
    Ok (record { address = mapping.address; pin = mapping.pin; interrupt = interrupt })
routed number mapping None = Err (route_refusal NoLink number)

abbrev pub mapped : (ℕ → Option GlobalInterrupt) → ℕ → Result Mapping EntryFault →
    Result Route RouteRefusal
mapped of_device number (Ok mapping) =
    routed number mapping (source_interrupt of_device mapping.source)
mapped of_device number (Err fault) = Err (route_refusal BadEntry number)

-- the route of an element by its number: first it has to say something, then what it says has to
-- have an interrupt
abbrev pub route_of : (ℕ → Option GlobalInterrupt) → ℕ → Element → Result Route RouteRefusal
route_of of_device number element = mapped of_device number (mapping_of element)

-- a route in front of others; the first refusal counts
abbrev pub leads : Result Route RouteRefusal → Result (List Route) RouteRefusal →
    Result (List Route) RouteRefusal
leads (Err refused) routes = Err refused
leads (Ok route) (Err refused) = Err refused
leads (Ok route) (Ok routes) = Ok (route ∷ routes)

-- the routes of elements that are numbered from a number on
abbrev pub routes_from : (ℕ → Option GlobalInterrupt) → ℕ → Elements →
    Result (List Route) RouteRefusal
routes_from of_device number none = Ok []
routes_from of_device number (more element elements) =
    leads (route_of of_device number element) (routes_from of_device (number + 1) elements)

-- the routes of a _PRT, whose elements are numbered from 0
abbrev pub routes_of : (ℕ → Option GlobalInterrupt) → Value → Result (List Route) RouteRefusal
routes_of of_device (Pkg elements) = routes_from of_device 0 elements
routes_of of_device _ = Err (route_refusal BadEntry 0)

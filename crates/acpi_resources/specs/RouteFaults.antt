-- Answers of calls that follow a _PRT, and their refusals.
use Rattle.std.specs.Prelude.{◌≡◌, ℕ, Result, Ok, Err}
use Rattle.acpi_resources.specs.declared.route_fault.RouteCause.{RouteCause}
use Rattle.acpi_resources.specs.declared.route_fault.RouteFault.{RouteFault}
use Rattle.acpi_resources.specs.declared.route_fault.RouteFault.TheVariants.{NoMemory, Refused}
use Rattle.acpi_resources.specs.declared.route_fault.RouteRefusal.{RouteRefusal}

abbrev pub route_refusal : RouteCause → ℕ → RouteRefusal
route_refusal cause element = record { cause = cause; element = element }

-- a fault of the program is the definition's refusal, unless memory ran out
abbrev pub RouteFails : {Y : Type 0} → RouteFault → Result Y RouteRefusal → Type 0
RouteFails NoMemory answer = Unit {0}
RouteFails (Refused refused) answer = answer ≡ Err refused

-- the program's answer, seen by a view of its value, is that of a definition, unless memory ran out
abbrev pub RoutesAs : {X Y : Type 0} → (X → Y) → Result X RouteFault →
    Result Y RouteRefusal → Type 0
RoutesAs view (Ok x) answer = answer ≡ Ok (view x)
RoutesAs view (Err fault) answer = RouteFails fault answer

-- Answers of calls that ask links for their resource descriptors, and their refusals.
use Rattle.std.specs.Prelude.{Result, Ok, Err}
use Rattle.acpi_resources.specs.declared.fault.ResourceFault.{ResourceFault}
use Rattle.acpi_resources.specs.declared.fault.ResourceFault.TheVariants as resources
use Rattle.acpi_resources.specs.declared.fault.ResourceRefusal.{ResourceRefusal}
use Rattle.acpi_routing.specs.declared.fault.LinkFault.{LinkFault}
use Rattle.acpi_routing.specs.declared.fault.LinkFault.TheVariants as fault
use Rattle.acpi_routing.specs.declared.fault.LinkRefusal.{LinkRefusal}
use Rattle.aml_paths.specs.declared.scope.ObjectId.{ObjectId}

-- what is wrong with the bytes that a device's _CRS gives
abbrev pub link_refusal : ObjectId → ResourceRefusal → LinkRefusal
link_refusal device refusal = record { device = device; refusal = refusal }

-- the same with want of memory
abbrev pub link_fault : ObjectId → ResourceFault → LinkFault
link_fault device resources.NoMemory = fault.NoMemory
link_fault device (resources.Refused refusal) = fault.Refused (link_refusal device refusal)

-- the program's answer, seen by a view of its value, is one of these; nothing is said where memory
-- is wanted
abbrev pub Answers : {X Y : Type 0} → (X → Y) → (Result Y LinkRefusal → Type 0) →
    Result X LinkFault → Type 0
Answers view is (Ok x) = is (Ok (view x))
Answers view is (Err fault.NoMemory) = Unit {0}
Answers view is (Err (fault.Refused refusal)) = is (Err refusal)

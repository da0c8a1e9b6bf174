-- Faults: what is wrong, where, and the line that tells both.
use Rattle.std.specs.Prelude.{◌≡◌, ◌⊎◌, ℕ, List, [], ◌∷◌, Result, Ok, Err, codes, decimal}
use Rattle.acpi_resources.specs.Causes.{resource_cause_text, route_cause_text}
use Rattle.acpi_resources.specs.declared.fault.ResourceFault.{ResourceFault}
use Rattle.acpi_resources.specs.declared.fault.ResourceFault.TheVariants as resources
use Rattle.acpi_resources.specs.declared.route_fault.RouteFault.{RouteFault}
use Rattle.acpi_resources.specs.declared.route_fault.RouteFault.TheVariants as routes
use Rattle.acpi_tables.specs.Causes.{table_cause_text}
use Rattle.aml_objects.specs.Causes.{load_cause_text}
use Rattle.aml_objects.specs.declared.fault.LoadFault.{LoadFault}
use Rattle.aml_objects.specs.declared.fault.LoadFault.TheVariants as load
use Rattle.aml_regions.specs.declared.fault.RegistersFault.{RegistersFault}
use Rattle.aml_regions.specs.declared.fault.RegistersFault.TheVariants as registers
use Rattle.aml_signatures.specs.declared.fault.SignatureFault.{SignatureFault}
use Rattle.aml_signatures.specs.declared.fault.SignatureFault.TheVariants as signatures
use Rattle.acpi_text.specs.Text.{joined}
use Rattle.acpi_sources.specs.declared.fault.Fault.{Fault}
use Rattle.acpi_sources.specs.declared.fault.FaultCause.{FaultCause}
use Rattle.acpi_sources.specs.declared.fault.FaultCause.TheVariants.{CommandLine, BadKinds, BadRegs, BadArgs, ArgsDontFit, File, NoMemory, NoSuchObject, NotBuffer, NotPackage, Table, Load, Resources, Routes}
use Rattle.acpi_sources.specs.declared.fault.FaultCause.TheVariants as told
use Rattle.acpi_sources.specs.declared.fault.Where.{Where}
use Rattle.acpi_sources.specs.declared.fault.Where.TheVariants as place
use Rattle.acpi_sources.specs.declared.source.SourceFault.{SourceFault}
use Rattle.acpi_sources.specs.declared.source.SourceFault.TheVariants as source
use Rattle.acpi_sources.specs.declared.status.Status.{Status}
use Rattle.acpi_sources.specs.declared.status.Status.TheVariants as exit

-- what is wrong, where that has a place
abbrev pub fault_at : FaultCause → Where → Fault
fault_at cause at = record { cause = cause; at = at }

-- what is wrong, where that has no place
abbrev pub nowhere : FaultCause → Fault
nowhere cause = fault_at cause place.Nowhere

-- what is wrong at a byte of the file, or of the table, with a number
abbrev pub in_table : FaultCause → ℕ → ℕ → Fault
in_table cause table at = fault_at cause (place.Table table at)

-- what is wrong at the byte with a number, of bytes that have no other
abbrev pub at_byte : FaultCause → ℕ → Fault
at_byte cause at = fault_at cause (place.Byte at)

-- what is wrong in the line with a number
abbrev pub in_line : FaultCause → ℕ → Fault
in_line cause line = fault_at cause (place.Line line)

-- what is wrong in the element with a number
abbrev pub in_element : FaultCause → ℕ → Fault
in_element cause element = fault_at cause (place.Element element)

-- what is wrong, as it is printed: a number and a name
abbrev pub cause_text : FaultCause → List ℕ
cause_text NotBuffer = codes "E421 NotBuffer"
cause_text NotPackage = codes "E422 NotPackage"
cause_text BadKinds = codes "E501 BadKinds"
cause_text BadRegs = codes "E511 BadRegs"
cause_text CommandLine = codes "E520 CommandLine"
cause_text BadArgs = codes "E521 BadArgs"
cause_text ArgsDontFit = codes "E522 ArgsDontFit"
cause_text File = codes "E523 File"
cause_text NoMemory = codes "E524 NoMemory"
cause_text NoSuchObject = codes "E525 NoSuchObject"
cause_text (Table cause) = table_cause_text cause
cause_text (Load cause) = load_cause_text cause
cause_text (Resources cause) = resource_cause_text cause
cause_text (Routes cause) = route_cause_text cause

-- where it is, as it is printed behind that: the table and the byte, the byte alone, the line, or
-- the element
unfoldable pub where_text : Where → List ℕ
where_text place.Nowhere = []
where_text (place.Table table at) = joined (codes " " ∷ decimal table ∷ codes " " ∷ decimal at ∷ [])
where_text (place.Byte at) = joined (codes " " ∷ decimal at ∷ [])
where_text (place.Line line) = joined (codes " " ∷ decimal line ∷ [])
where_text (place.Element element) = joined (codes " " ∷ decimal element ∷ [])

-- the line of a fault
abbrev pub fault_line : Fault → List ℕ
fault_line fault =
    joined (codes "fault " ∷ cause_text fault.cause ∷ where_text fault.at ∷ codes "\n" ∷ [])

-- why a file has no bytes
abbrev pub source_fault : SourceFault → Fault
source_fault source.File = nowhere told.File
source_fault source.NoMemory = nowhere told.NoMemory

-- why tables have no namespace
abbrev pub load_fault : LoadFault → Fault
load_fault load.NoMemory = nowhere told.NoMemory
load_fault (load.Refused refusal) = in_table (told.Load refusal.cause) refusal.table refusal.at

-- why a text sets no registers: want of memory, or its first bad line
abbrev pub registers_fault : RegistersFault → Fault
registers_fault registers.NoMemory = nowhere told.NoMemory
registers_fault (registers.BadRegs line) = in_line told.BadRegs line

-- why a text tells no kinds: want of memory, or its first bad line
abbrev pub signatures_fault : SignatureFault → Fault
signatures_fault signatures.NoMemory = nowhere told.NoMemory
signatures_fault (signatures.BadKinds line) = in_line told.BadKinds line

-- why bytes have no items
abbrev pub resource_fault : ResourceFault → Fault
resource_fault resources.NoMemory = nowhere told.NoMemory
resource_fault (resources.Refused refusal) = at_byte (told.Resources refusal.cause) refusal.at

-- why a _PRT has no routes
abbrev pub route_fault : RouteFault → Fault
route_fault routes.NoMemory = nowhere told.NoMemory
route_fault (routes.Refused refusal) = in_element (told.Routes refusal.cause) refusal.element

-- the status of what is wrong
abbrev pub cause_status : FaultCause → Status
cause_status told.CommandLine = exit.NoCommand
cause_status _ = exit.Fault

-- the status of a fault
abbrev pub fault_status : Fault → Status
fault_status fault = cause_status fault.cause

-- a value, or a fault: want of memory, or one of these
abbrev pub Tries : {V : Type 0} → (V → Type 0) → (Fault → Type 0) → Result V Fault → Type 0
Tries gives faults (Ok v) = gives v
Tries gives faults (Err f) = (f ≡ nowhere told.NoMemory) ⊎ faults f

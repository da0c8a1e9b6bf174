-- The interrupt controllers that a file tells of (ACPI 6.5, 5.2.12), or none.
use Rattle.std.specs.Prelude.{◌≡◌, ℕ, List, Option, Some, None, Result, Ok, Err, Vec, option_map, vec_items}
use Rattle.acpi_tables.specs.Fault.{first_fault}
use Rattle.acpi_tables.specs.Madt.{HasMadt, IsMadt, madt_checks}
use Rattle.acpi_tables.specs.declared.fault.TableFault.{TableFault}
use Rattle.acpi_tables.specs.declared.madt.Madt.{Madt}
use Rattle.acpi_sources.specs.Faults.{at_byte}
use Rattle.acpi_sources.specs.Files.{Answers, Opens}
use Rattle.acpi_listing.specs.Steps.{Step, Quietly}
use Rattle.acpi_sources.specs.declared.fault.Fault.{Fault}
use Rattle.acpi_sources.specs.declared.fault.FaultCause.TheVariants as cause

-- the bytes of a file, if there is one
abbrev pub lent : {A : Type 0} → Option (Vec ℕ A) → Option (List ℕ)
lent bytes = option_map vec_items bytes

abbrev pub file_of : {A E : Type 0} → Result (Option (Vec ℕ A)) E → Result (Option (List ℕ)) E
file_of (Ok bytes) = Ok (lent bytes)
file_of (Err e) = Err e

-- the bytes of the file of a name; without one there are none
abbrev pub OpensControllers : {F : Type 0} → Answers F → F → Option (List ℕ) →
    Result (Option (List ℕ)) Fault → F → Type 0
OpensControllers answers old None (Ok bytes) new = (bytes ≡ None) × (new ≡ old)
OpensControllers answers old None (Err f) new = ⊥
OpensControllers answers old (Some name) (Ok (Some bytes)) new =
    Opens answers old name (Ok bytes) new
OpensControllers answers old (Some name) (Ok None) new = ⊥
OpensControllers answers old (Some name) (Err f) new = Opens answers old name (Err f) new

-- the same as a step of a command
abbrev pub ReadsControllers : {F : Type 0} → Answers F → Option (List ℕ) → Step F (Option (List ℕ))
ReadsControllers answers name = Quietly (λ old r new. OpensControllers answers old name r new)

-- the MADT that bytes are, where there are some, or their first fault
abbrev pub ReadsMadt : Option (List ℕ) → Result (Option Madt) Fault → Type 0
ReadsMadt None r = r ≡ Ok None
ReadsMadt (Some bytes) (Ok (Some madt)) = IsMadt bytes × HasMadt bytes madt
ReadsMadt (Some bytes) (Ok None) = ⊥
ReadsMadt (Some bytes) (Err f) =
    (t : TableFault) × (first_fault (madt_checks bytes) ≡ Some t) ×
    (f ≡ at_byte (cause.Table t.cause) t.at)

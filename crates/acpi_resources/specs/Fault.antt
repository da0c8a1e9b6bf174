-- Answers of readers of resource descriptors, and their refusals.
use Rattle.std.specs.Prelude.{◌≡◌, ◌≤◌, ℕ, Result, Ok, Err}
use Rattle.acpi_resources.specs.declared.fault.ResourceCause.{ResourceCause}
use Rattle.acpi_resources.specs.declared.fault.ResourceFault.{ResourceFault}
use Rattle.acpi_resources.specs.declared.fault.ResourceFault.TheVariants.{NoMemory, Refused}
use Rattle.acpi_resources.specs.declared.fault.ResourceRefusal.{ResourceRefusal}

abbrev pub refusal : ResourceCause → ℕ → ResourceRefusal
refusal cause at = record { cause = cause; at = at }

-- a fault of the program is the definition's refusal, unless memory ran out
abbrev pub Fails : {Y : Type 0} → ResourceFault → Result Y ResourceRefusal → Type 0
Fails NoMemory answer = Unit {0}
Fails (Refused refused) answer = answer ≡ Err refused

-- the program's answer, seen by a view of its value, is that of a definition, unless memory ran out
abbrev pub ReadsAs : {X Y : Type 0} → (X → Y) → Result X ResourceFault →
    Result Y ResourceRefusal → Type 0
ReadsAs view (Ok x) answer = answer ≡ Ok (view x)
ReadsAs view (Err fault) answer = Fails fault answer

-- the place of a refusal is no greater than the number of bytes
abbrev pub StandsWithin : ℕ → ResourceFault → Type 0
StandsWithin size NoMemory = Unit {0}
StandsWithin size (Refused refused) = refused.at ≤ size

-- The namespace of a command's tables.
use Rattle.std.specs.Prelude.{◌≡◌, ℕ, List, [], ◌∷◌, codes, Option, Some, None, Result}
use Rattle.aml_namespace.specs.Load.{Shown, IsLoaded, FaultyLoad}
use Rattle.aml_objects.specs.declared.fault.LoadRefusal.{LoadRefusal}
use Rattle.acpi_sources.specs.Faults.{Tries, in_table}
use Rattle.acpi_sources.specs.declared.fault.Fault.{Fault}
use Rattle.acpi_sources.specs.declared.fault.FaultCause.TheVariants as cause

-- what `_OS_` tells
abbrev pub os_name : List ℕ
os_name = codes "acpicheck"

-- why tables have no namespace
abbrev pub FailsToLoad : List (List ℕ) → Fault → Type 0
FailsToLoad tables f =
    (refusal : LoadRefusal) × FaultyLoad tables os_name refusal ×
    (f ≡ in_table (cause.Load refusal.cause) refusal.table refusal.at)

-- the texts that `_OSI` knows: that of `--osi` alone, and none without it
abbrev pub interfaces_of : Option (List ℕ) → List (List ℕ)
interfaces_of (Some text) = text ∷ []
interfaces_of None = []

-- a namespace is that of tables, and `_OSI` knows these texts in it
abbrev pub IsNamespace : List (List ℕ) → List (List ℕ) → Shown → Type 0
IsNamespace interfaces tables ns = IsLoaded tables os_name ns × (ns.interfaces ≡ interfaces)

-- the namespace of tables, or the first fault of their load
abbrev pub Loads : List (List ℕ) → List (List ℕ) → Result Shown Fault → Type 0
Loads interfaces tables = Tries (IsNamespace interfaces tables) (FailsToLoad tables)

-- What the answers of loading say.
use Rattle.std.specs.Prelude.{◌≡◌, ℕ, List, ◌++◌, Result, Ok, Err}
use Rattle.acpi_tables.specs.Bytes.{number_at}
use Rattle.aml_operators.specs.Tree.{trees}
use Rattle.aml_arities.specs.declared.external.External.{External}
use Rattle.aml_objects.specs.declared.fault.LoadFault.{LoadFault}
use Rattle.aml_objects.specs.declared.fault.LoadFault.TheVariants.{NoMemory, Refused}
use Rattle.aml_namespace.specs.declared.load.Loaded.{Loaded}
use Rattle.aml_objects.specs.Entries.{Entries}
use Rattle.aml_namespace.specs.Externals.{all_declared}
use Rattle.aml_namespace.specs.Load.{AllDeclare, AllFail, AllMake, Fails, Makes, at_root, first_width}
use Rattle.aml_objects.specs.Widths.{width_by}

-- a table was loaded behind what was there: its revision, or its first fault, unless memory ran out
abbrev pub LoadsTable : ℕ → List ℕ → Entries → Entries → Result ℕ LoadFault → Type 0
LoadsTable n bytes before after (Ok revision) =
    Makes n bytes before after × (revision ≡ number_at 8 1 bytes)
LoadsTable n bytes before after (Err NoMemory) = Unit {0}
LoadsTable n bytes before after (Err (Refused f)) = Fails n bytes before f

-- what a loaded table declares, behind what others did
abbrev pub DeclaresTable : ℕ → List ℕ → Entries → Entries → List External → List External →
    Result ℕ LoadFault → Type 0
DeclaresTable n bytes before after old new (Ok revision) = (makes : Makes n bytes before after)
    × (new ≡ old ++ all_declared (at_root n bytes) before (trees makes.terms))
DeclaresTable n bytes before after old new (Err fault) = Unit {0}

-- tables were loaded behind what was there: the revision of the first and what all declare, or
-- their first fault, unless memory ran out
abbrev pub LoadsAll : List (List ℕ) → Entries → Entries → Result Loaded LoadFault → Type 0
LoadsAll tables before after (Ok loaded) =
    AllMake 0 tables before after × (width_by loaded.revision ≡ first_width tables)
    × AllDeclare 0 tables before loaded.externals.items
LoadsAll tables before after (Err NoMemory) = Unit {0}
LoadsAll tables before after (Err (Refused f)) = AllFail 0 tables before f

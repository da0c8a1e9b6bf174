-- Faults, in the order in which they are looked for.
use Rattle.std.specs.Prelude.{ℕ, Bool, List, [], ◌∷◌, Option, Some, None, if◌then◌else◌}
use Rattle.acpi_tables.specs.declared.fault.TableCause.{TableCause}
use Rattle.acpi_tables.specs.declared.fault.TableFault.{TableFault}

-- what is looked for, and the fault where it is found
pub record Check : Type 0 where
  pub fails : Bool
  pub cause : TableCause
  pub at : ℕ

abbrev pub check : Bool → TableCause → ℕ → Check
check fails cause at = record { fails = fails; cause = cause; at = at }

-- the fault of the first check that fails
abbrev pub first_fault : List Check → Option TableFault
first_fault [] = None
first_fault (c ∷ cs) =
    if c.fails then Some (record { cause = c.cause; at = c.at }) else first_fault cs

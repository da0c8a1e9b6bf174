-- A table of one kind: a header's table, named by the signature (ACPI 6.5, 5.2.6).
use Rattle.std.specs.Prelude.{ℕ, List, [], ◌∷◌, ◌++◌, IsTrue, nat_eq, not}
use Rattle.std.specs.List.{starts_with}
use Rattle.acpi_tables.specs.Fault.{Check, check}
use Rattle.acpi_tables.specs.Header.{IsTable, header_checks}
use Rattle.acpi_tables.specs.declared.fault.TableCause.TheVariants.{BadSignature}

-- a table that begins with this signature
pub record IsTableOf (signature bytes : List ℕ) : Type 0 where
  pub table : IsTable bytes
  pub named : IsTrue (starts_with nat_eq bytes signature)

-- what is looked for in such a table, in order
abbrev pub table_checks : List ℕ → List ℕ → List Check
table_checks signature bytes =
    header_checks bytes ++ check (not (starts_with nat_eq bytes signature)) BadSignature 0 ∷ []

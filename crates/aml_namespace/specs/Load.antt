-- What loaded tables make, or the first fault (ACPI 6.5, 5.2.11 and 5.3).
use Rattle.std.specs.Prelude.{◌≡◌, ◌⊎◌, ℕ, zero, suc, List, [], ◌∷◌, ◌++◌, codes, length, Some, Ok, Err}
use Rattle.acpi_tables.specs.Bytes.{number_at}
use Rattle.acpi_tables.specs.Fault.{first_fault}
use Rattle.acpi_tables.specs.Table.{IsTableOf, table_checks}
use Rattle.acpi_tables.specs.declared.fault.TableFault.{TableFault}
use Rattle.aml_operators.specs.Tree.{Tree, trees}
use Rattle.aml_tree.specs.declared.fault.Refusal.{Refusal}
use Rattle.aml_tree.specs.Body.{IsModule, FaultyModule}
use Rattle.aml_arities.specs.declared.external.External.{External}
use Rattle.aml_objects.specs.declared.fault.LoadRefusal.{LoadRefusal}
use Rattle.aml_namespace.specs.Define.{all_defined}
use Rattle.aml_objects.specs.Enter.{Here}
use Rattle.aml_objects.specs.Entries.{Entries}
use Rattle.aml_namespace.specs.Externals.{all_declared}
use Rattle.aml_objects.specs.Fault.{table_refusal, tree_refusal}
use Rattle.aml_objects.specs.Predefined.{predefined_entries}
use Rattle.aml_objects.specs.Settled.{settled}
use Rattle.aml_objects.specs.Widths.{width_by}
use Rattle.aml_objects.specs.declared.width.Width.{Width}

-- the first table is a DSDT, and the others are SSDTs
abbrev pub signature_of : ℕ → List ℕ
signature_of zero = codes "DSDT"
signature_of (suc n) = codes "SSDT"

-- a table's definitions begin at the root
abbrev pub at_root : ℕ → List ℕ → Here
at_root n bytes = record { table = n; bytes = bytes; scope = 0 }

-- what a table of this number makes, behind what is there
pub record Makes (n : ℕ) (bytes : List ℕ) (before after : Entries) : Type 0 where
  pub table : IsTableOf (signature_of n) bytes
  pub terms : List Tree
  pub module_of : IsModule bytes terms
  pub makes : all_defined (at_root n bytes) before (trees terms) ≡ Ok after

-- its first fault: of the table, of its module, or of a definition
abbrev pub Fails : ℕ → List ℕ → Entries → LoadRefusal → Type 0
Fails n bytes before f =
    ((fault : TableFault) × (first_fault (table_checks (signature_of n) bytes) ≡ Some fault)
    × (f ≡ table_refusal n fault))
    ⊎ ((IsTableOf (signature_of n) bytes
    × ((g : Refusal) × FaultyModule bytes g × (f ≡ tree_refusal n g)))
    ⊎ (IsTableOf (signature_of n) bytes × ((ts : List Tree) × IsModule bytes ts
    × (all_defined (at_root n bytes) before (trees ts) ≡ Err f))))

-- what tables make that are numbered from n on, one behind the other
abbrev pub AllMake : ℕ → List (List ℕ) → Entries → Entries → Type 0
AllMake n [] before after = before ≡ after
AllMake n (bytes ∷ more) before after =
    (next : Entries) × Makes n bytes before next × AllMake (suc n) more next after

-- the first fault of such tables: of the first, or of those behind it
abbrev pub AllFail : ℕ → List (List ℕ) → Entries → LoadRefusal → Type 0
AllFail n [] before f = ⊥
AllFail n (bytes ∷ more) before f = Fails n bytes before f
    ⊎ ((next : Entries) × Makes n bytes before next × AllFail (suc n) more next f)

-- what such tables declare as others' methods, in the order of the bytes
abbrev pub AllDeclare : ℕ → List (List ℕ) → Entries → List External → Type 0
AllDeclare n [] before externals = externals ≡ []
AllDeclare n (bytes ∷ more) before externals =
    (next : Entries) × (makes : Makes n bytes before next)
    × (rest : List External) × AllDeclare (suc n) more next rest
    × (externals ≡ all_declared (at_root n bytes) before (trees makes.terms) ++ rest)

-- what a namespace shows: its tables' bytes, the text of `_OS_`, the width of integers, its entries
-- in order of definition, what the tables declare as others' methods, and the texts that `_OSI`
-- knows
pub record Shown : Type 0 where
  pub tables : List (List ℕ)
  pub os : List ℕ
  pub width : Width
  pub entries : Entries
  pub externals : List External
  pub interfaces : List (List ℕ)

-- the revision of the first table tells the width
abbrev pub first_width : List (List ℕ) → Width
first_width [] = width_by 0
first_width (bytes ∷ more) = width_by (number_at 8 1 bytes)

-- a namespace holds just what these tables make behind the predefined names, with what the objects
-- name
pub record IsLoaded (tables : List (List ℕ)) (os : List ℕ) (ns : Shown) : Type 0 where
  pub tables_are : ns.tables ≡ tables
  pub os_is : ns.os ≡ os
  pub width_is : ns.width ≡ first_width tables
  pub made : Entries
  pub makes : AllMake 0 tables (predefined_entries (length os)) made
  pub entries_are : ns.entries ≡ settled tables made
  pub declares : AllDeclare 0 tables (predefined_entries (length os)) ns.externals

-- the first fault of these tables
abbrev pub FaultyLoad : List (List ℕ) → List ℕ → LoadRefusal → Type 0
FaultyLoad tables os f = AllFail 0 tables (predefined_entries (length os)) f

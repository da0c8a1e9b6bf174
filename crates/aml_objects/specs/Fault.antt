-- The faults of a load.
use Rattle.std.specs.Prelude.{ℕ, Result, Ok, Err}
use Rattle.acpi_tables.specs.declared.fault.TableFault.{TableFault}
use Rattle.aml_tree.specs.declared.fault.Refusal.{Refusal}
use Rattle.aml_tree.specs.declared.fault.TreeFault.{TreeFault}
use Rattle.aml_tree.specs.declared.fault.TreeFault.TheVariants as read
use Rattle.aml_objects.specs.declared.fault.LoadCause.{LoadCause}
use Rattle.aml_objects.specs.declared.fault.LoadCause.TheVariants.{Table, Tree}
use Rattle.aml_objects.specs.declared.fault.LoadRefusal.{LoadRefusal}
use Rattle.aml_objects.specs.declared.fault.LoadFault.{LoadFault}
use Rattle.aml_objects.specs.declared.fault.LoadFault.TheVariants.{NoMemory, Refused}

-- a refusal in the table with a number
abbrev pub load_refusal : LoadCause → ℕ → ℕ → LoadRefusal
load_refusal cause table at = record { cause = cause; table = table; at = at }

abbrev pub table_refusal : ℕ → TableFault → LoadRefusal
table_refusal table fault = load_refusal (Table fault.cause) table fault.at

abbrev pub tree_refusal : ℕ → Refusal → LoadRefusal
tree_refusal table fault = load_refusal (Tree fault.cause) table fault.at

abbrev pub tree_fault : ℕ → TreeFault → LoadFault
tree_fault table read.NoMemory = NoMemory
tree_fault table (read.Refused fault) = Refused (tree_refusal table fault)

infixl 10 ◌>>=◌
abbrev pub ◌>>=◌ : {X Y : Type 0} → Result X LoadRefusal → (X → Result Y LoadRefusal) →
    Result Y LoadRefusal
(Ok x) >>= f = f x
(Err f) >>= next = Err f

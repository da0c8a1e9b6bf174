-- What is wrong, as it is printed: a number and a name.
use Rattle.std.specs.Prelude.{ℕ, List, codes}
use Rattle.acpi_tables.specs.Causes.{table_cause_text}
use Rattle.aml_tree.specs.Causes.{tree_cause_text}
use Rattle.aml_objects.specs.declared.fault.LoadCause.{LoadCause}
use Rattle.aml_objects.specs.declared.fault.LoadCause.TheVariants.{Table, Tree, Duplicate, ScopeMissing, TooMany, AliasMissing}

abbrev pub load_cause_text : LoadCause → List ℕ
load_cause_text (Table cause) = table_cause_text cause
load_cause_text (Tree cause) = tree_cause_text cause
load_cause_text Duplicate = codes "E301 Duplicate"
load_cause_text ScopeMissing = codes "E302 ScopeMissing"
load_cause_text TooMany = codes "E303 TooMany"
load_cause_text AliasMissing = codes "E304 AliasMissing"

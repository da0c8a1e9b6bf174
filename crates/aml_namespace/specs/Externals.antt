-- The methods that tables declare as others', in the order of the bytes (ACPI 6.5, 19.6.46,
-- External).
use Rattle.std.specs.Prelude.{◌==◌, ◌%◌, ℕ, List, [], ◌∷◌, ◌++◌, length, Option, Some, None, Result, Ok, Err, if◌then◌else◌}
use Rattle.aml_lex.specs.NameStrings.{NameString}
use Rattle.aml_lex.specs.Standing.{name_there}
use Rattle.aml_operators.specs.declared.op.Op.{Op}
use Rattle.aml_operators.specs.declared.op.Op.TheVariants as op
use Rattle.aml_operators.specs.Literal.{number_in}
use Rattle.aml_operators.specs.Tree.{Tree, Trees, Node, none, more}
use Rattle.aml_arities.specs.declared.external.External.{External}
use Rattle.aml_objects.specs.declared.fault.LoadRefusal.{LoadRefusal}
use Rattle.aml_objects.specs.declared.object.Entry.TheVariants.{Own}
use Rattle.aml_objects.specs.declared.object.Object.{Object}
use Rattle.aml_objects.specs.declared.object.Object.TheVariants as object
use Rattle.aml_namespace.specs.Define.{defined}
use Rattle.aml_objects.specs.Enter.{Here, entered, opened}
use Rattle.aml_objects.specs.Entries.{Entries}
use Rattle.aml_namespace.specs.Made.{at_of, name_place}

-- the object type of methods
abbrev pub method_type : ℕ
method_type = 8

-- what an External declares, where that is a method: its name, and how many arguments it takes
abbrev pub declared_method : Here → Trees → List External
declared_method here (more name (more type (more args none))) =
    if number_in type == method_type
    then record { name = name_place here name; args = number_in args % 256 } ∷ [] else []
declared_method here parts = []

-- what a term declares that has no terms within
abbrev pub declared_flat : Here → Op → Trees → List External
declared_flat here op.External parts = declared_method here parts
declared_flat here o parts = []

-- what is declared behind what a definition made
abbrev pub behind_made : {X : Type 0} → Result X LoadRefusal → (X → List External) → List External
behind_made (Ok made) declares = declares made
behind_made (Err fault) declares = []

abbrev pub where_spelled : Option NameString → (NameString → List External) → List External
where_spelled None declares = []
where_spelled (Some name) declares = declares name

-- what is declared within a new object that holds names
abbrev pub declared_holding : Here → Entries → Object → Tree →
    (Here → Entries → List External) → List External
declared_holding here entries made name within = where_spelled (name_there here.bytes (at_of name))
    (λ n. behind_made (entered here entries (at_of name) n (Own made))
    (λ more_entries. within (record here { scope = length more_entries }) more_entries))

-- what is declared within a scope that is opened again
abbrev pub declared_reopening : Here → Entries → Tree → (Here → List External) → List External
declared_reopening here entries name within = where_spelled (name_there here.bytes (at_of name))
    (λ n. behind_made (opened here entries (at_of name) n)
    (λ scope. within (record here { scope = scope })))

abbrev mutual
  -- what a term declares, behind what is there
  pub declared : Here → Entries → Tree → List External
  declared here entries (Node op.Scope at stop (more name body)) =
      declared_reopening here entries name (λ inner. all_declared inner entries body)
  declared here entries (Node op.Device at stop (more name body)) =
      declared_holding here entries object.Device name (λ inner es. all_declared inner es body)
  declared here entries (Node op.ThermalZone at stop (more name body)) =
      declared_holding here entries object.ThermalZone name (λ inner es. all_declared inner es body)
  declared here entries (Node op.PowerResource at stop (more name (more level (more order body)))) =
      declared_holding here entries object.PowerResource name
      (λ inner es. all_declared inner es body)
  declared here entries
      (Node op.Processor at stop (more name (more id (more block (more size body))))) =
      declared_holding here entries object.Processor name (λ inner es. all_declared inner es body)
  declared here entries (Node o at stop parts) = declared_flat here o parts

  -- what terms declare, one behind the other
  pub all_declared : Here → Entries → Trees → List External
  all_declared here entries none = []
  all_declared here entries (more t ts) = declared here entries t
      ++ behind_made (defined here entries t) (λ more_entries. all_declared here more_entries ts)

-- What a module's terms make, in the order of the bytes (ACPI 6.5, 5.3 and 19.6).
use Rattle.std.specs.Prelude.{ℕ, length, Option, Some, None, Result, Ok}
use Rattle.aml_operators.specs.declared.op.Op.{Op}
use Rattle.aml_operators.specs.declared.op.Op.TheVariants as op
use Rattle.aml_operators.specs.Tree.{Tree, Trees, Node, none, more}
use Rattle.aml_operators.specs.Literal.{literal_of, number_in}
use Rattle.aml_lex.specs.NameStrings.{NameString}
use Rattle.aml_lex.specs.Standing.{name_there}
use Rattle.aml_objects.specs.declared.fault.LoadRefusal.{LoadRefusal}
use Rattle.aml_objects.specs.declared.object.Entry.TheVariants.{Own}
use Rattle.aml_objects.specs.declared.object.Field.{Field}
use Rattle.aml_objects.specs.declared.object.Object.{Object}
use Rattle.aml_objects.specs.declared.object.Object.TheVariants as object
use Rattle.aml_objects.specs.declared.object.Through.{Through}
use Rattle.aml_objects.specs.declared.object.Through.TheVariants as through
use Rattle.aml_namespace.specs.declared.fields.Cursor.{Cursor}
use Rattle.aml_objects.specs.Entries.{Entries}
use Rattle.aml_objects.specs.Enter.{Here, aliased, entered, opened}
use Rattle.aml_objects.specs.Fault.{◌>>=◌}
use Rattle.aml_namespace.specs.FieldLists.{behind, field_of, list_start}
use Rattle.aml_namespace.specs.Made.{at_of, object_of, reference}

-- what a name makes, where one stands; each name of a module does
abbrev pub where_named : Option NameString → Entries → (NameString → Result Entries LoadRefusal) →
    Result Entries LoadRefusal
where_named None entries makes = Ok entries
where_named (Some name) entries makes = makes name

-- the name at a place makes one object
abbrev pub object_entered : Here → Entries → Option (ℕ × Object) → Result Entries LoadRefusal
object_entered here entries None = Ok entries
object_entered here entries (Some (at, made)) =
    where_named (name_there here.bytes at) entries (λ name. entered here entries at name (Own made))

abbrev pub field_entered : Here → Entries → Option (ℕ × Field) → Result Entries LoadRefusal
field_entered here entries None = Ok entries
field_entered here entries (Some (at, made)) =
    object_entered here entries (Some (at, object.Field made))

-- the fields of a field list
abbrev pub fields_from : Here → Through → Cursor → Entries → Trees → Result Entries LoadRefusal
fields_from here way cursor entries none = Ok entries
fields_from here way cursor entries (more item items) = do
  more_entries ← field_entered here entries (field_of way cursor item)
  fields_from here way (behind cursor item) more_entries items

-- another path of an object; its source's name comes first
abbrev pub alias_entered : Here → Entries → ℕ → ℕ → Result Entries LoadRefusal
alias_entered here entries source_at at =
    where_named (name_there here.bytes source_at) entries
    (λ source. where_named (name_there here.bytes at) entries
    (λ name. aliased here entries source_at source at name))

-- the fields of a Field, an IndexField and a BankField
abbrev pub region_fields : Here → Entries → Trees → Result Entries LoadRefusal
region_fields here entries (more region (more flags items)) =
    fields_from here (through.Region (reference here region))
    (list_start (number_in flags)) entries items
region_fields here entries parts = Ok entries

abbrev pub index_fields : Here → Entries → Trees → Result Entries LoadRefusal
index_fields here entries (more index (more source (more flags items))) =
    fields_from here (through.Index (reference here index) (reference here source))
    (list_start (number_in flags)) entries items
index_fields here entries parts = Ok entries

abbrev pub bank_fields : Here → Entries → Trees → Result Entries LoadRefusal
bank_fields here entries (more region (more bank (more value (more flags items)))) =
    fields_from here (through.Bank (reference here region) (reference here bank) (literal_of value))
    (list_start (number_in flags)) entries items
bank_fields here entries parts = Ok entries

abbrev pub alias : Here → Entries → Trees → Result Entries LoadRefusal
alias here entries (more source (more name none)) =
    alias_entered here entries (at_of source) (at_of name)
alias here entries parts = Ok entries

-- what a term makes that has no terms within; an External, and what defines nothing, make nothing
abbrev pub flat : Here → Entries → Op → ℕ → Trees → Result Entries LoadRefusal
flat here entries op.Alias at parts = alias here entries parts
flat here entries op.Field at parts = region_fields here entries parts
flat here entries op.IndexField at parts = index_fields here entries parts
flat here entries op.BankField at parts = bank_fields here entries parts
flat here entries o at parts = object_entered here entries (object_of here o at parts)

-- what stands within a new object that holds names
abbrev pub holding : Here → Entries → Object → Tree →
    (Here → Entries → Result Entries LoadRefusal) → Result Entries LoadRefusal
holding here entries made name within =
    where_named (name_there here.bytes (at_of name)) entries (λ n. do
      more_entries ← entered here entries (at_of name) n (Own made)
      within (record here { scope = length more_entries }) more_entries)

-- what stands within a scope that is opened again
abbrev pub reopening : Here → Entries → Tree → (Here → Result Entries LoadRefusal) →
    Result Entries LoadRefusal
reopening here entries name within =
    where_named (name_there here.bytes (at_of name)) entries (λ n. do
      scope ← opened here entries (at_of name) n
      within (record here { scope = scope }))

abbrev mutual
  -- what a term makes, behind what is there
  pub defined : Here → Entries → Tree → Result Entries LoadRefusal
  defined here entries (Node op.Scope at stop (more name body)) =
      reopening here entries name (λ inner. all_defined inner entries body)
  defined here entries (Node op.Device at stop (more name body)) =
      holding here entries object.Device name (λ inner es. all_defined inner es body)
  defined here entries (Node op.ThermalZone at stop (more name body)) =
      holding here entries object.ThermalZone name (λ inner es. all_defined inner es body)
  defined here entries (Node op.PowerResource at stop (more name (more level (more order body)))) =
      holding here entries object.PowerResource name (λ inner es. all_defined inner es body)
  defined here entries
      (Node op.Processor at stop (more name (more id (more block (more size body))))) =
      holding here entries object.Processor name (λ inner es. all_defined inner es body)
  defined here entries (Node o at stop parts) = flat here entries o at parts

  -- what terms make, one behind the other
  pub all_defined : Here → Entries → Trees → Result Entries LoadRefusal
  all_defined here entries none = Ok entries
  all_defined here entries (more t ts) = do
    more_entries ← defined here entries t
    all_defined here more_entries ts

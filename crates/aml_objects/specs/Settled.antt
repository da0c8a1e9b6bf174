-- What objects name, found once all tables are loaded (ACPI 6.5, 19.6, Field and its kin,
-- CreateField and its kin).
use Rattle.std.specs.Prelude.{ℕ, List, map, slice_get, Option, option_and_then}
use Rattle.std.specs.Option.{option_map}
use Rattle.aml_lex.specs.Standing.{name_there}
use Rattle.aml_objects.specs.declared.object.Entry.{Entry}
use Rattle.aml_objects.specs.declared.object.Entry.TheVariants.{Own, Alias}
use Rattle.aml_paths.specs.declared.scope.NamePlace.{NamePlace}
use Rattle.aml_objects.specs.declared.object.Object.{Object}
use Rattle.aml_objects.specs.declared.object.Object.TheVariants as object
use Rattle.aml_paths.specs.declared.scope.ObjectId.{ObjectId}
use Rattle.aml_objects.specs.declared.object.Reference.{Reference}
use Rattle.aml_objects.specs.declared.object.Through.{Through}
use Rattle.aml_objects.specs.declared.object.Through.TheVariants as through
use Rattle.aml_objects.specs.Entries.{Entries}
use Rattle.aml_objects.specs.LookUp.{looked_up}
use Rattle.aml_paths.specs.Paths.{Path}

-- the object that the name at a place names, from the scope in which it stands
abbrev pub named_at : List (List ℕ) → Entries → NamePlace → Option ObjectId
named_at tables entries name = option_map (λ i. record { 0 = i })
    (option_and_then (looked_up entries name.scope)
    (option_and_then (λ bytes. name_there bytes name.at) (slice_get tables name.table)))

module _ (find : NamePlace → Option ObjectId) where
  abbrev pub found : Reference → Reference
  found r = record r { object = find r.name }

  abbrev pub found_through : Through → Through
  found_through (through.Region region) = through.Region (found region)
  found_through (through.Index index source) = through.Index (found index) (found source)
  found_through (through.Bank region bank value) = through.Bank (found region) (found bank) value

  -- only fields of regions and of buffers name others
  abbrev pub found_object : Object → Object
  found_object (object.Field f) = object.Field (record f { through = found_through f.through })
  found_object (object.BufferField f) = object.BufferField (record f { source = found f.source })
  found_object o = o

  abbrev pub found_entry : Entry → Entry
  found_entry (Own o) = Own (found_object o)
  found_entry (Alias id) = Alias id

  abbrev pub found_under : Path × Entry → Path × Entry
  found_under e = (e.0, found_entry e.1)

-- what was made, with what its objects name
abbrev pub settled : List (List ℕ) → Entries → Entries
settled tables made = map (found_under (named_at tables made)) made

-- What a definition's name makes: one path more, whose parent is there (ACPI 6.5, 5.3).
use Rattle.std.specs.Prelude.{◌-◌, ℕ, List, [], ◌∷◌, ◌++◌, length, take, nat_le, Option, Some, None, option_and_then, Result, Ok, Err, is_some, is_none, if◌then◌else◌}
use Rattle.aml_lex.specs.NameStrings.{NameString}
use Rattle.aml_objects.specs.declared.fault.LoadCause.{LoadCause}
use Rattle.aml_objects.specs.declared.fault.LoadCause.TheVariants.{Duplicate, ScopeMissing, TooMany, AliasMissing}
use Rattle.aml_objects.specs.declared.fault.LoadRefusal.{LoadRefusal}
use Rattle.aml_objects.specs.declared.object.Entry.{Entry}
use Rattle.aml_objects.specs.declared.object.Entry.TheVariants.{Alias}
use Rattle.aml_paths.specs.declared.scope.ObjectId.{ObjectId}
use Rattle.aml_paths.specs.Paths.{Path, path_at}
use Rattle.aml_paths.specs.Resolve.{resolve, spelled}
use Rattle.aml_objects.specs.Entries.{Entries, number_of, object_number, paths_in, scope_opened}
use Rattle.aml_objects.specs.Fault.{load_refusal, ◌>>=◌}

-- the greatest number of paths, predefined ones among them
abbrev pub greatest_count : ℕ
greatest_count = 65535

-- where definitions stand: a table's number, its bytes, and the number of the scope's path
pub record Here : Type 0 where
  pub table : ℕ
  pub bytes : List ℕ
  pub scope : ℕ

-- the scope's path
abbrev pub scope_path : Here → Entries → Path
scope_path here entries = path_at (paths_in entries) here.scope

-- a path without its last segment
abbrev pub parent_of : Path → Path
parent_of path = take (length path - 1) path

-- a path may be made where it is new, its parent holds names, and there is room
abbrev pub checked_path : Entries → Path → Result Path LoadCause
checked_path entries path =
    if is_some (number_of entries path) then Err Duplicate
    else (if is_none (option_and_then (scope_opened entries) (number_of entries (parent_of path)))
    then Err ScopeMissing
    else (if nat_le greatest_count (length entries) then Err TooMany else Ok path))

-- the path that a definition's name makes; the root is none, nor is what would be above it
abbrev pub made_path : Entries → Option Path → Result Path LoadCause
made_path entries None = Err ScopeMissing
made_path entries (Some []) = Err ScopeMissing
made_path entries (Some (segment ∷ segments)) = checked_path entries (segment ∷ segments)

abbrev pub new_path : Here → Entries → NameString → Result Path LoadCause
new_path here entries name = made_path entries (spelled (scope_path here entries) name)

-- what is wrong, told at a place of this table
abbrev pub told_at : {X : Type 0} → Here → ℕ → Result X LoadCause → Result X LoadRefusal
told_at here at (Ok x) = Ok x
told_at here at (Err cause) = Err (load_refusal cause here.table at)

-- one path more
abbrev pub entered : Here → Entries → ℕ → NameString → Entry → Result Entries LoadRefusal
entered here entries at name entry = do
  path ← told_at here at (new_path here entries name)
  Ok (entries ++ (path, entry) ∷ [])

-- the number of the object that a name names
abbrev pub named_object : Here → Entries → NameString → Option ℕ
named_object here entries name = option_and_then (object_number entries)
    (resolve (number_of entries) (scope_path here entries) name)

abbrev pub alias_of : Option ℕ → Result ObjectId LoadCause
alias_of None = Err AliasMissing
alias_of (Some i) = Ok (record { 0 = i })

-- another path of an object that is there
abbrev pub aliased : Here → Entries → ℕ → NameString → ℕ → NameString → Result Entries LoadRefusal
aliased here entries source_at source at name = do
  path ← told_at here at (new_path here entries name)
  id ← told_at here source_at (alias_of (named_object here entries source))
  Ok (entries ++ (path, Alias id) ∷ [])

abbrev pub scope_of : Option ℕ → Result ℕ LoadCause
scope_of None = Err ScopeMissing
scope_of (Some number) = Ok number

-- the number of the path that a name opens
abbrev pub scope_named : Here → Entries → NameString → Option ℕ
scope_named here entries name = option_and_then (scope_opened entries)
    (resolve (number_of entries) (scope_path here entries) name)

-- the number of the path that a Scope opens
abbrev pub opened : Here → Entries → ℕ → NameString → Result ℕ LoadRefusal
opened here entries at name = told_at here at (scope_of (scope_named here entries name))

-- What a name names in the scope of an object (ACPI 6.5, 5.3).
use Rattle.std.specs.Prelude.{ℕ, zero, suc, List, [], ◌∷◌, ◌++◌, length, Option, Some, None, option_and_then, slice_get, Bool, true, false, if◌then◌else◌}
use Rattle.aml_lex.specs.NameStrings.{NameString}
use Rattle.aml_objects.specs.declared.object.Entry.{Entry}
use Rattle.aml_objects.specs.declared.object.Object.{Object}
use Rattle.aml_objects.specs.declared.object.Object.TheVariants as object
use Rattle.aml_paths.specs.declared.scope.ObjectId.{ObjectId}
use Rattle.aml_paths.specs.declared.scope.Scope.{Scope}
use Rattle.aml_objects.specs.Entries.{Entries, number_of, object_at, object_number, owner, paths_in}
use Rattle.aml_paths.specs.Paths.{Path}
use Rattle.aml_paths.specs.Resolve.{resolve}
use Rattle.aml_paths.specs.Scopes.{scope_number}

-- the number of the object that a name names in a scope
abbrev pub named_in : Entries → Path → NameString → Option ℕ
named_in entries scope name =
    option_and_then (object_number entries) (resolve (number_of entries) scope name)

-- the path of a scope, where it is one
abbrev pub scope_path : Entries → Scope → Option Path
scope_path entries scope = slice_get (paths_in entries) (scope_number scope)

-- what a name names in a scope; in what is none, nothing
abbrev pub looked_up : Entries → Scope → NameString → Option ℕ
looked_up entries scope name =
    option_and_then (λ path. named_in entries path name) (scope_path entries scope)

abbrev pub is_method : Option Object → Bool
is_method (Some (object.Method m)) = true
is_method o = false

abbrev pub owned_at : ℕ → Option (Path × Entry) → List (Path × ObjectId)
owned_at n None = []
owned_at n (Some e) = (e.0, record { 0 = owner n e.1 }) ∷ []

-- the numbers of the methods among the first so many entries, in order of definition
abbrev pub methods_before : Entries → ℕ → List ObjectId
methods_before entries zero = []
methods_before entries (suc n) = methods_before entries n
    ++ (if is_method (object_at entries n) then record { 0 = n } ∷ [] else [])

-- the numbers of all methods; `_OSI` is none
abbrev pub methods_in : Entries → List ObjectId
methods_in entries = methods_before entries (length entries)

-- the first so many paths, in order of definition, each with the number of its object
abbrev pub owned_before : Entries → ℕ → List (Path × ObjectId)
owned_before entries zero = []
owned_before entries (suc n) = owned_before entries n ++ owned_at n (slice_get entries n)

abbrev pub owned_paths : Entries → List (Path × ObjectId)
owned_paths entries = owned_before entries (length entries)

-- How many arguments a name takes that tables declare as another's method (ACPI 6.5, 19.6.46,
-- External).
use Rattle.std.specs.Prelude.{ℕ, List, [], ◌∷◌, slice_get, Option, Some, None, option_and_then, if◌then◌else◌}
use Rattle.std.specs.Option.{option_or}
use Rattle.aml_lex.specs.Standing.{name_there}
use Rattle.aml_arities.specs.declared.external.External.{External}
use Rattle.aml_paths.specs.Scopes.{scope_number}
use Rattle.aml_paths.specs.Paths.{Path, same_path}
use Rattle.aml_paths.specs.Resolve.{spelled}

-- the path that a declaration's name spells, from the scope in which it stands; above the root is
-- none
abbrev pub declared_path : List (List ℕ) → List Path → External → Option Path
declared_path tables paths e = option_and_then
    (λ scope. option_and_then (spelled scope)
    (option_and_then (λ bytes. name_there bytes e.name.at) (slice_get tables e.name.table)))
    (slice_get paths (scope_number e.name.scope))

-- the number of arguments that the declaration of one path tells of another
abbrev pub told_under : Option Path → ℕ → Path → Option ℕ
told_under None args path = None
told_under (Some declared) args path = if same_path path declared then Some args else None

-- the number of arguments that the first declaration of a path tells
abbrev pub first_told : List (List ℕ) → List Path → List External → Path → Option ℕ
first_told tables paths [] path = None
first_told tables paths (e ∷ es) path =
    option_or (told_under (declared_path tables paths e) e.args path)
    (first_told tables paths es path)

-- What a namespace has: pairs of an absolute path and what stands under it, in order of definition
-- (ACPI 6.5, 5.3).
use Rattle.std.specs.Prelude.{ℕ, zero, suc, List, ◌∷◌, map, slice_get, Option, Some, None, option_and_then, Bool, true, false, if◌then◌else◌}
use Rattle.std.specs.Option.{option_map}
use Rattle.aml_objects.specs.declared.object.Entry.{Entry}
use Rattle.aml_objects.specs.declared.object.Entry.TheVariants.{Own, Alias}
use Rattle.aml_objects.specs.declared.object.Object.{Object}
use Rattle.aml_objects.specs.declared.object.Object.TheVariants as object
use Rattle.aml_paths.specs.Paths.{Path, root, path_number}

abbrev pub Entries : Type 0
Entries = List (Path × Entry)

-- the paths that stand: the root's, and those of the entries
abbrev pub paths_in : Entries → List Path
paths_in entries = root ∷ map (λ (e : Path × Entry). e.0) entries

-- the number of a path among them: the root's is 0
abbrev pub number_of : Entries → Path → Option ℕ
number_of entries path = path_number (paths_in entries) path

-- the entries by their numbers, which count them from 0, and their paths
abbrev pub entry_numbered : Entries → ℕ → Option Entry
entry_numbered entries i = option_map (λ (e : Path × Entry). e.1) (slice_get entries i)

abbrev pub path_numbered : Entries → ℕ → Option Path
path_numbered entries i = option_map (λ (e : Path × Entry). e.0) (slice_get entries i)

abbrev pub own_object : Entry → Option Object
own_object (Own o) = Some o
own_object (Alias id) = None

-- the object with a number, which counts the entries
abbrev pub object_at : Entries → ℕ → Option Object
object_at entries i = option_and_then (λ (e : Path × Entry). own_object e.1) (slice_get entries i)

-- the number of an entry's object: an alias has that of another path
abbrev pub owner : ℕ → Entry → ℕ
owner i (Own o) = i
owner i (Alias id) = id.0

-- the number of the object whose path has a number; the root has none
abbrev pub object_number : Entries → ℕ → Option ℕ
object_number entries zero = None
object_number entries (suc i) = option_map (λ (e : Path × Entry). owner i e.1) (slice_get entries i)

-- whether definitions may stand within an object
abbrev pub holds_names : Object → Bool
holds_names object.Scope = true
holds_names object.Device = true
holds_names object.Processor = true
holds_names object.PowerResource = true
holds_names object.ThermalZone = true
holds_names o = false

-- the number of the path that an object with a number opens, where it holds names
abbrev pub opened_by : ℕ → Option Object → Option ℕ
opened_by i None = None
opened_by i (Some o) = if holds_names o then Some (suc i) else None

-- the number of the path in which the definitions stand that are made under the path with a number:
-- the root's, or the first one of an object that holds names
abbrev pub scope_opened : Entries → ℕ → Option ℕ
scope_opened entries zero = Some 0
scope_opened entries (suc i) =
    option_and_then (λ n. opened_by n (object_at entries n)) (object_number entries (suc i))

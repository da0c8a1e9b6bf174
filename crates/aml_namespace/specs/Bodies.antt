-- Where the bodies of methods lie.
use Rattle.std.specs.Prelude.{◌≡◌, ◌≤◌, ◌<◌, ℕ, List, [], length, slice_get, Some, unwrap_or}
use Rattle.aml_objects.specs.declared.object.Method.{Method}
use Rattle.aml_objects.specs.declared.object.Object.TheVariants as object
use Rattle.aml_objects.specs.Entries.{Entries, object_at}

-- the bytes of the table with a number
abbrev pub bytes_of : List (List ℕ) → ℕ → List ℕ
bytes_of tables n = unwrap_or (slice_get tables n) []

-- the body of each method lies within its table
abbrev pub BodiesWithin : List (List ℕ) → Entries → Type 0
BodiesWithin tables entries =
    (i : ℕ) (m : Method) → object_at entries i ≡ Some (object.Method m) → (m.table < length tables)
    × (m.body.at ≤ m.body.end) × (m.body.end ≤ length (bytes_of tables m.table))

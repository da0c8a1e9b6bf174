-- Absolute paths and their numbers (ACPI 6.5, 5.3): a path is the segments from the root on, of
-- four bytes each.
use Rattle.std.specs.Prelude.{◌≡◌, ◌≤◌, ◌-◌, ℕ, List, [], ◌++◌, length, take, slice_get, position, nat_le, nat_eq, Option, Some, None, option_and_then, Bool, if◌then◌else◌, unwrap_or}
use Rattle.std.specs.Cmp.Lexicographic.{pointwise}

abbrev pub Path : Type 0
Path = List (List ℕ)

abbrev pub root : Path
root = []

abbrev pub same_path : Path → Path → Bool
same_path = pointwise (pointwise nat_eq)

-- the path with a number
abbrev pub path_at : List Path → ℕ → Path
path_at paths n = unwrap_or (slice_get paths n) root

-- the number of a path among some
abbrev pub path_number : List Path → Path → Option ℕ
path_number paths path = position (same_path path) paths

-- the number of the path of these segments below the path with a number
abbrev pub number_below : List Path → ℕ → List (List ℕ) → Option ℕ
number_below paths at segments =
    option_and_then (λ path. path_number paths (path ++ segments)) (slice_get paths at)

-- a path without its last segments, as `^` goes up; nothing is above the root
abbrev pub path_above : ℕ → Path → Option Path
path_above carets path =
    if nat_le carets (length path) then Some (take (length path - carets) path) else None

-- the number of the path so many segments above the path with a number
abbrev pub number_above : List Path → ℕ → ℕ → Option ℕ
number_above paths at carets =
    option_and_then (path_number paths) (option_and_then (path_above carets) (slice_get paths at))

-- no path stands twice
abbrev pub AreDistinct : List Path → Type 0
AreDistinct paths =
    (i : ℕ) (path : Path) → slice_get paths i ≡ Some path → path_number paths path ≡ Some i

-- with a path stands each that begins it
abbrev pub AreClosed : List Path → Type 0
AreClosed paths = (i : ℕ) (path : Path) (n : ℕ) → slice_get paths i ≡ Some path → n ≤ length path →
    (j : ℕ) × (j ≤ i) × (slice_get paths j ≡ Some (take n path))

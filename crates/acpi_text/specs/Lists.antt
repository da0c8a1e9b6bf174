-- What a listing leaves in its writer.
use Rattle.std.specs.Prelude.{◌≡◌, ℕ, List, ◌++◌, Option, Result, Ok, Err}
use Rattle.std.specs.Io.KnownBytes.{Appends}

-- at Ok the text was appended to the bytes that the writer holds, at Err a beginning of it
abbrev pub Lists : {V E : Type 0} → Result V E → Option (List ℕ) → Option (List ℕ) → List ℕ → Type 0
Lists (Ok _) old new text = Appends old new text
Lists (Err _) old new text =
    (front : List ℕ) × (rest : List ℕ) × (text ≡ front ++ rest) × Appends old new front

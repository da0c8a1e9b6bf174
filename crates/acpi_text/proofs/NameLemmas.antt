-- Laws of lines that are printed one after the other.
use Rattle.std.proofs.Common.{◌≡◌, ◌+◌, ◌<◌, ℕ, zero, suc, List, [], ◌∷◌, ◌++◌, Some, slice_get, get_or, length, drop, refl, sym, ◌∙◌, ap, add-one, drop-cons, arith}
use Rattle.std.specs.List.{flat_map}
use Rattle.aml_paths.proofs.Positions.{drop_from}

-- some element has each place in a list
pub element_there : {X : Type 0} (xs : List X) (i : ℕ) → i < length xs → (x : X) × (slice_get xs i ≡ Some x)
element_there [] i within = absurd (omega arith)
element_there (x ∷ xs) zero within = (x, refl)
element_there (x ∷ xs) (suc i) within = element_there xs i (omega arith)

-- the text of the elements that are left begins with that of the next
pub next_text : {X : Type 0} (text : X → List ℕ) (xs : List X) (i : ℕ) (x : X) → slice_get xs i ≡ Some x
    → flat_map text (drop i xs) ≡ text x ++ flat_map text (drop (i + 1) xs)
next_text text xs i x there = ap (flat_map text) (drop_from xs i x there)

-- the same of an element that is there
pub next_item : {X : Type 0} (text : X → List ℕ) (xs : List X) (i : ℕ) (d : X) → i < length xs
    → flat_map text (drop i xs) ≡ text (get_or xs i d) ++ flat_map text (drop (i + 1) xs)
next_item text xs i d within = rw add-one (ap (flat_map text) (drop-cons xs i d within))

-- and of one that is held apart
pub next_held : {X : Type 0} (text : X → List ℕ) (xs : List X) (i : ℕ) (x : X) → i < length xs → x ≡ get_or xs i x
    → flat_map text (drop i xs) ≡ text x ++ flat_map text (drop (i + 1) xs)
next_held text xs i x within is = next_item text xs i x within ∙ ap (λ e. text e ++ flat_map text (drop (i + 1) xs)) (sym is)

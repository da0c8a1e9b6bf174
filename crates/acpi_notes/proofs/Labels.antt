-- How files are called.
use Rattle.std.proofs.Common.{◌≡◌, ◌<◌, ◌≤◌, ℕ, List, ◌++◌, Bool, true, false, Some, None, Result, Bor, map, length, get_or, slice_get, refl, sym, ap, ◌∙◌}
use Rattle.std.specs.Prelude.{IfOk, codes, decimal, if◌then◌else◌}
use Rattle.std.specs.Bool.{Decides}
use Rattle.std.specs.Option.{option_map}
use Rattle.std.specs.Str.{bytes_eq}
use Rattle.std.proofs.lemmas.Option.{slice_get-get_or, slice_get-map, slice_get_past}
use Rattle.std.proofs.lemmas.Slice.Eq.{bytes_eq-Decides}
use Rattle.acpi_notes.specs.Label.{label_of, line_label}

-- a name that is handed in stands at its number
pub name_there : (names : List (Bor (List ℕ))) (k : ℕ) (name : Bor (List ℕ)) → k < length names → name ≡ get_or names k name
    → slice_get (map (λ (n : Bor (List ℕ)). n.now) names) k ≡ Some name.now
name_there names k name within is =
    slice_get-map (λ (n : Bor (List ℕ)). n.now) names k
    ∙ ap (option_map (λ (n : Bor (List ℕ)). n.now)) (slice_get-get_or names k name within ∙ ap (λ n. Some n) (sym is))

-- no name stands behind the last
pub name_past : (names : List (Bor (List ℕ))) (k : ℕ) → length names ≤ k
    → slice_get (map (λ (n : Bor (List ℕ)). n.now) names) k ≡ None
name_past names k past =
    slice_get-map (λ (n : Bor (List ℕ)). n.now) names k
    ∙ ap (option_map (λ (n : Bor (List ℕ)). n.now)) (slice_get_past names k past)

-- how a file is called whose name is handed in
pub named_label : {T E : Type 0} (bytes : T → List ℕ) (r : Result T E) (names : List (List ℕ)) (k : ℕ) (name : List ℕ)
    → slice_get names k ≡ Some name
    → (name ≡ codes "@" → IfOk r (λ label. bytes label ≡ line_label k))
    → ((name ≡ codes "@" → ⊥) → IfOk r (λ label. bytes label ≡ name))
    → IfOk r (λ label. bytes label ≡ label_of names k)
unfolding label_of
named_label bytes r names k name there line named =
    rw there (chosen (bytes_eq name (codes "@")) (bytes_eq-Decides name (codes "@")))
  where
    chosen : (b : Bool) → Decides b (name ≡ codes "@") → IfOk r (λ label. bytes label ≡ if b then line_label k else name)
    chosen true d = line (d.0 refl)
    chosen false d = named (λ e. absurd (cc (d.1 e)))

-- and one whose name is not
pub numbered_label : (names : List (List ℕ)) (k : ℕ) → slice_get names k ≡ None → codes "file " ++ decimal k ≡ label_of names k
unfolding label_of
numbered_label names k there = rw there refl

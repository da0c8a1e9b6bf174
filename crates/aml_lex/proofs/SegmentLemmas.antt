-- Bytes cut into segments.
use Rattle.std.proofs.Common.{◌≡◌, ℕ, zero, suc, ◌+◌, ◌*◌, ◌/◌, ◌<◌, List, [], ◌∷◌, length, get_or, refl, arith, Some}
use Rattle.std.specs.List.{slice_get}
use Rattle.aml_lex.specs.NameStrings.{segments_of}

pub segments_length : (bytes : List ℕ) → length (segments_of bytes) ≡ length bytes / 4
segments_length [] = refl
segments_length (a ∷ []) = refl
segments_length (a ∷ b ∷ []) = refl
segments_length (a ∷ b ∷ c ∷ []) = refl
segments_length (a ∷ b ∷ c ∷ d ∷ more) = omega (arith, segments_length more)

-- the segment with a number is the four bytes at four times that
pub segments_at : (bytes : List ℕ) (i : ℕ) → i < length (segments_of bytes) → slice_get (segments_of bytes) i ≡ Some (get_or bytes (4 * i) 0 ∷ get_or bytes (4 * i + 1) 0 ∷ get_or bytes (4 * i + 2) 0 ∷ get_or bytes (4 * i + 3) 0 ∷ [])
segments_at [] i lt = absurd (omega arith)
segments_at (a ∷ []) i lt = absurd (omega arith)
segments_at (a ∷ b ∷ []) i lt = absurd (omega arith)
segments_at (a ∷ b ∷ c ∷ []) i lt = absurd (omega arith)
segments_at (a ∷ b ∷ c ∷ d ∷ more) zero lt = refl
segments_at (a ∷ b ∷ c ∷ d ∷ more) (suc i) lt =
    let n : i < length (segments_of more) = omega arith in
    let e0 : 4 * suc i ≡ suc (suc (suc (suc (4 * i)))) = omega arith in
    let e1 : 4 * suc i + 1 ≡ suc (suc (suc (suc (4 * i + 1)))) = omega arith in
    let e2 : 4 * suc i + 2 ≡ suc (suc (suc (suc (4 * i + 2)))) = omega arith in
    let e3 : 4 * suc i + 3 ≡ suc (suc (suc (suc (4 * i + 3)))) = omega arith in
    rw (e1, e2, e3, e0) (segments_at more i n)

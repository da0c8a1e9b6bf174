-- Numbers of four bytes, read one by one.
use Rattle.std.proofs.Common.{◌≡◌, ap, sym, ◌∙◌, ℕ, suc, ◌+◌, ◌-◌, ◌*◌, ◌<◌, ◌≤◌, List, [], ◌∷◌, ◌++◌, length, drop, arith}
use Rattle.std.proofs.lemmas.List.{append_assoc, drop-drop, length-append}
use Rattle.acpi_tables.specs.Bytes.{number_at}
use Rattle.acpi_resources.specs.Items.{interrupts}

-- one number more is read
pub numbers_on :
    (bytes : List ℕ) (count : ℕ) (front : List ℕ) → length front < count →
    front ++ interrupts (count - length front) (drop (4 * length front) bytes) ≡ interrupts count bytes →
    (length (front ++ number_at 0 4 (drop (4 * length front) bytes) ∷ []) ≤ count)
    × ((front ++ number_at 0 4 (drop (4 * length front) bytes) ∷ [])
    ++ interrupts (count - length (front ++ number_at 0 4 (drop (4 * length front) bytes) ∷ [])) (drop (4 * length (front ++ number_at 0 4 (drop (4 * length front) bytes) ∷ [])) bytes)
    ≡ interrupts count bytes)
numbers_on bytes count front l done =
    let number : ℕ = number_at 0 4 (drop (4 * length front) bytes) in
    let longer : length (front ++ number ∷ []) ≡ length front + 1 = length-append front (number ∷ []) in
    let left : count - length front ≡ suc (count - (length front + 1)) = omega (arith, l) in
    let place : 4 * length front + 4 ≡ 4 * (length front + 1) = omega arith in
    let rest : List ℕ = interrupts (count - (length front + 1)) (drop (4 * (length front + 1)) bytes) in
    let next : interrupts (count - length front) (drop (4 * length front) bytes) ≡ number ∷ rest =
    ap (λ n. interrupts n (drop (4 * length front) bytes)) left
    ∙ ap (λ xs. number ∷ interrupts (count - (length front + 1)) xs) (drop-drop 4 (4 * length front) bytes ∙ ap (λ n. drop n bytes) place) in
    rw longer (omega (arith, l), append_assoc front (number ∷ []) rest ∙ sym (ap (λ xs. front ++ xs) next) ∙ done)

-- The addresses of an XSDT, place by place and one by one.
use Rattle.std.proofs.Common.{◌≡◌, ◌+◌, ◌*◌, ◌/◌, ◌<◌, ◌≤◌, ℕ, zero, suc, List, [], ◌∷◌, length, map, drop, slice_get, Some, None, arith, refl, sym, ◌∙◌, ap, length-drop}
use Rattle.std.specs.List.{range_with_len}
use Rattle.byteorder.specs.Endian.{little_number}
use Rattle.std.proofs.lemmas.List.{drop-drop}
use Rattle.std.proofs.lemmas.Option.{slice_get-get_or, slice_get_past}
use Rattle.std.proofs.lemmas.List.FromFn.{length-map-range_with_len, get_or-map-range_with_len}
use Rattle.acpi_tables.specs.Bytes.{number_at}
use Rattle.acpi_tables.specs.Xsdt.{addresses}

-- an address for each 8 bytes
pub length-addresses : (bytes : List ℕ) → length (addresses bytes) ≡ length bytes / 8
length-addresses bytes = length-map-range_with_len (λ i. number_at (8 * i) 8 bytes) 0 (length bytes / 8)

-- the i-th stands at 8 * i
pub address_within : (bytes : List ℕ) (i : ℕ) → i < length bytes / 8 → slice_get (addresses bytes) i ≡ Some (number_at (8 * i) 8 bytes)
address_within bytes i h =
    let e = length-addresses bytes in
    slice_get-get_or (addresses bytes) i 0 (omega arith)
    ∙ ap (λ x. Some x) (get_or-map-range_with_len (λ i. number_at (8 * i) 8 bytes) 0 (length bytes / 8) i i 0 h (omega arith))

-- there is none behind the last
pub address_past : (bytes : List ℕ) (i : ℕ) → length bytes / 8 ≤ i → slice_get (addresses bytes) i ≡ None
address_past bytes i h = let e = length-addresses bytes in slice_get_past (addresses bytes) i (omega arith)

-- eight bytes further stands the next address
next_address : (bytes : List ℕ) (i : ℕ) → number_at (8 * (i + 1)) 8 bytes ≡ number_at (8 * i) 8 (drop 8 bytes)
next_address bytes i =
    let place : 8 * (i + 1) ≡ 8 + 8 * i = omega arith in
    ap (λ at. little_number 8 (drop at bytes)) place ∙ ap (little_number 8) (sym (drop-drop (8 * i) 8 bytes))

-- so the addresses from the second on are those of the bytes behind the first
behind_first : (bytes : List ℕ) (a n : ℕ)
    → map (λ i. number_at (8 * i) 8 bytes) (range_with_len (a + 1) n) ≡ map (λ i. number_at (8 * i) 8 (drop 8 bytes)) (range_with_len a n)
behind_first bytes a zero = refl
behind_first bytes a (suc n) =
    ap (λ x. x ∷ map (λ i. number_at (8 * i) 8 bytes) (range_with_len (a + 1 + 1) n)) (next_address bytes a)
    ∙ ap (λ xs. number_at (8 * a) 8 (drop 8 bytes) ∷ xs) (behind_first bytes (a + 1) n)

-- below 8 bytes there is none
pub no_address : (bytes : List ℕ) → length bytes < 8 → addresses bytes ≡ []
no_address bytes h =
    let none : length bytes / 8 ≡ 0 = omega arith in
    ap (λ n. map (λ i. number_at (8 * i) 8 bytes) (range_with_len 0 n)) none

-- else the first stands at the front
pub first_address : (bytes : List ℕ) → 8 ≤ length bytes → addresses bytes ≡ number_at 0 8 bytes ∷ addresses (drop 8 bytes)
first_address bytes h =
    let l = length-drop 8 bytes in
    let more : length bytes / 8 ≡ suc (length (drop 8 bytes) / 8) = omega arith in
    ap (λ n. map (λ i. number_at (8 * i) 8 bytes) (range_with_len 0 n)) more
    ∙ ap (λ xs. number_at 0 8 bytes ∷ xs) (behind_first bytes 0 (length (drop 8 bytes) / 8))

pub ruleset addresses_of = (length-addresses, address_within, address_past, no_address, first_address)

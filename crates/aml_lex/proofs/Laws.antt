-- Where what is read ends, and where its faults stand: what a crate above needs of the definitions alone.
use Rattle.std.proofs.Common.{◌≡◌, ℕ, zero, suc, ◌+◌, ◌/◌, ◌<◌, ◌≤◌, List, [], ◌∷◌, length, take, drop, refl, arith, length-drop, Result, Ok, Err, Option, Some, None, Bool, true, false, cond}
use Rattle.std.specs.Prelude.{nat_lt, ◌==◌}
use Rattle.std.proofs.lemmas.Bool.{ltb-false}
use Rattle.aml_lex.specs.declared.fault.LexCause.{LexCause}
use Rattle.aml_lex.specs.declared.fault.LexCause.TheVariants.{BadName, BadPkgLength, BadString, Overrun}
use Rattle.aml_lex.specs.declared.fault.LexFault.{LexFault}
use Rattle.aml_lex.specs.Bounds.{EndsWithin, EndsWithinIfAny, FaultsWithin, PackageWithin}
use Rattle.aml_lex.specs.Numbers.{little, pkg_value}
use Rattle.aml_lex.specs.Read.{Read, Found, Ends, Wrong, behind, then_read, tested_read, bytes_read, fault_of, placed}
use Rattle.aml_lex.specs.Reading.{pkg_length_read, pkg_length_at, package_of, package_end_at, seg_tests, seg_read, segs_read, counted_read, path_read, named, carets, relative_read, name_string_read, name_string_at, integer_read, integer_placed, integer_data_at, string_read, string_data_at}

-- what is found is at least so long and lies within the bytes, and a wrong byte is one of them
abbrev pub IsWithin : {V : Type 0} → ℕ → List ℕ → Read V → Type 0
IsWithin least bytes (Found value len) = (least ≤ len) × (len ≤ length bytes)
IsWithin least bytes Ends = Unit {0}
IsWithin least bytes (Wrong place) = place < length bytes

within_less : {V : Type 0} (least less : ℕ) (bytes : List ℕ) (r : Read V) → less ≤ least → IsWithin least bytes r → IsWithin less bytes r
within_less least less bytes (Found value len) le h = (omega (arith, h.0), h.1)
within_less least less bytes Ends le h = tt
within_less least less bytes (Wrong place) le h = h

within_behind : {V W : Type 0} (least len : ℕ) (f : V → W) (bytes : List ℕ) (r : Read V) → len ≤ length bytes → IsWithin least (drop len bytes) r → IsWithin (len + least) bytes (behind len f r)
within_behind least len f bytes (Found value more) le h = (omega (arith, h.0), omega (arith, h.1, length-drop len bytes))
within_behind least len f bytes Ends le h = tt
within_behind least len f bytes (Wrong place) le h = omega (arith, h, length-drop len bytes)

within_test : {V : Type 0} (v : Bool) (least : ℕ) (bytes : List ℕ) (r s : Read V) → IsWithin least bytes r → IsWithin least bytes s → IsWithin least bytes (cond v r s)
within_test true least bytes r s h k = h
within_test false least bytes r s h k = k

within_then : {V W : Type 0} (least : ℕ) (bytes : List ℕ) (r : Read V) (next : V → List ℕ → Read W) → IsWithin least bytes r → ((value : V) (rest : List ℕ) → IsWithin 0 rest (next value rest)) → IsWithin least bytes (then_read r next bytes)
within_then least bytes (Found value len) next h k =
    within_less (len + 0) least bytes (behind len (λ w. w) (next value (drop len bytes))) (omega (arith, h.0)) (within_behind 0 len (λ w. w) bytes (next value (drop len bytes)) h.1 (k value (drop len bytes)))
within_then least bytes Ends next h k = tt
within_then least bytes (Wrong place) next h k = h

tested_within : (tests : List (ℕ → Bool)) (bytes : List ℕ) → IsWithin (length tests) bytes (tested_read tests bytes)
tested_within [] bytes = (omega arith, omega arith)
tested_within (test ∷ tests) [] = tt
tested_within (test ∷ tests) (b ∷ bytes) =
    within_test (test b) (suc (length tests)) (b ∷ bytes) (behind 1 (λ front. b ∷ front) (tested_read tests bytes)) (Wrong 0)
    (within_less (1 + length tests) (suc (length tests)) (b ∷ bytes) (behind 1 (λ front. b ∷ front) (tested_read tests bytes)) (omega arith)
    (within_behind (length tests) 1 (λ front. b ∷ front) (b ∷ bytes) (tested_read tests bytes) (omega arith) (tested_within tests bytes)))
    (omega arith)

seg_first : (n : ℕ) (bytes : List ℕ) → ((seg rest : List ℕ) → IsWithin 0 rest (behind 0 (λ segs. seg ∷ segs) (segs_read n rest))) → IsWithin 4 bytes (segs_read (suc n) bytes)
seg_first n bytes h = within_then 4 bytes (seg_read bytes) (λ seg rest. behind 0 (λ segs. seg ∷ segs) (segs_read n rest)) (tested_within seg_tests bytes) h

segs_within : (n : ℕ) (bytes : List ℕ) → IsWithin 0 bytes (segs_read n bytes)
segs_within zero bytes = (omega arith, omega arith)
segs_within (suc n) bytes =
    within_less 4 0 bytes (segs_read (suc n) bytes) (omega arith) (seg_first n bytes (λ seg rest. within_behind 0 0 (λ segs. seg ∷ segs) rest (segs_read n rest) (omega arith) (segs_within n rest)))

-- a row of segments that isn't empty
some_segs_within : (n : ℕ) (bytes : List ℕ) → IsWithin 4 bytes (segs_read (suc n) bytes)
some_segs_within n bytes = seg_first n bytes (λ seg rest. within_behind 0 0 (λ segs. seg ∷ segs) rest (segs_read n rest) (omega arith) (segs_within n rest))

-- one byte, and something behind it
within_one : {V W : Type 0} (f : V → W) (b : ℕ) (bytes : List ℕ) (r : Read V) → IsWithin 0 bytes r → IsWithin 1 (b ∷ bytes) (behind 1 f r)
within_one f b bytes r h = within_behind 0 1 f (b ∷ bytes) r (omega arith) h

counted_within : (bytes : List ℕ) → IsWithin 1 bytes (counted_read bytes)
counted_within [] = tt
counted_within (count ∷ more) =
    within_test (count == 0) 1 (count ∷ more) (Wrong 0) (behind 1 (λ segs. segs) (segs_read count more)) (omega arith)
    (within_one (λ segs. segs) count more (segs_read count more) (segs_within count more))

path_within : (bytes : List ℕ) → IsWithin 1 bytes (path_read bytes)
path_within [] = tt
path_within (b ∷ more) =
    within_test (b == 0x00) 1 (b ∷ more) _ _ (omega arith, omega arith)
    (within_test (b == 0x2E) 1 (b ∷ more) _ _ (within_one (λ segs. segs) b more (segs_read 2 more) (segs_within 2 more))
    (within_test (b == 0x2F) 1 (b ∷ more) _ _ (within_one (λ segs. segs) b more (counted_read more) (within_less 1 0 more (counted_read more) (omega arith) (counted_within more)))
    (within_less 4 1 (b ∷ more) (segs_read 1 (b ∷ more)) (omega arith) (some_segs_within 0 (b ∷ more)))))

carets_within : (bytes : List ℕ) → carets bytes ≤ length bytes
carets_within [] = omega arith
carets_within (b ∷ more) = at_test (b == 0x5E) (carets_within more)
  where
    at_test : (v : Bool) → carets more ≤ length more → cond v (carets more + 1) 0 ≤ suc (length more)
    at_test true h = omega arith
    at_test false h = omega arith

relative_within : (bytes : List ℕ) → IsWithin 1 bytes (relative_read bytes)
relative_within bytes =
    within_less (carets bytes + 1) 1 bytes (relative_read bytes) (omega arith)
    (within_behind 1 (carets bytes) (named false (carets bytes)) bytes (path_read (drop (carets bytes) bytes)) (carets_within bytes) (path_within (drop (carets bytes) bytes)))

name_string_within : (bytes : List ℕ) → IsWithin 1 bytes (name_string_read bytes)
name_string_within [] = relative_within []
name_string_within (b ∷ more) =
    within_test (b == 0x5C) 1 (b ∷ more) (behind 1 (named true 0) (path_read more)) (relative_read (b ∷ more))
    (within_one (named true 0) b more (path_read more) (within_less 1 0 more (path_read more) (omega arith) (path_within more)))
    (relative_within (b ∷ more))

-- so many bytes
bytes_within : (size : ℕ) (bytes : List ℕ) → IsWithin 0 bytes (bytes_read size bytes)
bytes_within size bytes = at_test (nat_lt (length bytes) size) refl
  where
    at_test : (v : Bool) → nat_lt (length bytes) size ≡ v → IsWithin 0 bytes (cond v Ends (Found (take size bytes) size))
    at_test true e = tt
    at_test false e = let le : size ≤ length bytes = ltb-false _ _ e in (omega arith, le)

pkg_length_within : (bytes : List ℕ) → IsWithin 1 bytes (pkg_length_read bytes)
pkg_length_within [] = tt
pkg_length_within (lead ∷ more) = within_one (λ front. pkg_value lead front) lead more (bytes_read (lead / 64) more) (bytes_within (lead / 64) more)

integer_within : (bytes : List ℕ) → IsWithin 1 bytes (integer_read bytes)
integer_within [] = tt
integer_within (b ∷ more) =
    within_test (b == 0x00) 1 (b ∷ more) _ _ (omega arith, omega arith)
    (within_test (b == 0x01) 1 (b ∷ more) _ _ (omega arith, omega arith)
    (within_test (b == 0x0A) 1 (b ∷ more) _ _ (within_one little b more (bytes_read 1 more) (bytes_within 1 more))
    (within_test (b == 0x0B) 1 (b ∷ more) _ _ (within_one little b more (bytes_read 2 more) (bytes_within 2 more))
    (within_test (b == 0x0C) 1 (b ∷ more) _ _ (within_one little b more (bytes_read 4 more) (bytes_within 4 more))
    (within_test (b == 0x0E) 1 (b ∷ more) _ _ (within_one little b more (bytes_read 8 more) (bytes_within 8 more))
    (within_test (b == 0xFF) 1 (b ∷ more) _ _ (omega arith, omega arith) (omega arith)))))))

string_within : (bytes : List ℕ) → IsWithin 1 bytes (string_read bytes)
string_within [] = tt
string_within (b ∷ more) =
    within_test (b == 0x00) 1 (b ∷ more) _ _ (omega arith, omega arith)
    (within_test (nat_lt 0x7F b) 1 (b ∷ more) (Wrong 0) (behind 1 (λ text. b ∷ text) (string_read more)) (omega arith)
    (within_one (λ text. b ∷ text) b more (string_read more) (within_less 1 0 more (string_read more) (omega arith) (string_within more))))

-- the same at a place
abbrev IsPlaced : {V : Type 0} → ℕ → ℕ → Result (V × ℕ) LexFault → Type 0
IsPlaced at end (Ok r) = (at < r.1) × (r.1 ≤ end)
IsPlaced at end (Err fault) = fault.at ≤ end

placed_within : {V : Type 0} (cause : LexCause) (bytes : List ℕ) (at : ℕ) (r : Read V) → IsWithin 1 (drop at bytes) r → IsPlaced at (length bytes) (placed cause at (length bytes) r)
placed_within cause bytes at (Found value len) h = (omega (arith, h.0), omega (arith, h.0, h.1, length-drop at bytes))
placed_within cause bytes at Ends h = omega arith
placed_within cause bytes at (Wrong place) h = omega (arith, h, length-drop at bytes)

placed_ok : {V : Type 0} (at end : ℕ) (result : Result (V × ℕ) LexFault) (r : V × ℕ) → IsPlaced at end result → result ≡ Ok r → (at < r.1) × (r.1 ≤ end)
placed_ok at end result r h e = rw e at h

placed_err : {V : Type 0} (at end : ℕ) (result : Result (V × ℕ) LexFault) (fault : LexFault) → IsPlaced at end result → result ≡ Err fault → fault.at ≤ end
placed_err at end result fault h e = rw e at h

pkg_length_placed : (bytes : List ℕ) (at : ℕ) → IsPlaced at (length bytes) (pkg_length_at bytes at)
unfolding pkg_length_at
pkg_length_placed bytes at = placed_within BadPkgLength bytes at (pkg_length_read (drop at bytes)) (pkg_length_within (drop at bytes))

pub pkg_length_ends : EndsWithin pkg_length_at
pkg_length_ends bytes at r e = placed_ok at (length bytes) (pkg_length_at bytes at) r (pkg_length_placed bytes at) e

pub pkg_length_fault : FaultsWithin pkg_length_at
pkg_length_fault bytes at fault e = placed_err at (length bytes) (pkg_length_at bytes at) fault (pkg_length_placed bytes at) e

name_string_placed : (bytes : List ℕ) (at : ℕ) → IsPlaced at (length bytes) (name_string_at bytes at)
unfolding name_string_at
name_string_placed bytes at = placed_within BadName bytes at (name_string_read (drop at bytes)) (name_string_within (drop at bytes))

pub name_string_ends : EndsWithin name_string_at
name_string_ends bytes at r e = placed_ok at (length bytes) (name_string_at bytes at) r (name_string_placed bytes at) e

pub name_string_fault : FaultsWithin name_string_at
name_string_fault bytes at fault e = placed_err at (length bytes) (name_string_at bytes at) fault (name_string_placed bytes at) e

string_data_placed : (bytes : List ℕ) (at : ℕ) → IsPlaced at (length bytes) (string_data_at bytes at)
unfolding string_data_at
string_data_placed bytes at = placed_within BadString bytes at (string_read (drop at bytes)) (string_within (drop at bytes))

pub string_data_ends : EndsWithin string_data_at
string_data_ends bytes at r e = placed_ok at (length bytes) (string_data_at bytes at) r (string_data_placed bytes at) e

pub string_data_fault : FaultsWithin string_data_at
string_data_fault bytes at fault e = placed_err at (length bytes) (string_data_at bytes at) fault (string_data_placed bytes at) e

-- integer data, where there may be none
abbrev IsPlacedIfAny : ℕ → ℕ → Result (Option (ℕ × ℕ)) LexFault → Type 0
IsPlacedIfAny at end (Ok (Some r)) = (at < r.1) × (r.1 ≤ end)
IsPlacedIfAny at end (Ok None) = Unit {0}
IsPlacedIfAny at end (Err fault) = fault.at ≤ end

integer_placed_within : (bytes : List ℕ) (at : ℕ) (r : Read ℕ) → IsWithin 1 (drop at bytes) r → IsPlacedIfAny at (length bytes) (integer_placed at (length bytes) r)
integer_placed_within bytes at (Found value len) h = (omega (arith, h.0), omega (arith, h.0, h.1, length-drop at bytes))
integer_placed_within bytes at Ends h = omega arith
integer_placed_within bytes at (Wrong place) h = tt

integer_data_placed : (bytes : List ℕ) (at : ℕ) → IsPlacedIfAny at (length bytes) (integer_data_at bytes at)
unfolding integer_data_at
integer_data_placed bytes at = integer_placed_within bytes at (integer_read (drop at bytes)) (integer_within (drop at bytes))

pub integer_data_ends : EndsWithinIfAny integer_data_at
integer_data_ends bytes at r e = rw e at (integer_data_placed bytes at)

pub integer_data_fault : FaultsWithin integer_data_at
integer_data_fault bytes at fault e = rw e at (integer_data_placed bytes at)

-- packages
abbrev IsPackagePlaced : ℕ → ℕ → Result (ℕ × ℕ) LexFault → Type 0
IsPackagePlaced at end (Ok r) = (at < r.1) × (r.1 ≤ r.0) × (r.0 ≤ end)
IsPackagePlaced at end (Err fault) = fault.at ≤ end

package_placed : (at end : ℕ) (result : Result (ℕ × ℕ) LexFault) → IsPlaced at end result → IsPackagePlaced at end (package_of at end result)
package_placed at end (Err fault) h = h
package_placed at end (Ok (value, next)) h = own (nat_lt (at + value) next) refl
  where
    past : (v : Bool) → nat_lt end (at + value) ≡ v → next ≤ at + value → IsPackagePlaced at end (cond v (Err (fault_of Overrun at)) (Ok (at + value, next)))
    past true e own_bytes = omega (arith, h)
    past false e own_bytes = let within : at + value ≤ end = ltb-false _ _ e in (h.0, own_bytes, within)

    own : (v : Bool) → nat_lt (at + value) next ≡ v → IsPackagePlaced at end (cond v (Err (fault_of BadPkgLength at)) (cond (nat_lt end (at + value)) (Err (fault_of Overrun at)) (Ok (at + value, next))))
    own true e = omega (arith, h)
    own false e = past (nat_lt end (at + value)) refl (ltb-false _ _ e)

package_end_placed : (bytes : List ℕ) (at : ℕ) → IsPackagePlaced at (length bytes) (package_end_at bytes at)
unfolding package_end_at
package_end_placed bytes at = package_placed at (length bytes) (pkg_length_at bytes at) (pkg_length_placed bytes at)

pub package_end_ends : PackageWithin package_end_at
package_end_ends bytes at r e = rw e at (package_end_placed bytes at)

pub package_end_fault : FaultsWithin package_end_at
package_end_fault bytes at fault e = rw e at (package_end_placed bytes at)

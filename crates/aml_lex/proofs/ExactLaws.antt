-- What the reading functions find at a place is what the spellings say.
use Rattle.std.proofs.Common.{◌≡◌, ℕ, ◌+◌, ◌-◌, ◌/◌, ◌≤◌, ◌^◌, List, [], ◌∷◌, length, take, drop, refl, sym, arith, length-drop, inl, inr, Bool, true, false, cond, Result, Ok, Err}
use Rattle.std.specs.Prelude.{nat_lt, ◌==◌}
use Rattle.std.proofs.lemmas.Bool.{ltb-true, ltb-false}
use Rattle.aml_lex.specs.declared.fault.LexCause.TheVariants.{BadPkgLength, BadName, BadString, Overrun}
use Rattle.aml_lex.specs.declared.fault.LexFault.{LexFault}
use Rattle.aml_lex.specs.Numbers.{little, pkg_value}
use Rattle.aml_lex.specs.Read.{Read, Found, Ends, Wrong, behind, bytes_read, placed, fault_of}
use Rattle.aml_lex.specs.Reading.{IsSeenAs, with_value, pkg_length_read, pkg_length_at, package_of, package_end_at, name_string_read, name_string_at, integer_read, integer_placed, integer_data_at, string_read, string_data_at}
use Rattle.aml_lex.specs.Exact.{IsRead, IsReadIfAny, Reads, ReadsPkgLength, ReadsInteger, ReadsPackage}
use Rattle.aml_lex.specs.Spelling.{SpellsPkgLength, SpellsName, SpellsInteger, SpellsString}
use Rattle.aml_lex.proofs.Readers.{IsRight, no_front, ends_at, reads, found_at}
use Rattle.aml_lex.proofs.Spelled.{pkg_length_reader, integer_reader, string_reader}
use Rattle.aml_lex.proofs.SpelledNames.{name_string_reader}

-- an answer that a definition gives, seen by the view
pub seen : {X V : Type 0} (view : X → V) (result : Result (X × ℕ) LexFault) (answer : Result (V × ℕ) LexFault) → IsSeenAs view result answer → with_value view result ≡ answer
seen view (Ok r) answer e = sym e
seen view (Err fault) answer e = sym e

pub name_string_reads : (bytes : List ℕ) (at : ℕ) → at ≤ length bytes → Reads SpellsName BadName bytes at (name_string_at bytes at)
unfolding name_string_at
name_string_reads bytes at le = reads SpellsName name_string_read name_string_reader BadName bytes at le

pub string_data_reads : (bytes : List ℕ) (at : ℕ) → at ≤ length bytes → Reads SpellsString BadString bytes at (string_data_at bytes at)
unfolding string_data_at
string_data_reads bytes at le = reads SpellsString string_read string_reader BadString bytes at le

-- no byte is wrong in a package length
abbrev IsNeverWrong : {V : Type 0} → Read V → Type 0
IsNeverWrong (Found value len) = Unit {0}
IsNeverWrong Ends = Unit {0}
IsNeverWrong (Wrong place) = ⊥

bytes_never_wrong : (lead size : ℕ) (bytes : List ℕ) (v : Bool) → IsNeverWrong (behind 1 (λ front. pkg_value lead front) (cond v Ends (Found (take size bytes) size)))
bytes_never_wrong lead size bytes true = tt
bytes_never_wrong lead size bytes false = tt

pkg_length_never_wrong : (bytes : List ℕ) → IsNeverWrong (pkg_length_read bytes)
pkg_length_never_wrong [] = tt
pkg_length_never_wrong (lead ∷ more) = bytes_never_wrong lead (lead / 64) more (nat_lt (length more) (lead / 64))

pkg_length_placed : (bytes : List ℕ) (at : ℕ) (x : Read ℕ) → at ≤ length bytes → pkg_length_read (drop at bytes) ≡ x → IsNeverWrong x → IsRight SpellsPkgLength pkg_length_read (drop at bytes) x → ReadsPkgLength bytes at (placed BadPkgLength at (length bytes) x)
pkg_length_placed bytes at (Found value len) le e n h =
    let k : at + len - at ≡ len = omega arith in
    (omega arith, omega (arith, h.0, length-drop at bytes), rw k h.1)
pkg_length_placed bytes at Ends le e n h = (no_front SpellsPkgLength pkg_length_read pkg_length_reader (drop at bytes) (λ value len f. cc), refl, h)
pkg_length_placed bytes at (Wrong place) le e n h = absurd n

pub pkg_length_reads : (bytes : List ℕ) (at : ℕ) → at ≤ length bytes → ReadsPkgLength bytes at (pkg_length_at bytes at)
unfolding pkg_length_at
pkg_length_reads bytes at le =
    pkg_length_placed bytes at (pkg_length_read (drop at bytes)) le refl (pkg_length_never_wrong (drop at bytes)) (pkg_length_reader.right (drop at bytes))

-- packages
package_placed : (bytes : List ℕ) (at : ℕ) (result : Result (ℕ × ℕ) LexFault) → ReadsPkgLength bytes at result → ReadsPackage bytes at (package_of at (length bytes) result)
package_placed bytes at (Err fault) h = inl h
package_placed bytes at (Ok (value, next)) h = own (nat_lt (at + value) next) refl
  where
    past : (v : Bool) → nat_lt (length bytes) (at + value) ≡ v → next ≤ at + value → ReadsPackage bytes at (cond v (Err (fault_of Overrun at)) (Ok (at + value, next)))
    past true e le = inr (value, next, h, inr (le, ltb-true _ _ e, refl))
    past false e le = (le, ltb-false _ _ e, (value, refl, h))

    own : (v : Bool) → nat_lt (at + value) next ≡ v → ReadsPackage bytes at (cond v (Err (fault_of BadPkgLength at)) (cond (nat_lt (length bytes) (at + value)) (Err (fault_of Overrun at)) (Ok (at + value, next))))
    own true e = inr (value, next, h, inl (ltb-true _ _ e, refl))
    own false e = past (nat_lt (length bytes) (at + value)) refl (ltb-false _ _ e)

pub package_end_reads : (bytes : List ℕ) (at : ℕ) → at ≤ length bytes → ReadsPackage bytes at (package_end_at bytes at)
unfolding package_end_at
package_end_reads bytes at le = package_placed bytes at (pkg_length_at bytes at) (pkg_length_reads bytes at le)

-- integer data can be wrong at its first byte alone
abbrev IsWrongFirst : {V : Type 0} → Read V → Type 0
IsWrongFirst (Found value len) = Unit {0}
IsWrongFirst Ends = Unit {0}
IsWrongFirst (Wrong place) = place ≡ 0

first_test : (v : Bool) (x y : Read ℕ) → IsWrongFirst x → IsWrongFirst y → IsWrongFirst (cond v x y)
first_test true x y h k = h
first_test false x y h k = k

first_bytes : (size : ℕ) (bytes : List ℕ) (v : Bool) → IsWrongFirst (behind 1 little (cond v Ends (Found (take size bytes) size)))
first_bytes size bytes true = tt
first_bytes size bytes false = tt

integer_wrong_first : (bytes : List ℕ) → IsWrongFirst (integer_read bytes)
integer_wrong_first [] = tt
integer_wrong_first (b ∷ more) =
    first_test (b == 0x00) _ _ tt (first_test (b == 0x01) _ _ tt
    (first_test (b == 0x0A) (behind 1 little (bytes_read 1 more)) _ (first_bytes 1 more (nat_lt (length more) 1))
    (first_test (b == 0x0B) (behind 1 little (bytes_read 2 more)) _ (first_bytes 2 more (nat_lt (length more) 2))
    (first_test (b == 0x0C) (behind 1 little (bytes_read 4 more)) _ (first_bytes 4 more (nat_lt (length more) 4))
    (first_test (b == 0x0E) (behind 1 little (bytes_read 8 more)) _ (first_bytes 8 more (nat_lt (length more) 8))
    (first_test (b == 0xFF) (Found (2 ^ 64 - 1) 1) (Wrong 0) tt refl))))))

integer_data_placed : (bytes : List ℕ) (at : ℕ) (x : Read ℕ) → at ≤ length bytes → integer_read (drop at bytes) ≡ x → IsWrongFirst x → IsRight SpellsInteger integer_read (drop at bytes) x → ReadsInteger bytes at (integer_placed at (length bytes) x)
integer_data_placed bytes at (Found value len) le e n h =
    let k : at + len - at ≡ len = omega arith in
    (omega arith, omega (arith, h.0, length-drop at bytes), rw k h.1)
integer_data_placed bytes at Ends le e n h = (no_front SpellsInteger integer_read integer_reader (drop at bytes) (λ value len f. cc), refl, h)
integer_data_placed bytes at (Wrong place) le e n h = (
  no_front SpellsInteger integer_read integer_reader (drop at bytes) (λ value len f. cc),
  omega (arith, h.0, length-drop at bytes),
  rw n at ((ends_at SpellsInteger integer_read integer_reader (drop at bytes) place h).2),
)

pub integer_data_reads : (bytes : List ℕ) (at : ℕ) → at ≤ length bytes → ReadsInteger bytes at (integer_data_at bytes at)
unfolding integer_data_at
integer_data_reads bytes at le =
    integer_data_placed bytes at (integer_read (drop at bytes)) le refl (integer_wrong_first (drop at bytes)) (integer_reader.right (drop at bytes))

-- where a spelling stands, it is read
pub pkg_length_full : IsRead SpellsPkgLength pkg_length_at
unfolding pkg_length_at
pkg_length_full bytes at value next s = let f = found_at SpellsPkgLength pkg_length_read pkg_length_reader bytes at value next s in rw (f.0, f.1) refl

pub name_string_full : IsRead SpellsName name_string_at
unfolding name_string_at
name_string_full bytes at value next s = let f = found_at SpellsName name_string_read name_string_reader bytes at value next s in rw (f.0, f.1) refl

pub integer_data_full : IsReadIfAny SpellsInteger integer_data_at
unfolding integer_data_at
integer_data_full bytes at value next s = let f = found_at SpellsInteger integer_read integer_reader bytes at value next s in rw (f.0, f.1) refl

pub string_data_full : IsRead SpellsString string_data_at
unfolding string_data_at
string_data_full bytes at value next s = let f = found_at SpellsString string_read string_reader bytes at value next s in rw (f.0, f.1) refl

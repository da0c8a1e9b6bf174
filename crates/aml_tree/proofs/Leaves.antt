-- Parts without parts lie within the bytes.
use Rattle.std.proofs.Common.{◌≡◌, ℕ, ◌+◌, ◌≤◌, ◌<◌, inl, inr, List, length, Option, Some, None, Result, Ok, Err, refl, arith}
use Rattle.std.specs.Prelude.{nat_lt, slice_get}
use Rattle.std.proofs.lemmas.Bool.{ltb-false}
use Rattle.std.proofs.lemmas.Option.{slice_get_cases}
use Rattle.aml_lex.specs.declared.fault.LexFault.{LexFault}
use Rattle.aml_lex.specs.Reading.{package_end_at, pkg_length_at, name_string_at, string_data_at}
use Rattle.aml_lex.proofs.Laws.{package_end_ends, pkg_length_ends, name_string_ends, string_data_ends}
use Rattle.aml_operators.specs.declared.row.NumberSize.{NumberSize}
use Rattle.aml_operators.specs.declared.row.NumberSize.TheVariants.{Byte, Word, DWord, QWord}
use Rattle.aml_operators.specs.Places.{size_of}
use Rattle.aml_tree.specs.declared.fault.Refusal.{Refusal}
use Rattle.aml_tree.specs.Fault.{refused, truncated}
use Rattle.aml_tree.specs.Leaf.{byte_or, byte_at, end_at, name_at, bits_at, text_at, little_endian_at}
use Rattle.aml_tree.specs.Answers.{Answers}
use Rattle.aml_tree.proofs.Combining.{by_test}

abbrev pub Any : Refusal → Type 0
Any f = Unit {0}

-- the bytes end before a place
abbrev pub Ended : List ℕ → ℕ → Refusal → Type 0
Ended bytes at f = (length bytes ≤ at) × (f ≡ truncated (length bytes))

past : (bytes : List ℕ) (at : ℕ) → slice_get bytes at ≡ None → length bytes ≤ at
past bytes at e = elim (slice_get_cases bytes at).1 [ inl h ↦ absurd (cc (h.2, e)) | inr h ↦ h.0 ]

by_option : (bytes : List ℕ) (at : ℕ) (o : Option ℕ) → slice_get bytes at ≡ o → Answers (byte_or (length bytes) o) (λ b. slice_get bytes at ≡ Some b) (Ended bytes at)
by_option bytes at None e = (past bytes at e, refl)
by_option bytes at (Some b) e = e

-- a byte that is read stands there
pub byte_is : (bytes : List ℕ) (at : ℕ) → Answers (byte_at bytes at) (λ b. slice_get bytes at ≡ Some b) (Ended bytes at)
unfolding byte_at
byte_is bytes at = by_option bytes at (slice_get bytes at) refl

refused_ok : {X : Type 0} (r : Result X LexFault) (P : X → Type 0) → ((x : X) → r ≡ Ok x → P x) → Answers (refused r) P Any
refused_ok (Ok x) P h = h x refl
refused_ok (Err f) P h = tt

pub end_in : (bytes : List ℕ) (at : ℕ) → at ≤ length bytes → Answers (end_at bytes at) (λ p. (at < p.1) × (p.1 ≤ p.0) × (p.0 ≤ length bytes)) Any
unfolding end_at
end_in bytes at le = refused_ok (package_end_at bytes at) _ (λ p e. package_end_ends bytes at p e)

pub name_in : (bytes : List ℕ) (at : ℕ) → at ≤ length bytes → Answers (name_at bytes at) (λ r. (at < r.1) × (r.1 ≤ length bytes)) Any
unfolding name_at
name_in bytes at le = refused_ok (name_string_at bytes at) _ (λ r e. name_string_ends bytes at r e)

pub bits_in : (bytes : List ℕ) (at : ℕ) → at ≤ length bytes → Answers (bits_at bytes at) (λ r. (at < r.1) × (r.1 ≤ length bytes)) Any
unfolding bits_at
bits_in bytes at le = refused_ok (pkg_length_at bytes at) _ (λ r e. pkg_length_ends bytes at r e)

pub text_in : (bytes : List ℕ) (at : ℕ) → at ≤ length bytes → Answers (text_at bytes at) (λ r. (at < r.1) × (r.1 ≤ length bytes)) Any
unfolding text_at
text_in bytes at le = refused_ok (string_data_at bytes at) _ (λ r e. string_data_ends bytes at r e)

some_bytes : (size : NumberSize) → 0 < size_of size
some_bytes Byte = omega arith
some_bytes Word = omega arith
some_bytes DWord = omega arith
some_bytes QWord = omega arith

pub number_in : (size : NumberSize) (bytes : List ℕ) (at : ℕ) → Answers (little_endian_at (size_of size) bytes at) (λ r. (at < r.1) × (r.1 ≤ length bytes)) Any
unfolding little_endian_at
number_in size bytes at = by_test (nat_lt (length bytes) (at + size_of size)) _ _ _ _ (λ q. tt)
    (λ q. let h : at + size_of size ≤ length bytes = ltb-false _ _ q in let w = some_bytes size in (omega arith, h))

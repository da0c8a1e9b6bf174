-- What stands at a place lies within the bytes, and what stands in a front of the bytes stands in all of them.
use Rattle.std.proofs.Common.{◌≡◌, ℕ, ◌+◌, ◌-◌, ◌<◌, ◌≤◌, List, length, take, drop, Result, Ok, Err, refl, subst, arith}
use Rattle.std.specs.Prelude.{IsSome, min}
use Rattle.std.proofs.lemmas.List.{take-take, drop-take, length-take}
use Rattle.aml_lex.specs.declared.fault.LexFault.{LexFault}
use Rattle.aml_lex.specs.declared.fault.LexCause.{LexCause}
use Rattle.aml_lex.specs.declared.fault.LexCause.TheVariants.{BadName, BadString}
use Rattle.aml_lex.specs.NameStrings.{NameString}
use Rattle.aml_lex.specs.Bounds.{EndsWithin}
use Rattle.aml_lex.specs.Reading.{name_string_at, string_data_at}
use Rattle.aml_lex.specs.Spelling.{SpellsName, SpellsString}
use Rattle.aml_lex.specs.Exact.{Stands, Reads, IsRead}
use Rattle.aml_lex.specs.Standing.{value_read, name_there}
use Rattle.aml_lex.proofs.Laws.{name_string_ends, string_data_ends}
use Rattle.aml_lex.proofs.ExactLaws.{name_string_reads, string_data_reads, name_string_full, string_data_full}

some_within : {V : Type 0} (read : List ℕ → ℕ → Result (V × ℕ) LexFault) → EndsWithin read → (bytes : List ℕ) (at : ℕ) (r : Result (V × ℕ) LexFault) → read bytes at ≡ r → IsSome (value_read r) → at < length bytes
some_within read ends bytes at (Ok r) e some = let w = ends bytes at r e in omega (arith, w)
some_within read ends bytes at (Err fault) e some = absurd cc

pub name_there_within : (bytes : List ℕ) (at : ℕ) → IsSome (name_there bytes at) → at < length bytes
name_there_within bytes at some = some_within name_string_at name_string_ends bytes at (name_string_at bytes at) refl some

-- a spelling in a front of the bytes
stands_in_all : {V : Type 0} (Spells : V → List ℕ → Type 0) (bytes : List ℕ) (end at : ℕ) (value : V) (next : ℕ) → Stands Spells (take end bytes) at value next → Stands Spells bytes at value next
stands_in_all Spells bytes end at value next s =
    let size : length (take end bytes) ≡ min end (length bytes) = length-take end bytes in
    let short : next ≤ end = omega (arith, s.1, size) in
    let whole : at + (end - at) ≡ end = omega (arith, s.0) in
    let front : drop at (take end bytes) ≡ take (end - at) (drop at bytes) = rw whole at (drop-take at (end - at) bytes) in
    let same : take (next - at) (drop at (take end bytes)) ≡ take (next - at) (drop at bytes) = rw front (take-take (next - at) (end - at) (drop at bytes) (omega arith)) in
    (s.0, omega (arith, s.1, size), rw same at s.2)

module _ {V : Type 0} (Spells : V → List ℕ → Type 0) (cause : LexCause) (read : List ℕ → ℕ → Result (V × ℕ) LexFault) (ends : EndsWithin read)
    (reads : (bytes : List ℕ) (at : ℕ) → at ≤ length bytes → Reads Spells cause bytes at (read bytes at)) (full : IsRead Spells read) where
  read_in_all : (bytes : List ℕ) (end at : ℕ) (r : V × ℕ) → read (take end bytes) at ≡ Ok r → read bytes at ≡ Ok r
  read_in_all bytes end at r e =
      let w = ends (take end bytes) at r e in
      let s : Stands Spells (take end bytes) at r.0 r.1 = subst (Reads Spells cause (take end bytes) at) e (reads (take end bytes) at (omega (arith, w))) in
      full bytes at r.0 r.1 (stands_in_all Spells bytes end at r.0 r.1 s)

-- what is read in a front of the bytes is read in all of them
pub name_in_all : (bytes : List ℕ) (end at : ℕ) (r : NameString × ℕ) → name_string_at (take end bytes) at ≡ Ok r → name_string_at bytes at ≡ Ok r
name_in_all = read_in_all SpellsName BadName name_string_at name_string_ends name_string_reads name_string_full

pub text_in_all : (bytes : List ℕ) (end at : ℕ) (r : List ℕ × ℕ) → string_data_at (take end bytes) at ≡ Ok r → string_data_at bytes at ≡ Ok r
text_in_all = read_in_all SpellsString BadString string_data_at string_data_ends string_data_reads string_data_full

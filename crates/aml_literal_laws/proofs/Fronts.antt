-- Data of a module lies in the bytes up to its end alone.
use Rattle.std.proofs.Common.{◌≡◌, ℕ, zero, suc, ◌+◌, ◌-◌, ◌<◌, ◌≤◌, inl, inr, List, [], ◌∷◌, length, take, drop, Some, Result, Ok, Err, refl, sym, subst, ap, arith, ◌∙◌}
use Rattle.std.specs.Prelude.{Bool, true, false, min, nat_lt, slice_get, slice_index, if◌then◌else◌}
use Rattle.std.proofs.lemmas.Bool.{ltb-false}
use Rattle.std.proofs.lemmas.Bool.Decides.{nat_tests}
use Rattle.std.proofs.lemmas.List.{take-take, drop-take, length-take, length-take-le}
use Rattle.byteorder.specs.Endian.{little_from, little_number}
use Rattle.aml_operators.specs.declared.op.Op.{Op}
use Rattle.aml_operators.specs.declared.op.Op.TheVariants as op
use Rattle.aml_operators.specs.declared.row.Code.TheVariants as code
use Rattle.aml_operators.specs.declared.row.NumberSize.{NumberSize}
use Rattle.aml_operators.specs.declared.row.Limit.TheVariants as limit
use Rattle.aml_operators.specs.declared.row.NumberSize.TheVariants.{Byte, Word, DWord, QWord}
use Rattle.aml_operators.specs.declared.row.Piece.TheVariants as piece
use Rattle.aml_operators.specs.declared.row.Letter.{Letter}
use Rattle.aml_operators.specs.declared.row.Letter.TheVariants.{One, Sized, Package, Terms, Bytes}
use Rattle.aml_operators.specs.declared.row.Ruling.TheVariants as ruled
use Rattle.aml_operators.specs.declared.row.Spot.{Spot}
use Rattle.aml_operators.specs.declared.row.Spot.TheVariants as spot
use Rattle.aml_operators.specs.Places.{ruling, size_of}
use Rattle.aml_operators.specs.Table.{class_of, letters_of}
use Rattle.aml_operators.specs.Tree.{Tree, stop_of}
use Rattle.aml_lex.specs.declared.fault.LexCause.TheVariants.{BadString}
use Rattle.aml_lex.specs.declared.fault.LexFault.{LexFault}
use Rattle.aml_lex.specs.Exact.{Reads, ReadsPkgLength, Stands}
use Rattle.aml_lex.specs.Reading.{package_end_at, package_of, pkg_length_at, string_data_at}
use Rattle.aml_lex.specs.Spelling.{SpellsPkgLength, SpellsString}
use Rattle.aml_lex.proofs.ExactLaws.{pkg_length_full, pkg_length_reads, string_data_full, string_data_reads}
use Rattle.aml_lex.proofs.Laws.{package_end_ends, pkg_length_ends, string_data_ends}
use Rattle.aml_tree.proofs.Beginnings.{begins_in}
use Rattle.aml_tree.proofs.Bounds.{parts_in, term_in}
use Rattle.aml_tree.specs.declared.fault.Refusal.{Refusal}
use Rattle.aml_tree.specs.Begins.{Begins, HasOpcode}
use Rattle.aml_tree.specs.Body.{no_arguments}
use Rattle.aml_tree.specs.Fault.{refused, truncated}
use Rattle.aml_tree.specs.Grammar.{Follows, IsPackage, IsTerm, Meets}
use Rattle.aml_tree.specs.Leaf.{end_at, little_endian_at, text_at}
use Rattle.aml_tree.specs.Opening.{Opening, NoTarget, PlainName, InvokedName, Operator}

-- a byte
pub byte_in_front : (bytes : List ℕ) (n at b : ℕ) → slice_get bytes at ≡ Some b → at < n → slice_get (take n bytes) at ≡ Some b
byte_in_front [] n at b e lt = absurd cc
byte_in_front (x ∷ bytes) zero at b e lt = absurd (omega (arith, lt))
byte_in_front (x ∷ bytes) (suc n) zero b e lt = e
byte_in_front (x ∷ bytes) (suc n) (suc at) b e lt = byte_in_front bytes n at b e (omega (arith, lt))

opcode_in_front : (opcode : ℕ) (bytes : List ℕ) (n at next : ℕ) → HasOpcode opcode bytes at next → next ≤ n → HasOpcode opcode (take n bytes) at next
opcode_in_front opcode bytes n at next (inl h) le = inl (byte_in_front bytes n at opcode h.0 (let e = h.3 in omega (arith, e, le)), h.1, h.2, h.3)
opcode_in_front opcode bytes n at next (inr h) le =
    let e = h.4 in
    inr (h.0, byte_in_front bytes n at 0x5B h.1 (omega (arith, e, le)), byte_in_front bytes n (at + 1) h.0 h.2 (omega (arith, e, le)), h.3, h.4)

-- a spelling
stands_in_front : {V : Type 0} (Spells : V → List ℕ → Type 0) (bytes : List ℕ) (n at : ℕ) (value : V) (next : ℕ) → Stands Spells bytes at value next → next ≤ n → Stands Spells (take n bytes) at value next
stands_in_front Spells bytes n at value next s le =
    let size : length (take n bytes) ≡ min n (length bytes) = length-take n bytes in
    let whole : at + (n - at) ≡ n = omega (arith, s.0, le) in
    let front : drop at (take n bytes) ≡ take (n - at) (drop at bytes) = rw whole at (drop-take at (n - at) bytes) in
    let same : take (next - at) (drop at (take n bytes)) ≡ take (next - at) (drop at bytes) = rw front (take-take (next - at) (n - at) (drop at bytes) (omega (arith, le))) in
    (s.0, omega (arith, s.1, size, le), rw same s.2)

text_in_front : (bytes : List ℕ) (n at : ℕ) (r : List ℕ × ℕ) → string_data_at bytes at ≡ Ok r → r.1 ≤ n → string_data_at (take n bytes) at ≡ Ok r
text_in_front bytes n at r e le =
    let w = string_data_ends bytes at r e in
    let s : Stands SpellsString bytes at r.0 r.1 = subst (Reads SpellsString BadString bytes at) e (string_data_reads bytes at (omega (arith, w))) in
    string_data_full (take n bytes) at r.0 r.1 (stands_in_front SpellsString bytes n at r.0 r.1 s le)

length_in_front : (bytes : List ℕ) (n at : ℕ) (r : ℕ × ℕ) → pkg_length_at bytes at ≡ Ok r → r.1 ≤ n → pkg_length_at (take n bytes) at ≡ Ok r
length_in_front bytes n at r e le =
    let w = pkg_length_ends bytes at r e in
    let s : Stands SpellsPkgLength bytes at r.0 r.1 = subst (ReadsPkgLength bytes at) e (pkg_length_reads bytes at (omega (arith, w))) in
    pkg_length_full (take n bytes) at r.0 r.1 (stands_in_front SpellsPkgLength bytes n at r.0 r.1 s le)

refused_ok : {X : Type 0} (r : Result X LexFault) (x : X) → refused r ≡ Ok x → r ≡ Ok x
refused_ok (Ok y) x e = cc
refused_ok (Err f) x e = absurd cc

refused_as : {X : Type 0} (r : Result X LexFault) (x : X) → r ≡ Ok x → refused r ≡ Ok x
refused_as (Ok y) x e = cc
refused_as (Err f) x e = absurd cc

text_cut : (bytes : List ℕ) (n at : ℕ) (r : List ℕ × ℕ) → text_at bytes at ≡ Ok r → r.1 ≤ n → text_at (take n bytes) at ≡ Ok r
unfolding text_at
text_cut bytes n at r e le = refused_as (string_data_at (take n bytes) at) r (text_in_front bytes n at r (refused_ok (string_data_at bytes at) r e) le)

-- a package's end
abbrev ended : Bool → Bool → LexFault → LexFault → ℕ × ℕ → Result (ℕ × ℕ) LexFault
ended short over f g q = if short then Err f else (if over then Err g else Ok q)

ended_is : (short over : Bool) (f g : LexFault) (q p : ℕ × ℕ) → ended short over f g q ≡ Ok p → q ≡ p
ended_is true over f g q p e = absurd cc
ended_is false true f g q p e = absurd cc
ended_is false false f g q p e = cc

ended_too : (short over other : Bool) (f g h k : LexFault) (q p : ℕ × ℕ) → ended short over f g q ≡ Ok p → other ≡ false → ended short other h k q ≡ Ok p
ended_too true over other f g h k q p e o = absurd cc
ended_too false true other f g h k q p e o = absurd cc
ended_too false false true f g h k q p e o = absurd cc
ended_too false false false f g h k q p e o = cc

no_more : (a b : ℕ) → b ≤ a → nat_lt a b ≡ false
no_more a b le = grind (arith, nat_tests)

package_shorter : (at end less : ℕ) (r : Result (ℕ × ℕ) LexFault) (p : ℕ × ℕ) → package_of at end r ≡ Ok p → p.0 ≤ less → package_of at less r ≡ Ok p
package_shorter at end less (Err f) p e le = absurd cc
package_shorter at end less (Ok (value, next)) p e le =
    let same : (at + value, next) ≡ p = ended_is (nat_lt (at + value) next) (nat_lt end (at + value)) _ _ (at + value, next) p e in
    let first : at + value ≡ p.0 = ap (λ (q : ℕ × ℕ). q.0) same in
    ended_too (nat_lt (at + value) next) (nat_lt end (at + value)) (nat_lt less (at + value)) _ _ _ _ (at + value, next) p e (no_more less (at + value) (omega (arith, first, le)))

length_of_package : (at end : ℕ) (r : Result (ℕ × ℕ) LexFault) (p : ℕ × ℕ) → package_of at end r ≡ Ok p → (q : ℕ × ℕ) × (r ≡ Ok q) × (q.1 ≡ p.1)
length_of_package at end (Err f) p e = absurd cc
length_of_package at end (Ok (value, next)) p e =
    ((value, next), refl, ap (λ (q : ℕ × ℕ). q.1) (ended_is (nat_lt (at + value) next) (nat_lt end (at + value)) _ _ (at + value, next) p e))

opened : (bytes : List ℕ) (at : ℕ) → package_end_at bytes at ≡ package_of at (length bytes) (pkg_length_at bytes at)
unfolding package_end_at
opened bytes at = refl

package_in_front : (bytes : List ℕ) (n at : ℕ) (p : ℕ × ℕ) → package_end_at bytes at ≡ Ok p → p.0 ≤ n → package_end_at (take n bytes) at ≡ Ok p
package_in_front bytes n at p e le =
    let w = package_end_ends bytes at p e in
    by (subst (λ (r : Result (ℕ × ℕ) LexFault). r ≡ Ok p) (opened bytes at) e) w
  where
    by : package_of at (length bytes) (pkg_length_at bytes at) ≡ Ok p → (at < p.1) × (p.1 ≤ p.0) × (p.0 ≤ length bytes) → package_end_at (take n bytes) at ≡ Ok p
    by o w =
        let q = length_of_package at (length bytes) (pkg_length_at bytes at) p o in
        let next = q.2 in
        let size : length (take n bytes) ≡ min n (length bytes) = length-take n bytes in
        let there : pkg_length_at (take n bytes) at ≡ Ok q.0 = length_in_front bytes n at q.0 q.1 (omega (arith, next, w, le)) in
        let was : package_of at (length bytes) (Ok q.0) ≡ Ok p = subst (λ (r : Result (ℕ × ℕ) LexFault). package_of at (length bytes) r ≡ Ok p) q.1 o in
        let now : package_of at (length (take n bytes)) (Ok q.0) ≡ Ok p = package_shorter at (length bytes) (length (take n bytes)) (Ok q.0) p was (omega (arith, size, w, le)) in
        opened (take n bytes) at ∙ ap (package_of at (length (take n bytes))) there ∙ now

end_cut : (bytes : List ℕ) (n at stop next : ℕ) → IsPackage bytes at stop next → stop ≤ n → IsPackage (take n bytes) at stop next
unfolding end_at
end_cut bytes n at stop next e le = refused_as (package_end_at (take n bytes) at) (stop, next) (package_in_front bytes n at (stop, next) (refused_ok (package_end_at bytes at) (stop, next) e) le)

pub package_within : (bytes : List ℕ) (at stop next : ℕ) → IsPackage bytes at stop next → stop ≤ length bytes
unfolding end_at
package_within bytes at stop next e = (package_end_ends bytes at (stop, next) (refused_ok (package_end_at bytes at) (stop, next) e)).2

-- a number
index_of_front : (l : List ℕ) (j i : ℕ) → i < j → slice_index (take j l) i ≡ slice_index l i
index_of_front l zero i lt = absurd (omega (arith, lt))
index_of_front [] (suc j) i lt = refl
index_of_front (b ∷ l) (suc j) zero lt = refl
index_of_front (b ∷ l) (suc j) (suc i) lt = index_of_front l j i (omega (arith, lt))

from_front : (i k j : ℕ) (l : List ℕ) → i + k ≤ j → little_from i k (take j l) ≡ little_from i k l
from_front i zero j l le = refl
from_front i (suc k) j l le =
    let first : slice_index (take j l) i ≡ slice_index l i = index_of_front l j i (omega (arith, le)) in
    let others : little_from (suc i) k (take j l) ≡ little_from (suc i) k l = from_front (suc i) k j l (omega (arith, le)) in
    rw (first, others) refl

abbrev numbered : Bool → ℕ → ℕ → ℕ → Result (ℕ × ℕ) Refusal
numbered short end m stop = if short then Err (truncated end) else Ok (m, stop)

numbered_is : (short : Bool) (end m stop : ℕ) (r : ℕ × ℕ) → numbered short end m stop ≡ Ok r → (short ≡ false) × ((m, stop) ≡ r)
numbered_is true end m stop r e = absurd cc
numbered_is false end m stop r e = (refl, cc)

numbered_as : (short : Bool) (end m stop : ℕ) (r : ℕ × ℕ) → short ≡ false → (m, stop) ≡ r → numbered short end m stop ≡ Ok r
numbered_as true end m stop r e f = absurd cc
numbered_as false end m stop r e f = ap Ok f

number_cut : (k : ℕ) (bytes : List ℕ) (n at : ℕ) (r : ℕ × ℕ) → little_endian_at k bytes at ≡ Ok r → r.1 ≤ n → little_endian_at k (take n bytes) at ≡ Ok r
unfolding little_endian_at
number_cut k bytes n at r e le =
    let was = numbered_is (nat_lt (length bytes) (at + k)) (length bytes) (little_number k (drop at bytes)) (at + k) r e in
    let within : at + k ≤ length bytes = ltb-false _ _ was.0 in
    let stop : at + k ≡ r.1 = ap (λ (q : ℕ × ℕ). q.1) was.1 in
    let size : length (take n bytes) ≡ min n (length bytes) = length-take n bytes in
    let whole : at + (n - at) ≡ n = omega (arith, stop, le) in
    let front : drop at (take n bytes) ≡ take (n - at) (drop at bytes) = rw whole at (drop-take at (n - at) bytes) in
    let one : little_number k (drop at (take n bytes)) ≡ little_number k (take (n - at) (drop at bytes)) = ap (little_number k) front in
    let two : little_number k (take (n - at) (drop at bytes)) ≡ little_number k (drop at bytes) = from_front 0 k (n - at) (drop at bytes) (omega (arith, stop, le)) in
    let same : little_number k (drop at (take n bytes)) ≡ little_number k (drop at bytes) = one ∙ two in
    numbered_as (nat_lt (length (take n bytes)) (at + k)) (length (take n bytes)) (little_number k (drop at (take n bytes))) (at + k) r
    (no_more (length (take n bytes)) (at + k) (omega (arith, size, within, stop, le))) (subst (λ x. (x, at + k) ≡ r) (sym same) was.1)

-- what stands in a buffer and in packages
abbrev bytes_behind : List Letter
bytes_behind = Sized limit.Buffer ∷ Bytes ∷ []

abbrev elements_behind : List Letter
elements_behind = One (piece.Number Byte) ∷ Terms spot.Element ∷ []

abbrev sized_elements : List Letter
sized_elements = Sized limit.Package ∷ Terms spot.Element ∷ []

module _ (Below : ℕ → Spot → List ℕ → ℕ → Tree → Type 0) where
  -- letters of data
  abbrev Lies : List Letter → ℕ → List ℕ → ℕ → ℕ → List Tree → Type 0
  Lies ls own bytes at stop ts = Meets no_arguments Below ls own bytes at stop ts

  one_number : (size : NumberSize) (own : ℕ) (bytes : List ℕ) (n at stop : ℕ) (ts : List Tree) → Lies (One (piece.Number size) ∷ []) own bytes at stop ts → stop ≤ n → Lies (One (piece.Number size) ∷ []) own (take n bytes) at stop ts
  one_number size own bytes n at stop ts h le =
      let ends : stop ≡ h.3.1 = h.4.1 ∙ ap stop_of h.3.3 in
      (h.0, h.1, h.2, (h.3.0, h.3.1, number_cut (size_of size) bytes n at (h.3.0, h.3.1) h.3.2 (omega (arith, ends, le)), h.3.3), h.4)

  one_text : (own : ℕ) (bytes : List ℕ) (n at stop : ℕ) (ts : List Tree) → Lies (One piece.Text ∷ []) own bytes at stop ts → stop ≤ n → Lies (One piece.Text ∷ []) own (take n bytes) at stop ts
  one_text own bytes n at stop ts h le =
      let ends : stop ≡ h.3.1 = h.4.1 ∙ ap stop_of h.3.3 in
      (h.0, h.1, h.2, (h.3.0, h.3.1, text_cut bytes n at (h.3.0, h.3.1) h.3.2 (omega (arith, ends, le)), h.3.3), h.4)

  one_package : (rest : List Letter) (own : ℕ) (bytes : List ℕ) (n at stop : ℕ) (ts : List Tree) → ((inside : List ℕ) (next : ℕ) → Lies rest own inside next stop ts → stop ≡ length inside) → Lies (Package ∷ rest) own bytes at stop ts → stop ≤ n → Lies (Package ∷ rest) own (take n bytes) at stop ts
  one_package rest own bytes n at stop ts closes h le =
      let within = package_within bytes at h.0 h.1 h.2 in
      let ends : stop ≡ length (take h.0 bytes) = closes (take h.0 bytes) h.1 h.3 in
      let size : length (take h.0 bytes) ≡ h.0 = length-take-le h.0 bytes within in
      let short : h.0 ≤ n = omega (arith, ends, size, le) in
      let same : take h.0 (take n bytes) ≡ take h.0 bytes = take-take h.0 n bytes short in
      (h.0, h.1, end_cut bytes n at h.0 h.1 h.2 short, subst (λ l. Lies rest own l h.1 stop ts) (sym same) h.3)

  operator_cut : (o : Op) (own : ℕ) (bytes : List ℕ) (n at stop : ℕ) (ts : List Tree) → ruling code.Module spot.Data (class_of o) ≡ ruled.Fine → Lies (letters_of o) own bytes at stop ts → stop ≤ n → Lies (letters_of o) own (take n bytes) at stop ts
  operator_cut op.Zero own bytes n at stop ts fine h le = h
  operator_cut op.One own bytes n at stop ts fine h le = h
  operator_cut op.Ones own bytes n at stop ts fine h le = h
  operator_cut op.ByteConst own bytes n at stop ts fine h le = one_number Byte own bytes n at stop ts h le
  operator_cut op.WordConst own bytes n at stop ts fine h le = one_number Word own bytes n at stop ts h le
  operator_cut op.DWordConst own bytes n at stop ts fine h le = one_number DWord own bytes n at stop ts h le
  operator_cut op.QWordConst own bytes n at stop ts fine h le = one_number QWord own bytes n at stop ts h le
  operator_cut op.String own bytes n at stop ts fine h le = one_text own bytes n at stop ts h le
  operator_cut op.Buffer own bytes n at stop ts fine h le = one_package bytes_behind own bytes n at stop ts (λ inside next (k : Lies bytes_behind own inside next stop ts). k.5.1) h le
  operator_cut op.Package own bytes n at stop ts fine h le = one_package elements_behind own bytes n at stop ts (λ inside next (k : Lies elements_behind own inside next stop ts). k.4.1) h le
  operator_cut op.VarPackage own bytes n at stop ts fine h le = one_package sized_elements own bytes n at stop ts (λ inside next (k : Lies sized_elements own inside next stop ts). k.5.1) h le
  operator_cut o own bytes n at stop ts fine h le = absurd cc

abbrev LiesData : ℕ → ℕ → List ℕ → ℕ → Tree → Type 0
LiesData d asker bytes at t = IsTerm code.Module no_arguments d asker spot.Data bytes at t

form_cut : (d asker : ℕ) (bytes : List ℕ) (n at : ℕ) (t : Tree) (o : Opening) → Begins code.Module spot.Data bytes at o → Follows no_arguments (IsTerm code.Module no_arguments d) o bytes at t → at < stop_of t → stop_of t ≤ n → LiesData (suc d) asker (take n bytes) at t
form_cut d asker bytes n at t NoTarget b f lt le = absurd (let no = b.0 in cc)
form_cut d asker bytes n at t PlainName b f lt le = absurd (let no = b.0 in cc)
form_cut d asker bytes n at t InvokedName b f lt le = absurd (let no = b.0 in cc)
form_cut d asker bytes n at t (Operator o next) b f lt le =
    let ends : stop_of t ≡ f.0 = ap stop_of f.3 in
    let fits = begins_in code.Module spot.Data bytes at (Operator o next) b in
    let on = parts_in no_arguments (IsTerm code.Module no_arguments d) (term_in code.Module no_arguments d) (letters_of o) at bytes next f.0 f.1 fits.1 f.2 in
    (Operator o next, (b.0, opcode_in_front _ bytes n at next b.1 (omega (arith, on, ends, le)), b.2), (f.0, f.1, operator_cut (IsTerm code.Module no_arguments d) o at bytes n next f.0 f.1 b.2 f.2 (omega (arith, ends, le)), f.3))

-- data in a front of the bytes that has all of it
pub data_cut : (d asker : ℕ) (bytes : List ℕ) (n at : ℕ) (t : Tree) → at < stop_of t → stop_of t ≤ n → LiesData d asker bytes at t → LiesData d asker (take n bytes) at t
data_cut zero asker bytes n at t lt le h = absurd (let no = h.0.0 in cc)
data_cut (suc d) asker bytes n at t lt le h = form_cut d asker bytes n at t h.0 h.1 h.2 lt le

-- What a walk reads ends at the same place wherever the bytes stand, and whatever follows its end.
use Rattle.std.proofs.Common.{◌≡◌, ◌≤◌, ◌<◌, ℕ, zero, suc, ◌+◌, ◌-◌, inl, inr, List, [], ◌∷◌, length, take, drop, refl, sym, ap, ◌∙◌, arith}
use Rattle.std.specs.Prelude.{◌⊎◌, Bool, true, false, nat_lt, ◌==◌, Option, Some, None, Result, Ok, Err, slice_get, if◌then◌else◌}
use Rattle.std.proofs.lemmas.Bool.{lt-ltb, eqb-true, cases_lt}
use Rattle.std.proofs.lemmas.List.{drop-drop, drop-take, take-take}
use Rattle.std.proofs.lemmas.Option.{slice_get_within, slice_get_cases}
use Rattle.aml_lex.specs.declared.fault.LexCause.{LexCause}
use Rattle.aml_lex.specs.declared.fault.LexCause.TheVariants.{BadName, BadString}
use Rattle.aml_lex.specs.declared.fault.LexFault.{LexFault}
use Rattle.aml_lex.specs.Reading.{name_string_at, string_data_at, package_end_at}
use Rattle.aml_lex.specs.Exact.{Stands, Reads, ReadsPackage, IsRead}
use Rattle.aml_lex.specs.Spelling.{SpellsPkgLength, SpellsName, SpellsString}
use Rattle.aml_lex.proofs.ExactLaws.{name_string_reads, string_data_reads, package_end_reads, name_string_full, string_data_full, pkg_length_full}
use Rattle.aml_lex.proofs.Laws.{name_string_ends, string_data_ends, package_end_ends}
use Rattle.aml_operators.specs.declared.op.Op.{Op}
use Rattle.aml_operators.specs.declared.row.Piece.{Piece}
use Rattle.aml_operators.specs.declared.row.Piece.TheVariants as piece
use Rattle.aml_operators.specs.declared.row.Letter.{Letter}
use Rattle.aml_operators.specs.declared.row.Letter.TheVariants.{One, Sized, Package, Branch, Terms, Fields, Bytes}
use Rattle.aml_operators.specs.Table.{op_of, letters_of}
use Rattle.aml_operators.specs.Places.{size_of}
use Rattle.aml_lex.specs.Standing.{has_byte}
use Rattle.aml_externals.specs.Extents.{and_then, read_or_none, behind, name_end, text_end, package_at, bytes_end, piece_end, letters_end, list_at, form_end, term_end}
use Rattle.aml_externals.proofs.DeadTurns.{not_below}
use Rattle.aml_externals.proofs.Scopes.{get_first, get_rest, package_from}
use Rattle.aml_externals.proofs.Changes.{byte_there}
use Rattle.aml_tree.specs.OperatorAt.{ended_at, op_from, op_there, op_wide}

-- so many bytes of both lists are the same, from a place of each on
pub record Seen (n p : ℕ) (xs : List ℕ) (q : ℕ) (ys : List ℕ) : Type 0 where
  pub same : take n (drop p xs) ≡ take n (drop q ys)
  pub in_xs : p + n ≤ length xs
  pub in_ys : q + n ≤ length ys

cut : (n k l : ℕ) (zs : List ℕ) → k + l ≤ n → take l (drop k zs) ≡ take l (drop k (take n zs))
cut n k l zs le =
    let e : k + (n - k) ≡ n = omega arith in
    let d : drop k (take n zs) ≡ take (n - k) (drop k zs) = rw e at (drop-take k (n - k) zs) in
    let t : take l (take (n - k) (drop k zs)) ≡ take l (drop k zs) = take-take l (n - k) (drop k zs) (omega arith) in
    sym (rw d t)

pub seen_part : (n p : ℕ) (xs : List ℕ) (q : ℕ) (ys : List ℕ) → Seen n p xs q ys → (k l : ℕ) → k + l ≤ n → take l (drop (p + k) xs) ≡ take l (drop (q + k) ys)
seen_part n p xs q ys s k l le =
    let a : take l (drop k (drop p xs)) ≡ take l (drop k (take n (drop p xs))) = cut n k l (drop p xs) le in
    let b : take l (drop k (drop q ys)) ≡ take l (drop k (take n (drop q ys))) = cut n k l (drop q ys) le in
    let c : take l (drop k (drop p xs)) ≡ take l (drop k (drop q ys)) = a ∙ ap (λ (zs : List ℕ). take l (drop k zs)) s.same ∙ sym b in
    rw (drop-drop k p xs, drop-drop k q ys) at c

first_of_one : (zs : List ℕ) → slice_get zs 0 ≡ slice_get (take 1 zs) 0
first_of_one [] = refl
first_of_one (z ∷ zs) = refl

pub seen_get : (n p : ℕ) (xs : List ℕ) (q : ℕ) (ys : List ℕ) → Seen n p xs q ys → (k : ℕ) → k < n → slice_get ys (q + k) ≡ slice_get xs (p + k)
seen_get n p xs q ys s k lt =
    let e = seen_part n p xs q ys s k 1 (omega arith) in
    get_first ys (q + k) ∙ first_of_one (drop (q + k) ys) ∙ sym (ap (λ (zs : List ℕ). slice_get zs 0) e) ∙ sym (first_of_one (drop (p + k) xs)) ∙ sym (get_first xs (p + k))

-- a reader goes on, and not past the end
abbrev pub Ahead : (List ℕ → ℕ → Option ℕ) → Type 0
Ahead f = (bytes : List ℕ) (at next : ℕ) → at ≤ length bytes → f bytes at ≡ Some next → (at ≤ next) × (next ≤ length bytes)

-- what ends within the same bytes ends there in both lists
abbrev pub Moves : (List ℕ → ℕ → Option ℕ) → Type 0
Moves f = (n p : ℕ) (xs : List ℕ) (q : ℕ) (ys : List ℕ) → Seen n p xs q ys → (k next : ℕ) → k ≤ n → f xs (p + k) ≡ Some next → next ≤ p + n
    → (m : ℕ) × (next ≡ p + m) × (f ys (q + k) ≡ Some (q + m))

module _ {V : Type 0} (Spells : V → List ℕ → Type 0) where
  pub stands_seen : (n p : ℕ) (xs : List ℕ) (q : ℕ) (ys : List ℕ) → Seen n p xs q ys → (k next : ℕ) (v : V) → next ≤ p + n → Stands Spells xs (p + k) v next
      → (m : ℕ) × (next ≡ p + m) × Stands Spells ys (q + k) v (q + m)
  stands_seen n p xs q ys s k next v le st =
      let m : ℕ = next - p in
      let l : ℕ = next - (p + k) in
      let e : q + m - (q + k) ≡ l = omega (arith, st.0) in
      let same : take l (drop (p + k) xs) ≡ take l (drop (q + k) ys) = seen_part n p xs q ys s k l (omega (arith, st.0)) in
      let spelled : Spells v (take l (drop (q + k) ys)) = rw same at st.2 in
      (m, omega (arith, st.0), (omega (arith, st.0), omega (arith, st.0, s.in_ys), rw e spelled))

  module _ (cause : LexCause) (read : List ℕ → ℕ → Result (V × ℕ) LexFault) (reads : (bytes : List ℕ) (at : ℕ) → at ≤ length bytes → Reads Spells cause bytes at (read bytes at))
      (full : IsRead Spells read) where
    read_by : (n p : ℕ) (xs : List ℕ) (q : ℕ) (ys : List ℕ) → Seen n p xs q ys → (k next : ℕ) → next ≤ p + n
        → (r : Result (V × ℕ) LexFault) → Reads Spells cause xs (p + k) r → behind r ≡ Some next
        → (m : ℕ) × (next ≡ p + m) × (behind (read ys (q + k)) ≡ Some (q + m))
    read_by n p xs q ys s k next le (Err f) h e = absurd cc
    read_by n p xs q ys s k next le (Ok r) h e =
        let same : r.1 ≡ next = cc in
        let st = stands_seen n p xs q ys s k r.1 r.0 (omega arith) h in
        let is : read ys (q + k) ≡ Ok (r.0, q + st.0) = full ys (q + k) r.0 (q + st.0) st.2 in
        (st.0, sym same ∙ st.1, rw is refl)

    read_moves : Moves (λ bytes at. behind (read bytes at))
    read_moves n p xs q ys s k next low e le = read_by n p xs q ys s k next le (read xs (p + k)) (reads xs (p + k) (omega (arith, s.in_xs))) e

pub name_moves : Moves name_end
unfolding name_end
name_moves = read_moves SpellsName BadName name_string_at name_string_reads name_string_full

pub text_moves : Moves text_end
unfolding text_end
text_moves = read_moves SpellsString BadString string_data_at string_data_reads string_data_full

-- a name is not empty
name_by : (bytes : List ℕ) (at next : ℕ) {V : Type 0} (r : Result (V × ℕ) LexFault) → ((v : V × ℕ) → r ≡ Ok v → (at < v.1) × (v.1 ≤ length bytes)) → behind r ≡ Some next → (at < next) × (next ≤ length bytes)
name_by bytes at next (Err f) h e = absurd cc
name_by bytes at next (Ok v) h e = let same : v.1 ≡ next = cc in let w = h v refl in rw same at w

pub name_past : (bytes : List ℕ) (at next : ℕ) → name_end bytes at ≡ Some next → (at < next) × (next ≤ length bytes)
unfolding name_end
name_past bytes at next e = name_by bytes at next (name_string_at bytes at) (λ r is. name_string_ends bytes at r is) e

name_ahead : Ahead name_end
name_ahead bytes at next le e = let w = name_past bytes at next e in (omega arith, w.1)

text_ahead : Ahead text_end
unfolding text_end
text_ahead bytes at next le e = let w = name_by bytes at next (string_data_at bytes at) (λ r is. string_data_ends bytes at r is) e in (omega arith, w.1)

-- so many bytes
bytes_parts : (count : ℕ) (bytes : List ℕ) (at next : ℕ) (t : Bool) → nat_lt (length bytes) (at + count) ≡ t → (if t then None else Some (at + count)) ≡ Some next → (at + count ≤ length bytes) × (next ≡ at + count)
bytes_parts count bytes at next true is e = absurd cc
bytes_parts count bytes at next false is e =
    let f : at + count ≡ next = cc in
    (elim (cases_lt (length bytes) (at + count)) [ inl lt ↦ (let t : nat_lt (length bytes) (at + count) ≡ true = lt-ltb (length bytes) (at + count) lt in absurd cc) | inr le ↦ le ], sym f)

pub bytes_are : (count : ℕ) (bytes : List ℕ) (at next : ℕ) → bytes_end count bytes at ≡ Some next → (at + count ≤ length bytes) × (next ≡ at + count)
unfolding bytes_end
bytes_are count bytes at next e = bytes_parts count bytes at next (nat_lt (length bytes) (at + count)) refl e

pub bytes_there : (count : ℕ) (bytes : List ℕ) (at : ℕ) → at + count ≤ length bytes → bytes_end count bytes at ≡ Some (at + count)
unfolding bytes_end
bytes_there count bytes at le = let t : nat_lt (length bytes) (at + count) ≡ false = not_below (length bytes) (at + count) le (nat_lt (length bytes) (at + count)) refl in rw t refl

bytes_ahead : (count : ℕ) → Ahead (bytes_end count)
bytes_ahead count bytes at next le e = let w = bytes_are count bytes at next e in (omega (arith, w), omega (arith, w))

bytes_moves : (count : ℕ) → Moves (bytes_end count)
bytes_moves count n p xs q ys s k next low e le =
    let w = bytes_are count xs (p + k) next e in
    let is : q + k + count ≡ q + (k + count) = omega arith in
    let there = bytes_there count ys (q + k) (omega (arith, w, s.in_ys)) in
    (k + count, omega (arith, w), rw is at there)

-- packages
package_ok_by : (o : Result (ℕ × ℕ) LexFault) (r : ℕ × ℕ) → read_or_none o ≡ Some r → o ≡ Ok r
package_ok_by (Ok v) r e = let same : v ≡ r = cc in rw same refl
package_ok_by (Err f) r e = absurd cc

pub package_ok : (bytes : List ℕ) (at : ℕ) (r : ℕ × ℕ) → package_at bytes at ≡ Some r → package_end_at bytes at ≡ Ok r
unfolding package_at
package_ok bytes at r e = package_ok_by (package_end_at bytes at) r e

pub package_past : (bytes : List ℕ) (at : ℕ) (r : ℕ × ℕ) → package_at bytes at ≡ Some r → (at < r.1) × (r.1 ≤ r.0) × (r.0 ≤ length bytes)
package_past bytes at r e = package_end_ends bytes at r (package_ok bytes at r e)

pub package_is : (bytes : List ℕ) (at : ℕ) (r : ℕ × ℕ) → package_end_at bytes at ≡ Ok r → package_at bytes at ≡ Some r
unfolding package_at
package_is bytes at r e = rw e refl

pub package_moves : (n p : ℕ) (xs : List ℕ) (q : ℕ) (ys : List ℕ) → Seen n p xs q ys → (k : ℕ) (r : ℕ × ℕ) → k ≤ n → package_at xs (p + k) ≡ Some r → r.1 ≤ p + n
    → ((m : ℕ) → r.0 ≡ p + m → q + m ≤ length ys)
    → (m j : ℕ) × (r.0 ≡ p + m) × (r.1 ≡ p + j) × (package_at ys (q + k) ≡ Some (q + m, q + j))
package_moves n p xs q ys s k r low e le fits =
    let ok = package_ok xs (p + k) r e in
    let past = package_past xs (p + k) r e in
    let reads = package_end_reads xs (p + k) (omega (arith, s.in_xs)) in
    let h : ReadsPackage xs (p + k) (Ok r) = rw ok at reads in
    let value : ℕ = h.2.0 in
    let st = stands_seen SpellsPkgLength n p xs q ys s k r.1 value le h.2.2 in
    let j : ℕ = st.0 in
    let read = pkg_length_full ys (q + k) value (q + j) st.2 in
    let here : r.0 ≡ p + (k + value) = omega (arith, h.2.1) in
    let within = fits (k + value) here in
    let whole = package_from ys (q + k) value (q + j) read (omega (arith, h.2.1, past, st.1)) (omega (arith, within)) in
    let is : q + k + value ≡ q + (k + value) = omega arith in
    (k + value, j, here, st.1, package_is ys (q + k) (q + (k + value), q + j) (rw is at whole))

-- operators
and_next_is : (found : Option Op) (next : ℕ) (r : Op × ℕ) → ended_at next found ≡ Some r → (found ≡ Some r.0) × (r.1 ≡ next)
and_next_is None next r e = absurd cc
and_next_is (Some o) next r e = let same : (o, next) ≡ r = cc in (rw (← same) refl, rw (← same) refl)

-- an operator's opcode, of one byte or of two
abbrev IsCoded : List ℕ → ℕ → Op → ℕ → Type 0
IsCoded bytes at o next = (b : ℕ) × (slice_get bytes at ≡ Some b)
    × ((((b == 0x5B) ≡ false) × (op_of b ≡ Some o) × (next ≡ at + 1))
    ⊎ ((c : ℕ) × ((b == 0x5B) ≡ true) × (slice_get bytes (at + 1) ≡ Some c) × (op_of (0x5B00 + c) ≡ Some o) × (next ≡ at + 2)))

coded_long : (bytes : List ℕ) (at b : ℕ) (r : Op × ℕ) → slice_get bytes at ≡ Some b → (b == 0x5B) ≡ true → (second : Option ℕ) → slice_get bytes (at + 1) ≡ second → op_wide at second ≡ Some r → IsCoded bytes at r.0 r.1
coded_long bytes at b r here long None is e = absurd cc
coded_long bytes at b r here long (Some c) is e = let f = and_next_is (op_of (0x5B00 + c)) (at + 2) r e in (b, here, inr (c, long, is, f.0, f.1))

coded_test : (bytes : List ℕ) (at b : ℕ) (r : Op × ℕ) → slice_get bytes at ≡ Some b → (t : Bool) → (b == 0x5B) ≡ t → (if t then op_wide at (slice_get bytes (at + 1)) else ended_at (at + 1) (op_of b)) ≡ Some r → IsCoded bytes at r.0 r.1
coded_test bytes at b r here true long e = coded_long bytes at b r here long (slice_get bytes (at + 1)) refl e
coded_test bytes at b r here false short e = let f = and_next_is (op_of b) (at + 1) r e in (b, here, inl (short, f.0, f.1))

coded_by : (bytes : List ℕ) (at : ℕ) (first : Option ℕ) (r : Op × ℕ) → slice_get bytes at ≡ first → op_from bytes at first ≡ Some r → IsCoded bytes at r.0 r.1
coded_by bytes at None r is e = absurd cc
coded_by bytes at (Some b) r is e = coded_test bytes at b r is (b == 0x5B) refl e

pub operator_coded : (bytes : List ℕ) (at : ℕ) (r : Op × ℕ) → op_there bytes at ≡ Some r → IsCoded bytes at r.0 r.1
operator_coded bytes at r e = coded_by bytes at (slice_get bytes at) r refl e

coded_is : (bytes : List ℕ) (at : ℕ) (o : Op) (next : ℕ) → IsCoded bytes at o next → op_there bytes at ≡ Some (o, next)
coded_is bytes at o next (b, here, inl h) = rw (here, h.0, h.1, h.2) refl
coded_is bytes at o next (b, here, inr h) = rw (here, h.1, h.2, h.3, h.4) refl

coded_past : (bytes : List ℕ) (at : ℕ) (o : Op) (next : ℕ) → IsCoded bytes at o next → (at < next) × (next ≤ length bytes)
coded_past bytes at o next (b, here, inl h) = let w = slice_get_within bytes at b here in (omega (arith, h.2), omega (arith, h.2, w))
coded_past bytes at o next (b, here, inr h) = let w = slice_get_within bytes (at + 1) h.0 h.2 in (omega (arith, h.4), omega (arith, h.4, w))

pub operator_past : (bytes : List ℕ) (at : ℕ) (r : Op × ℕ) → op_there bytes at ≡ Some r → (at < r.1) × (r.1 ≤ length bytes)
operator_past bytes at r e = coded_past bytes at r.0 r.1 (operator_coded bytes at r e)

coded_moves : (n p : ℕ) (xs : List ℕ) (q : ℕ) (ys : List ℕ) → Seen n p xs q ys → (k : ℕ) (o : Op) (next : ℕ) → IsCoded xs (p + k) o next → next ≤ p + n
    → (m : ℕ) × (next ≡ p + m) × IsCoded ys (q + k) o (q + m)
coded_moves n p xs q ys s k o next (b, here, inl h) le =
    let g = seen_get n p xs q ys s k (omega (arith, h.2)) in
    (k + 1, omega (arith, h.2), (b, g ∙ here, inl (h.0, h.1, omega arith)))
coded_moves n p xs q ys s k o next (b, here, inr h) le =
    let g = seen_get n p xs q ys s k (omega (arith, h.4)) in
    let g2 = seen_get n p xs q ys s (k + 1) (omega (arith, h.4)) in
    let a : p + (k + 1) ≡ p + k + 1 = omega arith in
    let c : q + (k + 1) ≡ q + k + 1 = omega arith in
    (k + 2, omega (arith, h.4), (b, g ∙ here, inr (h.0, h.1, rw (a, c) at g2 ∙ h.2, h.3, omega arith)))

pub operator_moves : (n p : ℕ) (xs : List ℕ) (q : ℕ) (ys : List ℕ) → Seen n p xs q ys → (k : ℕ) (r : Op × ℕ) → op_there xs (p + k) ≡ Some r → r.1 ≤ p + n
    → (m : ℕ) × (r.1 ≡ p + m) × (op_there ys (q + k) ≡ Some (r.0, q + m))
operator_moves n p xs q ys s k r e le =
    let c = coded_moves n p xs q ys s k r.0 r.1 (operator_coded xs (p + k) r e) le in
    (c.0, c.1, coded_is ys (q + k) r.0 (q + c.0) c.2)

-- no name begins with the first byte of an opcode of two
no_name_by : (bytes : List ℕ) (at : ℕ) (w : List ℕ) → drop at bytes ≡ 0x5B ∷ w → name_end bytes at ≡ None
unfolding name_end name_string_at
no_name_by bytes at w e = rw e refl

no_name : (bytes : List ℕ) (at b : ℕ) → slice_get bytes at ≡ Some b → (b == 0x5B) ≡ true → name_end bytes at ≡ None
no_name bytes at b here e =
    let same : b ≡ 0x5B = eqb-true b 0x5B e in
    let g = get_rest bytes at 0x5B (here ∙ ap Some same) in
    no_name_by bytes at g.0 g.1

none_next : (found : Option Op) (a b : ℕ) → ended_at a found ≡ None → ended_at b found ≡ None
none_next None a b e = refl
none_next (Some o) a b e = absurd cc

-- a name is no operator, wherever it stands
bare_test : (bytes other : List ℕ) (at to next b : ℕ) → slice_get bytes at ≡ Some b → slice_get other to ≡ Some b → name_end bytes at ≡ Some next → (t : Bool) → (b == 0x5B) ≡ t
    → op_there bytes at ≡ None → op_there other to ≡ None
bare_test bytes other at to next b here there e true is none = let no = no_name bytes at b here is in absurd cc
bare_test bytes other at to next b here there e false is none =
    let f : ended_at (at + 1) (op_of b) ≡ None = rw (here, is) at none in
    rw (there, is) (none_next (op_of b) (at + 1) (to + 1) f)

byte_there_is : (bytes : List ℕ) (at : ℕ) → at < length bytes → (b : ℕ) × (slice_get bytes at ≡ Some b)
byte_there_is bytes at lt = elim (slice_get_cases bytes at).1 [ inl h ↦ (h.0, h.2) | inr h ↦ absurd (omega (arith, h.0)) ]

bare_moves : (n p : ℕ) (xs : List ℕ) (q : ℕ) (ys : List ℕ) → Seen n p xs q ys → (k next : ℕ) → name_end xs (p + k) ≡ Some next → next ≤ p + n → op_there xs (p + k) ≡ None → op_there ys (q + k) ≡ None
bare_moves n p xs q ys s k next e le none =
    let w = name_past xs (p + k) next e in
    let b = byte_there_is xs (p + k) (omega (arith, w)) in
    let g = seen_get n p xs q ys s k (omega (arith, w)) in
    bare_test xs ys (p + k) (q + k) next b.0 b.1 (g ∙ b.1) e (b.0 == 0x5B) refl none

-- one part behind another
and_parts_by : {X Y : Type 0} (o : Option X) (g : X → Option Y) (y : Y) → and_then o g ≡ Some y → (x : X) × (o ≡ Some x) × (g x ≡ Some y)
and_parts_by None g y e = absurd cc
and_parts_by (Some x) g y e = (x, refl, e)

then_ahead : (f g : List ℕ → ℕ → Option ℕ) → Ahead f → Ahead g → Ahead (λ bytes at. and_then (f bytes at) (g bytes))
then_ahead f g fa ga bytes at next le e =
    let h = and_parts_by (f bytes at) (g bytes) next e in
    let a = fa bytes at h.0 le h.1 in
    let b = ga bytes h.0 next a.1 h.2 in
    (omega (arith, a, b), b.1)

then_moves : (f g : List ℕ → ℕ → Option ℕ) → Ahead f → Ahead g → Moves f → Moves g → Moves (λ bytes at. and_then (f bytes at) (g bytes))
then_moves f g fa ga fm gm n p xs q ys s k next low e le =
    let h = and_parts_by (f xs (p + k)) (g xs) next e in
    let a = fa xs (p + k) h.0 (omega (arith, s.in_xs)) h.1 in
    let b = ga xs h.0 next a.1 h.2 in
    let first = fm n p xs q ys s k h.0 low h.1 (omega (arith, b)) in
    let there : g xs (p + first.0) ≡ Some next = rw first.1 at h.2 in
    let second = gm n p xs q ys s first.0 next (omega (arith, first.1, b)) there le in
    (second.0, second.1, rw first.2 second.2)

here_ahead : Ahead (λ bytes at. Some at)
here_ahead bytes at next le e = let same : at ≡ next = cc in (omega arith, omega arith)

here_moves : Moves (λ bytes at. Some at)
here_moves n p xs q ys s k next low e le = let same : p + k ≡ next = cc in (k, sym same, refl)

none_ahead : Ahead (λ bytes at. None)
none_ahead bytes at next le e = absurd cc

none_moves : Moves (λ bytes at. None)
none_moves n p xs q ys s k next low e le = absurd cc

package_goes : Ahead (λ bytes at. and_then (package_at bytes at) (λ p. Some p.0))
package_goes bytes at next le e =
    let h = and_parts_by (package_at bytes at) (λ p. Some p.0) next e in
    let same : h.0.0 ≡ next = cc (h.2) in
    let w = package_past bytes at h.0 h.1 in
    (omega (arith, w), omega (arith, w))

package_follows : Moves (λ bytes at. and_then (package_at bytes at) (λ p. Some p.0))
package_follows n p xs q ys s k next low e le =
    let h = and_parts_by (package_at xs (p + k)) (λ p. Some p.0) next e in
    let same : h.0.0 ≡ next = cc (h.2) in
    let w = package_past xs (p + k) h.0 h.1 in
    let m = package_moves n p xs q ys s k h.0 low h.1 (omega (arith, w)) (λ m is. omega (arith, is, s.in_ys)) in
    (m.0, sym same ∙ m.2, rw m.4 refl)

module _ (below : List ℕ → ℕ → Option ℕ) (goes : Ahead below) where
  piece_ahead : (p : Piece) → Ahead (piece_end below p)
  unfolding piece_end
  piece_ahead (piece.Term s) = goes
  piece_ahead piece.NameString = name_ahead
  piece_ahead (piece.Number size) = bytes_ahead (size_of size)
  piece_ahead piece.Text = text_ahead
  piece_ahead piece.Bits = none_ahead
  piece_ahead piece.Connection = none_ahead

  pub letters_ahead : (ls : List Letter) → Ahead (letters_end below ls)
  unfolding letters_end
  letters_ahead [] = here_ahead
  letters_ahead (One p ∷ rest) = then_ahead (piece_end below p) (letters_end below rest) (piece_ahead p) (letters_ahead rest)
  letters_ahead (Package ∷ rest) = package_goes
  letters_ahead (Sized l ∷ rest) = none_ahead
  letters_ahead (Branch ∷ rest) = none_ahead
  letters_ahead (Terms s ∷ rest) = none_ahead
  letters_ahead (Fields ∷ rest) = none_ahead
  letters_ahead (Bytes ∷ rest) = none_ahead

  pub list_ahead : (ls : List Letter) → Ahead (list_at below ls)
  unfolding list_at
  list_ahead [] = none_ahead
  list_ahead (One p ∷ rest) = then_ahead (piece_end below p) (list_at below rest) (piece_ahead p) (list_ahead rest)
  list_ahead (Terms s ∷ rest) = here_ahead
  list_ahead (Package ∷ rest) = none_ahead
  list_ahead (Sized l ∷ rest) = none_ahead
  list_ahead (Branch ∷ rest) = none_ahead
  list_ahead (Fields ∷ rest) = none_ahead
  list_ahead (Bytes ∷ rest) = none_ahead

  form_ahead : (bytes : List ℕ) (at next : ℕ) → at ≤ length bytes → (o : Option (Op × ℕ)) → op_there bytes at ≡ o → form_end below bytes at o ≡ Some next → (at ≤ next) × (next ≤ length bytes)
  form_ahead bytes at next le None is e = name_ahead bytes at next le e
  form_ahead bytes at next le (Some r) is e =
      let w = operator_past bytes at r is in
      let h = letters_ahead (letters_of r.0) bytes r.1 next w.1 e in
      (omega (arith, w, h), h.1)

module _ (below : List ℕ → ℕ → Option ℕ) (goes : Ahead below) (moves : Moves below) where
  piece_moves : (p : Piece) → Moves (piece_end below p)
  unfolding piece_end
  piece_moves (piece.Term s) = moves
  piece_moves piece.NameString = name_moves
  piece_moves (piece.Number size) = bytes_moves (size_of size)
  piece_moves piece.Text = text_moves
  piece_moves piece.Bits = none_moves
  piece_moves piece.Connection = none_moves

  pub letters_move : (ls : List Letter) → Moves (letters_end below ls)
  unfolding letters_end
  letters_move [] = here_moves
  letters_move (One p ∷ rest) = then_moves (piece_end below p) (letters_end below rest) (piece_ahead below goes p) (letters_ahead below goes rest) (piece_moves p) (letters_move rest)
  letters_move (Package ∷ rest) = package_follows
  letters_move (Sized l ∷ rest) = none_moves
  letters_move (Branch ∷ rest) = none_moves
  letters_move (Terms s ∷ rest) = none_moves
  letters_move (Fields ∷ rest) = none_moves
  letters_move (Bytes ∷ rest) = none_moves

  pub list_moves : (ls : List Letter) → Moves (list_at below ls)
  unfolding list_at
  list_moves [] = none_moves
  list_moves (One p ∷ rest) = then_moves (piece_end below p) (list_at below rest) (piece_ahead below goes p) (list_ahead below goes rest) (piece_moves p) (list_moves rest)
  list_moves (Terms s ∷ rest) = here_moves
  list_moves (Package ∷ rest) = none_moves
  list_moves (Sized l ∷ rest) = none_moves
  list_moves (Branch ∷ rest) = none_moves
  list_moves (Fields ∷ rest) = none_moves
  list_moves (Bytes ∷ rest) = none_moves

  form_moves : (n p : ℕ) (xs : List ℕ) (q : ℕ) (ys : List ℕ) → Seen n p xs q ys → (k next : ℕ) → k ≤ n → next ≤ p + n → (o : Option (Op × ℕ)) → op_there xs (p + k) ≡ o → form_end below xs (p + k) o ≡ Some next
      → (m : ℕ) × (next ≡ p + m) × (form_end below ys (q + k) (op_there ys (q + k)) ≡ Some (q + m))
  form_moves n p xs q ys s k next low le None is e =
      let m = name_moves n p xs q ys s k next low e le in
      let none = bare_moves n p xs q ys s k next e le is in
      (m.0, m.1, rw none m.2)
  form_moves n p xs q ys s k next low le (Some r) is e =
      let w = operator_past xs (p + k) r is in
      let h = letters_ahead below goes (letters_of r.0) xs r.1 next w.1 e in
      let f = operator_moves n p xs q ys s k r is (omega (arith, h)) in
      let there : letters_end below (letters_of r.0) xs (p + f.0) ≡ Some next = rw f.1 at e in
      let m = letters_move (letters_of r.0) n p xs q ys s f.0 next (omega (arith, f.1, h)) there le in
      (m.0, m.1, rw f.2 m.2)

-- a target that is none
no_target_by : (bytes : List ℕ) (at next : ℕ) (t : Bool) → has_byte 0x00 bytes at ≡ t → (if t then Some (at + 1) else None) ≡ Some next → (next ≡ at + 1) × (slice_get bytes at ≡ Some 0)
no_target_by bytes at next false is e = absurd cc
no_target_by bytes at next true is e = let same : at + 1 ≡ next = cc in (sym same, byte_there 0x00 (slice_get bytes at) is)

pub term_ahead : (d : ℕ) → Ahead (term_end d)
unfolding term_end
term_ahead zero bytes at next le e =
    let h = no_target_by bytes at next (has_byte 0x00 bytes at) refl e in
    let w = slice_get_within bytes at 0 h.1 in
    (omega (arith, h.0), omega (arith, h.0, w))
term_ahead (suc d) bytes at next le e = form_ahead (term_end d) (term_ahead d) bytes at next le (op_there bytes at) refl e

pub term_moves : (d : ℕ) → Moves (term_end d)
unfolding term_end
term_moves zero n p xs q ys s k next low e le =
    let h = no_target_by xs (p + k) next (has_byte 0x00 xs (p + k)) refl e in
    let g = seen_get n p xs q ys s k (omega (arith, h.0)) in
    let there : slice_get ys (q + k) ≡ Some 0 = g ∙ h.1 in
    let is : q + k + 1 ≡ q + (k + 1) = omega arith in
    (k + 1, omega (arith, h.0), rw (there, is) refl)
term_moves (suc d) n p xs q ys s k next low e le = form_moves (term_end d) (term_ahead d) (term_moves d) n p xs q ys s k next low le (op_there xs (p + k)) refl e

-- the same from the first byte on
pub keeps : (f : List ℕ → ℕ → Option ℕ) → Moves f → (n : ℕ) (xs ys : List ℕ) → Seen n 0 xs 0 ys → (k next : ℕ) → k ≤ n → f xs k ≡ Some next → next ≤ n → f ys k ≡ Some next
keeps f moves n xs ys s k next low e le =
    let z : 0 + k ≡ k = omega arith in
    let there : f xs (0 + k) ≡ Some next = rw z e in
    let r = moves n 0 xs 0 ys s k next low there (omega arith) in
    let is : 0 + r.0 ≡ next = omega (arith, r.1) in
    ap (λ (i : ℕ). f ys i) (sym z) ∙ r.2 ∙ ap (λ (i : ℕ). Some i) is

pub package_keeps : (n : ℕ) (xs ys : List ℕ) → Seen n 0 xs 0 ys → (k : ℕ) (r : ℕ × ℕ) → k ≤ n → package_at xs k ≡ Some r → r.1 ≤ n → r.0 ≤ length ys → package_at ys k ≡ Some r
package_keeps n xs ys s k r low e le fits =
    let z : 0 + k ≡ k = omega arith in
    let there : package_at xs (0 + k) ≡ Some r = rw z e in
    let m = package_moves n 0 xs 0 ys s k r low there (omega arith) (λ m is. omega (arith, is)) in
    let a : 0 + m.0 ≡ r.0 = omega (arith, m.2) in
    let b : 0 + m.1 ≡ r.1 = omega (arith, m.3) in
    ap (λ (i : ℕ). package_at ys i) (sym z) ∙ m.4 ∙ rw (a, b) refl

pub operator_keeps : (n : ℕ) (xs ys : List ℕ) → Seen n 0 xs 0 ys → (r : Op × ℕ) → op_there xs 0 ≡ Some r → r.1 ≤ n → op_there ys 0 ≡ Some r
operator_keeps n xs ys s r e le =
    let m = operator_moves n 0 xs 0 ys s 0 r e (omega arith) in
    let a : 0 + m.0 ≡ r.1 = omega (arith, m.1) in
    rw a at m.2

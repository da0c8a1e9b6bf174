-- A dead If's block is a Scope of no name, once its opcode is a Scope's.
use Rattle.std.proofs.Common.{◌≡◌, ◌≤◌, ◌<◌, ℕ, zero, suc, ◌+◌, ◌-◌, inl, inr, List, [], ◌∷◌, ◌++◌, length, take, drop, refl, sym, ap, subst, ◌∙◌, arith}
use Rattle.std.specs.Prelude.{Bool, true, false, nat_lt, ◌&&◌, not, Option, Some, None, Result, Ok, Err, slice_get, if◌then◌else◌}
use Rattle.std.proofs.Math.Seq.{drop-append-add, take-append-add, take-append_seam}
use Rattle.std.proofs.lemmas.Bool.{lt-ltb, ltb-true, cases_lt, and_parts}
use Rattle.std.proofs.lemmas.List.{length-append, take-append-le}
use Rattle.aml_lex.specs.declared.fault.LexCause.TheVariants.{BadName}
use Rattle.aml_lex.specs.declared.fault.LexFault.{LexFault}
use Rattle.aml_lex.specs.NameStrings.{NameString}
use Rattle.aml_lex.specs.Read.{Read, Found, Ends, Wrong, placed}
use Rattle.aml_lex.specs.Reading.{name_string_read, name_string_at, pkg_length_at, package_end_at, named}
use Rattle.aml_lex.specs.Exact.{Stands, ReadsPackage}
use Rattle.aml_lex.specs.Spelling.{SpellsPkgLength}
use Rattle.aml_lex.proofs.ExactLaws.{package_end_reads, pkg_length_full}
use Rattle.aml_operators.specs.declared.op.Op.TheVariants as op
use Rattle.aml_operators.specs.declared.row.Code.TheVariants as code
use Rattle.aml_operators.specs.declared.row.Spot.TheVariants as spot
use Rattle.aml_operators.specs.Tree.{Tree, Node, none, trees}
use Rattle.aml_tree.specs.declared.fault.Refusal.{Refusal}
use Rattle.aml_tree.specs.Body.{no_arguments}
use Rattle.aml_tree.specs.Leaf.{end_at, name_at, little_endian_at}
use Rattle.aml_tree.specs.Opening.{Operator}
use Rattle.aml_tree.specs.Grammar.{AreTerms, IsTerm}
use Rattle.aml_lex.specs.Standing.{has_byte}
use Rattle.aml_externals.specs.Extents.{and_then, read_or_none, name_end, bytes_end, package_at, behind as behind_read}
use Rattle.aml_externals.specs.DeadIfs.{external_end, externals_until, holds_behind, are_externals, dead_end}
use Rattle.aml_externals.specs.Laws.{AllExternal, DeadIfsAreScopes}
use Rattle.aml_externals.specs.Reached.{AreDefinitions}
use Rattle.aml_externals.proofs.DeadTurns.{not_below}
use Rattle.aml_externals.proofs.Changes.{byte_there, dead_holds_by, dead_leads}

-- bytes behind the first of some, moved on
record Moved (p : ℕ) (old new : List ℕ) : Type 0 where
  drops : (k : ℕ) → 1 ≤ k → drop (p + k) new ≡ drop k old
  many : length new ≡ p + length old

pub get_first : (xs : List ℕ) (k : ℕ) → slice_get xs k ≡ slice_get (drop k xs) 0
get_first [] zero = refl
get_first [] (suc k) = refl
get_first (x ∷ xs) zero = refl
get_first (x ∷ xs) (suc k) = get_first xs k

pub get_rest : (xs : List ℕ) (k x : ℕ) → slice_get xs k ≡ Some x → (w : List ℕ) × (drop k xs ≡ x ∷ w)
get_rest [] k x e = absurd cc
get_rest (y ∷ xs) zero x e = let same : y ≡ x = cc in (xs, rw same refl)
get_rest (y ∷ xs) (suc k) x e = get_rest xs k x e

get_seam : (front w : List ℕ) (x : ℕ) → slice_get (front ++ (x ∷ w)) (length front) ≡ Some x
get_seam [] w x = refl
get_seam (y ∷ front) w x = get_seam front w x

moved_get : (p : ℕ) (old new : List ℕ) → Moved p old new → (k : ℕ) → 1 ≤ k → slice_get new (p + k) ≡ slice_get old k
moved_get p old new m k le = get_first new (p + k) ∙ ap (λ (xs : List ℕ). slice_get xs 0) (m.drops k le) ∙ sym (get_first old k)

behind_first : (k : ℕ) (tail : List ℕ) (x y : ℕ) → 1 ≤ k → drop k (y ∷ tail) ≡ drop k (x ∷ tail)
behind_first zero tail x y le = absurd (omega arith)
behind_first (suc k) tail x y le = refl

moved : (front tail : List ℕ) (x y : ℕ) → Moved (length front) (x ∷ tail) (front ++ (y ∷ tail))
moved front tail x y = record {
  drops = λ k le. drop-append-add front (y ∷ tail) k ∙ behind_first k tail x y le;
  many = length-append front (y ∷ tail);
}

-- an External's parts
pub record IsParts (bytes : List ℕ) (at next : ℕ) : Type 0 where
  pub name : NameString
  pub len : ℕ
  pub opcode : slice_get bytes at ≡ Some 0x15
  pub named : name_string_read (drop (at + 1) bytes) ≡ Found name len
  pub within : at + 1 + len + 2 ≤ length bytes
  pub is_next : next ≡ at + 1 + len + 2

bytes_by : (bytes : List ℕ) (at next : ℕ) (t : Bool) → nat_lt (length bytes) (at + 2) ≡ t → (if t then None else Some (at + 2)) ≡ Some next → (at + 2 ≤ length bytes) × (next ≡ at + 2)
bytes_by bytes at next true is e = absurd cc
bytes_by bytes at next false is e =
    let f : at + 2 ≡ next = cc in
    (elim (cases_lt (length bytes) (at + 2)) [ inl lt ↦ (let t : nat_lt (length bytes) (at + 2) ≡ true = lt-ltb (length bytes) (at + 2) lt in absurd cc) | inr le ↦ le ], sym f)

bytes_parts : (bytes : List ℕ) (at next : ℕ) → bytes_end 2 bytes at ≡ Some next → (at + 2 ≤ length bytes) × (next ≡ at + 2)
unfolding bytes_end
bytes_parts bytes at next e = bytes_by bytes at next (nat_lt (length bytes) (at + 2)) refl e

name_by : (at end : ℕ) (r : Read NameString) (e : ℕ) → behind_read (placed BadName at end r) ≡ Some e → (v : NameString) × (len : ℕ) × (r ≡ Found v len) × (e ≡ at + len)
name_by at end (Found v len) e is = let f : at + len ≡ e = cc in (v, len, refl, sym f)
name_by at end Ends e is = absurd cc
name_by at end (Wrong place) e is = absurd cc

name_parts : (bytes : List ℕ) (at e : ℕ) → name_end bytes at ≡ Some e → (v : NameString) × (len : ℕ) × (name_string_read (drop at bytes) ≡ Found v len) × (e ≡ at + len)
unfolding name_end name_string_at
name_parts bytes at e is = name_by at (length bytes) (name_string_read (drop at bytes)) e is

parts_by : (bytes : List ℕ) (at next : ℕ) (t : Bool) (o : Option ℕ) → has_byte 0x15 bytes at ≡ t → name_end bytes (at + 1) ≡ o → (if t then and_then o (bytes_end 2 bytes) else None) ≡ Some next → IsParts bytes at next
parts_by bytes at next false o is named e = absurd cc
parts_by bytes at next true None is named e = absurd cc
parts_by bytes at next true (Some behind_name) is named e =
    let n = name_parts bytes (at + 1) behind_name named in
    let b = bytes_parts bytes behind_name next e in
    record { name = n.0; len = n.1; opcode = byte_there 0x15 (slice_get bytes at) is; named = n.2; within = omega (arith, n.3, b.0); is_next = omega (arith, n.3, b.1) }

pub external_parts : (bytes : List ℕ) (at next : ℕ) → external_end bytes at ≡ Some next → IsParts bytes at next
unfolding external_end
external_parts bytes at next e = parts_by bytes at next (has_byte 0x15 bytes at) (name_end bytes (at + 1)) refl refl e

-- the same parts by the grammar, moved on
name_moved : (p : ℕ) (old new : List ℕ) → Moved p old new → (k at : ℕ) (v : NameString) (len : ℕ) → 1 ≤ k → at ≡ p + k → name_string_read (drop k old) ≡ Found v len → name_at new at ≡ Ok (v, at + len)
unfolding name_at name_string_at
name_moved p old new m k at v len le e is =
    let d : drop at new ≡ drop k old = rw e (m.drops k le) in
    rw (d, is) refl

-- the number that was read, if one was
abbrev number_of : Result (ℕ × ℕ) Refusal → ℕ
number_of (Ok r) = r.0
number_of (Err f) = 0

abbrev byte_of : List ℕ → ℕ → ℕ
byte_of bytes at = number_of (little_endian_at 1 bytes at)

byte_moved : (p : ℕ) (old new : List ℕ) → Moved p old new → (k at : ℕ) → 1 ≤ k → at ≡ p + k → k + 1 ≤ length old → little_endian_at 1 new at ≡ Ok (byte_of old k, at + 1)
unfolding little_endian_at
byte_moved p old new m k at le e within =
    let d : drop at new ≡ drop k old = rw e (m.drops k le) in
    let t : nat_lt (length new) (at + 1) ≡ false = not_below (length new) (at + 1) (omega (arith, m.many)) (nat_lt (length new) (at + 1)) refl in
    let u : nat_lt (length old) (k + 1) ≡ false = not_below (length old) (k + 1) within (nat_lt (length old) (k + 1)) refl in
    rw (t, u, d) refl

abbrev external_tree : ℕ → ℕ → ℕ → ℕ → Tree
external_tree at len a b = Node op.External at (at + 1 + len + 1 + 1)
    (trees (Node op.NameString (at + 1) (at + 1 + len) none ∷ Node (op.Number a) (at + 1 + len) (at + 1 + len + 1) none ∷ Node (op.Number b) (at + 1 + len + 1) (at + 1 + len + 1 + 1) none ∷ []))

external_term : (p own d : ℕ) (old new : List ℕ) → Moved p old new → (k next : ℕ) → 1 ≤ k → (parts : IsParts old k next)
    → IsTerm code.Module no_arguments (suc d) own spot.Statement new (p + k) (external_tree (p + k) parts.len (byte_of old (k + 1 + parts.len)) (byte_of old (k + 1 + parts.len + 1)))
external_term p own d old new m k next le parts =
    let at : ℕ = p + k in
    let len : ℕ = parts.len in
    let first : slice_get new at ≡ Some 0x15 = moved_get p old new m k le ∙ parts.opcode in
    let name : name_at new (at + 1) ≡ Ok (parts.name, at + 1 + len) = name_moved p old new m (k + 1) (at + 1) parts.name len (omega arith) (omega arith) parts.named in
    let kind : little_endian_at 1 new (at + 1 + len) ≡ Ok (byte_of old (k + 1 + len), at + 1 + len + 1) = byte_moved p old new m (k + 1 + len) (at + 1 + len) (omega arith) (omega arith) (omega (arith, parts.within)) in
    let count : little_endian_at 1 new (at + 1 + len + 1) ≡ Ok (byte_of old (k + 1 + len + 1), at + 1 + len + 1 + 1) = byte_moved p old new m (k + 1 + len + 1) (at + 1 + len + 1) (omega arith) (omega arith) (omega (arith, parts.within)) in
    let a : ℕ = byte_of old (k + 1 + len) in
    let b : ℕ = byte_of old (k + 1 + len + 1) in
    let named : Tree = Node op.NameString (at + 1) (at + 1 + len) none in
    let typed : Tree = Node (op.Number a) (at + 1 + len) (at + 1 + len + 1) none in
    let counted : Tree = Node (op.Number b) (at + 1 + len + 1) (at + 1 + len + 1 + 1) none in (
      Operator op.External (at + 1),
      (omega arith, inl (first, refl, (λ e. absurd (omega (arith, e))), refl), refl),
      (
        at + 1 + len + 1 + 1,
        named ∷ typed ∷ counted ∷ [],
        (
          named,
          typed ∷ counted ∷ [],
          refl,
          (parts.name, at + 1 + len, name, refl),
          (typed, counted ∷ [], refl, (a, at + 1 + len + 1, kind, refl), (counted, [], refl, (b, at + 1 + len + 1 + 1, count, refl), (refl, refl))),
        ),
        refl,
      ),
    )

-- Externals up to the end, the same wherever the bytes are moved to
abbrev InList : ℕ → ℕ → List ℕ → ℕ → Type 0
InList p d old k = (ts : List Tree) × AllExternal ts × (k < length old → 0 < length ts)
    × ((own : ℕ) (new : List ℕ) → Moved p old new → AreTerms no_arguments (IsTerm code.Module no_arguments (suc d)) own spot.Statement new (p + k) (p + length old) ts)

none_left : (p d : ℕ) (old : List ℕ) (k : ℕ) → k ≡ length old → InList p d old k
none_left p d old k e = ([], tt, (λ lt. absurd (omega (arith, e))), (λ own new m. ap (λ (n : ℕ). p + n) e))

one_more : (p d : ℕ) (old : List ℕ) (k next : ℕ) → 1 ≤ k → IsParts old k next → InList p d old next → InList p d old k
one_more p d old k next le parts rest = (
  external_tree (p + k) parts.len (byte_of old (k + 1 + parts.len)) (byte_of old (k + 1 + parts.len + 1)) ∷ rest.0,
  (refl, rest.1),
  (λ lt. omega arith),
  (λ own new m. (
    external_term p own d old new m k next le parts,
    (let e : p + k + 1 + parts.len + 1 + 1 ≡ p + next = omega (arith, parts.is_next) in rw e (rest.3 own new m)),
  )),
)

externals_by : (p d : ℕ) (old : List ℕ) (n k : ℕ) → 1 ≤ k → ((next : ℕ) → k < next → externals_until n old next ≡ true → next ≤ length old → InList p d old next)
    → (o : Option ℕ) → external_end old k ≡ o → holds_behind o (externals_until n old) ≡ true → InList p d old k
externals_by p d old n k le ih None is e = absurd cc
externals_by p d old n k le ih (Some next) is e =
    let parts = external_parts old k next is in
    one_more p d old k next le parts (ih next (omega (arith, parts.is_next)) e (omega (arith, parts.is_next, parts.within)))

externals_test : (p d : ℕ) (old : List ℕ) (n k : ℕ) → 1 ≤ k → k ≤ length old → ((next : ℕ) → k < next → externals_until n old next ≡ true → next ≤ length old → InList p d old next)
    → (t : Bool) → nat_lt k (length old) ≡ t → (if t then holds_behind (external_end old k) (externals_until n old) else true) ≡ true → InList p d old k
externals_test p d old n k le within ih true is e = externals_by p d old n k le ih (external_end old k) refl e
externals_test p d old n k le within ih false is e =
    none_left p d old k (elim (cases_lt k (length old)) [ inl lt ↦ (let t : nat_lt k (length old) ≡ true = lt-ltb k (length old) lt in absurd cc) | inr hi ↦ omega arith ])

externals_in : (p d : ℕ) (old : List ℕ) (n k : ℕ) → 1 ≤ k → externals_until n old k ≡ true → k ≤ length old → length old ≤ k + n → InList p d old k
externals_in p d old zero k le e within fuel = none_left p d old k (omega arith)
externals_in p d old (suc n) k le e within fuel =
    externals_test p d old n k le within (λ next lt is in_old. externals_in p d old n next (omega arith) is in_old (omega arith)) (nat_lt k (length old)) refl e

-- a package length, whatever stands before it and behind the package
pub package_from : (bytes : List ℕ) (at value next : ℕ) → pkg_length_at bytes at ≡ Ok (value, next) → next ≤ at + value → at + value ≤ length bytes → package_end_at bytes at ≡ Ok (at + value, next)
unfolding package_end_at
package_from bytes at value next is low high =
    let t : nat_lt (at + value) next ≡ false = not_below (at + value) next low (nat_lt (at + value) next) refl in
    let u : nat_lt (length bytes) (at + value) ≡ false = not_below (length bytes) (at + value) high (nat_lt (length bytes) (at + value)) refl in
    rw (is, t, u) refl

end_from : (bytes : List ℕ) (at : ℕ) (r : ℕ × ℕ) → package_end_at bytes at ≡ Ok r → end_at bytes at ≡ Ok r
unfolding end_at
end_from bytes at r e = rw e refl

package_moved : (front tail behind more : List ℕ) (x y next : ℕ) → package_end_at (x ∷ (tail ++ behind)) 1 ≡ Ok (suc (length tail), next)
    → (end_at (front ++ (y ∷ (tail ++ more))) (length front + 1) ≡ Ok (length front + suc (length tail), length front + next)) × (1 ≤ next) × (next ≤ suc (length tail))
package_moved front tail behind more x y next is =
    let p : ℕ = length front in
    let new : List ℕ = front ++ (y ∷ (tail ++ more)) in
    let r = package_end_reads (x ∷ (tail ++ behind)) 1 (omega arith) in
    let h : ReadsPackage (x ∷ (tail ++ behind)) 1 (Ok (suc (length tail), next)) = rw is at r in
    let value : ℕ = h.2.0 in
    let stands = h.2.2 in
    let many : length new ≡ p + suc (length tail + length more) = length-append front (y ∷ (tail ++ more)) ∙ omega (arith, length-append tail more) in
    let few : next - 1 ≤ length tail = omega (arith, h.0) in
    let len : p + next - (p + 1) ≡ next - 1 = omega arith in
    let d : drop (p + 1) new ≡ tail ++ more = drop-append-add front (y ∷ (tail ++ more)) 1 in
    let e : take (next - 1) (tail ++ more) ≡ take (next - 1) tail = take-append-le (next - 1) tail more few in
    let f : take (next - 1) (tail ++ behind) ≡ take (next - 1) tail = take-append-le (next - 1) tail behind few in
    let spells : SpellsPkgLength value (take (next - 1) tail) = rw f at stands.2 in
    let there : Stands SpellsPkgLength new (p + 1) value (p + next) = (omega (arith, stands.0), omega (arith, h.0, many), rw (len, d, e) spells) in
    let read = pkg_length_full new (p + 1) value (p + next) there in
    let end : p + 1 + value ≡ p + suc (length tail) = omega (arith, h.2.1) in
    let whole : package_end_at new (p + 1) ≡ Ok (p + 1 + value, p + next) = package_from new (p + 1) value (p + next) read (omega (arith, h.0, h.2.1)) (omega (arith, many, h.2.1)) in
    (end_from new (p + 1) (p + suc (length tail), p + next) (rw end at whole), stands.0, h.0)

-- the null name
pub null_name : (bytes : List ℕ) (at : ℕ) (w : List ℕ) → drop at bytes ≡ 0 ∷ w → name_at bytes at ≡ Ok (named false 0 [], at + 1)
unfolding name_at name_string_at
null_name bytes at w e = rw e refl

package_read_by : (o : Result (ℕ × ℕ) LexFault) (r : ℕ × ℕ) → read_or_none o ≡ Some r → o ≡ Ok r
package_read_by (Ok p) r e = let same : p ≡ r = cc in rw same refl
package_read_by (Err f) r e = absurd cc

package_read : (bytes : List ℕ) (r : ℕ × ℕ) → package_at bytes 1 ≡ Some r → package_end_at bytes 1 ≡ Ok r
unfolding package_at
package_read bytes r e = package_read_by (package_end_at bytes 1) r e

pub externals_there : (bytes : List ℕ) (at : ℕ) → are_externals bytes at ≡ true → (at < length bytes) × (externals_until (length bytes) bytes at ≡ true)
unfolding are_externals
externals_there bytes at e =
    let parts = and_parts (nat_lt at (length bytes)) (externals_until (length bytes) bytes at) e in
    (ltb-true at (length bytes) parts.0, parts.1)

-- what a dead If's bytes are
pub record IsDead (tail behind : List ℕ) : Type 0 where
  pub next : ℕ
  pub spelled : package_end_at (0xA0 ∷ (tail ++ behind)) 1 ≡ Ok (suc (length tail), next)
  pub test : slice_get (0xA0 ∷ tail) next ≡ Some 0
  pub few : next + 1 < suc (length tail)
  pub held : externals_until (suc (length tail)) (0xA0 ∷ tail) (next + 1) ≡ true

pub dead_is : (tail behind : List ℕ) → dead_end (0xA0 ∷ (tail ++ behind)) ≡ Some (suc (length tail)) → IsDead tail behind
unfolding dead_end
dead_is tail behind e =
    let xs : List ℕ = 0xA0 ∷ (tail ++ behind) in
    let n : ℕ = suc (length tail) in
    let found = dead_holds_by xs (package_at xs 1) n e in
    let next : ℕ = found.0 in
    let cut : take n xs ≡ 0xA0 ∷ tail = ap (λ (l : List ℕ). 0xA0 ∷ l) (take-append_seam tail behind) in
    let two = and_parts (has_byte 0x00 (take n xs) next && are_externals (take n xs) (next + 1)) (not (has_byte 0xA1 xs n)) found.2 in
    let one = and_parts (has_byte 0x00 (take n xs) next) (are_externals (take n xs) (next + 1)) two.0 in
    let zero_at : slice_get (take n xs) next ≡ Some 0 = byte_there 0x00 (slice_get (take n xs) next) one.0 in
    let all = externals_there (take n xs) (next + 1) one.1 in
    let all_cut : (next + 1 < length (0xA0 ∷ tail)) × (externals_until (length (0xA0 ∷ tail)) (0xA0 ∷ tail) (next + 1) ≡ true) = subst (λ (l : List ℕ). (next + 1 < length l) × (externals_until (length l) l (next + 1) ≡ true)) cut all in
    record { next = next; spelled = package_read xs (n, next) found.1; test = subst (λ (l : List ℕ). slice_get l next ≡ Some 0) cut zero_at; few = all_cut.0; held = all_cut.1 }

abbrev IsScope : List ℕ → List ℕ → List ℕ → ℕ → ℕ → ℕ → Type 0
IsScope front tail more first asker depth = (at : ℕ) × (externals : List Tree) × AllExternal externals × (0 < length externals)
    × AreDefinitions (suc depth) (front ++ (first ∷ tail)) (at + 1) (length front + suc (length tail)) externals
    × IsTerm code.Module no_arguments (suc (suc depth)) asker spot.Statement (front ++ (0x10 ∷ (tail ++ more))) (length front)
    (Node op.Scope (length front) (length front + suc (length tail)) (trees (Node op.NameString at (at + 1) none ∷ externals)))

scope_of : (front tail behind more : List ℕ) (asker depth : ℕ) → IsDead tail behind → IsScope front tail more 0xA0 asker depth
scope_of front tail behind more asker depth dead =
    let p : ℕ = length front in
    let n : ℕ = suc (length tail) in
    let old : List ℕ = 0xA0 ∷ tail in
    let new : List ℕ = front ++ (0x10 ∷ (tail ++ more)) in
    let cut_new : List ℕ = front ++ (0x10 ∷ tail) in
    let pk = package_moved front tail behind more 0xA0 0x10 dead.next dead.spelled in
    let at : ℕ = p + dead.next in
    let all = externals_in p depth old n (dead.next + 1) (omega arith) dead.held (omega (arith, dead.few)) (omega arith) in
    let e : p + (dead.next + 1) ≡ at + 1 = omega arith in
    let m : Moved p old cut_new = moved front tail 0xA0 0x10 in
    let w = get_rest old dead.next 0 dead.test in
    let null = null_name cut_new at w.0 (m.drops dead.next pk.1 ∙ w.1) in
    let cut : take (p + n) new ≡ cut_new = take-append-add front (0x10 ∷ (tail ++ more)) n ∙ ap (λ (l : List ℕ). front ++ (0x10 ∷ l)) (take-append_seam tail more) in
    let inside_old = rw e at (all.3 (at + 1) (front ++ old) (moved front tail 0xA0 0xA0)) in
    let inside_new = rw e at (all.3 p cut_new m) in (
      at,
      all.0,
      all.1,
      all.2 (omega (arith, dead.few)),
      inside_old,
      (
        Operator op.Scope (p + 1),
        (omega arith, inl (get_seam front (tail ++ more) 0x10, refl, (λ f. absurd (omega (arith, f))), refl), refl),
        (
          p + n,
          Node op.NameString at (at + 1) none ∷ all.0,
          (p + n, at, pk.0, rw cut (Node op.NameString at (at + 1) none, all.0, refl, (named false 0 [], at + 1, null, refl), (inside_new, sym m.many))),
          refl,
        ),
      ),
    )

pub dead_ifs_are_scopes : DeadIfsAreScopes
dead_ifs_are_scopes front [] behind more asker depth e = let l = dead_leads behind 0 e in absurd cc
dead_ifs_are_scopes front (b ∷ tail) behind more asker depth e =
    let l = dead_leads (b ∷ (tail ++ behind)) (suc (length tail)) e in
    let same : b ≡ 0xA0 = cc in
    let f : dead_end (0xA0 ∷ (tail ++ behind)) ≡ Some (suc (length tail)) = rw same at e in
    rw same (scope_of front tail behind more asker depth (dead_is tail behind f))

-- Opening what was opened changes nothing.
use Rattle.std.proofs.Common.{◌≡◌, ◌≤◌, ◌<◌, ℕ, zero, suc, ◌+◌, ◌-◌, ◌*◌, ◌%◌, List, [], ◌∷◌, ◌++◌, length, take, drop, get_or, refl, sym, ap, ◌∙◌, inl, inr, arith, length-drop}
use Rattle.std.specs.Prelude.{Bool, true, false, nat_lt, Option, Some, None, slice_get, slice_index, if◌then◌else◌}
use Rattle.std.proofs.lemmas.Bool.{lt-ltb, cases_lt}
use Rattle.std.proofs.lemmas.List.{length-take, take-append-drop, take-append-le, take-take, drop-drop, length-append, length-take-le, get_or-set_same, get_or_past, drop-set-lt}
use Rattle.std.proofs.Math.Seq.{take-append_seam}
use Rattle.std.proofs.Math.ListN.{drop_of_length-le, length-set, set}
use Rattle.aml_operators.specs.declared.op.Op.TheVariants as op
use Rattle.aml_operators.specs.declared.row.Piece.TheVariants as piece
use Rattle.aml_operators.specs.declared.row.Spot.TheVariants as spot
use Rattle.aml_operators.specs.declared.row.NumberSize.TheVariants.{Byte}
use Rattle.aml_operators.specs.declared.row.Letter.TheVariants.{One, Terms}
use Rattle.aml_operators.specs.Table.{op_of}
use Rattle.aml_operators.proofs.Rows.{op_of_finds}
use Rattle.aml_lex.specs.Reading.{name_string_at}
use Rattle.aml_externals.specs.declared.step.Step.{Step}
use Rattle.aml_externals.specs.declared.step.Step.TheVariants.{Dead, Enter, Over, Stop}
use Rattle.aml_lex.specs.Standing.{has_byte}
use Rattle.aml_externals.specs.Extents.{package_at, name_end, bytes_end, list_at, piece_end, letters_end, term_end}
use Rattle.aml_externals.specs.DeadIfs.{external_end, externals_until, holds_behind, dead_end, dead_end_of}
use Rattle.aml_externals.specs.Steps.{over, step_of}
use Rattle.aml_externals.specs.Opened.{Opened, kept, joined, entered, opened_by, opened_until, opened, dead_inside, dead_in}
use Rattle.aml_externals.specs.Table.{table_opened, with_checksum, dead_at}
use Rattle.aml_externals.specs.Laws.{AgainNothingChanges, NoneIsFoundAgain}
use Rattle.aml_externals.proofs.Turns.{step_of_none, until_stop}
use Rattle.aml_externals.proofs.DeadTurns.{not_below}
use Rattle.aml_externals.proofs.Changes.{changes, changes_until, changes_in_table, dead_step, dead_leads, dead_holds_by}
use Rattle.aml_externals.proofs.TableLaws.{stays_when, length_stays}
use Rattle.aml_externals.proofs.Scopes.{IsParts, external_parts, IsDead, dead_is, get_first, get_rest}
use Rattle.aml_externals.proofs.Seen.{Seen, package_moves, package_is, package_past}
use Rattle.aml_externals.proofs.Again.{step_is, over_stays, enter_stays}
use Rattle.aml_tree.specs.OperatorAt.{op_there}

-- an External is stepped over
external_letters : (d : ℕ) (w : List ℕ) (next : ℕ) → IsParts w 0 next → letters_end (term_end d) (One piece.NameString ∷ One (piece.Number Byte) ∷ One (piece.Number Byte) ∷ []) w 1 ≡ Some next
unfolding letters_end piece_end name_end name_string_at bytes_end
external_letters d w next parts =
    let named = parts.named in
    let a : nat_lt (length w) (1 + parts.len + 1) ≡ false = not_below (length w) (1 + parts.len + 1) (omega (arith, parts.within)) (nat_lt (length w) (1 + parts.len + 1)) refl in
    let b : nat_lt (length w) (1 + parts.len + 1 + 1) ≡ false = not_below (length w) (1 + parts.len + 1 + 1) (omega (arith, parts.within)) (nat_lt (length w) (1 + parts.len + 1 + 1)) refl in
    let e : 1 + parts.len + 1 + 1 ≡ next = omega (arith, parts.is_next) in
    rw (named, a, b, e) refl

external_operator : (w : List ℕ) → slice_get w 0 ≡ Some 0x15 → op_there w 0 ≡ Some (op.External, 1)
external_operator w here =
    let found : op_of 0x15 ≡ Some op.External = op_of_finds op.External (omega arith) in
    rw (here, found) refl

external_over : (d : ℕ) (w : List ℕ) (next : ℕ) → IsParts w 0 next → step_of d w ≡ Over next
external_over d w next parts = step_is d w (Over next) (op.External, 1) (external_operator w parts.opcode) refl (ap over (external_letters d w next parts))

parts_from : (xs : List ℕ) (k next : ℕ) → IsParts xs k next → IsParts (drop k xs) 0 (next - k)
parts_from xs k next parts =
    let d : drop 1 (drop k xs) ≡ drop (k + 1) xs = drop-drop 1 k xs in
    record {
      name = parts.name;
      len = parts.len;
      opcode = sym (get_first xs k) ∙ parts.opcode;
      named = rw d parts.named;
      within = omega (arith, parts.within, length-drop k xs);
      is_next = omega (arith, parts.is_next);
    }

joined_kept : (size : ℕ) (bytes : List ℕ) → joined (kept (take size bytes)) (kept (drop size bytes)) ≡ kept bytes
joined_kept size bytes = rw (take-append-drop size bytes) refl

module _ (below : List ℕ → Opened) (d : ℕ) where
  flat_end : (m : ℕ) (xs : List ℕ) (k : ℕ) → length xs ≤ k → opened_until below d (suc m) (drop k xs) ≡ kept (drop k xs)
  flat_end m xs k le =
      let none : drop k xs ≡ [] = drop_of_length-le xs le in
      let stop : step_of d (drop k xs) ≡ Stop = rw none (step_of_none d) in
      until_stop below d (suc m) (drop k xs) stop

  flat_by : (m : ℕ) (xs : List ℕ) (k n : ℕ) → (o : Option ℕ) → external_end xs k ≡ o → holds_behind o (externals_until n xs) ≡ true
      → ((next : ℕ) → k < next → externals_until n xs next ≡ true → opened_until below d m (drop next xs) ≡ kept (drop next xs))
      → opened_until below d (suc m) (drop k xs) ≡ kept (drop k xs)
  flat_by m xs k n None is e more = absurd cc
  flat_by m xs k n (Some next) is e more =
      let parts = external_parts xs k next is in
      let step = external_over d (drop k xs) (next - k) (parts_from xs k next parts) in
      let there : k + (next - k) ≡ next = omega (arith, parts.is_next) in
      let q : drop (next - k) (drop k xs) ≡ drop next xs = drop-drop (next - k) k xs ∙ ap (λ (n : ℕ). drop n xs) there in
      let rest : opened_until below d m (drop (next - k) (drop k xs)) ≡ kept (drop (next - k) (drop k xs)) = rw q (more next (omega (arith, parts.is_next)) e) in
      rw (step, rest) (joined_kept (next - k) (drop k xs))

  flat_test : (m : ℕ) (xs : List ℕ) (k n : ℕ) → (t : Bool) → nat_lt k (length xs) ≡ t → (if t then holds_behind (external_end xs k) (externals_until n xs) else true) ≡ true
      → ((next : ℕ) → k < next → externals_until n xs next ≡ true → opened_until below d m (drop next xs) ≡ kept (drop next xs))
      → opened_until below d (suc m) (drop k xs) ≡ kept (drop k xs)
  flat_test m xs k n true is e more = flat_by m xs k n (external_end xs k) refl e more
  flat_test m xs k n false is e more = flat_end m xs k (elim (cases_lt k (length xs)) [ inl lt ↦ (let t : nat_lt k (length xs) ≡ true = lt-ltb k (length xs) lt in absurd cc) | inr hi ↦ hi ])

  -- Externals alone stay as they are
  flat : (m : ℕ) (xs : List ℕ) (k n : ℕ) → externals_until n xs k ≡ true → length xs ≤ k + n → opened_until below d m (drop k xs) ≡ kept (drop k xs)
  flat zero xs k n e fuel = refl
  flat (suc m) xs k zero e fuel = flat_end m xs k (omega arith)
  flat (suc m) xs k (suc n) e fuel = flat_test m xs k n (nat_lt k (length xs)) refl e (λ next lt is. flat m xs next n is (omega arith))

pub flat_list : (d : ℕ) (xs : List ℕ) (k n : ℕ) → externals_until n xs k ≡ true → length xs ≤ k + n → opened d (drop k xs) ≡ kept (drop k xs)
unfolding opened
flat_list zero xs k n e fuel = refl
flat_list (suc d) xs k n e fuel = flat (opened d) (suc d) (length (drop k xs)) xs k n e fuel

-- a list of two parts
take_seam : (a b : List ℕ) (size : ℕ) → length a ≡ size → take size (a ++ b) ≡ a
take_seam a b size e = rw (← e) (take-append_seam a b)

drop_length : (a b : List ℕ) → drop (length a) (a ++ b) ≡ b
drop_length [] b = refl
drop_length (x ∷ a) b = drop_length a b

drop_seam : (a b : List ℕ) (size : ℕ) → length a ≡ size → drop size (a ++ b) ≡ b
drop_seam a b size e = rw (← e) (drop_length a b)

module _ (below : List ℕ → Opened) (d : ℕ) where
  over_again : (n : ℕ) (a b : List ℕ) (size : ℕ) → length a ≡ size → step_of d (a ++ b) ≡ Over size → opened_until below d n b ≡ kept b → opened_until below d (suc n) (a ++ b) ≡ kept (a ++ b)
  over_again n a b size e is more = let t = take_seam a b size e in let u = drop_seam a b size e in rw (is, t, u, more) refl

  enter_again : (n : ℕ) (a b : List ℕ) (from size : ℕ) → length a ≡ size → step_of d (a ++ b) ≡ Enter from size → below (drop from a) ≡ kept (drop from a) → opened_until below d n b ≡ kept b → opened_until below d (suc n) (a ++ b) ≡ kept (a ++ b)
  enter_again n a b from size e is inside more =
      let t = take_seam a b size e in
      let u = drop_seam a b size e in
      rw (is, t, u, inside, more, take-append-drop from a) refl

-- a Scope that was a dead If
scope_operator : (w : List ℕ) → op_there (0x10 ∷ w) 0 ≡ Some (op.Scope, 1)
scope_operator w = let found : op_of 0x10 ≡ Some op.Scope = op_of_finds op.Scope (omega arith) in rw found refl

scope_name : (bytes : List ℕ) (at : ℕ) (w : List ℕ) → drop at bytes ≡ 0 ∷ w → name_end bytes at ≡ Some (at + 1)
unfolding name_end name_string_at
scope_name bytes at w e = rw e refl

scope_list : (d : ℕ) (bytes : List ℕ) (at : ℕ) → name_end bytes at ≡ Some (at + 1) → list_at (term_end d) (One piece.NameString ∷ Terms spot.Statement ∷ []) bytes at ≡ Some (at + 1)
unfolding list_at piece_end
scope_list d bytes at e = rw e refl

after_first : (k : ℕ) (tail : List ℕ) (x y : ℕ) → 1 ≤ k → drop k (y ∷ tail) ≡ drop k (x ∷ tail)
after_first zero tail x y le = absurd (omega arith)
after_first (suc k) tail x y le = refl

scope_package : (tail behind more : List ℕ) (next : ℕ) → package_at (0xA0 ∷ (tail ++ behind)) 1 ≡ Some (suc (length tail), next) → package_at (0x10 ∷ (tail ++ more)) 1 ≡ Some (suc (length tail), next)
scope_package tail behind more next is =
    let xs : List ℕ = 0xA0 ∷ (tail ++ behind) in
    let ys : List ℕ = 0x10 ∷ (tail ++ more) in
    let w = package_past xs 1 (suc (length tail), next) is in
    let s : Seen (length tail) 1 xs 1 ys = record {
      same = take-append_seam tail behind ∙ sym (take-append_seam tail more);
      in_xs = omega (arith, length-append tail behind);
      in_ys = omega (arith, length-append tail more);
    } in
    let m = package_moves (length tail) 1 xs 1 ys s 0 (suc (length tail), next) (omega arith) is (omega (arith, w)) (λ m e. omega (arith, e, length-append tail more)) in
    let a : 1 + m.0 ≡ suc (length tail) = sym m.2 in
    let b : 1 + m.1 ≡ next = sym m.3 in
    rw (a, b) at m.4

scope_step : (d : ℕ) (tail behind more : List ℕ) (dead : IsDead tail behind) → step_of d (0x10 ∷ (tail ++ more)) ≡ Enter (dead.next + 1) (suc (length tail))
scope_step d tail behind more dead =
    let ys : List ℕ = 0x10 ∷ (tail ++ more) in
    let n : ℕ = suc (length tail) in
    let first : package_at (0xA0 ∷ (tail ++ behind)) 1 ≡ Some (n, dead.next) = package_is (0xA0 ∷ (tail ++ behind)) 1 (n, dead.next) dead.spelled in
    let w = package_past (0xA0 ∷ (tail ++ behind)) 1 (n, dead.next) first in
    let p = scope_package tail behind more dead.next first in
    let cut : take n ys ≡ 0x10 ∷ tail = ap (λ (l : List ℕ). 0x10 ∷ l) (take-append_seam tail more) in
    let z = get_rest (0xA0 ∷ tail) dead.next 0 dead.test in
    let named = scope_name (0x10 ∷ tail) dead.next z.0 (after_first dead.next tail 0xA0 0x10 (omega (arith, w)) ∙ z.1) in
    let l = scope_list d (0x10 ∷ tail) dead.next named in
    step_is d ys (Enter (dead.next + 1) n) (op.Scope, 1) (scope_operator (tail ++ more)) refl (rw (p, cut, l) refl)

-- a dead If ends within the bytes
fits_by : (bytes : List ℕ) (size : ℕ) (o : Option (ℕ × ℕ)) → package_at bytes 1 ≡ o → dead_end_of bytes o ≡ Some size → size ≤ length bytes
fits_by bytes size o is e =
    let h = dead_holds_by bytes o size e in
    let w = package_past bytes 1 (size, h.0) (is ∙ h.1) in
    w.2

fits_test : (bytes : List ℕ) (size : ℕ) (t : Bool) → (if t then dead_end_of bytes (package_at bytes 1) else None) ≡ Some size → size ≤ length bytes
fits_test bytes size false e = absurd cc
fits_test bytes size true e = fits_by bytes size (package_at bytes 1) refl e

pub dead_fits : (bytes : List ℕ) (size : ℕ) → dead_end bytes ≡ Some size → length (take size bytes) ≡ size
unfolding dead_end
dead_fits bytes size e = length-take-le size bytes (fits_test bytes size (has_byte 0xA0 bytes 0) e)

module _ (d : ℕ) (inside : (bytes : List ℕ) → opened d (opened d bytes).0 ≡ kept (opened d bytes).0) where
  abbrev until : ℕ → List ℕ → Opened
  until n bytes = opened_until (opened d) (suc d) n bytes

  abbrev IsOnce : ℕ → Type 0
  IsOnce n = (bytes : List ℕ) → until n (until n bytes).0 ≡ kept (until n bytes).0

  many : (n : ℕ) (bytes : List ℕ) → length (until n bytes).0 ≡ length bytes
  many n bytes = let ch = changes_until (opened d) (dead_in d) (changes d) (suc d) n bytes in ch.same_length

  dead_again : (n : ℕ) (bytes : List ℕ) (size : ℕ) → step_of (suc d) bytes ≡ Dead size → IsOnce n → (tail : List ℕ) → take size bytes ≡ 0xA0 ∷ tail → length (take size bytes) ≡ size
      → until (suc n) ((0x10 ∷ tail) ++ (until n (drop size bytes)).0) ≡ kept ((0x10 ∷ tail) ++ (until n (drop size bytes)).0)
  dead_again n bytes size is more tail leads fits =
      let behind : List ℕ = drop size bytes in
      let b : List ℕ = (until n behind).0 in
      let whole : bytes ≡ 0xA0 ∷ (tail ++ behind) = sym (take-append-drop size bytes) ∙ ap (λ (l : List ℕ). l ++ behind) leads in
      let long : suc (length tail) ≡ size = sym (ap (λ (l : List ℕ). length l) leads) ∙ fits in
      let e : dead_end bytes ≡ Some size = dead_step (suc d) bytes size is in
      let f : dead_end (0xA0 ∷ (tail ++ behind)) ≡ Some (suc (length tail)) = ap dead_end (sym whole) ∙ e ∙ ap Some (sym long) in
      let dead = dead_is tail behind f in
      let s = scope_step (suc d) tail behind b dead in
      let old : List ℕ = 0xA0 ∷ tail in
      let k : ℕ = dead.next + 1 in
      let same : drop k (0x10 ∷ tail) ≡ drop k old = after_first k tail 0xA0 0x10 (omega arith) in
      let flat = flat_list d old k (suc (length tail)) dead.held (omega arith) in
      let at : opened d (drop k (0x10 ∷ tail)) ≡ kept (drop k (0x10 ∷ tail)) = rw same flat in
      enter_again (opened d) (suc d) n (0x10 ∷ tail) b k (suc (length tail)) refl s at (more behind)

  over_once : (n : ℕ) (bytes : List ℕ) (size : ℕ) → step_of (suc d) bytes ≡ Over size → IsOnce n
      → until (suc n) (take size bytes ++ (until n (drop size bytes)).0) ≡ kept (take size bytes ++ (until n (drop size bytes)).0)
  over_once n bytes size is more =
      let h = over_stays (suc d) bytes size is in
      let a : List ℕ = take size bytes in
      let b : List ℕ = (until n (drop size bytes)).0 in
      let long : length a ≡ size = length-take-le size bytes h.1 in
      let s : Seen size 0 bytes 0 (a ++ b) = record { same = sym (take_seam a b size long); in_xs = omega (arith, h.1); in_ys = omega (arith, length-append a b, long) } in
      over_again (opened d) (suc d) n a b size long (h.2 (a ++ b) s) (more (drop size bytes))

  enter_once : (n : ℕ) (bytes : List ℕ) (from size : ℕ) → step_of (suc d) bytes ≡ Enter from size → IsOnce n
      → until (suc n) ((take from (take size bytes) ++ (opened d (drop from (take size bytes))).0) ++ (until n (drop size bytes)).0)
      ≡ kept ((take from (take size bytes) ++ (opened d (drop from (take size bytes))).0) ++ (until n (drop size bytes)).0)
  enter_once n bytes from size is more =
      let h = enter_stays (suc d) bytes from size is in
      let c : List ℕ = take size bytes in
      let x : List ℕ = take from c in
      let y : List ℕ = (opened d (drop from c)).0 in
      let a : List ℕ = x ++ y in
      let b : List ℕ = (until n (drop size bytes)).0 in
      let ch = changes d (drop from c) in
      let c_long : length c ≡ size = length-take-le size bytes h.2 in
      let x_long : length x ≡ from = length-take-le from c (omega (arith, c_long, h.1)) in
      let a_long : length a ≡ size = omega (arith, length-append x y, ch.same_length, length-drop from c, c_long, x_long, h.1) in
      let b_long : length b ≡ length bytes - size = many n (drop size bytes) ∙ length-drop size bytes in
      let whole : length (a ++ b) ≡ length bytes = omega (arith, length-append a b, a_long, b_long, h.2) in
      let front : take from (a ++ b) ≡ take from bytes =
      take-append-le from a b (omega (arith, a_long, h.1)) ∙ take_seam x y from x_long ∙ take-take from size bytes h.1 in
      let s : Seen from 0 bytes 0 (a ++ b) = record { same = sym front; in_xs = omega (arith, h); in_ys = omega (arith, whole, h) } in
      let rest : drop from a ≡ y = drop_seam x y from x_long in
      let at : opened d (drop from a) ≡ kept (drop from a) = rw rest (inside (drop from c)) in
      enter_again (opened d) (suc d) n a b from size a_long (h.3 (a ++ b) s whole) at (more (drop size bytes))

  once_by : (n : ℕ) (bytes : List ℕ) (s : Step) → step_of (suc d) bytes ≡ s → IsOnce n
      → until (suc n) (opened_by (opened d) (until n) bytes s).0 ≡ kept (opened_by (opened d) (until n) bytes s).0
  once_by n bytes (Dead size) is more =
      let leads = dead_leads bytes size (dead_step (suc d) bytes size is) in
      let fits = dead_fits bytes size (dead_step (suc d) bytes size is) in
      rw leads.1 (dead_again n bytes size is more leads.0 leads.1 fits)
  once_by n bytes (Enter from size) is more = enter_once n bytes from size is more
  once_by n bytes (Over size) is more = over_once n bytes size is more
  once_by n bytes Stop is more = until_stop (opened d) (suc d) (suc n) bytes is

  once : (n : ℕ) → IsOnce n
  once zero bytes = refl
  once (suc n) bytes = once_by n bytes (step_of (suc d) bytes) refl (once n)

pub opened_once : (d : ℕ) (bytes : List ℕ) → opened d (opened d bytes).0 ≡ kept (opened d bytes).0
unfolding opened
opened_once zero bytes = refl
opened_once (suc d) bytes =
    let m = many d (opened_once d) (length bytes) bytes in
    rw m (once d (opened_once d) (length bytes) bytes)

-- a table's checksum fits a byte, where it has one
set_small : (xs : List ℕ) (v : ℕ) → v < 256 → slice_index (set xs 9 v) 9 < 256
set_small xs v lt = elim (cases_lt 9 (length xs)) [
  | inl h ↦ (let e : get_or (set xs 9 v) 9 0 ≡ v = get_or-set_same xs 9 v 0 h in omega (arith, e))
  | inr h ↦ (let e : get_or (set xs 9 v) 9 0 ≡ 0 = get_or_past (set xs 9 v) 9 0 (omega (arith, length-set xs 9 v)) in omega (arith, e))
]

-- the rest of a table of which the rest was opened
rest_is : (bytes x : List ℕ) (v : ℕ) → length x ≡ length (drop 36 bytes) → drop 36 (set (take 36 bytes ++ x) 9 v) ≡ x
rest_is bytes x v e =
    let b : 9 < 36 = omega arith in
    let u : drop 36 (set (take 36 bytes ++ x) 9 v) ≡ drop 36 (take 36 bytes ++ x) = drop-set-lt 36 (take 36 bytes ++ x) 9 v b in
    u ∙ elim (cases_lt (length bytes) 36) [
      | inl lt ↦
          (let no : length x ≤ 0 = omega (arith, e, length-drop 36 bytes) in
          let none : drop 0 x ≡ [] = drop_of_length-le x no in
          let few : length (take 36 bytes ++ x) ≤ 36 = omega (arith, no, length-append (take 36 bytes) x, length-take 36 bytes) in
          let past : drop 36 (take 36 bytes ++ x) ≡ [] = drop_of_length-le (take 36 bytes ++ x) few in
          past ∙ sym none)
      | inr le ↦ drop_seam (take 36 bytes) x 36 (length-take-le 36 bytes le)
    ]

-- opened again, a table's rest stays
pub rest_stays : (bytes : List ℕ) → (entered (opened 63) 36 (table_opened bytes).0 ≡ kept (table_opened bytes).0)
unfolding table_opened
rest_stays bytes =
    let r : Opened = entered (opened 63) 36 bytes in
    let x : List ℕ = (opened 63 (drop 36 bytes)).0 in
    let v : ℕ = (slice_index r.0 9 + 0x90 * r.1) % 256 in
    let t : List ℕ = set r.0 9 v in
    let ch = changes 63 (drop 36 bytes) in
    let rest : drop 36 t ≡ x = rest_is bytes x v ch.same_length in
    let once : opened 63 (drop 36 t) ≡ kept (drop 36 t) = rw rest (opened_once 63 (drop 36 bytes)) in
    rw once (joined_kept 36 t)

small : (bytes : List ℕ) → slice_index (table_opened bytes).0 9 < 256
unfolding table_opened
small bytes =
    let r : Opened = entered (opened 63) 36 bytes in
    set_small r.0 ((slice_index r.0 9 + 0x90 * r.1) % 256) (omega arith)

opened_is : (t : List ℕ) → with_checksum (entered (opened 63) 36 t) ≡ kept t → table_opened t ≡ kept t
unfolding table_opened
opened_is t e = e

pub nothing_changes : AgainNothingChanges
nothing_changes bytes =
    let t : List ℕ = (table_opened bytes).0 in
    let s : entered (opened 63) 36 t ≡ kept t = rest_stays bytes in
    opened_is t (stays_when t (entered (opened 63) 36 t) (ap (λ (r : Opened). r.0) s) (ap (λ (r : Opened). r.1) s) (small bytes))

none_by : (t : List ℕ) (at : ℕ) → entered (opened 63) 36 t ≡ kept t → at < length t → (d : Bool) → dead_inside (dead_in 63) 36 t at ≡ d → d ≡ false
none_by t at s lt false is = refl
none_by t at s lt true is =
    let ch = changes_in_table t 36 63 in
    let was : get_or t at 0 ≡ 0xA0 = ch.were_ifs at lt is in
    let same : get_or (entered (opened 63) 36 t).0 at 0 ≡ get_or t at 0 = ap (λ (r : Opened). get_or r.0 at 0) s in
    let e : get_or t at 0 ≡ 0x10 = sym same ∙ ch.bytes_are at lt ∙ ap (λ (d : Bool). if d then 0x10 else get_or t at 0) is in
    absurd (omega (arith, was, e))

pub none_is_found : NoneIsFoundAgain
unfolding dead_at
none_is_found bytes at lt =
    none_by (table_opened bytes).0 at (rest_stays bytes) (omega (arith, lt, length_stays bytes)) (dead_inside (dead_in 63) 36 (table_opened bytes).0 at) refl

-- What opening changes, put together from the parts of a list.
use Rattle.std.proofs.Common.{◌≡◌, ◌<◌, ℕ, zero, suc, ◌+◌, ◌-◌, ◌*◌, inl, inr, List, [], ◌∷◌, ◌++◌, length, take, drop, get_or, refl, ap, ◌∙◌, arith}
use Rattle.std.specs.Prelude.{Bool, true, false, nat_lt, ◌==◌, ◌&&◌, not, Option, Some, None, sum, slice_get, if◌then◌else◌}
use Rattle.std.proofs.lemmas.Bool.{lt-ltb, cases_lt, eqb-true, and_parts}
use Rattle.std.proofs.lemmas.List.{take-append-drop, length-append, get_or_append_left, get_or-append_right, length-take}
use Rattle.std.proofs.lemmas.List.Sums.{sum_by-append, sum_by-cons}
use Rattle.std.proofs.Math.Dec.{eqb-suc-zero}
use Rattle.aml_operators.specs.declared.op.Op.{Op}
use Rattle.aml_operators.specs.declared.row.Class.{Class}
use Rattle.aml_operators.specs.declared.row.Class.TheVariants as class
use Rattle.aml_operators.specs.declared.row.Letter.{Letter}
use Rattle.aml_operators.specs.declared.row.Letter.TheVariants.{One, Sized, Package, Branch, Terms, Fields, Bytes}
use Rattle.aml_operators.specs.Table.{class_of, letters_of}
use Rattle.aml_externals.specs.declared.step.Step.{Step}
use Rattle.aml_externals.specs.declared.step.Step.TheVariants.{Dead, Enter, Over, Stop}
use Rattle.aml_externals.specs.DeadIfs.{dead_end, dead_end_of, holds_externals, are_externals}
use Rattle.aml_lex.specs.Standing.{has_byte, is_byte}
use Rattle.aml_externals.specs.Extents.{package_at, list_at, letters_end, term_end}
use Rattle.aml_externals.specs.Steps.{over, enter, package_step, letters_step, class_step, operator_step, step_of, step_behind}
use Rattle.aml_externals.specs.Opened.{Opened, kept, joined, as_scope, entered, opened_by, opened_until, opened, dead_inside, dead_by, dead_until, dead_in}
use Rattle.aml_externals.proofs.DeadTurns.{not_below}
use Rattle.aml_tree.specs.OperatorAt.{op_there}

-- bytes opened: as many; each one as it was, or a Scope's opcode where an If's was; and the sum is lower by 90 for each of these
pub record Changes (old : List ℕ) (r : Opened) (dead : ℕ → Bool) : Type 0 where
  pub same_length : length r.0 ≡ length old
  pub bytes_are : (at : ℕ) → at < length old → get_or r.0 at 0 ≡ (if dead at then 0x10 else get_or old at 0)
  pub were_ifs : (at : ℕ) → at < length old → dead at ≡ true → get_or old at 0 ≡ 0xA0
  pub lower : sum r.0 + 0x90 * r.1 ≡ sum old

pub changes_kept : (old : List ℕ) → Changes old (kept old) (λ at. false)
changes_kept old = record { same_length = refl; bytes_are = λ at lt. refl; were_ifs = λ at lt e. absurd cc; lower = omega arith }

-- one part behind another
pub changes_joined : (a b : List ℕ) (r s : Opened) (d e : ℕ → Bool) → Changes a r d → Changes b s e
    → Changes (a ++ b) (joined r s) (λ at. if nat_lt at (length a) then d at else e (at - length a))
changes_joined a b r s d e f g = record {
  same_length = omega (arith, length-append r.0 s.0, length-append a b, f.same_length, g.same_length);
  bytes_are = λ at lt. elim (cases_lt at (length a)) [
    | inl lo ↦
        (let t : nat_lt at (length a) ≡ true = lt-ltb at (length a) lo in
        let p : get_or (r.0 ++ s.0) at 0 ≡ get_or r.0 at 0 = get_or_append_left r.0 s.0 0 at (omega (arith, f.same_length)) in
        let q : get_or (a ++ b) at 0 ≡ get_or a at 0 = get_or_append_left a b 0 at lo in
        rw (t, p, q) (f.bytes_are at lo))
    | inr hi ↦
        (let t : nat_lt at (length a) ≡ false = not_below at (length a) hi (nat_lt at (length a)) refl in
        let p : get_or (r.0 ++ s.0) at 0 ≡ get_or s.0 (at - length a) 0 = get_or-append_right r.0 s.0 (length a) at 0 f.same_length hi in
        let q : get_or (a ++ b) at 0 ≡ get_or b (at - length a) 0 = get_or-append_right a b (length a) at 0 refl hi in
        rw (t, p, q) (g.bytes_are (at - length a) (omega (arith, length-append a b))))
  ];
  were_ifs = λ at lt is. elim (cases_lt at (length a)) [
    | inl lo ↦
        (let t : nat_lt at (length a) ≡ true = lt-ltb at (length a) lo in
        let q : get_or (a ++ b) at 0 ≡ get_or a at 0 = get_or_append_left a b 0 at lo in
        q ∙ f.were_ifs at lo (rw t at is))
    | inr hi ↦
        (let t : nat_lt at (length a) ≡ false = not_below at (length a) hi (nat_lt at (length a)) refl in
        let q : get_or (a ++ b) at 0 ≡ get_or b (at - length a) 0 = get_or-append_right a b (length a) at 0 refl hi in
        q ∙ g.were_ifs (at - length a) (omega (arith, length-append a b)) (rw t at is))
  ];
  lower = omega (arith, sum_by-append (λ x. x) r.0 s.0, sum_by-append (λ x. x) a b, f.lower, g.lower);
}

-- a list cut at a place, of which the first part may be shorter
pub changes_split : (bytes : List ℕ) (size : ℕ) (r s : Opened) (d e : ℕ → Bool) → Changes (take size bytes) r d → Changes (drop size bytes) s e
    → Changes bytes (joined r s) (λ at. if nat_lt at size then d at else e (at - size))
changes_split bytes size r s d e f g =
    let j = changes_joined (take size bytes) (drop size bytes) r s d e f g in
    let whole = take-append-drop size bytes in
    let many : length (take size bytes ++ drop size bytes) ≡ length bytes = rw whole refl in
    let same : (at : ℕ) → at < length bytes → (if nat_lt at (length (take size bytes)) then d at else e (at - length (take size bytes))) ≡ (if nat_lt at size then d at else e (at - size)) =
    λ at lt. elim (cases_lt at size) [
      | inl lo ↦
          (let t : nat_lt at size ≡ true = lt-ltb at size lo in
          let u : nat_lt at (length (take size bytes)) ≡ true = lt-ltb at (length (take size bytes)) (omega (arith, length-take size bytes)) in
          rw (t, u) refl)
      | inr hi ↦
          (let n : length (take size bytes) ≡ size = omega (arith, length-take size bytes) in
          rw n refl)
    ] in
    record {
      same_length = j.same_length ∙ many;
      bytes_are = λ at lt. rw (whole, same at lt) at (j.bytes_are at (omega (arith, many)));
      were_ifs = λ at lt is. rw whole at (j.were_ifs at (omega (arith, many)) (same at lt ∙ is));
      lower = rw whole at j.lower;
    }

scope_byte : (rest : List ℕ) (at : ℕ) → get_or (0x10 ∷ rest) at 0 ≡ (if at == 0 then 0x10 else get_or (0xA0 ∷ rest) at 0)
scope_byte rest zero = refl
scope_byte rest (suc at) = rw (eqb-suc-zero at) refl

if_byte : (rest : List ℕ) (at : ℕ) → (at == 0) ≡ true → get_or (0xA0 ∷ rest) at 0 ≡ 0xA0
if_byte rest zero e = refl
if_byte rest (suc at) e = let z : suc at ≡ 0 = eqb-true (suc at) 0 e in absurd (omega arith)

-- an If's opcode made a Scope's
pub changes_scope : (rest : List ℕ) → Changes (0xA0 ∷ rest) (as_scope (0xA0 ∷ rest)) (λ at. at == 0)
changes_scope rest = record {
  same_length = refl;
  bytes_are = λ at lt. scope_byte rest at;
  were_ifs = λ at lt is. if_byte rest at is;
  lower = omega (arith, sum_by-cons (λ x. x) 0xA0 rest, sum_by-cons (λ x. x) 0x10 rest);
}

-- no step but that of a dead If is one
over_lives : (o : Option ℕ) (size : ℕ) → over o ≡ Dead size → ⊥
over_lives None size e = absurd cc
over_lives (Some n) size e = absurd cc

enter_lives : (n : ℕ) (o : Option ℕ) (size : ℕ) → enter n o ≡ Dead size → ⊥
enter_lives n None size e = absurd cc
enter_lives n (Some from) size e = absurd cc

package_lives : (d : ℕ) (rest : List Letter) (bytes : List ℕ) (o : Option (ℕ × ℕ)) (size : ℕ) → package_step d rest bytes o ≡ Dead size → ⊥
package_lives d rest bytes None size e = absurd cc
package_lives d rest bytes (Some p) size e = enter_lives p.0 (list_at (term_end d) rest (take p.0 bytes) p.1) size e

letters_live : (d : ℕ) (letters : List Letter) (bytes : List ℕ) (at size : ℕ) → letters_step d letters bytes at ≡ Dead size → ⊥
letters_live d [] bytes at size e = over_lives (letters_end (term_end d) [] bytes at) size e
letters_live d (Package ∷ rest) bytes at size e = package_lives d rest bytes (package_at bytes at) size e
letters_live d (One p ∷ rest) bytes at size e = over_lives (letters_end (term_end d) (One p ∷ rest) bytes at) size e
letters_live d (Sized l ∷ rest) bytes at size e = over_lives (letters_end (term_end d) (Sized l ∷ rest) bytes at) size e
letters_live d (Branch ∷ rest) bytes at size e = over_lives (letters_end (term_end d) (Branch ∷ rest) bytes at) size e
letters_live d (Terms s ∷ rest) bytes at size e = over_lives (letters_end (term_end d) (Terms s ∷ rest) bytes at) size e
letters_live d (Fields ∷ rest) bytes at size e = over_lives (letters_end (term_end d) (Fields ∷ rest) bytes at) size e
letters_live d (Bytes ∷ rest) bytes at size e = over_lives (letters_end (term_end d) (Bytes ∷ rest) bytes at) size e

class_lives : (c : Class) (d : ℕ) (letters : List Letter) (bytes : List ℕ) (at size : ℕ) → class_step c d letters bytes at ≡ Dead size → ⊥
class_lives class.Definition d letters bytes at size e = letters_live d letters bytes at size e
class_lives class.Literal d letters bytes at size e = absurd cc
class_lives class.Data d letters bytes at size e = absurd cc
class_lives class.Revision d letters bytes at size e = absurd cc
class_lives class.Variable d letters bytes at size e = absurd cc
class_lives class.Expression d letters bytes at size e = absurd cc
class_lives class.Reference d letters bytes at size e = absurd cc
class_lives class.Debug d letters bytes at size e = absurd cc
class_lives class.Statement d letters bytes at size e = absurd cc
class_lives class.Part d letters bytes at size e = absurd cc

operator_lives : (d : ℕ) (bytes : List ℕ) (o : Option (Op × ℕ)) (size : ℕ) → operator_step d bytes o ≡ Dead size → ⊥
operator_lives d bytes None size e = absurd cc
operator_lives d bytes (Some p) size e = class_lives (class_of p.0) d (letters_of p.0) bytes p.1 size e

dead_step_by : (d : ℕ) (bytes : List ℕ) (o : Option ℕ) (size : ℕ) → step_behind d bytes o ≡ Dead size → o ≡ Some size
dead_step_by d bytes None size e = absurd (operator_lives d bytes (op_there bytes 0) size e)
dead_step_by d bytes (Some n) size e = cc

pub dead_step : (d : ℕ) (bytes : List ℕ) (size : ℕ) → step_of d bytes ≡ Dead size → dead_end bytes ≡ Some size
unfolding step_of
dead_step d bytes size e = dead_step_by d bytes (dead_end bytes) size e

pub byte_there : (b : ℕ) (o : Option ℕ) → is_byte b o ≡ true → o ≡ Some b
byte_there b None e = absurd cc
byte_there b (Some c) e = ap Some (eqb-true c b e)

held_by : (bytes : List ℕ) (stop next size : ℕ) (t : Bool) → holds_externals bytes stop next ≡ t → (if t then Some stop else None) ≡ Some size
    → (more : ℕ) × (◌≡◌ {A = Option (ℕ × ℕ)} (Some (stop, next)) (Some (size, more))) × (holds_externals bytes size more ≡ true)
held_by bytes stop next size true is e = let same : stop ≡ size = cc in (next, rw same refl, rw same at is)
held_by bytes stop next size false is e = absurd cc

-- what a dead If's test says
pub dead_holds_by : (bytes : List ℕ) (o : Option (ℕ × ℕ)) (size : ℕ) → dead_end_of bytes o ≡ Some size → (next : ℕ) × (o ≡ Some (size, next)) × (holds_externals bytes size next ≡ true)
dead_holds_by bytes None size e = absurd cc
dead_holds_by bytes (Some p) size e = held_by bytes p.0 p.1 size (holds_externals bytes p.0 p.1) refl e

leads_in : (bytes : List ℕ) (size : ℕ) → slice_get bytes 0 ≡ Some 0xA0 → 0 < size → (rest : List ℕ) × (take size bytes ≡ 0xA0 ∷ rest)
leads_in [] size e lt = absurd cc
leads_in (b ∷ rest) zero e lt = absurd (omega arith)
leads_in (b ∷ rest) (suc n) e lt = let same : b ≡ 0xA0 = cc in (take n rest, rw same refl)

some_byte_within : (size next : ℕ) (bytes : List ℕ) → slice_get (take size bytes) next ≡ Some 0 → 0 < size
some_byte_within zero next bytes e = absurd cc
some_byte_within (suc n) next bytes e = omega arith

leads_by : (bytes : List ℕ) (size : ℕ) (t : Bool) → has_byte 0xA0 bytes 0 ≡ t → (if t then dead_end_of bytes (package_at bytes 1) else None) ≡ Some size → (rest : List ℕ) × (take size bytes ≡ 0xA0 ∷ rest)
leads_by bytes size false is e = absurd cc
leads_by bytes size true is e =
    let held = dead_holds_by bytes (package_at bytes 1) size e in
    let test = and_parts (has_byte 0x00 (take size bytes) held.0 && are_externals (take size bytes) (held.0 + 1)) (not (has_byte 0xA1 bytes size)) held.2 in
    let first = and_parts (has_byte 0x00 (take size bytes) held.0) (are_externals (take size bytes) (held.0 + 1)) test.0 in
    let at = byte_there 0x00 (slice_get (take size bytes) held.0) first.0 in
    leads_in bytes size (byte_there 0xA0 (slice_get bytes 0) is) (some_byte_within size held.0 bytes at)

-- the bytes of a dead If begin with an If's opcode
pub dead_leads : (bytes : List ℕ) (size : ℕ) → dead_end bytes ≡ Some size → (rest : List ℕ) × (take size bytes ≡ 0xA0 ∷ rest)
unfolding dead_end
dead_leads bytes size e = leads_by bytes size (has_byte 0xA0 bytes 0) refl e

module _ (below : List ℕ → Opened) (dead_below : List ℕ → ℕ → Bool) (inside : (bytes : List ℕ) → Changes bytes (below bytes) (dead_below bytes)) where
  pub changes_by : (d : ℕ) (more : List ℕ → Opened) (dead_more : List ℕ → ℕ → Bool) (follow : (bytes : List ℕ) → Changes bytes (more bytes) (dead_more bytes))
      (bytes : List ℕ) (s : Step) → step_of d bytes ≡ s → Changes bytes (opened_by below more bytes s) (λ at. dead_by dead_below dead_more bytes at s)
  changes_by d more dead_more follow bytes (Dead size) is =
      let leads = dead_leads bytes size (dead_step d bytes size is) in
      changes_split bytes size (as_scope (take size bytes)) (more (drop size bytes)) (λ at. at == 0) (dead_more (drop size bytes)) (rw leads.1 (changes_scope leads.0)) (follow (drop size bytes))
  changes_by d more dead_more follow bytes (Enter from size) is =
      let part = changes_split (take size bytes) from (kept (take from (take size bytes))) (below (drop from (take size bytes))) (λ at. false) (dead_below (drop from (take size bytes))) (changes_kept (take from (take size bytes))) (inside (drop from (take size bytes))) in
      changes_split bytes size (entered below from (take size bytes)) (more (drop size bytes)) (dead_inside dead_below from (take size bytes)) (dead_more (drop size bytes)) part (follow (drop size bytes))
  changes_by d more dead_more follow bytes (Over size) is =
      changes_split bytes size (kept (take size bytes)) (more (drop size bytes)) (λ at. false) (dead_more (drop size bytes)) (changes_kept (take size bytes)) (follow (drop size bytes))
  changes_by d more dead_more follow bytes Stop is = changes_kept bytes

  pub changes_until : (d n : ℕ) (bytes : List ℕ) → Changes bytes (opened_until below d n bytes) (dead_until dead_below d n bytes)
  changes_until d zero bytes = changes_kept bytes
  changes_until d (suc n) bytes = changes_by d (opened_until below d n) (dead_until dead_below d n) (changes_until d n) bytes (step_of d bytes) refl

-- a list of definitions, opened
pub changes : (d : ℕ) (bytes : List ℕ) → Changes bytes (opened d bytes) (dead_in d bytes)
unfolding opened dead_in
changes zero bytes = changes_kept bytes
changes (suc d) bytes = changes_until (opened d) (dead_in d) (changes d) (suc d) (length bytes) bytes

-- a table behind its header
pub changes_in_table : (bytes : List ℕ) (at d : ℕ) → Changes bytes (entered (opened d) at bytes) (dead_inside (dead_in d) at bytes)
changes_in_table bytes at d = changes_split bytes at (kept (take at bytes)) (opened d (drop at bytes)) (λ k. false) (dead_in d (drop at bytes)) (changes_kept (take at bytes)) (changes d (drop at bytes))

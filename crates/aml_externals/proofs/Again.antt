-- A list that was opened has no dead If left where a walk comes by.
use Rattle.std.proofs.Common.{◌≡◌, ◌≤◌, ◌<◌, ℕ, ◌+◌, List, [], ◌∷◌, length, take, refl, sym, ap, ◌∙◌, arith}
use Rattle.std.specs.Prelude.{Bool, true, false, Option, Some, None, slice_get, if◌then◌else◌}
use Rattle.std.proofs.lemmas.List.{length-take-le, take-take}
use Rattle.aml_operators.specs.declared.op.Op.{Op}
use Rattle.aml_operators.specs.declared.op.Op.TheVariants as op
use Rattle.aml_operators.specs.declared.row.Class.{Class}
use Rattle.aml_operators.specs.declared.row.Class.TheVariants as class
use Rattle.aml_operators.specs.declared.row.Letter.{Letter}
use Rattle.aml_operators.specs.declared.row.Letter.TheVariants.{One, Sized, Package, Branch, Terms, Fields, Bytes}
use Rattle.aml_operators.specs.Table.{op_of, class_of, letters_of}
use Rattle.aml_operators.proofs.Rows.{op_of_finds}
use Rattle.aml_externals.specs.declared.step.Step.{Step}
use Rattle.aml_externals.specs.declared.step.Step.TheVariants.{Dead, Enter, Over, Stop}
use Rattle.aml_lex.specs.Standing.{has_byte}
use Rattle.aml_externals.specs.Extents.{package_at, list_at, letters_end, term_end}
use Rattle.aml_externals.specs.DeadIfs.{dead_end, dead_end_of}
use Rattle.aml_externals.specs.Steps.{over, enter, package_step, letters_step, class_step, operator_step, step_behind, step_of}
use Rattle.aml_externals.proofs.Changes.{byte_there}
use Rattle.aml_externals.proofs.Seen.{Seen, keeps, package_keeps, operator_keeps, package_past, operator_past, letters_ahead, letters_move, list_ahead, list_moves, term_ahead, term_moves}
use Rattle.aml_tree.specs.OperatorAt.{op_there}

-- a step over a definition, or into one
abbrev pub IsLive : Step → Type 0
IsLive (Dead size) = ⊥
IsLive (Enter from size) = Unit {0}
IsLive (Over size) = Unit {0}
IsLive Stop = ⊥

-- a definition's operator, and the step by its letters
abbrev pub IsDefined : ℕ → List ℕ → Step → Type 0
IsDefined d bytes s = (r : Op × ℕ) × (op_there bytes 0 ≡ Some r) × (class_of r.0 ≡ class.Definition) × (letters_step d (letters_of r.0) bytes r.1 ≡ s)

no_step : (s : Step) → IsLive s → Stop ≡ s → ⊥
no_step (Dead size) live e = live
no_step (Enter from size) live e = absurd cc
no_step (Over size) live e = absurd cc
no_step Stop live e = live

class_is : (c : Class) (d : ℕ) (ls : List Letter) (bytes : List ℕ) (at : ℕ) (s : Step) → IsLive s → class_step c d ls bytes at ≡ s → (c ≡ class.Definition) × (letters_step d ls bytes at ≡ s)
class_is class.Definition d ls bytes at s live e = (refl, e)
class_is class.Literal d ls bytes at s live e = absurd (no_step s live e)
class_is class.Data d ls bytes at s live e = absurd (no_step s live e)
class_is class.Revision d ls bytes at s live e = absurd (no_step s live e)
class_is class.Variable d ls bytes at s live e = absurd (no_step s live e)
class_is class.Expression d ls bytes at s live e = absurd (no_step s live e)
class_is class.Reference d ls bytes at s live e = absurd (no_step s live e)
class_is class.Debug d ls bytes at s live e = absurd (no_step s live e)
class_is class.Statement d ls bytes at s live e = absurd (no_step s live e)
class_is class.Part d ls bytes at s live e = absurd (no_step s live e)

defined_by : (d : ℕ) (bytes : List ℕ) (o : Option (Op × ℕ)) (s : Step) → IsLive s → op_there bytes 0 ≡ o → operator_step d bytes o ≡ s → IsDefined d bytes s
defined_by d bytes None s live is e = absurd (no_step s live e)
defined_by d bytes (Some r) s live is e = let c = class_is (class_of r.0) d (letters_of r.0) bytes r.1 s live e in (r, is, c.0, c.1)

live_by : (d : ℕ) (bytes : List ℕ) (o : Option ℕ) (s : Step) → IsLive s → step_behind d bytes o ≡ s → IsDefined d bytes s
live_by d bytes None s live e = defined_by d bytes (op_there bytes 0) s live refl e
live_by d bytes (Some size) (Dead n) live e = absurd live
live_by d bytes (Some size) (Enter from n) live e = absurd cc
live_by d bytes (Some size) (Over n) live e = absurd cc
live_by d bytes (Some size) Stop live e = absurd live

pub live_step : (d : ℕ) (bytes : List ℕ) (s : Step) → IsLive s → step_of d bytes ≡ s → IsDefined d bytes s
unfolding step_of
live_step d bytes s live e = live_by d bytes (dead_end bytes) s live e

-- where a definition stands, no dead If does
if_found : (bytes : List ℕ) (r : Op × ℕ) → slice_get bytes 0 ≡ Some 0xA0 → op_there bytes 0 ≡ Some r → r.0 ≡ op.If
if_found bytes r here e =
    let found : op_of 0xA0 ≡ Some op.If = op_of_finds op.If (omega arith) in
    let is : ◌≡◌ {A = Option (Op × ℕ)} (Some (op.If, 0 + 1)) (Some r) = rw (here, found) at e in
    cc

free_by : (bytes : List ℕ) (r : Op × ℕ) → op_there bytes 0 ≡ Some r → class_of r.0 ≡ class.Definition → (t : Bool) → has_byte 0xA0 bytes 0 ≡ t → (if t then dead_end_of bytes (package_at bytes 1) else None) ≡ None
free_by bytes r e c false is = refl
free_by bytes r e c true is =
    let same = if_found bytes r (byte_there 0xA0 (slice_get bytes 0) is) e in
    let no : class.Statement ≡ class.Definition = rw same at c in
    absurd cc

pub dead_free : (bytes : List ℕ) (r : Op × ℕ) → op_there bytes 0 ≡ Some r → class_of r.0 ≡ class.Definition → dead_end bytes ≡ None
unfolding dead_end
dead_free bytes r e c = free_by bytes r e c (has_byte 0xA0 bytes 0) refl

-- a definition's step is that of its letters
pub step_is : (d : ℕ) (bytes : List ℕ) (s : Step) (r : Op × ℕ) → op_there bytes 0 ≡ Some r → class_of r.0 ≡ class.Definition → letters_step d (letters_of r.0) bytes r.1 ≡ s → step_of d bytes ≡ s
unfolding step_of
step_is d bytes s r e c is = let free = dead_free bytes r e c in rw (free, e, c) is

-- over a definition: the same wherever its bytes are the same
abbrev StaysOver : ℕ → List Letter → List ℕ → ℕ → ℕ → Type 0
StaysOver d ls bytes at size = (at ≤ size) × (size ≤ length bytes) × ((ys : List ℕ) → Seen size 0 bytes 0 ys → letters_step d ls ys at ≡ Over size)

-- into a list: the same wherever the bytes before the list are the same, and there are as many
abbrev StaysEntered : ℕ → List Letter → List ℕ → ℕ → ℕ → ℕ → Type 0
StaysEntered d ls bytes at from size = (at ≤ from) × (from ≤ size) × (size ≤ length bytes) × ((ys : List ℕ) → Seen from 0 bytes 0 ys → length ys ≡ length bytes → letters_step d ls ys at ≡ Enter from size)

over_is : (o : Option ℕ) (size : ℕ) → over o ≡ Over size → o ≡ Some size
over_is None size e = absurd cc
over_is (Some n) size e = let same : n ≡ size = cc in rw same refl

no_enter : (o : Option ℕ) (from size : ℕ) → over o ≡ Enter from size → ⊥
no_enter None from size e = absurd cc
no_enter (Some n) from size e = absurd cc

enter_over : (n : ℕ) (o : Option ℕ) (size : ℕ) → enter n o ≡ Over size → (n ≡ size) × (o ≡ None)
enter_over n None size e = (cc, refl)
enter_over n (Some from) size e = absurd cc

enter_is : (n : ℕ) (o : Option ℕ) (from size : ℕ) → enter n o ≡ Enter from size → (n ≡ size) × (o ≡ Some from)
enter_is n None from size e = absurd cc
enter_is n (Some f) from size e = let same : f ≡ from = cc in (cc, rw same refl)

plain_over : (d : ℕ) (ls : List Letter) (bytes : List ℕ) (at size : ℕ) → at ≤ length bytes → letters_end (term_end d) ls bytes at ≡ Some size
    → (at ≤ size) × (size ≤ length bytes) × ((ys : List ℕ) → Seen size 0 bytes 0 ys → letters_end (term_end d) ls ys at ≡ Some size)
plain_over d ls bytes at size le e =
    let w = letters_ahead (term_end d) (term_ahead d) ls bytes at size le e in
    (w.0, w.1, λ ys s. keeps (letters_end (term_end d) ls) (letters_move (term_end d) (term_ahead d) (term_moves d) ls) size bytes ys s at size w.0 e (omega arith))

package_over : (d : ℕ) (rest : List Letter) (bytes : List ℕ) (at size : ℕ) (o : Option (ℕ × ℕ)) → package_at bytes at ≡ o → package_step d rest bytes o ≡ Over size → StaysOver d (Package ∷ rest) bytes at size
package_over d rest bytes at size None is e = absurd cc
package_over d rest bytes at size (Some r) is e =
    let w = package_past bytes at r is in
    let h = enter_over r.0 (list_at (term_end d) rest (take r.0 bytes) r.1) size e in (
      omega (arith, w, h.0),
      omega (arith, w, h.0),
      λ ys s.
          (let p = package_keeps size bytes ys s at r (omega (arith, w, h.0)) is (omega (arith, w, h.0)) (omega (arith, s.in_ys, h.0)) in
          let same : take r.0 ys ≡ take r.0 bytes = rw h.0 (sym s.same) in
          rw (p, same, h.1, h.0) refl),
    )

pub letters_over : (d : ℕ) (ls : List Letter) (bytes : List ℕ) (at size : ℕ) → at ≤ length bytes → letters_step d ls bytes at ≡ Over size → StaysOver d ls bytes at size
letters_over d [] bytes at size le e = let h = plain_over d [] bytes at size le (over_is _ size e) in (h.0, h.1, λ ys s. ap over (h.2 ys s))
letters_over d (Package ∷ rest) bytes at size le e = package_over d rest bytes at size (package_at bytes at) refl e
letters_over d (One p ∷ rest) bytes at size le e = let h = plain_over d (One p ∷ rest) bytes at size le (over_is _ size e) in (h.0, h.1, λ ys s. ap over (h.2 ys s))
letters_over d (Sized l ∷ rest) bytes at size le e = let h = plain_over d (Sized l ∷ rest) bytes at size le (over_is _ size e) in (h.0, h.1, λ ys s. ap over (h.2 ys s))
letters_over d (Branch ∷ rest) bytes at size le e = let h = plain_over d (Branch ∷ rest) bytes at size le (over_is _ size e) in (h.0, h.1, λ ys s. ap over (h.2 ys s))
letters_over d (Terms t ∷ rest) bytes at size le e = let h = plain_over d (Terms t ∷ rest) bytes at size le (over_is _ size e) in (h.0, h.1, λ ys s. ap over (h.2 ys s))
letters_over d (Fields ∷ rest) bytes at size le e = let h = plain_over d (Fields ∷ rest) bytes at size le (over_is _ size e) in (h.0, h.1, λ ys s. ap over (h.2 ys s))
letters_over d (Bytes ∷ rest) bytes at size le e = let h = plain_over d (Bytes ∷ rest) bytes at size le (over_is _ size e) in (h.0, h.1, λ ys s. ap over (h.2 ys s))

package_entered : (d : ℕ) (rest : List Letter) (bytes : List ℕ) (at from size : ℕ) (o : Option (ℕ × ℕ)) → package_at bytes at ≡ o → package_step d rest bytes o ≡ Enter from size → StaysEntered d (Package ∷ rest) bytes at from size
package_entered d rest bytes at from size None is e = absurd cc
package_entered d rest bytes at from size (Some r) is e =
    let w = package_past bytes at r is in
    let h = enter_is r.0 (list_at (term_end d) rest (take r.0 bytes) r.1) from size e in
    let many : length (take r.0 bytes) ≡ r.0 = length-take-le r.0 bytes w.2 in
    let a = list_ahead (term_end d) (term_ahead d) rest (take r.0 bytes) r.1 from (omega (arith, many, w)) h.1 in (
      omega (arith, w, a),
      omega (arith, a, many, h.0),
      omega (arith, w, h.0),
      λ ys s same.
          (let p = package_keeps from bytes ys s at r (omega (arith, w, a)) is a.0 (omega (arith, w, same)) in
          let long : length (take r.0 ys) ≡ r.0 = length-take-le r.0 ys (omega (arith, w, same)) in
          let low : from ≤ r.0 = omega (arith, a, many) in
          let inner : Seen from 0 (take r.0 bytes) 0 (take r.0 ys) =
          record { same = take-take from r.0 bytes low ∙ s.same ∙ sym (take-take from r.0 ys low); in_xs = omega (arith, many, low); in_ys = omega (arith, long, low) } in
          let l = keeps (list_at (term_end d) rest) (list_moves (term_end d) (term_ahead d) (term_moves d) rest) from (take r.0 bytes) (take r.0 ys) inner r.1 from a.0 h.1 (omega arith) in
          rw (p, l, h.0) refl),
    )

pub letters_entered : (d : ℕ) (ls : List Letter) (bytes : List ℕ) (at from size : ℕ) → letters_step d ls bytes at ≡ Enter from size → StaysEntered d ls bytes at from size
letters_entered d [] bytes at from size e = absurd (no_enter _ from size e)
letters_entered d (Package ∷ rest) bytes at from size e = package_entered d rest bytes at from size (package_at bytes at) refl e
letters_entered d (One p ∷ rest) bytes at from size e = absurd (no_enter _ from size e)
letters_entered d (Sized l ∷ rest) bytes at from size e = absurd (no_enter _ from size e)
letters_entered d (Branch ∷ rest) bytes at from size e = absurd (no_enter _ from size e)
letters_entered d (Terms t ∷ rest) bytes at from size e = absurd (no_enter _ from size e)
letters_entered d (Fields ∷ rest) bytes at from size e = absurd (no_enter _ from size e)
letters_entered d (Bytes ∷ rest) bytes at from size e = absurd (no_enter _ from size e)

-- a whole step
pub over_stays : (d : ℕ) (bytes : List ℕ) (size : ℕ) → step_of d bytes ≡ Over size → (0 < size) × (size ≤ length bytes) × ((ys : List ℕ) → Seen size 0 bytes 0 ys → step_of d ys ≡ Over size)
over_stays d bytes size e =
    let h = live_step d bytes (Over size) tt e in
    let w = operator_past bytes 0 h.0 h.1 in
    let l = letters_over d (letters_of h.0.0) bytes h.0.1 size w.1 h.3 in
    (omega (arith, w, l.0), l.1, λ ys s. step_is d ys (Over size) h.0 (operator_keeps size bytes ys s h.0 h.1 l.0) h.2 (l.2 ys s))

pub enter_stays : (d : ℕ) (bytes : List ℕ) (from size : ℕ) → step_of d bytes ≡ Enter from size
    → (0 < from) × (from ≤ size) × (size ≤ length bytes) × ((ys : List ℕ) → Seen from 0 bytes 0 ys → length ys ≡ length bytes → step_of d ys ≡ Enter from size)
enter_stays d bytes from size e =
    let h = live_step d bytes (Enter from size) tt e in
    let w = operator_past bytes 0 h.0 h.1 in
    let l = letters_entered d (letters_of h.0.0) bytes h.0.1 from size h.3 in
    (omega (arith, w, l.0), l.1, l.2, λ ys s same. step_is d ys (Enter from size) h.0 (operator_keeps from bytes ys s h.0 h.1 l.0) h.2 (l.3 ys s same))

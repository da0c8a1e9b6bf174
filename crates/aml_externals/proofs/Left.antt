-- Where the grammar comes to, a walk comes by; so no dead If is left there in what was opened.
use Rattle.std.proofs.Common.{◌≡◌, ◌≤◌, ◌<◌, ℕ, zero, suc, ◌+◌, ◌-◌, inl, inr, List, [], ◌∷◌, length, take, drop, refl, sym, ap, subst, ◌∙◌, arith}
use Rattle.std.specs.Prelude.{◌⊎◌, Option, Some, None, true}
use Rattle.std.proofs.lemmas.List.{drop-drop, drop-take, length-take-le, length-drop}
use Rattle.std.proofs.Math.ListN.{drop_of_length-le}
use Rattle.aml_operators.specs.declared.op.Op.{Op}
use Rattle.aml_operators.specs.declared.row.Class.{Class}
use Rattle.aml_operators.specs.declared.row.Class.TheVariants as class
use Rattle.aml_operators.specs.declared.row.Code.TheVariants as code
use Rattle.aml_operators.specs.declared.row.Spot.TheVariants as spot
use Rattle.aml_operators.specs.declared.row.Ruling.TheVariants as ruled
use Rattle.aml_operators.specs.declared.row.Letter.{Letter}
use Rattle.aml_operators.specs.declared.row.Letter.TheVariants.{One, Sized, Package, Branch, Terms, Fields, Bytes}
use Rattle.aml_operators.specs.Table.{class_of, letters_of}
use Rattle.aml_operators.specs.Places.{ruling}
use Rattle.aml_operators.specs.Tree.{Tree, stop_of}
use Rattle.aml_tree.specs.Opening.{Opening, NoTarget, PlainName, InvokedName, Operator}
use Rattle.aml_tree.specs.Begins.{Begins}
use Rattle.aml_tree.specs.Grammar.{AreTerms, Meets, Follows, IsTerm}
use Rattle.aml_tree.specs.Body.{no_arguments}
use Rattle.aml_tree.proofs.Bounds.{term_in}
use Rattle.aml_externals.specs.declared.step.Step.{Step}
use Rattle.aml_externals.specs.declared.step.Step.TheVariants.{Dead, Enter, Over, Stop}
use Rattle.aml_externals.specs.Extents.{package_at, list_at, letters_end, term_end}
use Rattle.aml_externals.specs.DeadIfs.{dead_end}
use Rattle.aml_externals.specs.Steps.{over, enter, letters_step, step_of}
use Rattle.aml_externals.specs.Opened.{Opened, opened_by, opened_until, opened}
use Rattle.aml_externals.specs.Table.{table_opened}
use Rattle.aml_externals.specs.Reached.{HoldsList, OpensList, ComesTo}
use Rattle.aml_externals.specs.Laws.{NoneIsLeft}
use Rattle.aml_externals.proofs.DeadTurns.{HasSize}
use Rattle.aml_externals.proofs.Seen.{Seen, package_past, package_moves, operator_past, operator_moves, letters_ahead, letters_move, list_ahead, list_moves, term_ahead, term_moves}
use Rattle.aml_externals.proofs.Again.{step_is}
use Rattle.aml_externals.proofs.Complete.{are_walked, walked, operator_full, package_full, package_stop, letters_full, before_full, term_full}
use Rattle.aml_externals.proofs.Twice.{rest_stays}
use Rattle.aml_tree.specs.OperatorAt.{op_there}

only_definition : (c : Class) → ruling code.Module spot.Statement c ≡ ruled.Fine → c ≡ class.Definition
only_definition class.Definition e = refl
only_definition class.Literal e = absurd cc
only_definition class.Data e = absurd cc
only_definition class.Revision e = absurd cc
only_definition class.Variable e = absurd cc
only_definition class.Expression e = absurd cc
only_definition class.Reference e = absurd cc
only_definition class.Debug e = absurd cc
only_definition class.Statement e = absurd cc
only_definition class.Part e = absurd cc

-- bytes from a place on
from_there : (bytes : List ℕ) (at : ℕ) → at ≤ length bytes → Seen (length bytes - at) at bytes 0 (drop at bytes)
from_there bytes at le = record { same = refl; in_xs = omega arith; in_ys = omega (arith, length-drop at bytes) }

operator_there : (bytes : List ℕ) (at : ℕ) (o : Op) (next : ℕ) → op_there bytes at ≡ Some (o, next) → (m : ℕ) × (next ≡ at + m) × (op_there (drop at bytes) 0 ≡ Some (o, m)) × (0 < m) × (at + m ≤ length bytes)
operator_there bytes at o next e =
    let w = operator_past bytes at (o, next) e in
    let z : at + 0 ≡ at = omega arith in
    let there : op_there bytes (at + 0) ≡ Some (o, next) = ap (λ (i : ℕ). op_there bytes i) z ∙ e in
    let m = operator_moves (length bytes - at) at bytes 0 (drop at bytes) (from_there bytes at (omega (arith, w))) 0 (o, next) there (omega (arith, w)) in
    let is : 0 + m.0 ≡ m.0 = omega arith in
    (m.0, m.1, m.2 ∙ ap (λ (i : ℕ). Some (o, i)) is, omega (arith, w, m.1), omega (arith, w, m.1))

package_there : (bytes : List ℕ) (at m stop next : ℕ) → at + m ≤ length bytes → package_at bytes (at + m) ≡ Some (stop, next)
    → (s : ℕ) × (j : ℕ) × (stop ≡ at + s) × (next ≡ at + j) × (package_at (drop at bytes) m ≡ Some (s, j))
package_there bytes at m stop next le e =
    let w = package_past bytes (at + m) (stop, next) e in
    let g = package_moves (length bytes - at) at bytes 0 (drop at bytes) (from_there bytes at (omega arith)) m (stop, next) (omega arith) e (omega (arith, w)) (λ i is. omega (arith, is, w, length-drop at bytes)) in
    let z : 0 + m ≡ m = omega arith in
    let a : 0 + g.0 ≡ g.0 = omega arith in
    let b : 0 + g.1 ≡ g.1 = omega arith in
    (g.0, g.1, g.2, g.3, ap (λ (i : ℕ). package_at (drop at bytes) i) (sym z) ∙ g.4 ∙ ap (λ (i : ℕ). Some (i, 0 + g.1)) a ∙ ap (λ (i : ℕ). Some (g.0, i)) b)

-- a step that goes on so far
abbrev Goes : ℕ → List Letter → List ℕ → ℕ → ℕ → Type 0
Goes d ls bytes at size = (s : Step) × (letters_step d ls bytes at ≡ s) × HasSize s size

enter_goes : (size : ℕ) (o : Option ℕ) → (s : Step) × (enter size o ≡ s) × HasSize s size
enter_goes size None = (Over size, refl, refl)
enter_goes size (Some from) = (Enter from size, refl, refl)

plain_goes : (d : ℕ) (ls : List Letter) (bytes : List ℕ) (at m stop : ℕ) → at + m ≤ length bytes → letters_end (term_end d) ls bytes (at + m) ≡ Some stop
    → (letters_end (term_end d) ls (drop at bytes) m ≡ Some (stop - at))
plain_goes d ls bytes at m stop le e =
    let w = letters_ahead (term_end d) (term_ahead d) ls bytes (at + m) stop le e in
    let g = letters_move (term_end d) (term_ahead d) (term_moves d) ls (length bytes - at) at bytes 0 (drop at bytes) (from_there bytes at (omega arith)) m stop (omega arith) e (omega (arith, w)) in
    let z : 0 + m ≡ m = omega arith in
    let a : 0 + g.0 ≡ stop - at = omega (arith, g.1) in
    ap (λ (i : ℕ). letters_end (term_end d) ls (drop at bytes) i) (sym z) ∙ g.2 ∙ ap (λ (i : ℕ). Some i) a

letters_go : (d own : ℕ) (ls : List Letter) (bytes : List ℕ) (at m stop : ℕ) (parts : List Tree) → are_walked ls ≡ true → at + m ≤ length bytes → Meets no_arguments (IsTerm code.Module no_arguments d) ls own bytes (at + m) stop parts → Goes d ls (drop at bytes) m (stop - at)
letters_go d own [] bytes at m stop parts is le h =
    let e = plain_goes d [] bytes at m stop le (letters_full d (IsTerm code.Module no_arguments d) (term_full d) [] own bytes (at + m) stop parts is h) in
    (Over (stop - at), ap over e, refl)
letters_go d own (One p ∷ rest) bytes at m stop parts is le h =
    let e = plain_goes d (One p ∷ rest) bytes at m stop le (letters_full d (IsTerm code.Module no_arguments d) (term_full d) (One p ∷ rest) own bytes (at + m) stop parts is h) in
    (Over (stop - at), ap over e, refl)
letters_go d own (Package ∷ rest) bytes at m stop parts is le h =
    let e : stop ≡ h.0 = package_stop d (IsTerm code.Module no_arguments d) (term_full d) rest own bytes (at + m) stop h.0 h.1 parts is h.2 h.3 in
    let p = package_there bytes at m h.0 h.1 le (package_full bytes (at + m) (h.0, h.1) h.2) in
    let g = enter_goes p.0 (list_at (term_end d) rest (take p.0 (drop at bytes)) p.1) in
    let size : p.0 ≡ stop - at = omega (arith, e, p.2) in
    (g.0, rw p.4 g.1, subst (λ (n : ℕ). HasSize g.0 n) size g.2)
letters_go d own (Sized l ∷ rest) bytes at m stop parts is le h = absurd cc
letters_go d own (Branch ∷ rest) bytes at m stop parts is le h = absurd cc
letters_go d own (Terms s ∷ rest) bytes at m stop parts is le h = absurd cc
letters_go d own (Fields ∷ rest) bytes at m stop parts is le h = absurd cc
letters_go d own (Bytes ∷ rest) bytes at m stop parts is le h = absurd cc

-- a definition is one step
abbrev IsOneStep : ℕ → List ℕ → ℕ → ℕ → Type 0
IsOneStep d bytes at stop = (s : Step) × (step_of d (drop at bytes) ≡ s) × HasSize s (stop - at)

definition_by : (d : ℕ) (o : Opening) (bytes : List ℕ) (at : ℕ) (t : Tree) → Begins code.Module spot.Statement bytes at o → Follows no_arguments (IsTerm code.Module no_arguments d) o bytes at t → IsOneStep d bytes at (stop_of t)
definition_by d NoTarget bytes at t b h = absurd (let e = b.0 in cc)
definition_by d PlainName bytes at t b h = absurd (let e = b.0 in cc)
definition_by d InvokedName bytes at t b h = absurd (let e = b.0 in cc)
definition_by d (Operator o next) bytes at t b h =
    let f = operator_there bytes at o next (operator_full bytes at o next b.0 b.1) in
    let meets : Meets no_arguments (IsTerm code.Module no_arguments d) (letters_of o) at bytes (at + f.0) h.0 h.1 = rw f.1 at h.2 in
    let g = letters_go d at (letters_of o) bytes at f.0 h.0 h.1 (walked spot.Statement o b.2) f.4 meets in
    let e : h.0 ≡ stop_of t = ap stop_of (sym h.3) in
    (g.0, step_is d (drop at bytes) g.0 (o, f.0) f.2 (only_definition (class_of o) b.2) g.1, subst (λ (n : ℕ). HasSize g.0 (n - at)) e g.2)

definition_steps : (d asker : ℕ) (bytes : List ℕ) (at : ℕ) (t : Tree) → IsTerm code.Module no_arguments (suc d) asker spot.Statement bytes at t → IsOneStep d bytes at (stop_of t)
definition_steps d asker bytes at t h = definition_by d h.0 bytes at t h.1 h.2

-- a definition with a list is entered
abbrev IsEntered : ℕ → List Letter → List ℕ → ℕ → ℕ → ℕ → ℕ → Type 0
IsEntered d ls bytes at m stop inside = (i : ℕ) × (s : ℕ) × (inside ≡ at + i) × (stop ≡ at + s) × (i ≤ s) × (stop ≤ length bytes) × (letters_step d ls (drop at bytes) m ≡ Enter i s)

list_there : (d : ℕ) (rest : List Letter) (bytes : List ℕ) (at j s inside : ℕ) → at + s ≤ length bytes → j ≤ s → list_at (term_end d) rest (take (at + s) bytes) (at + j) ≡ Some inside
    → (i : ℕ) × (inside ≡ at + i) × (i ≤ s) × (list_at (term_end d) rest (take s (drop at bytes)) j ≡ Some i)
list_there d rest bytes at j s inside le low e =
    let xs : List ℕ = take (at + s) bytes in
    let ys : List ℕ = take s (drop at bytes) in
    let many : length xs ≡ at + s = length-take-le (at + s) bytes le in
    let few : length ys ≡ s = length-take-le s (drop at bytes) (omega (arith, length-drop at bytes)) in
    let cut : drop at xs ≡ ys = drop-take at s bytes in
    let seen : Seen s at xs 0 ys = record { same = ap (λ (l : List ℕ). take s l) cut; in_xs = omega (arith, many); in_ys = omega (arith, few) } in
    let w = list_ahead (term_end d) (term_ahead d) rest xs (at + j) inside (omega (arith, many)) e in
    let g = list_moves (term_end d) (term_ahead d) (term_moves d) rest s at xs 0 ys seen j inside low e (omega (arith, w, many)) in
    let z : 0 + j ≡ j = omega arith in
    let a : 0 + g.0 ≡ g.0 = omega arith in
    (g.0, g.1, omega (arith, g.1, w, many), ap (λ (k : ℕ). list_at (term_end d) rest ys k) (sym z) ∙ g.2 ∙ ap (λ (k : ℕ). Some k) a)

holds_by : (d : ℕ) (ls : List Letter) (bytes : List ℕ) (at m stop inside : ℕ) → are_walked ls ≡ true → at + m ≤ length bytes → HoldsList d ls bytes (at + m) stop inside → IsEntered d ls bytes at m stop inside
holds_by d (Package ∷ rest) bytes at m stop inside is le h =
    let pack = package_full bytes (at + m) (stop, h.0) h.1 in
    let w = package_past bytes (at + m) (stop, h.0) pack in
    let p = package_there bytes at m stop h.0 le pack in
    let there = before_full d rest (take stop bytes) h.0 inside is h.2 in
    let moved : list_at (term_end d) rest (take (at + p.0) bytes) (at + p.1) ≡ Some inside =
    subst (λ (n : ℕ). list_at (term_end d) rest (take n bytes) (at + p.1) ≡ Some inside) p.2 (subst (λ (n : ℕ). list_at (term_end d) rest (take stop bytes) n ≡ Some inside) p.3 there) in
    let l = list_there d rest bytes at p.1 p.0 inside (omega (arith, w, p.2)) (omega (arith, w, p.2, p.3)) moved in
    (l.0, p.0, l.1, p.2, l.2, w.2, rw (p.4, l.3) refl)
holds_by d [] bytes at m stop inside is le h = absurd h
holds_by d (One p ∷ rest) bytes at m stop inside is le h = absurd h
holds_by d (Sized l ∷ rest) bytes at m stop inside is le h = absurd h
holds_by d (Branch ∷ rest) bytes at m stop inside is le h = absurd h
holds_by d (Terms s ∷ rest) bytes at m stop inside is le h = absurd h
holds_by d (Fields ∷ rest) bytes at m stop inside is le h = absurd h
holds_by d (Bytes ∷ rest) bytes at m stop inside is le h = absurd h

opens_steps : (d : ℕ) (bytes : List ℕ) (at stop inside : ℕ) → OpensList d bytes at stop inside
    → (i : ℕ) × (s : ℕ) × (inside ≡ at + i) × (stop ≡ at + s) × (i ≤ s) × (stop ≤ length bytes) × (step_of d (drop at bytes) ≡ Enter i s) × (at < length bytes)
opens_steps d bytes at stop inside h =
    let b = h.2 in
    let f = operator_there bytes at h.0 h.1 (operator_full bytes at h.0 h.1 b.0 b.1) in
    let holds : HoldsList d (letters_of h.0) bytes (at + f.0) stop inside = rw f.1 at h.3 in
    let g = holds_by d (letters_of h.0) bytes at f.0 stop inside (walked spot.Statement h.0 b.2) f.4 holds in
    (g.0, g.1, g.2, g.3, g.4, g.5, step_is d (drop at bytes) (Enter g.0 g.1) (h.0, f.0) f.2 (only_definition (class_of h.0) b.2) g.6, omega (arith, f))

no_dead : (size : ℕ) → dead_end [] ≡ Some size → ⊥
unfolding dead_end
no_dead size e = absurd cc

-- where no If was opened, none was opened in the rest, and none within
module _ (below : List ℕ → Opened) where
  none_behind : (rest : List ℕ → Opened) (bytes : List ℕ) (s : Step) (size : ℕ) → HasSize s size → (opened_by below rest bytes s).1 ≡ 0 → (rest (drop size bytes)).1 ≡ 0
  none_behind rest bytes (Dead n) size h e = absurd (omega arith)
  none_behind rest bytes (Enter from n) size h e = let z : (rest (drop n bytes)).1 ≡ 0 = omega arith in rw h at z
  none_behind rest bytes (Over n) size h e = let z : (rest (drop n bytes)).1 ≡ 0 = omega arith in rw h at z
  none_behind rest bytes Stop size h e = absurd h

  none_within : (rest : List ℕ → Opened) (bytes : List ℕ) (from size : ℕ) → (opened_by below rest bytes (Enter from size)).1 ≡ 0 → (below (drop from (take size bytes))).1 ≡ 0
  none_within rest bytes from size e = omega arith

  walk_on : (d n own : ℕ) (bytes : List ℕ) (from mid : ℕ) (ts : List Tree) → AreTerms no_arguments (IsTerm code.Module no_arguments (suc d)) own spot.Statement bytes from mid ts → length bytes ≤ from + n
      → (opened_until below d n (drop from bytes)).1 ≡ 0 → (m : ℕ) × (length bytes ≤ mid + m) × ((opened_until below d m (drop mid bytes)).1 ≡ 0)
  walk_on d n own bytes from mid [] h le e = (n, omega (arith, h), rw h at e)
  walk_on d zero own bytes from mid (t ∷ ts) h le e = let w = term_in code.Module no_arguments (suc d) own spot.Statement bytes from t h.0 in absurd (omega (arith, w))
  walk_on d (suc n) own bytes from mid (t ∷ ts) h le e =
      let w = term_in code.Module no_arguments (suc d) own spot.Statement bytes from t h.0 in
      let s = definition_steps d own bytes from t h.0 in
      let f : (opened_by below (opened_until below d n) (drop from bytes) s.0).1 ≡ 0 = rw s.1 at e in
      let g = none_behind (opened_until below d n) (drop from bytes) s.0 (stop_of t - from) s.2 f in
      let there : from + (stop_of t - from) ≡ stop_of t = omega (arith, w) in
      let q : drop (stop_of t - from) (drop from bytes) ≡ drop (stop_of t) bytes = drop-drop (stop_of t - from) from bytes ∙ ap (λ (i : ℕ). drop i bytes) there in
      let z : (opened_until below d n (drop (stop_of t) bytes)).1 ≡ 0 = rw q at g in
      walk_on d n own bytes (stop_of t) mid ts h.1 (omega (arith, w)) z

  free_by : (d m : ℕ) (bytes : List ℕ) (mid : ℕ) → length bytes ≤ mid + m → (opened_until below d m (drop mid bytes)).1 ≡ 0 → (o : Option ℕ) → dead_end (drop mid bytes) ≡ o → o ≡ None
  unfolding step_of
  free_by d m bytes mid le e None is = refl
  free_by d zero bytes mid le e (Some size) is =
      let none : drop mid bytes ≡ [] = drop_of_length-le bytes (omega arith) in
      let no : dead_end [] ≡ Some size = rw none at is in
      absurd (no_dead size no)
  free_by d (suc m) bytes mid le e (Some size) is = let f : (opened_by below (opened_until below d m) (drop mid bytes) (Dead size)).1 ≡ 0 = rw is at e in absurd (omega arith)

abbrev Coming : ℕ → Type 0
Coming d = (bytes : List ℕ) (from : ℕ) (list : List ℕ) (at : ℕ) → ComesTo d bytes from list at → (opened d (drop from bytes)).1 ≡ 0 → dead_end (drop at list) ≡ None

into_list : (d : ℕ) (bytes : List ℕ) (mid : ℕ) (list : List ℕ) (at m stop inside : ℕ) → length bytes ≤ mid + m → (opened_until (opened d) (suc d) m (drop mid bytes)).1 ≡ 0 → Coming d
    → OpensList (suc d) bytes mid stop inside → ComesTo d (take stop bytes) inside list at → dead_end (drop at list) ≡ None
into_list d bytes mid list at zero stop inside le e deeper opens more = let s = opens_steps (suc d) bytes mid stop inside opens in absurd (omega (arith, s.7))
into_list d bytes mid list at (suc m) stop inside le e deeper opens more =
    let s = opens_steps (suc d) bytes mid stop inside opens in
    let f : (opened_by (opened d) (opened_until (opened d) (suc d) m) (drop mid bytes) (Enter s.0 s.1)).1 ≡ 0 = rw s.6 at e in
    let g : (opened d (drop s.0 (take s.1 (drop mid bytes)))).1 ≡ 0 = none_within (opened d) (opened_until (opened d) (suc d) m) (drop mid bytes) s.0 s.1 f in
    let a : drop mid (take stop bytes) ≡ take s.1 (drop mid bytes) = ap (λ (i : ℕ). drop mid (take i bytes)) s.3 ∙ drop-take mid s.1 bytes in
    let q : drop inside (take stop bytes) ≡ drop s.0 (take s.1 (drop mid bytes)) =
    ap (λ (i : ℕ). drop i (take stop bytes)) s.2 ∙ sym (drop-drop s.0 mid (take stop bytes)) ∙ ap (λ (l : List ℕ). drop s.0 l) a in
    deeper (take stop bytes) inside list at more (rw q g)

comes_by : (d : ℕ) (bytes : List ℕ) (mid : ℕ) (list : List ℕ) (at m : ℕ) → length bytes ≤ mid + m → (opened_until (opened d) (suc d) m (drop mid bytes)).1 ≡ 0 → Coming d
    → (((list ≡ bytes) × (at ≡ mid)) ⊎ ((stop : ℕ) × (inside : ℕ) × OpensList (suc d) bytes mid stop inside × ComesTo d (take stop bytes) inside list at)) → dead_end (drop at list) ≡ None
comes_by d bytes mid list at m le e deeper (inl h) = let f = free_by (opened d) (suc d) m bytes mid le e (dead_end (drop mid bytes)) refl in rw (h.0, h.1) f
comes_by d bytes mid list at m le e deeper (inr h) = into_list d bytes mid list at m h.0 h.1 le e deeper h.2 h.3

comes : (d : ℕ) (bytes : List ℕ) (from : ℕ) (list : List ℕ) (at : ℕ) → ComesTo d bytes from list at → (opened d (drop from bytes)).1 ≡ 0 → dead_end (drop at list) ≡ None
unfolding opened
comes zero bytes from list at h e = absurd h
comes (suc d) bytes from list at h e =
    let w = walk_on (opened d) (suc d) (length (drop from bytes)) from bytes from h.0 h.1 h.2 (omega (arith, length-drop from bytes)) e in
    comes_by d bytes h.0 list at w.0 w.1 w.2 (comes d) h.3

pub none_is_left : NoneIsLeft
none_is_left bytes list at h =
    let t : List ℕ = (table_opened bytes).0 in
    let e : 0 + (opened 63 (drop 36 t)).1 ≡ 0 = ap (λ (r : Opened). r.1) (rest_stays bytes) in
    comes 63 t 36 list at h (omega (arith, e))

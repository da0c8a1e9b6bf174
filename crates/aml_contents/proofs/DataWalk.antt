-- The walk over data sees what the reading of its term gives.
use Rattle.std.proofs.Common.{◌≡◌, ◌<◌, ◌≤◌, ◌+◌, ◌++◌, ◌∷◌, ◌∙◌, ℕ, zero, suc, List, [], Some, None, Result, Ok, Err, length, take, get_or, refl, sym, ap, arith, add-one, inl, inr, length-append}
use Rattle.std.specs.Prelude.{Bool, true, false, ◌&&◌, ◌||◌, ◌==◌, nat_lt, nat_le}
use Rattle.std.proofs.lemmas.Bool.{lt-ltb, cases_lt}
use Rattle.std.proofs.lemmas.Bool.Decides.{nat_tests}
use Rattle.aml_operators.specs.declared.op.Op.{Op}
use Rattle.aml_operators.specs.declared.op.Op.TheVariants as op
use Rattle.aml_operators.specs.declared.row.Code.TheVariants as code
use Rattle.aml_operators.specs.declared.row.Spot.TheVariants as spot
use Rattle.aml_operators.specs.Tree.{Tree, Trees, Node, more, trees, stop_of}
use Rattle.aml_tree.specs.declared.fault.Refusal.{Refusal}
use Rattle.aml_tree.specs.declared.fault.TreeCause.TheVariants.{TooDeep}
use Rattle.aml_tree.specs.declared.head.Head.TheVariants as head
use Rattle.aml_tree.specs.Body.{no_arguments}
use Rattle.aml_tree.specs.Fault.{refusal, ◌>>=◌}
use Rattle.aml_tree.specs.Heads.{IsHead, IsPackage, told_count}
use Rattle.aml_tree.specs.Leaf.{byte_at}
use Rattle.aml_tree.specs.Reading.{deepest_at, term_at, terms_until}
use Rattle.aml_objects.specs.declared.object.Content.TheVariants as content
use Rattle.aml_objects.specs.declared.width.Width.{Width}
use Rattle.aml_objects.specs.declared.width.Width.TheVariants.{Bits64}
use Rattle.aml_namespace.specs.Made.{package_content}
use Rattle.aml_kinds.specs.declared.kind.ElementKind as program_kind
use Rattle.aml_kinds.specs.KindViews.{element_kind, shape_of}
use Rattle.aml_kinds.specs.Kinds.{PkgOf, Shape, bare, with, ElementKind, ValueOf, Anything, AnyName, places}
use Rattle.aml_kinds.specs.SameKinds.{same_element_kind, same_shape}
use Rattle.aml_contents.specs.DataKinds.{counted_places, element_compared, elements_compared, kind_told, place_at, place_told, seen, shape_behind, shape_in, tree_place, unset_from, wanted_shape, wants_package}
use Rattle.aml_contents.specs.FirstContents.{number_of}

and_true : (b : Bool) → (b && true) ≡ b
and_true true = refl
and_true false = refl

and_false : (b : Bool) → (b && false) ≡ false
and_false true = refl
and_false false = refl

or_false : (b : Bool) → (b || false) ≡ b
or_false true = refl
or_false false = refl

or_true : (b : Bool) → (b || true) ≡ true
or_true true = refl
or_true false = refl

and_assoc : (a b c : Bool) → ((a && b) && c) ≡ (a && (b && c))
and_assoc true b c = refl
and_assoc false b c = refl

-- a test of the first place, taken to the front
taken_front : (e b c m u : Bool) → b ≡ c → (b && ((e && m) && u)) ≡ (e && (c && (m && u)))
taken_front true b c m u is = ap (λ x. x && (m && u)) is
taken_front false b c m u is = and_false b

unset_front : (e b c u : Bool) → b ≡ c → (b && (e && u)) ≡ (e && (c && u))
unset_front true b c u is = ap (λ x. x && u) is
unset_front false b c u is = and_false b

le_suc : (m n : ℕ) → nat_le (suc m) (suc n) ≡ nat_le m n
le_suc m n = grind (arith, nat_tests)

eq_suc : (m n : ℕ) → (suc m == suc n) ≡ (m == n)
eq_suc m n = grind (arith, nat_tests)

none_below : (n : ℕ) → nat_le 0 n ≡ true
none_below n = grind (arith, nat_tests)

some_above : (n : ℕ) → nat_le (suc n) 0 ≡ false
some_above n = grind (arith, nat_tests)

-- places as lists

pub places_many : (es : List program_kind.ElementKind) → places (shape_of es) ≡ length es
places_many [] = refl
places_many (e ∷ es) = ap suc (places_many es)

pub place_there : (es : List program_kind.ElementKind) (i : ℕ) (e : program_kind.ElementKind) → i < length es → e ≡ get_or es i e → element_kind e ≡ place_at (shape_of es) i
place_there [] i e lt is = absurd (omega (arith, lt))
place_there (x ∷ es) zero e lt is = ap element_kind is
place_there (x ∷ es) (suc i) e lt is = place_there es i e (omega (arith, lt)) is

pub place_past : (es : List program_kind.ElementKind) (i : ℕ) → length es ≤ i → place_at (shape_of es) i ≡ Anything
place_past [] i past = refl
place_past (x ∷ es) zero past = absurd (omega (arith, past))
place_past (x ∷ es) (suc i) past = place_past es i (omega (arith, past))

unset_on : (s : Shape) (i : ℕ) → i < places s → unset_from s i ≡ (same_element_kind (place_at s i) Anything && unset_from s (suc i))
unset_on bare i lt = absurd (omega (arith, lt))
unset_on (with e s) zero lt = refl
unset_on (with e s) (suc i) lt = unset_on s i (omega (arith, lt))

-- one more place is unset, or not
pub unset_next : (es : List program_kind.ElementKind) (i : ℕ) (e : program_kind.ElementKind) → i < length es → e ≡ get_or es i e → unset_from (shape_of es) i ≡ (same_element_kind (element_kind e) Anything && unset_from (shape_of es) (i + 1))
unset_next es i e lt is =
    let within : i < places (shape_of es) = omega (arith, places_many es, lt) in
    unset_on (shape_of es) i within
    ∙ ap (λ k. same_element_kind k Anything && unset_from (shape_of es) (suc i)) (sym (place_there es i e lt is))
    ∙ ap (λ n. same_element_kind (element_kind e) Anything && unset_from (shape_of es) n) (sym (add-one i))

pub unset_past : (es : List program_kind.ElementKind) (i : ℕ) → length es ≤ i → unset_from (shape_of es) i ≡ true
unset_past [] i past = refl
unset_past (x ∷ es) zero past = absurd (omega (arith, past))
unset_past (x ∷ es) (suc i) past = unset_past es i (omega (arith, past))

-- elements of which some are read
module _ (width : Width) where
  -- whether these terms are of the kinds of the places in front
  abbrev pub matched : List Tree → Shape → Bool
  matched [] s = true
  matched (t ∷ ts) bare = true
  matched (t ∷ ts) (with e s) = same_element_kind e (tree_place width t) && matched ts s

  -- one more
  matched_on : (ts : List Tree) (s : Shape) (t : Tree) → matched (ts ++ t ∷ []) s ≡ (matched ts s && (same_element_kind (place_at s (length ts)) (tree_place width t) || nat_le (places s) (length ts)))
  matched_on [] bare t = sym (ap (λ b. same_element_kind Anything (tree_place width t) || b) (none_below 0) ∙ or_true (same_element_kind Anything (tree_place width t)))
  matched_on [] (with e s) t =
      and_true (same_element_kind e (tree_place width t)) ∙ sym (ap (λ b. same_element_kind e (tree_place width t) || b) (some_above (places s)) ∙ or_false (same_element_kind e (tree_place width t)))
  matched_on (u ∷ ts) bare t =
      sym (ap (λ b. same_element_kind Anything (tree_place width t) || b) (none_below (suc (length ts))) ∙ or_true (same_element_kind Anything (tree_place width t)))
  matched_on (u ∷ ts) (with e s) t =
      ap (λ b. same_element_kind e (tree_place width u) && b) (matched_on ts s t)
      ∙ sym (and_assoc (same_element_kind e (tree_place width u)) (matched ts s) (same_element_kind (place_at s (length ts)) (tree_place width t) || nat_le (places s) (length ts)))
      ∙ ap (λ b. (same_element_kind e (tree_place width u) && matched ts s) && (same_element_kind (place_at s (length ts)) (tree_place width t) || b)) (sym (le_suc (places s) (length ts)))

  -- all places are those of so many elements
  matched_all : (n : ℕ) (s : Shape) (ts : List Tree) → ((places s == n) && (matched ts s && unset_from s (length ts))) ≡ same_shape s (counted_places n (shape_in width (trees ts)))
  matched_all zero bare [] = refl
  matched_all zero bare (t ∷ ts) = refl
  matched_all zero (with e s) ts =
      let other : (suc (places s) == 0) ≡ false = grind (arith, nat_tests) in ap (λ b. b && (matched ts (with e s) && unset_from (with e s) (length ts))) other
  matched_all (suc n) bare [] = let other : (0 == suc n) ≡ false = grind (arith, nat_tests) in ap (λ b. b && true) other
  matched_all (suc n) bare (t ∷ ts) = let other : (0 == suc n) ≡ false = grind (arith, nat_tests) in ap (λ b. b && true) other
  matched_all (suc n) (with e s) [] =
      unset_front (same_element_kind e Anything) (suc (places s) == suc n) (places s == n) (unset_from s 0) (eq_suc (places s) n) ∙ ap (λ b. same_element_kind e Anything && b) (matched_all n s [])
  matched_all (suc n) (with e s) (t ∷ ts) =
      taken_front (same_element_kind e (tree_place width t)) (suc (places s) == suc n) (places s == n) (matched ts s) (unset_from s (length ts)) (eq_suc (places s) n) ∙ ap (λ b. same_element_kind e (tree_place width t) && b) (matched_all n s ts)

-- what is seen
pub seen_some : {X Y : Type 0} (f : X → Y) (r : Result X Refusal) (y : Y) → Some y ≡ seen f r → (x : X) × (r ≡ Ok x) × (y ≡ f x)
seen_some f (Ok x) y e = (x, refl, cc)
seen_some f (Err fault) y e = absurd cc

pub seen_none : {X Y : Type 0} (f : X → Y) (r : Result X Refusal) → None ≡ seen f r → (fault : Refusal) × (r ≡ Err fault)
seen_none f (Ok x) e = absurd cc
seen_none f (Err fault) e = (fault, refl)

either_none : {Y : Type 0} (f : Tree → Y) (r : Result ℕ Refusal) (fault : Refusal) → None ≡ seen f (r >>= (λ b. Err fault))
either_none f (Ok b) fault = refl
either_none f (Err g) fault = refl

-- no element stands where no term may
pub none_deeper : {Y : Type 0} (f : Tree → Y) (own : ℕ) (bytes : List ℕ) (at : ℕ) → None ≡ seen f (term_at code.Module no_arguments zero own spot.Element bytes at)
unfolding term_at deepest_at
none_deeper f own bytes at = either_none f (byte_at bytes at) (refusal TooDeep at)

-- the walk over the elements of a package
module _ (width : Width) (count : ℕ) (s : Shape) (depth own : ℕ) (bytes : List ℕ) (start : ℕ) where
  abbrev next_at : ℕ → Result Tree Refusal
  next_at at = term_at code.Module no_arguments depth own spot.Element bytes at

  abbrev until : ℕ → List Tree → ℕ → Result (List Tree × ℕ) Refusal
  until n front at = terms_until no_arguments (term_at code.Module no_arguments depth) own spot.Element bytes n front at

  -- these terms are read so far, and whether they have the first places
  abbrev pub Walked : ℕ → ℕ → Bool → Type 0
  Walked at i same =
      (front : List Tree) × (left : ℕ) × (length bytes ≤ at + left) × (length front ≡ i)
      × ((number : Tree) → until (length bytes) (number ∷ []) start ≡ until left (number ∷ front) at)
      × (same ≡ ((places s == count) && matched width front s))

  pub walked_none : (same : Bool) → same ≡ (places s == count) → Walked start 0 same
  walked_none same is =
      ([], length bytes, omega arith, refl, λ number. refl, is ∙ sym (and_true (places s == count)))

  one_more : (at left : ℕ) → at < length bytes → length bytes ≤ at + left → (m : ℕ) × (left ≡ suc m)
  one_more at zero lt le = absurd (omega arith)
  one_more at (suc m) lt le = (m, refl)

  until_on : (m : ℕ) (front : List Tree) (at : ℕ) (t : Tree) → at < length bytes → next_at at ≡ Ok t → until (suc m) front at ≡ until m (front ++ t ∷ []) (stop_of t)
  until_on m front at t lt is = let test : nat_lt at (length bytes) ≡ true = lt-ltb at (length bytes) lt in rw (test, is) refl

  until_fault : (m : ℕ) (front : List Tree) (at : ℕ) (f : Refusal) → at < length bytes → next_at at ≡ Err f → until (suc m) front at ≡ Err f
  until_fault m front at f lt is = let test : nat_lt at (length bytes) ≡ true = lt-ltb at (length bytes) lt in rw (test, is) refl

  until_end : (n : ℕ) (front : List Tree) (at : ℕ) → length bytes ≤ at → until n front at ≡ Ok (front, at)
  until_end zero front at past = refl
  until_end (suc n) front at past = let test : nat_lt at (length bytes) ≡ false = grind (arith, nat_tests) in rw test refl

  pub walked_on : (at i : ℕ) (same : Bool) (next : ℕ) (fits : Bool) → Walked at i same → at < length bytes → at < next → Some (next, fits) ≡ seen (element_compared width (place_at s i)) (next_at at) → Walked next (i + 1) (same && (fits || nat_le (places s) i))
  walked_on at i same next fits w lt ahead e =
      let t = seen_some (element_compared width (place_at s i)) (next_at at) (next, fits) e in
      let stop : next ≡ stop_of t.0 = ap (λ (p : ℕ × Bool). p.0) t.2 in
      let matches : fits ≡ same_element_kind (place_at s i) (tree_place width t.0) = ap (λ (p : ℕ × Bool). p.1) t.2 in
      let m = one_more at w.1 lt w.2 in
      let front : List Tree = w.0 ++ t.0 ∷ [] in
      let many : length front ≡ i + 1 = omega (arith, length-append w.0 (t.0 ∷ []), w.3) in
      let enough : length bytes ≤ next + m.0 = omega (arith, w.2, m.1) in
      let read : (number : Tree) → until (length bytes) (number ∷ []) start ≡ until m.0 (number ∷ front) next =
      λ number. w.4 number ∙ ap (λ n. until n (number ∷ w.0) at) m.1 ∙ until_on m.0 (number ∷ w.0) at t.0 lt t.1 ∙ ap (until m.0 (number ∷ front)) (sym stop) in
      let more_same : (same && (fits || nat_le (places s) i)) ≡ ((places s == count) && matched width front s) =
      ap (λ b. b && (fits || nat_le (places s) i)) w.5
      ∙ ap (λ b. ((places s == count) && matched width w.0 s) && (b || nat_le (places s) i)) matches
      ∙ ap (λ n. ((places s == count) && matched width w.0 s) && (same_element_kind (place_at s n) (tree_place width t.0) || nat_le (places s) n)) (sym w.3)
      ∙ and_assoc (places s == count) (matched width w.0 s) (same_element_kind (place_at s (length w.0)) (tree_place width t.0) || nat_le (places s) (length w.0))
      ∙ ap (λ b. (places s == count) && b) (sym (matched_on width w.0 s t.0)) in
      (front, m.0, enough, many, read, more_same)

  pub walked_fault : {X : Type 0} (f : List Tree × ℕ → X) (k : ElementKind) (at i : ℕ) (same : Bool) → Walked at i same → at < length bytes → None ≡ seen (element_compared width k) (next_at at) → (number : Tree) → None ≡ seen f (until (length bytes) (number ∷ []) start)
  walked_fault f k at i same w lt e number =
      let fault = seen_none (element_compared width k) (next_at at) e in
      let m = one_more at w.1 lt w.2 in
      let read : until (length bytes) (number ∷ []) start ≡ Err fault.0 =
      w.4 number ∙ ap (λ n. until n (number ∷ w.0) at) m.1 ∙ until_fault m.0 (number ∷ w.0) at fault.0 lt fault.1 in
      ap (seen f) (sym read)

  pub walked_all : (at i : ℕ) (same : Bool) → Walked at i same → length bytes ≤ at → (number : Tree) → Some (at, same && unset_from s i) ≡ seen (elements_compared width count s) (until (length bytes) (number ∷ []) start)
  walked_all at i same w past number =
      let read : until (length bytes) (number ∷ []) start ≡ Ok (number ∷ w.0, at) = w.4 number ∙ until_end w.1 (number ∷ w.0) at past in
      let all : (same && unset_from s i) ≡ same_shape s (counted_places count (shape_in width (trees w.0))) =
      ap (λ b. b && unset_from s i) w.5
      ∙ ap (λ n. ((places s == count) && matched width w.0 s) && unset_from s n) (sym w.3)
      ∙ and_assoc (places s == count) (matched width w.0 s) (unset_from s (length w.0))
      ∙ matched_all width count s w.0 in
      ap (λ b. Some (at, b)) all ∙ ap (seen (elements_compared width count s)) (sym read)

  kept_on : (n : ℕ) (number : Tree) (front : List Tree) (at : ℕ) (x : List Tree × ℕ) → ((more_front : List Tree) (next : ℕ) → until n (number ∷ more_front) next ≡ Ok x → (rest : List Tree) × (x.0 ≡ number ∷ rest)) → at < length bytes → (r : Result Tree Refusal) → next_at at ≡ r → until (suc n) (number ∷ front) at ≡ Ok x → (rest : List Tree) × (x.0 ≡ number ∷ rest)
  kept_on n number front at x further lt (Ok t) is e =
      further (front ++ t ∷ []) (stop_of t) (sym (until_on n (number ∷ front) at t lt is) ∙ e)
  kept_on n number front at x further lt (Err f) is e =
      let fault = until_fault n (number ∷ front) at f lt is in absurd cc

  kept_there : (front : List Tree) (number : Tree) (at : ℕ) (x : List Tree × ℕ) (r : Result (List Tree × ℕ) Refusal) → r ≡ Ok (number ∷ front, at) → r ≡ Ok x → (rest : List Tree) × (x.0 ≡ number ∷ rest)
  kept_there front number at x r there e =
      let is : (number ∷ front, at) ≡ x = cc in (front, sym (ap (λ (p : List Tree × ℕ). p.0) is))

  -- the number of the elements stays in front of them
  first_kept : (n : ℕ) (number : Tree) (front : List Tree) (at : ℕ) (x : List Tree × ℕ) → until n (number ∷ front) at ≡ Ok x → (rest : List Tree) × (x.0 ≡ number ∷ rest)
  first_kept zero number front at x e = kept_there front number at x (Ok (number ∷ front, at)) refl e
  first_kept (suc n) number front at x e =
      elim (cases_lt at (length bytes)) [
        | inl lt ↦ kept_on n number front at x (λ more_front next. first_kept n number more_front next x) lt (next_at at) refl e
        | inr past ↦ kept_there front number at x (until (suc n) (number ∷ front) at) (until_end (suc n) (number ∷ front) at past) e
      ]

  -- a package whose elements are read
  abbrev whole : Op → ℕ → Tree → Result Tree Refusal
  whole o at number = until (length bytes) (number ∷ []) start >>= (λ r. Ok (Node o at r.1 (trees r.0)))

  pub package_read : (o : Op) (at : ℕ) (number : Tree) (stop : ℕ) (same : Bool) → Some (stop, same) ≡ seen (elements_compared width count s) (until (length bytes) (number ∷ []) start) → (rest : List Tree) × (whole o at number ≡ Ok (Node o at stop (more number (trees rest)))) × (same ≡ same_shape s (counted_places count (shape_in width (trees rest))))
  package_read o at number stop same e =
      let x = seen_some (elements_compared width count s) (until (length bytes) (number ∷ []) start) (stop, same) e in
      let kept = first_kept (length bytes) number [] start x.0 x.1 in
      let ends : x.0.1 ≡ stop = sym (ap (λ (p : ℕ × Bool). p.0) x.2) in
      let term : whole o at number ≡ Ok (Node o at x.0.1 (trees x.0.0)) = ap (λ (r : Result (List Tree × ℕ) Refusal). r >>= (λ r. Ok (Node o at r.1 (trees r.0)))) x.1 in (
        kept.0,
        term ∙ ap (λ n. Ok (Node o at n (trees x.0.0))) ends ∙ ap (λ ts. Ok (Node o at stop (trees ts))) kept.1,
        ap (λ (p : ℕ × Bool). p.1) x.2 ∙ ap (λ ts. same_shape s (counted_places count (shape_behind width (trees ts)))) kept.1,
      )

-- what a package tells is the number of its elements
told_number : (number : Tree) (rest : Trees) → package_content (more number rest) ≡ content.Package (told_count op.Package number)
told_number (Node (op.Number n) at stop parts) rest = refl
told_number (Node o at stop parts) rest = refl

package_place : (width : Width) (o : Op) (number : Tree) (rest : Trees) (s : Shape) → IsPackage o → place_told width o (more number rest) s ≡ ValueOf (PkgOf (counted_places (told_count o number) s))
package_place width op.Package number rest s is =
    ap (λ told. ValueOf (kind_told width told (number_of op.Package (more number rest)) s)) (told_number number rest)
package_place width op.VarPackage number rest s is = refl
package_place width o number rest s is = absurd is

wanted_package : (k : ElementKind) (t : Shape) → (same_shape (wanted_shape k) t && wants_package k) ≡ same_element_kind k (ValueOf (PkgOf t))
wanted_package (ValueOf (PkgOf s)) t = and_true (same_shape s t)
wanted_package (ValueOf k) t = and_false (same_shape bare t)
wanted_package AnyName t = and_false (same_shape bare t)
wanted_package Anything t = and_false (same_shape bare t)

-- a package, of which each element is read below it
module _ (width : Width) (depth : ℕ) (bytes : List ℕ) (at stop count start : ℕ) (term : Result Tree Refusal) (opened : IsHead (term_at code.Module no_arguments depth) term bytes at (head.Package count start) stop) where
  abbrev inside : List ℕ
  inside = take stop bytes

  abbrev elements : Tree → Result (List Tree × ℕ) Refusal
  elements number = terms_until no_arguments (term_at code.Module no_arguments depth) at spot.Element inside (length inside) (number ∷ []) start

  pub package_compared : (k : ElementKind) (w : Shape) (end : ℕ) (same all : Bool) → w ≡ wanted_shape k → all ≡ (same && wants_package k) → ((number : Tree) → Some (end, same) ≡ seen (elements_compared width count w) (elements number)) → Some (end, all) ≡ seen (element_compared width k) term
  package_compared k w end same all wanted is e =
      let r = package_read width count w depth at inside start opened.0 at opened.1 end same (e opened.1) in
      let s = shape_in width (trees r.0) in
      let place : place_told width opened.0 (more opened.1 (trees r.0)) s ≡ ValueOf (PkgOf (counted_places count s)) = package_place width opened.0 opened.1 (trees r.0) s opened.2 ∙ ap (λ n. ValueOf (PkgOf (counted_places n s))) opened.3 in
      ap (λ b. Some (end, b)) (is ∙ ap (λ b. b && wants_package k) (r.2 ∙ ap (λ x. same_shape x (counted_places count s)) wanted) ∙ wanted_package k (counted_places count s) ∙ ap (same_element_kind k) (sym place))
      ∙ ap (seen (element_compared width k)) (sym (opened.4 ∙ r.1))

-- a package of which no element is there
pub no_elements_told : (es : List program_kind.ElementKind) (count : ℕ) → ((length es == count) && unset_from (shape_of es) 0) ≡ same_shape (shape_of es) (counted_places count bare)
no_elements_told es count =
    ap (λ n. (n == count) && unset_from (shape_of es) 0) (sym (places_many es)) ∙ matched_all Bits64 count (shape_of es) []

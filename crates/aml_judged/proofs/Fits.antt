-- What fits a kind fits a wider one.
use Rattle.std.proofs.Common.{◌≡◌, ℕ, zero, suc, ◌%◌, ◌^◌, ◌≤◌, ◌<◌, List, [], ◌∷◌, length, Option, Some, None, refl, sym, ◌∙◌, subst, arith, max, min}
use Rattle.std.proofs.lemmas.Bool.{leb-true, and_parts}
use Rattle.std.proofs.lemmas.Bool.Decides.{nat_tests}
use Rattle.std.proofs.lemmas.Nat.{pow_pos}
use Rattle.std.proofs.Math.Nat.{mod-lt}
use Rattle.std.specs.Prelude.{slice_get, slice_set, Bool, true, false, nat_le, ◌==◌, ◌&&◌, if◌then◌else◌}
use Rattle.aml_values.specs.Values.{Value, Int, Buf, Str, Pkg, Elements, Element, Holds, Named, Unset, count}
use Rattle.aml_values.specs.Values as values_of
use Rattle.aml_values.proofs.Same.{number_same}
use Rattle.aml_kinds.specs.Kinds.{Kind, IntUpTo, BufOf, StrOf, PkgOf, AnyPkg, Mixed}
use Rattle.aml_kinds.specs.Fits.{fits, fits_shape, fits_place, most_elements}
use Rattle.aml_kinds.specs.SameKinds.{same_shape}
use Rattle.aml_kinds.specs.Joins.{join, if_same}
use Rattle.aml_kinds.proofs.SameKinds.{same_kind-equal}
use Rattle.aml_kinds.proofs.JoinLaws.{join_comm}
use Rattle.aml_contents.specs.FirstKinds.{kind_by, shape_by, place_by}
use Rattle.aml_contents.specs.Contents.{Contents, ContentKinds, content_at, kind_at, are_fitting, is_fitting, may_hold, with_content}
use Rattle.aml_contents.proofs.ContentLaws.{given_are_fitting}
use Rattle.aml_meaning.specs.State.{Names, slots}
use Rattle.aml_meaning.specs.Parts.{may_store, named_content}
use Rattle.aml_judged.specs.Known.{Slot, join_slot, join_slots, within, slot_within, slots_within, greatest, widened_slot, widened, lower_slot, lower}
use Rattle.aml_judged.specs.KindRules.{may_replace}
use Rattle.aml_judged.specs.Safe.{IsWord, IsOf, FitsSlot, FitSlots, FitAll, FitNames}
use Rattle.aml_judged.specs.Bodies.{kind_slots}

pub both : (a b : Bool) → a ≡ true → b ≡ true → (a && b) ≡ true
both true b p q = q
both false b p q = absurd cc

mutual
  pub fits_by : (v : Value) → fits v (kind_by v) ≡ true
  fits_by (Int n) = let le : n ≤ n = omega arith in grind (arith, nat_tests)
  fits_by (Buf bytes) = number_same (length bytes)
  fits_by (Str characters) = number_same (length characters)
  fits_by (Pkg es) = shape_fits_by es

  shape_fits_by : (es : Elements) → fits_shape es (shape_by es) ≡ true
  shape_fits_by values_of.none = refl
  shape_fits_by (values_of.more e es) = both (fits_place e (place_by e)) (fits_shape es (shape_by es)) (place_fits_by e) (shape_fits_by es)

  place_fits_by : (e : Element) → fits_place e (place_by e) ≡ true
  place_fits_by (Holds v) = fits_by v
  place_fits_by (Named o) = refl
  place_fits_by Unset = refl

at_most : (m n : ℕ) → m ≤ n → nat_le m n ≡ true
at_most m n h = grind (arith, nat_tests)

below_max : (x m n : ℕ) → nat_le x m ≡ true → nat_le x (max m n) ≡ true
below_max x m n e = at_most x (max m n) (let h : x ≤ m = leb-true x m e in omega (arith, h))

fits_mixed : (v : Value) → fits v Mixed ≡ true
fits_mixed (Int n) = refl
fits_mixed (Buf bytes) = refl
fits_mixed (Str characters) = refl
fits_mixed (Pkg es) = refl

either_fits : (b : Bool) (v : Value) (j other : Kind) → fits v j ≡ true → fits v other ≡ true → fits v (if_same b j other) ≡ true
either_fits true v j other e f = e
either_fits false v j other e f = f

module _ (width : ℕ) where
  pub in_range : (n : ℕ) → n % 2 ^ width < 2 ^ width
  in_range n = mod-lt n (pow_pos width)

  any_fits : (v : Value) (s : _) → IsWord width v → fits v (PkgOf s) ≡ true → fits v AnyPkg ≡ true
  any_fits (Pkg es) s h e = at_most (count es) most_elements h.0
  any_fits (Int n) s h e = absurd cc
  any_fits (Buf bytes) s h e = absurd cc
  any_fits (Str characters) s h e = absurd cc

  fits_left : (v : Value) (j k : Kind) → IsWord width v → fits v j ≡ true → fits v (join j k) ≡ true
  fits_left (Int x) (IntUpTo m) (IntUpTo n) h e = below_max x m n e
  fits_left (Buf xs) (IntUpTo m) (IntUpTo n) h e = e
  fits_left (Str xs) (IntUpTo m) (IntUpTo n) h e = e
  fits_left (Pkg xs) (IntUpTo m) (IntUpTo n) h e = e
  fits_left v (BufOf m) (BufOf n) h e = either_fits (m == n) v (BufOf m) Mixed e (fits_mixed v)
  fits_left v (StrOf m) (StrOf n) h e = either_fits (m == n) v (StrOf m) Mixed e (fits_mixed v)
  fits_left v (PkgOf s) (PkgOf t) h e = either_fits (same_shape s t) v (PkgOf s) AnyPkg e (any_fits v s h e)
  fits_left v (PkgOf s) AnyPkg h e = any_fits v s h e
  fits_left v AnyPkg (PkgOf t) h e = e
  fits_left v AnyPkg AnyPkg h e = e
  fits_left v j k h e = fits_mixed v

  pub join_left : (v : Value) (j k : Kind) → IsOf width v j → IsOf width v (join j k)
  join_left v j k h = record { fit = fits_left v j k h.word h.fit; word = h.word }

  pub join_right : (v : Value) (j k : Kind) → IsOf width v k → IsOf width v (join j k)
  join_right v j k h = subst (λ i. IsOf width v i) (join_comm k j) (join_left v k j h)

  pub within_fits : (v : Value) (j k : Kind) → within j k ≡ true → IsOf width v j → IsOf width v k
  within_fits v j k e h = subst (λ i. IsOf width v i) (same_kind-equal (join j k) k e) (join_left v j k h)

  slot_left : (v : Option Value) (j k : Slot) → FitsSlot width v j → FitsSlot width v (join_slot j k)
  slot_left v None k h = tt
  slot_left v (Some j) None h = tt
  slot_left (Some v) (Some j) (Some k) h = join_left v j k h
  slot_left None (Some j) (Some k) h = h

  slot_right : (v : Option Value) (j k : Slot) → FitsSlot width v k → FitsSlot width v (join_slot j k)
  slot_right v None k h = tt
  slot_right v (Some j) None h = tt
  slot_right (Some v) (Some j) (Some k) h = join_right v j k h
  slot_right None (Some j) (Some k) h = h

  pub slots_left : (vs : List (Option Value)) (js ks : List Slot) → FitSlots width vs js → FitSlots width vs (join_slots js ks)
  slots_left vs [] ks h = tt
  slots_left vs (j ∷ js) [] h = tt
  slots_left [] (j ∷ js) (k ∷ ks) h = h
  slots_left (v ∷ vs) (j ∷ js) (k ∷ ks) h = (slot_left v j k h.0, slots_left vs js ks h.1)

  pub slots_right : (vs : List (Option Value)) (js ks : List Slot) → FitSlots width vs ks → FitSlots width vs (join_slots js ks)
  slots_right vs [] ks h = tt
  slots_right vs (j ∷ js) [] h = tt
  slots_right [] (j ∷ js) (k ∷ ks) h = h
  slots_right (v ∷ vs) (j ∷ js) (k ∷ ks) h = (slot_right v j k h.0, slots_right vs js ks h.1)

  slot_within_fits : (v : Option Value) (j k : Slot) → slot_within j k ≡ true → FitsSlot width v j → FitsSlot width v k
  slot_within_fits v j None e h = tt
  slot_within_fits (Some v) (Some j) (Some k) e h = within_fits v j k e h
  slot_within_fits None (Some j) (Some k) e h = h
  slot_within_fits v None (Some k) e h = cc

  pub slots_within_fit : (vs : List (Option Value)) (js ks : List Slot) → slots_within js ks ≡ true → FitSlots width vs js → FitSlots width vs ks
  slots_within_fit vs js [] e h = tt
  slots_within_fit vs [] (k ∷ ks) e h = cc
  slots_within_fit [] (j ∷ js) (k ∷ ks) e h = h
  slots_within_fit (v ∷ vs) (j ∷ js) (k ∷ ks) e h = let both = and_parts (slot_within j k) (slots_within js ks) e in (slot_within_fits v j k both.0 h.0, slots_within_fit vs js ks both.1 h.1)

  -- a content that is there and fits
  abbrev pub HasFit : Option (Option Value) → Kind → Type 0
  HasFit (Some (Some v)) k = IsOf width v k
  HasFit slot k = ⊥

  got : (v : Option Value) (k : Kind) → FitsSlot width v (Some k) → HasFit (Some v) k
  got (Some v) k h = h
  got None k h = h

  pub get_fits : (vs : List (Option Value)) (ks : List Slot) (i : ℕ) (k : Kind) → slice_get ks i ≡ Some (Some k) → FitSlots width vs ks → HasFit (slice_get vs i) k
  get_fits vs [] i k e h = absurd cc
  get_fits [] (x ∷ ks) i k e h = absurd h
  get_fits (v ∷ vs) (x ∷ ks) zero k e h = let same : x ≡ Some k = cc in got v k (subst (FitsSlot width v) same h.0)
  get_fits (v ∷ vs) (x ∷ ks) (suc i) k e h = get_fits vs ks i k e h.1

  pub set_fits : (vs : List (Option Value)) (ks : List Slot) (i : ℕ) (v : Value) (k : Kind) → IsOf width v k → FitSlots width vs ks → FitSlots width (slice_set vs i (Some v)) (slice_set ks i (Some k))
  set_fits vs [] zero v k f h = tt
  set_fits vs [] (suc i) v k f h = tt
  set_fits [] (x ∷ ks) i v k f h = absurd h
  set_fits (y ∷ vs) (x ∷ ks) zero v k f h = (f, h.1)
  set_fits (y ∷ vs) (x ∷ ks) (suc i) v k f h = (h.0, set_fits vs ks i v k f h.1)

  pub in_greatest : (n : ℕ) → n < 2 ^ width → fits (Int n) (IntUpTo (greatest width)) ≡ true
  in_greatest n lt = at_most n (greatest width) (omega (arith, lt))

  pub any_int : (n a : ℕ) → IsOf width (Int n) (IntUpTo a) → IsOf width (Int n) (IntUpTo (greatest width))
  any_int n a h = record { fit = in_greatest n h.word; word = h.word }

  pub no_int : (v : Value) (a : ℕ) (K : Type 0) → fits v (IntUpTo a) ≡ true → ((n : ℕ) → v ≡ Int n → K) → K
  no_int (Int n) a K e f = f n refl
  no_int (Buf xs) a K e f = absurd cc
  no_int (Str xs) a K e f = absurd cc
  no_int (Pkg xs) a K e f = absurd cc

  widened_fits : (v : Option Value) (k : Slot) → FitsSlot width v k → FitsSlot width v (widened_slot width k)
  widened_fits (Some v) (Some (IntUpTo a)) h = no_int v a (IsOf width v (IntUpTo (greatest width))) h.fit (λ n e. subst (λ u. IsOf width u (IntUpTo (greatest width))) (sym e) (any_int n a (subst (λ u. IsOf width u (IntUpTo a)) e h)))
  widened_fits None (Some (IntUpTo a)) h = h
  widened_fits v k h = h

  maybe_widened : (b : Bool) (v : Option Value) (k : Slot) → FitsSlot width v k → FitsSlot width v (if b then widened_slot width k else k)
  maybe_widened true v k h = widened_fits v k h
  maybe_widened false v k h = h

  pub widened_slots_fit : (is : ℕ → Bool) (i : ℕ) (vs : List (Option Value)) (ks : List Slot) → FitSlots width vs ks → FitSlots width vs (widened is width i ks)
  widened_slots_fit is i vs [] h = tt
  widened_slots_fit is i [] (k ∷ ks) h = h
  widened_slots_fit is i (v ∷ vs) (k ∷ ks) h = (maybe_widened (is i) v k h.0, widened_slots_fit is (suc i) vs ks h.1)

  -- an integer below a number, where its place is lowered
  pub lower_fits : (vs : List (Option Value)) (ks : List Slot) (i x n : ℕ) → slice_get vs i ≡ Some (Some (Int x)) → x < suc n → FitSlots width vs ks → FitSlots width vs (lower ks i n)
  lower_fits vs [] i x n e lt h = tt
  lower_fits [] (k ∷ ks) i x n e lt h = absurd h
  lower_fits (v ∷ vs) (k ∷ ks) zero x n e lt h = let same : v ≡ Some (Int x) = cc in (subst (λ o. FitsSlot width o (lower_slot k n)) (sym same) (lower_one x n k lt (subst (λ o. FitsSlot width o k) same h.0)), h.1)
    where
      lower_one : (x n : ℕ) (k : Slot) → x < suc n → FitsSlot width (Some (Int x)) k → FitsSlot width (Some (Int x)) (lower_slot k n)
      lower_one x n (Some (IntUpTo a)) lt h = record { fit = at_most x (min a n) (let le : x ≤ a = leb-true x a h.fit in omega (arith, le, lt)); word = h.word }
      lower_one x n k lt h = h
  lower_fits (v ∷ vs) (k ∷ ks) (suc i) x n e lt h = (h.0, lower_fits vs ks i x n e lt h.1)

  -- data names
  abbrev pub HasFitting : Option Value → Kind → Type 0
  HasFitting (Some v) k = fits v k ≡ true
  HasFitting None k = ⊥

  there_content : (v : Option Value) (k : Option Kind) (j : Kind) → is_fitting v k ≡ true → k ≡ Some j → HasFitting v j
  there_content (Some v) (Some k) j e f = let same : k ≡ j = cc in subst (λ i. fits v i ≡ true) same e
  there_content (Some v) None j e f = absurd cc
  there_content None (Some k) j e f = absurd cc
  there_content None None j e f = absurd cc

  content_there : (vs : Contents) (ks : ContentKinds) (i : ℕ) (j : Kind) → are_fitting vs ks ≡ true → kind_at ks i ≡ Some j → HasFitting (content_at vs i) j
  content_there vs [] i j e f = absurd cc
  content_there [] (k ∷ ks) i j e f = absurd cc
  content_there (v ∷ vs) (k ∷ ks) zero j e f = there_content v k j (and_parts (is_fitting v k) (are_fitting vs ks) e).0 f
  content_there (v ∷ vs) (k ∷ ks) (suc i) j e f = content_there vs ks i j (and_parts (is_fitting v k) (are_fitting vs ks) e).1 f

  worded : (o : Option Value) (j : Kind) → HasFitting o j → ((v : Value) → o ≡ Some v → IsWord width v) → HasFit (Some o) j
  worded (Some v) j h w = record { fit = h; word = w v refl }
  worded None j h w = h

  pub name_fits : (ks : ContentKinds) (names : Names) (i : ℕ) (j : Kind) → FitNames width ks names → kind_at ks i ≡ Some j → HasFit (Some (content_at names.contents i)) j
  name_fits ks names i j f e = worded (content_at names.contents i) j (content_there names.contents ks i j f.fitting e) (f.words i)

  replaced_fits : (v : Value) (j k : Kind) → may_replace j k ≡ true → fits v j ≡ true → fits v k ≡ true
  replaced_fits (Int n) (IntUpTo a) (IntUpTo b) e h = at_most n b (let p : n ≤ a = leb-true n a h in let q : a ≤ b = leb-true a b e in omega (arith, p, q))
  replaced_fits (Buf xs) (IntUpTo a) (IntUpTo b) e h = absurd cc
  replaced_fits (Str xs) (IntUpTo a) (IntUpTo b) e h = absurd cc
  replaced_fits (Pkg xs) (IntUpTo a) (IntUpTo b) e h = absurd cc
  replaced_fits v (BufOf a) (BufOf b) e h = let same : a ≡ b = grind (arith, nat_tests) in subst (λ n. fits v (BufOf n) ≡ true) same h
  replaced_fits v (StrOf a) (StrOf b) e h = let same : a ≡ b = grind (arith, nat_tests) in subst (λ n. fits v (StrOf n) ≡ true) same h
  replaced_fits v j k e h = absurd cc

  stored_by : (ks : ContentKinds) (i : ℕ) (v : Value) (o : Option Kind) (j k : Kind) → kind_at ks i ≡ o → o ≡ Some k → may_replace j k ≡ true → fits v j ≡ true → may_hold ks i v ≡ true
  stored_by ks i v o j k e f m h = rw (e ∙ f) (replaced_fits v j k m h)

  no_package : (v : Value) (j k : Kind) → may_replace j k ≡ true → fits v j ≡ true → (ks : ContentKinds) (i : ℕ) → may_hold ks i v ≡ true → may_store ks i v ≡ true
  no_package (Int n) j k e h ks i m = m
  no_package (Buf xs) j k e h ks i m = m
  no_package (Str xs) j k e h ks i m = m
  no_package (Pkg es) (IntUpTo a) k e h ks i m = absurd cc
  no_package (Pkg es) (BufOf a) k e h ks i m = absurd cc
  no_package (Pkg es) (StrOf a) k e h ks i m = absurd cc
  no_package (Pkg es) (PkgOf s) k e h ks i m = absurd cc
  no_package (Pkg es) AnyPkg k e h ks i m = absurd cc
  no_package (Pkg es) Mixed k e h ks i m = absurd cc

  pub may_be_stored : (ks : ContentKinds) (i : ℕ) (v : Value) (j k : Kind) → kind_at ks i ≡ Some k → may_replace j k ≡ true → fits v j ≡ true → may_store ks i v ≡ true
  may_be_stored ks i v j k e m h = no_package v j k m h ks i (stored_by ks i v (Some k) j k e refl m h)

  held_of_store : (ks : ContentKinds) (i : ℕ) (v : Value) → may_store ks i v ≡ true → may_hold ks i v ≡ true
  held_of_store ks i (Int n) e = e
  held_of_store ks i (Buf n) e = e
  held_of_store ks i (Str n) e = e
  held_of_store ks i (Pkg n) e = absurd cc

  other_content : (vs : Contents) (i n : ℕ) (v u : Value) → content_at (with_content vs i v) n ≡ Some u → ((u : Value) → content_at vs n ≡ Some u → IsWord width u) → IsWord width v → IsWord width u
  other_content [] i n v u e w h = w u e
  other_content (x ∷ vs) zero zero v u e w h = let same : v ≡ u = cc in subst (IsWord width) same h
  other_content (x ∷ vs) zero (suc n) v u e w h = w u e
  other_content (x ∷ vs) (suc i) zero v u e w h = w u e
  other_content (x ∷ vs) (suc i) (suc n) v u e w h = other_content vs i n v u e w h

  pub stored_names : (ks : ContentKinds) (names : Names) (i : ℕ) (v : Value) → FitNames width ks names → may_store ks i v ≡ true → IsWord width v → FitNames width ks (named_content names i v)
  stored_names ks names i v f m w = record {
    kinds_stay = f.kinds_stay;
    fitting = given_are_fitting names.contents ks i v f.fitting (held_of_store ks i v m);
    words = λ n u e. other_content names.contents i n v u e (f.words n) w;
  }

pub slots_fit : (width n : ℕ) (vs : List Value) (ks : List Kind) → FitAll width vs ks → FitSlots width (slots n vs) (kind_slots n ks)
slots_fit width zero vs ks h = tt
slots_fit width (suc n) [] [] h = (tt, slots_fit width n [] [] tt)
slots_fit width (suc n) (v ∷ vs) (k ∷ ks) h = (h.0, slots_fit width n vs ks h.1)
slots_fit width (suc n) [] (k ∷ ks) h = absurd h
slots_fit width (suc n) (v ∷ vs) [] h = absurd h

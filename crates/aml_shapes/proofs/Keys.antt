-- Shapes of data are the same where their keys are.
use Rattle.std.proofs.Common.{◌≡◌, ◌<◌, ◌≤◌, ℕ, zero, suc, List, [], ◌∷◌, map, length, get_or, Option, Some, None, refl, sym, ap, ◌∙◌, arith}
use Rattle.aml_kinds.specs.Kinds.{PkgOf, Shape, bare, with, shaped, places, ValueOf, Anything}
use Rattle.aml_contents.specs.DataKinds.{counted_places}
use Rattle.aml_known.specs.Views.{AreApart}
use Rattle.aml_judged.specs.KindRules.{joined_places, place_numbered}
use Rattle.aml_shapes.specs.Keys.{AreBelow, HasRoom, IsBelow, IsSameKey, JoinsPlaces, key_shape, part_kind, shape_with}
use Rattle.aml_known.specs.declared.known.ElementKnown.{ElementKnown}
use Rattle.aml_shapes.specs.declared.key.Part.{Part}
use Rattle.aml_shapes.specs.declared.key.Part.TheVariants as part
use Rattle.aml_shapes.specs.declared.key.ShapeKey.{ShapeKey}
use Rattle.aml_shapes.proofs.Numbers.{places_counted}

-- no part is unset
set_part : (shapes : ℕ → Shape) (p : Part) → part_kind shapes p ≡ Anything → ⊥
set_part shapes part.Name e = cc
set_part shapes (part.Int n) e = cc
set_part shapes (part.Buf n) e = cc
set_part shapes (part.Str n) e = cc
set_part shapes (part.Pkg i) e = cc

module _ (shapes : ℕ → Shape) (are : AreApart shapes) where
  same_shape_inside : (i j : ℕ) → shapes i ≡ shapes j → part.Pkg i ≡ part.Pkg j
  same_shape_inside i j e = ap part.Pkg (are.apart i j e)

  same_part : (p q : Part) → part_kind shapes p ≡ part_kind shapes q → p ≡ q
  same_part part.Name part.Name e = refl
  same_part (part.Int m) (part.Int n) e = cc
  same_part (part.Buf m) (part.Buf n) e = cc
  same_part (part.Str m) (part.Str n) e = cc
  same_part (part.Pkg i) (part.Pkg j) e = same_shape_inside i j cc
  same_part p q e = absurd cc

  same_parts : (n : ℕ) (ps qs : List Part) → length ps ≤ n → length qs ≤ n → shape_with shapes n ps ≡ shape_with shapes n qs → ps ≡ qs
  same_parts n [] [] p_room q_room e = refl
  same_parts zero [] (q ∷ qs) p_room q_room e = absurd (omega arith)
  same_parts zero (p ∷ ps) qs p_room q_room e = absurd (omega arith)
  same_parts (suc n) [] (q ∷ qs) p_room q_room e = absurd (set_part shapes q cc)
  same_parts (suc n) (p ∷ ps) [] p_room q_room e = absurd (set_part shapes p cc)
  same_parts (suc n) (p ∷ ps) (q ∷ qs) p_room q_room e =
      let first : p ≡ q = same_part p q cc in
      let rest : ps ≡ qs = same_parts n ps qs (omega arith) (omega arith) cc in cc

  -- keys of one shape
  pub same_key : (a b : ShapeKey) → HasRoom a → HasRoom b → key_shape shapes a ≡ key_shape shapes b → IsSameKey a b
  same_key a b a_room b_room e =
      let count : a.places ≡ b.places = sym (places_counted a.places (shaped (map (part_kind shapes) a.parts.items))) ∙ ap places e ∙ places_counted b.places (shaped (map (part_kind shapes) b.parts.items)) in
      let again : shape_with shapes b.places a.parts.items ≡ shape_with shapes b.places b.parts.items = ap (λ n. shape_with shapes n a.parts.items) (sym count) ∙ e in
      (count, same_parts b.places a.parts.items b.parts.items (omega arith) b_room again)

-- the shape of the same key
pub key_shape_same : (shapes : ℕ → Shape) (a b : ShapeKey) → IsSameKey a b → key_shape shapes a ≡ key_shape shapes b
key_shape_same shapes a b same =
    ap (λ n. shape_with shapes n a.parts.items) same.0 ∙ ap (shape_with shapes b.places) same.1

-- parts whose shapes have numbers below one, by two functions that are the same there
module _ (f g : ℕ → Shape) (n : ℕ) (same : (i : ℕ) → i < n → f i ≡ g i) where
  part_stays : (p : Part) → IsBelow n p → part_kind f p ≡ part_kind g p
  part_stays part.Name below = refl
  part_stays (part.Int m) below = refl
  part_stays (part.Buf m) below = refl
  part_stays (part.Str m) below = refl
  part_stays (part.Pkg i) below = ap (λ s. ValueOf (PkgOf s)) (same i below)

  pub parts_stay : (ps : List Part) → AreBelow n ps → map (part_kind f) ps ≡ map (part_kind g) ps
  parts_stay [] below = refl
  parts_stay (p ∷ ps) below =
      ap (λ e. e ∷ map (part_kind f) ps) (part_stays p below.0) ∙ ap (λ es. part_kind g p ∷ es) (parts_stay ps below.1)

  pub key_shape_stays : (k : ShapeKey) → AreBelow n k.parts.items → key_shape f k ≡ key_shape g k
  key_shape_stays k below = ap (λ es. counted_places k.places (shaped es)) (parts_stay k.parts.items below)

-- what is below a number is below each greater one
below_more : (m n : ℕ) (p : Part) → m ≤ n → IsBelow m p → IsBelow n p
below_more m n part.Name le below = tt
below_more m n (part.Int k) le below = tt
below_more m n (part.Buf k) le below = tt
below_more m n (part.Str k) le below = tt
below_more m n (part.Pkg i) le below = omega arith

pub are_below_more : (m n : ℕ) (ps : List Part) → m ≤ n → AreBelow m ps → AreBelow n ps
are_below_more m n [] le below = tt
are_below_more m n (p ∷ ps) le below = (below_more m n p le below.0, are_below_more m n ps le below.1)

pub are_below-same : (n : ℕ) (a b : ShapeKey) → IsSameKey a b → AreBelow n b.parts.items → AreBelow n a.parts.items
are_below-same n a b same below = rw same.1 below

pub room-same : (a b : ShapeKey) → IsSameKey a b → HasRoom b → HasRoom a
room-same a b same room = rw (same.0, same.1) room

pub joins-same : (joined : Option ElementKnown) (a b : ShapeKey) → IsSameKey a b → JoinsPlaces joined b → JoinsPlaces joined a
joins-same joined a b same joins shapes are =
    joins shapes are ∙ ap joined_places (sym (key_shape_same shapes a b same))

-- what stands at a place
pub no_place : (count : ℕ) (s : Shape) (i : ℕ) → count ≤ i → place_numbered (counted_places count s) i ≡ None
no_place zero s i le = refl
no_place (suc n) s zero le = absurd (omega arith)
no_place (suc n) bare (suc i) le = no_place n bare i (omega arith)
no_place (suc n) (with e s) (suc i) le = no_place n s i (omega arith)

pub unset_place : (shapes : ℕ → Shape) (count : ℕ) (ps : List Part) (i : ℕ) → length ps ≤ i → i < count → place_numbered (shape_with shapes count ps) i ≡ Some Anything
unset_place shapes zero ps i le lt = absurd (omega arith)
unset_place shapes (suc n) [] zero le lt = refl
unset_place shapes (suc n) [] (suc i) le lt = unset_place shapes n [] i (omega arith) (omega arith)
unset_place shapes (suc n) (p ∷ ps) zero le lt = absurd (omega arith)
unset_place shapes (suc n) (p ∷ ps) (suc i) le lt = unset_place shapes n ps i (omega arith) (omega arith)

pub set_place : (shapes : ℕ → Shape) (count : ℕ) (ps : List Part) (i : ℕ) (d : Part) → i < length ps → i < count → place_numbered (shape_with shapes count ps) i ≡ Some (part_kind shapes (get_or ps i d))
set_place shapes zero ps i d there lt = absurd (omega arith)
set_place shapes (suc n) [] i d there lt = absurd (omega arith)
set_place shapes (suc n) (p ∷ ps) zero d there lt = refl
set_place shapes (suc n) (p ∷ ps) (suc i) d there lt = set_place shapes n ps i d (omega arith) (omega arith)

-- What the terms of packages tell of their shapes.
use Rattle.std.proofs.Common.{◌≡◌, ◌<◌, ◌≤◌, ◌+◌, ◌++◌, ◌∙◌, ℕ, zero, suc, List, [], ◌∷◌, map, take, drop, length, get_or, refl, sym, ap, arith}
use Rattle.aml_paths.specs.declared.memory.NoMemory.{NoMemory}
use Rattle.std.specs.Prelude.{IfOk, Result, Ok, Err}
use Rattle.std.proofs.lemmas.List.{length-map, length-take, map_push, take_more}
use Rattle.aml_operators.specs.declared.op.Op.{Op}
use Rattle.aml_operators.specs.declared.op.Op.TheVariants as op
use Rattle.aml_operators.specs.declared.term.Term.{Term}
use Rattle.aml_operators.specs.declared.term.Term.TheViews.{out-Term}
use Rattle.aml_operators.specs.Tree.{Trees, view, views}
use Rattle.aml_operators.proofs.Views.{view_out}
use Rattle.aml_objects.specs.declared.width.Width.{Width}
use Rattle.aml_kinds.specs.Kinds.{Shape, with, shaped, ElementKind, ValueOf}
use Rattle.aml_contents.specs.DataKinds.{counted_places, place_told, shape_behind, shape_in, tree_place}
use Rattle.aml_shapes.specs.Keys.{AreBelow, IsBelow, part_kind, shape_with}
use Rattle.aml_shapes.specs.Literals.{literal_kind}
use Rattle.aml_shapes.specs.Numbers.{Keeps, numbered}
use Rattle.aml_shapes.specs.declared.key.Part.{Part}
use Rattle.aml_shapes.proofs.Keys.{are_below_more, parts_stay}

-- an element that is no name
told_value : (width : Width) (o : Op) (parts : Trees) → (o ≡ op.NameString → ⊥) → place_told width o parts (shape_behind width parts) ≡ ValueOf (literal_kind width o parts)
told_value width op.NameString parts other = absurd (other refl)
told_value width o parts other = refl

pub place_of_term : (width : Width) (t : Term) → ((out-Term t).op ≡ op.NameString → ⊥) → tree_place width (view t) ≡ ValueOf (literal_kind width (out-Term t).op (views (out-Term t).parts.items))
place_of_term width t other =
    ap (tree_place width) (view_out t) ∙ told_value width (out-Term t).op (views (out-Term t).parts.items) other

module _ (width : Width) where
  abbrev place_at : Term → ElementKind
  place_at t = tree_place width (view t)

  shape_listed : (ts : List Term) → shape_in width (views ts) ≡ shaped (map place_at ts)
  shape_listed [] = refl
  shape_listed (t ∷ ts) = ap (with (place_at t)) (shape_listed ts)

  behind_listed : (parts : List Term) → shape_behind width (views parts) ≡ shaped (map place_at (drop 1 parts))
  behind_listed [] = refl
  behind_listed (t ∷ ts) = shape_listed ts

  counted_taken : (n : ℕ) (ts : List Term) → counted_places n (shaped (map place_at (take n ts))) ≡ counted_places n (shaped (map place_at ts))
  counted_taken zero ts = refl
  counted_taken (suc n) [] = refl
  counted_taken (suc n) (t ∷ ts) = ap (with (place_at t)) (counted_taken n ts)

  -- a package's shape, by so many of its elements
  pub package_told : (shapes : ℕ → Shape) (count : ℕ) (parts kept : List Term) (ps : List Part) → kept ≡ take count (drop 1 parts) → map (part_kind shapes) ps ≡ map place_at kept → shape_with shapes count ps ≡ counted_places count (shape_behind width (views parts))
  package_told shapes count parts kept ps is each =
      ap (λ es. counted_places count (shaped es)) (each ∙ ap (map place_at) is) ∙ counted_taken count (drop 1 parts) ∙ ap (counted_places count) (sym (behind_listed parts))

  pub parts_fit : (shapes : ℕ → Shape) (count : ℕ) (parts kept : List Term) (ps : List Part) → kept ≡ take count (drop 1 parts) → map (part_kind shapes) ps ≡ map place_at kept → length ps ≤ count
  parts_fit shapes count parts kept ps is each =
      let many : length ps ≡ length kept = sym (length-map ps (part_kind shapes)) ∙ ap length each ∙ length-map kept place_at in
      let few : length kept ≡ length (take count (drop 1 parts)) = ap length is in
      omega (arith, length-take count (drop 1 parts))

  -- what is answered of the number of a package's shape
  pub number_told : (r : Result ℕ NoMemory) (count : ℕ) (parts kept : List Term) (ps : List Part) (mid new : List Shape) → kept ≡ take count (drop 1 parts) → map (part_kind (numbered mid)) ps ≡ map place_at kept → AreBelow (length mid) ps → Keeps mid new → IfOk r (λ n. (n < length new) × (numbered new n ≡ shape_with (numbered new) count ps)) → IfOk r (λ n. (n < length new) × (numbered new n ≡ counted_places count (shape_behind width (views parts))))
  number_told (Err e) count parts kept ps mid new is each below keeps told = tt
  number_told (Ok n) count parts kept ps mid new is each below keeps told =
      let now = parts_stay (numbered new) (numbered mid) (length mid) keeps.stays ps below ∙ each in
      (told.0, told.1 ∙ package_told (numbered new) count parts kept ps is now)

  -- one element more, while the shapes grow
  pub kinds_more : (old new : List Shape) (ts : List Term) (i : ℕ) (t : Term) (ps : List Part) (p : Part) → i < length ts → t ≡ get_or ts i t → Keeps old new → AreBelow (length old) ps → map (part_kind (numbered old)) ps ≡ map place_at (take i ts) → part_kind (numbered new) p ≡ place_at t → map (part_kind (numbered new)) (ps ++ p ∷ []) ≡ map place_at (take (i + 1) ts)
  kinds_more old new ts i t ps p there is keeps below each this =
      map_push (part_kind (numbered new)) ps p
      ∙ ap (λ es. es ++ part_kind (numbered new) p ∷ []) (parts_stay (numbered new) (numbered old) (length old) keeps.stays ps below ∙ each)
      ∙ ap (λ e. map place_at (take i ts) ++ e ∷ []) this
      ∙ sym (map_push place_at (take i ts) t)
      ∙ ap (map place_at) (ap (λ x. take i ts ++ x ∷ []) is ∙ sym (take_more ts i t there))

below_push : (n : ℕ) (ps : List Part) (p : Part) → AreBelow n ps → IsBelow n p → AreBelow n (ps ++ p ∷ [])
below_push n [] p below this = (this, tt)
below_push n (q ∷ ps) p below this = (below.0, below_push n ps p below.1 this)

pub below_pushed : (m n : ℕ) (ps : List Part) (p : Part) → m ≤ n → AreBelow m ps → IsBelow n p → AreBelow n (ps ++ p ∷ [])
below_pushed m n ps p le below this = below_push n ps p (are_below_more m n ps le below) this

pub keeps_on : (a b d : List Shape) → Keeps a b → Keeps b d → Keeps a d
keeps_on a b d first second =
    let one = first.longer in
    let two = second.longer in
    record { longer = omega arith; stays = λ i lt. second.stays i (omega arith) ∙ first.stays i lt }

-- What marks tell of the places that the map has.
use Rattle.std.proofs.Common.{◌≡◌, ℕ, ◌*◌, ◌%◌, ◌^◌, ◌<◌, ◌⊎◌, inl, inr, List, [], length, get_or, Option, None, Bool, true, false, cond, refl, sym, ap, ◌∙◌, arith}
use Rattle.std.specs.Prelude.{slice_index, set, bit_or}
use Rattle.std.specs.Int.{bit_at, w64}
use Rattle.std.specs.BTreeMap.{BTreeMap, get, is_at, Updates}
use Rattle.std.specs.Map.{lookup}
use Rattle.std.proofs.lemmas.Bool.{cases_eq}
use Rattle.std.proofs.lemmas.List.{get_or_default, get_or-set_other, get_or-set_same}
use Rattle.std.proofs.lemmas.Nat.Bits.{bit_at_or, bit_at_set_same}
use Rattle.aml_paths.specs.declared.place.Place.{Place}
use Rattle.aml_paths.specs.Marks.{AreMarked, group_of}
use Rattle.aml_paths.specs.Trie.{place_order}
use Rattle.aml_paths.proofs.Added.{same_place}

-- no mark of the first is lost in the second
abbrev pub MarksKept : List ℕ → List ℕ → Type 0
MarksKept old new = (t g : ℕ) → bit_at (slice_index new t) g ≡ 0 → bit_at (slice_index old t) g ≡ 0

pub no_marks : (numbers : BTreeMap Place ℕ) → (marks : List ℕ) → numbers.entries ≡ [] → AreMarked marks numbers
no_marks numbers marks none place off = ap (lookup (is_at (place_order place))) none

pub marks_kept : (old new : List ℕ) (numbers : BTreeMap Place ℕ) → MarksKept old new → AreMarked old numbers → AreMarked new numbers
marks_kept old new numbers kept marked place off = marked place (kept place.top (group_of place.segment) off)

pub marks_same : (marks : List ℕ) (numbers after : BTreeMap Place ℕ) → after.entries ≡ numbers.entries → AreMarked marks numbers → AreMarked marks after
marks_same marks numbers after entries marked place off = ap (lookup (is_at (place_order place))) entries ∙ marked place off

marked_by : (marks : List ℕ) (numbers : BTreeMap Place ℕ) (place p : Place) (value : Option ℕ) (b : Bool) → is_at (place_order place) p ≡ b
    → bit_at (slice_index marks place.top) (group_of place.segment) ≡ 1 → bit_at (slice_index marks p.top) (group_of p.segment) ≡ 0
    → get place_order numbers p ≡ None → cond b value (get place_order numbers p) ≡ None
marked_by marks numbers place p value true is set off none =
    let on : bit_at (slice_index marks p.top) (group_of p.segment) ≡ 1 = ap (λ (x : Place). bit_at (slice_index marks x.top) (group_of x.segment)) (sym (same_place place p is)) ∙ set in
    absurd (omega (arith, on, off))
marked_by marks numbers place p value false is set off none = none

pub marks_push : (old new : List ℕ) (numbers after : BTreeMap Place ℕ) (place : Place) (value : Option ℕ) → MarksKept old new
    → bit_at (slice_index new place.top) (group_of place.segment) ≡ 1 → Updates place_order numbers after place value → AreMarked old numbers → AreMarked new after
marks_push old new numbers after place value kept set updates marked p off =
    updates.0 p ∙ marked_by new numbers place p value (is_at (place_order place) p) refl set off (marked p (kept p.top (group_of p.segment) off))

-- one more mark
module _ (marks : List ℕ) (top group mark : ℕ) (there : top < length marks) (was : mark ≡ get_or marks top mark) (small : group < 64) where
  abbrev with_mark : ℕ
  with_mark = bit_or mark (1 * 2 ^ group % 2 ^ 64)

  abbrev more : List ℕ
  more = set marks top with_mark

  mark_is : mark ≡ slice_index marks top
  mark_is = was ∙ get_or_default marks top mark 0 there

  pub marked_here : bit_at (slice_index more top) group ≡ 1
  marked_here = ap (λ (m : ℕ). bit_at m group) (get_or-set_same marks top with_mark 0 there) ∙ bit_at_set_same w64 mark group small

  kept_by : (t g : ℕ) → (t ≡ top) ⊎ (t ≡ top → ⊥) → bit_at (slice_index more t) g ≡ 0 → bit_at (slice_index marks t) g ≡ 0
  kept_by t g (inl same) off =
      let both : bit_at with_mark g ≡ 0 = sym (ap (λ (m : ℕ). bit_at m g) (ap (slice_index more) same ∙ get_or-set_same marks top with_mark 0 there)) ∙ off in
      let one : bit_at mark g ≡ 0 = let most = bit_at_or mark (1 * 2 ^ group % 2 ^ 64) g in omega (arith, most, both) in
      ap (λ (m : ℕ). bit_at m g) (ap (slice_index marks) same ∙ sym mark_is) ∙ one
  kept_by t g (inr other) off = ap (λ (m : ℕ). bit_at m g) (sym (get_or-set_other marks top t with_mark 0 other)) ∙ off

  pub others_kept : (t g : ℕ) → bit_at (slice_index more t) g ≡ 0 → bit_at (slice_index marks t) g ≡ 0
  others_kept t g off = kept_by t g (cases_eq t top) off

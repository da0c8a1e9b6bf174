-- A field of a buffer that is stored into in place, a byte at a time.
use Rattle.std.proofs.Common.{◌≡◌, ℕ, suc, zero, ◌+◌, ◌*◌, ◌^◌, ◌<◌, ◌≤◌, ◌≢◌, List, [], ◌∷◌, length, get_or, get_or-set_other, get_or-set_same, length-set, set-set, Option, Some, refl, sym, ap, ◌∙◌, arith, ⊎_elim}
use Rattle.std.proofs.lemmas.Bool.{cases_lt}
use Rattle.std.proofs.lemmas.List.FromFn.{fill_by_all}
use Rattle.std.specs.Prelude.{slice_index, slice_set}
use Rattle.aml_values.specs.Values.{Value, Buf}
use Rattle.aml_contents.specs.Contents.{Contents, changed_byte, content_at, with_byte, with_content}
use Rattle.aml_regions.specs.BufferFields.{in_bytes, stored}
use Rattle.aml_regions.specs.Fields.{mixed}
use Rattle.aml_meaning.specs.declared.buffer_field.BufferField.{BufferField}
use Rattle.aml_meaning.specs.BufferFields.{first_bit}
use Rattle.aml_fields.proofs.Shifted.{untouched_behind, untouched_below}
use Rattle.aml_fields.proofs.Writing.{mixed_outside}
use Rattle.std.specs.Option.{option_map}

-- a byte written into what a name holds
pub changed_there : (names : Contents) (i at byte : ℕ) (old : Value) → content_at names i ≡ Some old → changed_byte names i at byte ≡ with_content names i (with_byte old at byte)
changed_there names i at byte old e = ap (λ o. slice_set names i (option_map (λ v. with_byte v at byte) o)) e

-- a content that stands there is there when it is put again, and another one when that is put
same_content : (names : Contents) (k : ℕ) (v : Value) → content_at names k ≡ Some v → with_content names k v ≡ names
same_content [] k v e = refl
same_content (x ∷ xs) zero v e = ap (λ (o : Option Value). o ∷ xs) (sym e)
same_content (x ∷ xs) (suc k) v e = ap (λ (c : Contents). x ∷ c) (same_content xs k v e)

content_put : (names : Contents) (k : ℕ) (old v : Value) → content_at names k ≡ Some old → content_at (with_content names k v) k ≡ Some v
content_put [] k old v e = absurd cc
content_put (x ∷ xs) zero old v e = refl
content_put (x ∷ xs) (suc k) old v e = content_put xs k old v e

-- the buffer's bytes before a place have the field's bits, and the others are as they were
pub record IsStoredBelow (old new : Contents) (k : ℕ) (f : BufferField) (bit : ℕ → ℕ) (place : ℕ) (bytes : List ℕ) : Type 0 where
  pub made : List ℕ
  pub is : new ≡ with_content old k (Buf made)
  pub size : length made ≡ length bytes
  pub below : (j : ℕ) → j < place → j < length bytes → get_or made j 0 ≡ mixed (in_bytes (first_bit f) f.bits) bit j (get_or bytes j 0)
  pub behind : (j : ℕ) → place ≤ j → get_or made j 0 ≡ get_or bytes j 0

module _ (old : Contents) (k : ℕ) (f : BufferField) (bit : ℕ → ℕ) (bytes : List ℕ) (are : (i : ℕ) → slice_index bytes i < 2 ^ 8) (held : content_at old k ≡ Some (Buf bytes)) where
  -- before the first byte nothing is stored
  pub stored_none : (place : ℕ) → place ≤ f.byte → IsStoredBelow old old k f bit place bytes
  stored_none place before = record {
    made = bytes;
    is = sym (same_content old k (Buf bytes) held);
    size = refl;
    below = λ j lt there. sym (mixed_outside (in_bytes (first_bit f) f.bits) bit j (get_or bytes j 0) (are j) (λ i low. untouched_below (first_bit f) f.bits j i (omega arith) low));
    behind = λ j le. refl;
  }

  -- what stands there meanwhile
  pub held_so_far : (new : Contents) (place : ℕ) (s : IsStoredBelow old new k f bit place bytes) → content_at new k ≡ Some (Buf s.made)
  held_so_far new place s = ap (λ c. content_at c k) s.is ∙ content_put old k (Buf bytes) (Buf s.made) held

  -- one byte more
  pub stored_more : (new newer : Contents) (place byte : ℕ) (s : IsStoredBelow old new k f bit place bytes) → byte ≡ mixed (in_bytes (first_bit f) f.bits) bit place (get_or s.made place 0) → newer ≡ changed_byte new k place byte → IsStoredBelow old newer k f bit (place + 1) bytes
  stored_more new newer place byte s is put =
      let there = held_so_far new place s in
      record {
        made = slice_set s.made place byte;
        is = put ∙ changed_there new k place byte (Buf s.made) there ∙ ap (λ c. with_content c k (Buf (slice_set s.made place byte))) s.is ∙ set-set old k (Some (Buf s.made)) (Some (Buf (slice_set s.made place byte)));
        size = length-set s.made place byte ∙ s.size;
        below = λ j lt there. ⊎_elim
            (λ (before : j < place). let ne : j ≢ place = omega arith in rw get_or-set_other (s.below j before there))
            (λ (here : place ≤ j). let e : j ≡ place = omega arith in let inside : place < length s.made = omega (arith, s.size) in rw (e, get_or-set_same) (is ∙ ap (mixed (in_bytes (first_bit f) f.bits) bit place) (s.behind place (omega arith))))
            (cases_lt j place);
        behind = λ j le. let ne : j ≢ place = omega arith in rw get_or-set_other (s.behind j (omega arith));
      }

  -- behind the last byte all is stored
  pub stored_all : (new : Contents) (place : ℕ) → 0 < f.bits → first_bit f + f.bits ≤ 8 * place → IsStoredBelow old new k f bit place bytes → new ≡ with_content old k (Buf (stored (first_bit f) f.bits bit bytes))
  unfolding stored
  stored_all new place some past s =
      let all = fill_by_all (λ j. mixed (in_bytes (first_bit f) f.bits) bit j (slice_index bytes j)) s.made (length bytes) 0 s.size (λ j lt. ⊎_elim
      (λ (before : j < place). s.below j before lt)
      (λ (behind : place ≤ j). s.behind j behind ∙ sym (mixed_outside (in_bytes (first_bit f) f.bits) bit j (get_or bytes j 0) (are j) (λ i low. untouched_behind (first_bit f) f.bits j i some (omega arith))))
      (cases_lt j place)) in
      s.is ∙ ap (λ b. with_content old k (Buf b)) all

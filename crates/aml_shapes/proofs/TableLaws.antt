-- Shapes as a table keeps them.
use Rattle.std.proofs.Common.{◌≡◌, ◌<◌, ◌+◌, ℕ, zero, suc, List, [], ◌∷◌, ◌++◌, length, Some, None, Option, IfSome, get_or, slice_get, Bool, true, false, cond, refl, sym, ap, subst, ◌∙◌, inl, inr, arith}
use Rattle.aml_paths.specs.declared.memory.NoMemory.{NoMemory}
use Rattle.std.specs.Prelude.{IfOk, OnErr, OnOk, Result, Ok, Err}
use Rattle.std.specs.declared.cmp.Ordering.{Ordering}
use Rattle.std.specs.declared.cmp.Ordering.TheVariants.{Less, Equal, Greater}
use Rattle.std.specs.BTreeMap.{BTreeMap, Updates, get, is_at}
use Rattle.std.specs.Map.{lookup}
use Rattle.std.specs.Ordering.{is_eq}
use Rattle.std.proofs.lemmas.List.{length_push}
use Rattle.std.proofs.lemmas.Option.{slice_get-get_or, slice_get_within}
use Rattle.aml_kinds.specs.Kinds.{Shape}
use Rattle.aml_paths.proofs.Positions.{slice_get_last, slice_get_left, slice_get_push}
use Rattle.aml_known.specs.Views.{AreApart}
use Rattle.aml_judged.specs.KindRules.{joined_places}
use Rattle.aml_shapes.specs.Keys.{AreBelow, HasRoom, IsSameKey, JoinsPlaces, key_order, key_shape}
use Rattle.aml_shapes.specs.Numbers.{Keeps, numbered}
use Rattle.aml_shapes.specs.Tables.{IsKept, IsPut, IsTable, Stands, shapes_behind, shapes_kept}
use Rattle.aml_shapes.specs.declared.kept.Kept.{Kept}
use Rattle.aml_shapes.specs.declared.key.Part.{Part}
use Rattle.aml_shapes.specs.declared.key.ShapeKey.{ShapeKey}
use Rattle.aml_shapes.proofs.Keys.{key_shape_same, key_shape_stays, same_key}
use Rattle.aml_shapes.proofs.Numbers.{apart_more, apart_none, numbered_last, numbered_left}
use Rattle.aml_shapes.proofs.Orders.{get_same, order_tells, order_ties}

pub no_shapes : shapes_kept [] ≡ []
unfolding shapes_behind
no_shapes = refl

length-behind : (shapes : List Shape) (ks : List Kept) → length (shapes_behind shapes ks) ≡ length shapes + length ks
unfolding shapes_behind
length-behind shapes [] = omega arith
length-behind shapes (k ∷ ks) =
    let rest = length-behind (shapes ++ key_shape (numbered shapes) k.key ∷ []) ks in
    let long = length_push shapes (key_shape (numbered shapes) k.key) in omega arith

pub length-kept : (ks : List Kept) → length (shapes_kept ks) ≡ length ks
length-kept ks = let long = length-behind [] ks in omega arith

-- one shape more
behind-push : (shapes : List Shape) (ks : List Kept) (k : Kept) → shapes_behind shapes (ks ++ k ∷ []) ≡ shapes_behind shapes ks ++ key_shape (numbered (shapes_behind shapes ks)) k.key ∷ []
unfolding shapes_behind
behind-push shapes [] k = refl
behind-push shapes (j ∷ ks) k = behind-push (shapes ++ key_shape (numbered shapes) j.key ∷ []) ks k

-- what stands before some shapes stays
behind-left : (shapes : List Shape) (ks : List Kept) (i : ℕ) → i < length shapes → numbered (shapes_behind shapes ks) i ≡ numbered shapes i
unfolding shapes_behind
behind-left shapes [] i lt = refl
behind-left shapes (k ∷ ks) i lt =
    let new = key_shape (numbered shapes) k.key in
    let long = length_push shapes new in
    behind-left (shapes ++ new ∷ []) ks i (omega arith) ∙ numbered_left shapes new i lt

-- what the number of a shape stands for, which has only shapes with lower numbers inside
behind-at : (shapes : List Shape) (ks : List Kept) (i : ℕ) (k : Kept) → slice_get ks i ≡ Some k → AreBelow (length shapes + i) k.key.parts.items → numbered (shapes_behind shapes ks) (length shapes + i) ≡ key_shape (numbered (shapes_behind shapes ks)) k.key
unfolding shapes_behind
behind-at shapes [] i k is below = absurd cc
behind-at shapes (j ∷ ks) zero k is below =
    let j_is : j ≡ k = cc in
    let new = key_shape (numbered shapes) j.key in
    let more = shapes ++ new ∷ [] in
    let long = length_push shapes new in
    let here : length shapes + 0 ≡ length shapes = omega arith in
    let low : AreBelow (length shapes) k.key.parts.items = subst (λ n. AreBelow n k.key.parts.items) here below in
    ap (numbered (shapes_behind more ks)) here ∙ behind-left more ks (length shapes) (omega arith) ∙ numbered_last shapes new ∙ ap (λ (each : Kept). key_shape (numbered shapes) each.key) j_is
    ∙ key_shape_stays (numbered shapes) (numbered (shapes_behind more ks)) (length shapes) (λ n lt. sym (behind-left more ks n (omega arith) ∙ numbered_left shapes new n lt)) k.key low
behind-at shapes (j ∷ ks) (suc i) k is below =
    let new = key_shape (numbered shapes) j.key in
    let more = shapes ++ new ∷ [] in
    let long = length_push shapes new in
    let there : length shapes + suc i ≡ length more + i = omega arith in
    ap (numbered (shapes_behind more ks)) there ∙ behind-at more ks i k is (subst (λ n. AreBelow n k.key.parts.items) there below)

pub kept_at : (ks : List Kept) (i : ℕ) (k : Kept) → slice_get ks i ≡ Some k → AreBelow i k.key.parts.items → numbered (shapes_kept ks) i ≡ key_shape (numbered (shapes_kept ks)) k.key
kept_at ks i k is below =
    let here : 0 + i ≡ i = omega arith in
    ap (numbered (shapes_kept ks)) (sym here) ∙ behind-at [] ks i k is (subst (λ n. AreBelow n k.key.parts.items) (sym here) below)

-- what the number of a found shape stands for
pub number_stands : (ks : List Kept) (numbers : BTreeMap ShapeKey ℕ) (key : ShapeKey) (o : Option ℕ) → IsTable ks numbers → get key_order numbers key ≡ o → IfSome o (λ n. (n < length (shapes_kept ks)) × (numbered (shapes_kept ks) n ≡ key_shape (numbered (shapes_kept ks)) key))
number_stands ks numbers key None table is = tt
number_stands ks numbers key (Some n) table is =
    let known = table.known key n is in
    let within = slice_get_within ks n known.0 known.1 in
    let long = length-kept ks in
    let below = (table.kept n known.0 known.1).below in
    (omega arith, kept_at ks n known.0 known.1 below ∙ key_shape_same (numbered (shapes_kept ks)) known.0.key key known.2)

pub stands : (ks : List Kept) (numbers : BTreeMap ShapeKey ℕ) (n : ℕ) (k : Kept) → IsTable ks numbers → slice_get ks n ≡ Some k → Stands (shapes_kept ks) n k
stands ks numbers n k table is =
    let kept = table.kept n k is in
    let shape = kept_at ks n k is kept.below in
    record {
      room = kept.room;
      shape = shape;
      joined = kept.joined (numbered (shapes_kept ks)) table.apart ∙ ap joined_places (sym shape);
    }

-- a table that has one shape more keeps what its numbers stand for
pub keeps_more : (ks : List Kept) (k : Kept) → Keeps (shapes_kept ks) (shapes_kept (ks ++ k ∷ []))
keeps_more ks k =
    let new = key_shape (numbered (shapes_kept ks)) k.key in
    let long = length_push (shapes_kept ks) new in
    subst (λ shapes. Keeps (shapes_kept ks) shapes) (sym (behind-push [] ks k))
    (record { longer = omega arith; stays = numbered_left (shapes_kept ks) new })

pub keeps_all : (shapes : List Shape) → Keeps shapes shapes
keeps_all shapes = record { longer = omega arith; stays = λ i lt. refl }

equal_by : (o : Ordering) → is_eq o ≡ true → o ≡ Equal
equal_by Less e = absurd cc
equal_by Equal e = refl
equal_by Greater e = absurd cc

back : (a b : ShapeKey) → IsSameKey a b → IsSameKey b a
back a b same = (sym same.0, sym same.1)

through : (a b c : ShapeKey) → IsSameKey a b → IsSameKey b c → IsSameKey a c
through a b c first second = (first.0 ∙ second.0, first.1 ∙ second.1)

-- one shape more, which is not found
module _ (ks : List Kept) (numbers after : BTreeMap ShapeKey ℕ) (key : ShapeKey) (k : Kept) (table : IsTable ks numbers) (room : HasRoom k.key) (below : AreBelow (length ks) k.key.parts.items) (joined : JoinsPlaces k.joined k.key) (same : IsSameKey k.key key) (absent : get key_order numbers key ≡ None) (updates : Updates key_order numbers after key (Some (length ks))) where
  -- no shape that is kept has its key
  not_kept : (i : ℕ) (j : Kept) → slice_get ks i ≡ Some j → IsSameKey j.key key → ⊥
  not_kept i j is alike =
      let there : get key_order numbers key ≡ Some i = sym (get_same numbers j.key key alike) ∙ table.found i j is in
      let no : Some i ≡ None = sym there ∙ absent in cc

  more_kept : (i : ℕ) (j : Kept) → slice_get (ks ++ k ∷ []) i ≡ Some j → IsKept i j
  more_kept i j is = elim (slice_get_push ks k i j is) [
    | inl old ↦ table.kept i j old
    | inr new ↦ subst (λ (each : Kept). IsKept i each) (sym new.1) (subst (λ n. IsKept n k) (sym new.0) (record { room = room; below = below; joined = joined }))
  ]

  more_new : (i : ℕ) → i < length (shapes_kept ks) → numbered (shapes_kept ks) i ≡ key_shape (numbered (shapes_kept ks)) k.key → ⊥
  more_new i lt alike =
      let long = length-kept ks in
      let j = get_or ks i k in
      let is : slice_get ks i ≡ Some j = slice_get-get_or ks i k (omega arith) in
      let known = table.kept i j is in
      let shape = sym (kept_at ks i j is known.below) ∙ alike in
      not_kept i j is (through j.key k.key key (same_key (numbered (shapes_kept ks)) table.apart j.key k.key known.room room shape) same)

  more_apart : AreApart (numbered (shapes_kept (ks ++ k ∷ [])))
  more_apart =
      subst (λ shapes. AreApart (numbered shapes)) (sym (behind-push [] ks k)) (apart_more (shapes_kept ks) (key_shape (numbered (shapes_kept ks)) k.key) table.apart more_new)

  found_old : (i : ℕ) (j : Kept) (b : Bool) → slice_get ks i ≡ Some j → is_at (key_order key) j.key ≡ b → cond b (Some (length ks)) (get key_order numbers j.key) ≡ Some i
  found_old i j false is at = table.found i j is
  found_old i j true is at = absurd (not_kept i j is (back key j.key (order_tells key j.key (equal_by (key_order key j.key) at))))

  found_new : (i : ℕ) (j : Kept) → i ≡ length ks → j ≡ k → get key_order after j.key ≡ Some i
  found_new i j at is =
      let tied : is_at (key_order key) k.key ≡ true = ap is_eq (order_ties key k.key (back k.key key same)) in
      let here : get key_order after k.key ≡ Some (length ks) = updates.0 k.key ∙ ap (λ b. cond b (Some (length ks)) (get key_order numbers k.key)) tied in
      ap (λ (each : Kept). get key_order after each.key) is ∙ here ∙ ap Some (sym at)

  more_found : (i : ℕ) (j : Kept) → slice_get (ks ++ k ∷ []) i ≡ Some j → get key_order after j.key ≡ Some i
  more_found i j is = elim (slice_get_push ks k i j is) [
    | inl old ↦ updates.0 j.key ∙ found_old i j (is_at (key_order key) j.key) old refl
    | inr new ↦ found_new i j new.0 new.1
  ]

  known_by : (q : ShapeKey) (i : ℕ) (b : Bool) → is_at (key_order key) q ≡ b → cond b (Some (length ks)) (get key_order numbers q) ≡ Some i → (j : Kept) × (slice_get (ks ++ k ∷ []) i ≡ Some j) × IsSameKey j.key q
  known_by q i false at is =
      let old = table.known q i is in (old.0, slice_get_left ks (k ∷ []) i old.0 old.1, old.2)
  known_by q i true at is =
      let here : length ks ≡ i = cc in
      (k, subst (λ n. slice_get (ks ++ k ∷ []) n ≡ Some k) here (slice_get_last ks k), through k.key key q same (order_tells key q (equal_by (key_order key q) at)))

  more_known : (q : ShapeKey) (i : ℕ) → get key_order after q ≡ Some i → (j : Kept) × (slice_get (ks ++ k ∷ []) i ≡ Some j) × IsSameKey j.key q
  more_known q i is = known_by q i (is_at (key_order key) q) refl (sym (updates.0 q) ∙ is)

  pub table_more : IsTable (ks ++ k ∷ []) after
  table_more = record { kept = more_kept; apart = more_apart; found = more_found; known = more_known }

-- a table without shapes
pub no_table : (numbers : BTreeMap ShapeKey ℕ) → ((q : ShapeKey) → get key_order numbers q ≡ None) → IsTable [] numbers
no_table numbers none = record {
  kept = λ i k is. absurd cc;
  apart = subst (λ shapes. AreApart (numbered shapes)) (sym no_shapes) apart_none;
  found = λ i k is. absurd cc;
  known = λ q i is. let no : None ≡ Some i = sym (none q) ∙ is in absurd cc;
}

-- the same entries
pub table_stays : (ks : List Kept) (numbers after : BTreeMap ShapeKey ℕ) → after.entries ≡ numbers.entries → IsTable ks numbers → IsTable ks after
table_stays ks numbers after e table =
    let same : (q : ShapeKey) → get key_order after q ≡ get key_order numbers q = λ q. ap (λ entries. lookup (λ k. is_eq (key_order q k)) entries) e in
    record {
      kept = table.kept;
      apart = table.apart;
      found = λ i k is. same k.key ∙ table.found i k is;
      known = λ q i is. table.known q i (sym (same q) ∙ is);
    }

-- a shape that is put behind the others
number_put : (old new : List Kept) (numbers : BTreeMap ShapeKey ℕ) (key : ShapeKey) (n : ℕ) → IsTable new numbers → n ≡ length old → IsPut old new key → (n < length (shapes_kept new)) × (numbered (shapes_kept new) n ≡ key_shape (numbered (shapes_kept new)) key)
number_put old new numbers key n table last put =
    let k = put.more in
    let is : slice_get new n ≡ Some k = ap (λ ks. slice_get ks n) put.put ∙ ap (slice_get (old ++ k ∷ [])) last ∙ slice_get_last old k in
    let within = slice_get_within new n k is in
    let long = length-kept new in
    let below = (table.kept n k is).below in
    (omega arith, kept_at new n k is below ∙ key_shape_same (numbered (shapes_kept new)) k.key key put.same)

keeps_put : (old new : List Kept) (key : ShapeKey) → IsPut old new key → Keeps (shapes_kept old) (shapes_kept new)
keeps_put old new key put = subst (λ ks. Keeps (shapes_kept old) (shapes_kept ks)) (sym put.put) (keeps_more old put.more)

keeps_same : (old new : List Kept) → new ≡ old → Keeps (shapes_kept old) (shapes_kept new)
keeps_same old new same = subst (λ ks. Keeps (shapes_kept old) (shapes_kept ks)) (sym same) (keeps_all (shapes_kept old))

-- what putting a shape answers
pub number_answered : (r : Result ℕ NoMemory) (old new : List Kept) (numbers : BTreeMap ShapeKey ℕ) (key : ShapeKey) → IsTable new numbers → IfOk r (λ n. n ≡ length old) → OnOk r (IsPut old new key) → IfOk r (λ n. (n < length (shapes_kept new)) × (numbered (shapes_kept new) n ≡ key_shape (numbered (shapes_kept new)) key))
number_answered (Ok n) old new numbers key table last put = number_put old new numbers key n table last put
number_answered (Err e) old new numbers key table last put = tt

pub keeps_answered : (r : Result ℕ NoMemory) (old new : List Kept) (key : ShapeKey) → OnOk r (IsPut old new key) → OnErr r (new ≡ old) → Keeps (shapes_kept old) (shapes_kept new)
keeps_answered (Ok n) old new key put same = keeps_put old new key put
keeps_answered (Err e) old new key put same = keeps_same old new same

pub below_kept : (ks : List Kept) (ps : List Part) → AreBelow (length (shapes_kept ks)) ps → AreBelow (length ks) ps
below_kept ks ps below = subst (λ n. AreBelow n ps) (length-kept ks) below

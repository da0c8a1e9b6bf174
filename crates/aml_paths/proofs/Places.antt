-- The places of one segment on one chain, which stand together in the order of places.
use Rattle.std.proofs.Common.{◌≡◌, ℕ, ◌≤◌, Bool, List, [], ◌∷◌, ◌++◌, Option, Some, None, true, false, nat_eq, not, refl, sym, ap, ◌∙◌, subst, arith}
use Rattle.std.specs.declared.cmp.Ordering.{Ordering}
use Rattle.std.specs.declared.cmp.Ordering.TheVariants.{Less, Equal, Greater}
use Rattle.std.specs.declared.ops.Bound.TheVariants.{Included, Unbounded}
use Rattle.std.specs.Ordering.{is_eq, is_gt, is_lt, nat_cmp, ordering_reverse, ordering_then}
use Rattle.std.specs.Prelude.{IsSome}
use Rattle.std.specs.BTreeMap.{BTreeMap, get}
use Rattle.std.specs.BTreeMap.Range.{IsInRange, IsLeBy, IsRangeOf}
use Rattle.std.specs.Cmp.Lexicographic.{bytes_decides, pointwise, texts_ties}
use Rattle.std.proofs.lemmas.Bool.Decides.{nat_tests}
use Rattle.std.specs.Cmp.{IsTotalOrder}
use Rattle.std.proofs.lemmas.Cmp.{nat_cmp_total, nat_list_cmp_total, on_total, then_total, tied_itself}
use Rattle.aml_lex.specs.declared.names.NameSeg.{NameSeg}
use Rattle.aml_lex.specs.Order.{segment_order}
use Rattle.aml_paths.specs.declared.place.Place.{Place}
use Rattle.aml_paths.specs.declared.paths.Step.{Step}
use Rattle.aml_paths.specs.Chains.{number_below_chain, spots_of}
use Rattle.aml_paths.specs.Paths.{Path}
use Rattle.aml_paths.specs.Resolve.{greatest}
use Rattle.aml_paths.specs.Trie.{HasPlaceNumbers, place_order}
use Rattle.aml_paths.proofs.Upward.{greatest_last, greatest_none, greatest_same}

abbrev pub place_at : NameSeg → ℕ → ℕ → Place
place_at segment top depth = record { segment = segment; top = top; depth = depth }

-- places of one segment on one chain stand in the order of their depths
places_ordered : (s : NameSeg) (t a b : ℕ) → place_order (place_at s t a) (place_at s t b) ≡ nat_cmp a b
places_ordered s t a b =
    ap (λ (o : Ordering). ordering_then o (ordering_then (segment_order s s) (nat_cmp a b))) (tied_itself nat_cmp_total t)
    ∙ ap (λ (o : Ordering). ordering_then o (nat_cmp a b)) (tied_itself nat_list_cmp_total s.bytes)

pub places_forward : (s : NameSeg) (t a b : ℕ) → a ≤ b → IsLeBy place_order (place_at s t a) (place_at s t b)
places_forward s t a b le = ap is_gt (places_ordered s t a b) ∙ grind (arith, nat_tests)

alike_by : (o u p q : Ordering) → o ≡ ordering_reverse u → is_gt (ordering_then o p) ≡ false → is_gt (ordering_then u q) ≡ false → o ≡ Equal
alike_by Equal u p q e first last = refl
alike_by Greater u p q e first last = absurd cc
alike_by Less Less p q e first last = absurd cc
alike_by Less Equal p q e first last = absurd cc
alike_by Less Greater p q e first last = absurd cc

tied : (a b : ℕ) → is_eq (nat_cmp a b) ≡ true → a ≡ b
tied a b e = grind (arith, nat_tests)

-- what is between two places of one segment on one chain is of that segment and on that chain
module _ (s : NameSeg) (t a b : ℕ) (place : Place) (first : IsLeBy place_order (place_at s t a) place) (last : IsLeBy place_order place (place_at s t b)) where
  abbrev on : NameSeg → NameSeg → ℕ → ℕ → Ordering
  on x y d e = ordering_then (segment_order x y) (nat_cmp d e)

  chains : nat_cmp t place.top ≡ Equal
  chains = alike_by (nat_cmp t place.top) (nat_cmp place.top t) (on s place.segment a place.depth) (on place.segment s place.depth b)
      (nat_cmp_total.antisymm t place.top) first last

  chains_back : nat_cmp place.top t ≡ Equal
  chains_back = alike_by (nat_cmp place.top t) (nat_cmp t place.top) (on place.segment s place.depth b) (on s place.segment a place.depth)
      (nat_cmp_total.antisymm place.top t) last first

  one_chain : t ≡ place.top
  one_chain = tied t place.top (ap is_eq chains)

  one_segment : s ≡ place.segment
  one_segment =
      let up = sym (ap (λ (o : Ordering). is_gt (ordering_then o (on s place.segment a place.depth))) chains) ∙ first in
      let down = sym (ap (λ (o : Ordering). is_gt (ordering_then o (on place.segment s place.depth b))) chains_back) ∙ last in
      let equal = alike_by (segment_order s place.segment) (segment_order place.segment s) (nat_cmp a place.depth) (nat_cmp place.depth b)
      (nat_list_cmp_total.antisymm s.bytes place.segment.bytes) up down in
      let bytes = (bytes_decides s.bytes place.segment.bytes).0 (texts_ties s.bytes place.segment.bytes ∙ ap is_eq equal) in
      λ i. record { bytes = bytes i }

  pub one_place : place ≡ place_at s t place.depth
  one_place = λ i. record { segment = sym one_segment i; top = sym one_chain i; depth = place.depth }

-- what the map has on a chain
pub known_on_chain : (numbers : BTreeMap Place ℕ) (steps : List Step) (paths : List Path) → HasPlaceNumbers numbers steps paths → (segment : NameSeg) (top last : ℕ) → greatest (λ depth. get place_order numbers (place_at segment top depth)) last ≡ greatest (number_below_chain paths (spots_of steps) top segment.bytes) last
known_on_chain numbers steps paths known segment top last =
    greatest_same (λ (depth : ℕ). get place_order numbers (place_at segment top depth)) (number_below_chain paths (spots_of steps) top segment.bytes) last (λ depth le. known segment top depth)

up_to : (a b : ℕ) → is_gt (nat_cmp a b) ≡ false → a ≤ b
up_to a b e = grind (arith, nat_tests)

not_below : (a b : ℕ) → is_lt (nat_cmp a b) ≡ false → b ≤ a
not_below a b e = grind (arith, nat_tests)

differs : (b : Bool) → false ≡ not b → b ≡ true
differs true e = refl
differs false e = absurd cc

-- the segment of a place is another just where it is other than one that is the same
pub unlike : (place : Place) (other s : NameSeg) → other ≡ s → not (pointwise nat_eq place.segment.bytes other.bytes) ≡ not (pointwise nat_eq place.segment.bytes s.bytes)
unlike place other s same = ap (λ (x : NameSeg). not (pointwise nat_eq place.segment.bytes x.bytes)) same

-- a place of a segment on a chain
pub is_place_at : (place : Place) (s : NameSeg) (t : ℕ) → place.top ≡ t → false ≡ not (pointwise nat_eq place.segment.bytes s.bytes) → place ≡ place_at s t place.depth
is_place_at place s t top same =
    let bytes = (bytes_decides place.segment.bytes s.bytes).0 (differs (pointwise nat_eq place.segment.bytes s.bytes) same) in
    λ i. record { segment = record { bytes = bytes i }; top = top i; depth = place.depth }

-- a place whose segment is another
pub is_of_another : (place : Place) (s : NameSeg) (t : ℕ) → true ≡ not (pointwise nat_eq place.segment.bytes s.bytes) → place ≡ place_at s t place.depth → ⊥
is_of_another place s t other one =
    let same = (bytes_decides place.segment.bytes s.bytes).1 (ap (λ (p : Place). p.segment.bytes) one) in
    absurd cc

place_total : IsTotalOrder place_order
place_total = then_total (on_total (λ (p : Place). p.top) nat_cmp_total) (then_total (on_total (λ (p : Place). p.segment.bytes) nat_list_cmp_total) (on_total (λ (p : Place). p.depth) nat_cmp_total))

behind_by : (o u : Ordering) → o ≡ ordering_reverse u → is_lt u ≡ false → is_gt o ≡ false
behind_by o Less e past = absurd cc
behind_by o Equal e past = ap is_gt e
behind_by o Greater e past = ap is_gt e

-- what is not behind a place is at it or before it
behind : (p q : Place) → is_lt (place_order p q) ≡ false → IsLeBy place_order q p
behind p q past = behind_by (place_order q p) (place_order p q) (place_total.antisymm q p) past

module _ (numbers : BTreeMap Place ℕ) (segment : NameSeg) (top last : ℕ) where
  abbrev find : ℕ → Option ℕ
  find depth = get place_order numbers (place_at segment top depth)

  abbrev Range : List (Place × ℕ) → Type 0
  Range found = IsRangeOf place_order Unbounded (Included (place_at segment top last)) numbers found

  within : (n : ℕ) → n ≤ last → IsInRange place_order Unbounded (Included (place_at segment top last)) (place_at segment top n)
  within n le = (tt, places_forward segment top n last le)

  -- no place is found
  pub none_found : (found : List (Place × ℕ)) → Range found → found ≡ [] → greatest find last ≡ None
  none_found found range is = greatest_none find last (λ n le. range.5 is (place_at segment top n) (within n le))

  absent_by : (n : ℕ) (o : Option ℕ) → find n ≡ o → (IsSome o → ⊥) → o ≡ None
  absent_by n None is none = refl
  absent_by n (Some x) is none = absurd (none refl)

  module _ (found rest : List (Place × ℕ)) (place : Place) (number : ℕ) (range : Range found) (is : found ≡ rest ++ (place, number) ∷ []) where
    -- the last that is found, where it is of the segment and on the chain
    pub last_found : place ≡ place_at segment top place.depth → greatest find last ≡ Some number
    last_found one =
        let there = range.3 (place, number) rest is in
        let up : place.depth ≤ last = up_to place.depth last (sym (ap is_gt (ap (λ (p : Place). place_order p (place_at segment top last)) one ∙ places_ordered segment top place.depth last)) ∙ there.0.1) in
        greatest_last find place.depth last number up (sym (ap (get place_order numbers) one) ∙ there.1)
        (λ n after le. absent_by n (find n) refl (λ some.
        let past = range.4 (place, number) rest is (place_at segment top n) (within n le) some in
        let before = not_below place.depth n (sym (ap is_lt (ap (λ (p : Place). place_order p (place_at segment top n)) one ∙ places_ordered segment top place.depth n)) ∙ past) in
        omega (arith, before, after)))

    -- none of the segment is on the chain, where it is another
    pub other_found : (place ≡ place_at segment top place.depth → ⊥) → greatest find last ≡ None
    other_found other =
        let there = range.3 (place, number) rest is in
        greatest_none find last (λ n le. absent_by n (find n) refl (λ some.
        let past = range.4 (place, number) rest is (place_at segment top n) (within n le) some in
        other (one_place segment top n last place (behind place (place_at segment top n) past) there.0.1)))

-- the range up to the place of a segment that is the same
pub range_of : (numbers : BTreeMap Place ℕ) (segment : NameSeg) (top last : ℕ) (found : List (Place × ℕ)) (other : NameSeg) → other ≡ segment → IsRangeOf place_order Unbounded (Included (place_at other top last)) numbers found → IsRangeOf place_order Unbounded (Included (place_at segment top last)) numbers found
range_of numbers segment top last found other same = subst (λ (s : NameSeg). IsRangeOf place_order Unbounded (Included (place_at s top last)) numbers found) same

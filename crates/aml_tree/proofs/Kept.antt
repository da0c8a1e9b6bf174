-- A set of own names, and the list of them.
use Rattle.std.proofs.Common.{◌≡◌, ℕ, List, [], ◌∷◌, Option, Some, None, refl, ◌∙◌}
use Rattle.std.specs.Prelude.{Bool, true, false, cond, ◌||◌, if◌then◌else◌}
use Rattle.std.specs.List.{list_any}
use Rattle.std.specs.Ordering.{is_eq}
use Rattle.std.specs.Cmp.{nat_eq_equiv, partial_equiv_from_equiv}
use Rattle.std.specs.Cmp.Lexicographic.{lists_per}
use Rattle.std.specs.BTreeSet.{BTreeSet, Updates, IsEmpty}
use Rattle.std.proofs.lemmas.Map.Text.{is_eq-slice_cmp}
use Rattle.aml_lex.specs.NameStrings.{NameString}
use Rattle.aml_lex.specs.Names.{lone_segment}
use Rattle.aml_lex.specs.declared.names.NameSeg.{NameSeg}
use Rattle.aml_tree.specs.Body.{same_segment, is_own_segment, with_owns}
use Rattle.aml_lex.specs.Order.{segment_order}
use Rattle.aml_tree.specs.Owns.{is_kept, with_kept, Keeps}

-- equal in the order is the same
order_same : (a b : NameSeg) → is_eq (segment_order a b) ≡ same_segment b a
order_same a b = is_eq-slice_cmp a.bytes b.bytes ∙ (lists_per (partial_equiv_from_equiv nat_eq_equiv)).symm a.bytes b.bytes

either : (v w : Bool) → cond v true w ≡ (v || w)
either true w = refl
either false w = refl

-- a set with one name more
pub keeps_more : (old new : BTreeSet NameSeg) (segment : NameSeg) (names : List NameSeg) → Updates segment_order old new segment true → Keeps old names → Keeps new (segment ∷ names)
keeps_more old new segment names updates keeps q =
    updates.0 q ∙ rw (order_same segment q, keeps q) (either (same_segment q segment) (list_any (same_segment q) names))

pub keeps_none : (kept : BTreeSet NameSeg) → IsEmpty kept → Keeps kept []
keeps_none kept empty q = rw empty

same_answer : (kept : BTreeSet NameSeg) (owns : List NameSeg) → Keeps kept owns → (o : Option (List ℕ)) → is_kept kept o ≡ is_own_segment owns o
same_answer kept owns keeps None = refl
same_answer kept owns keeps (Some bytes) = keeps (record { bytes = bytes })

-- the counts by the set are those by the list
pub kept_counts : (arity : NameString → ℕ → ℕ) (kept : BTreeSet NameSeg) (owns : List NameSeg) → Keeps kept owns → with_kept arity kept ≡ with_owns arity owns
kept_counts arity kept owns keeps = λ i. λ name at. (if same_answer kept owns keeps (lone_segment name) i then 0 else arity name at)

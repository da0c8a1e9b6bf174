-- Own names, and the number of the first of each segment, with one name more.
use Rattle.std.proofs.Common.{◌≡◌, ℕ, ◌+◌, ◌<◌, List, [], ◌∷◌, ◌++◌, length, map, take, get_or, Option, Some, None, Bool, true, false, cond, refl, sym, ap, ◌∙◌}
use Rattle.std.specs.List.{cons_option}
use Rattle.std.specs.BTreeMap.{BTreeMap, Updates, get}
use Rattle.std.specs.Cmp.Lexicographic.{bytes_decides, texts_ties}
use Rattle.std.proofs.lemmas.List.{map_push, take_more}
use Rattle.std.proofs.lemmas.List.Elements.{filter_map-append}
use Rattle.aml_lex.specs.declared.names.NameSeg.{NameSeg}
use Rattle.aml_operators.specs.declared.term.Term.{Term}
use Rattle.aml_operators.specs.Tree.{view}
use Rattle.aml_tree.specs.Body.{same_segment}
use Rattle.aml_lex.specs.Order.{segment_order}
use Rattle.aml_own_names.specs.declared.own_names.OwnName.{OwnName}
use Rattle.aml_own_names.specs.OwnNames.{HasFirsts, first_own, own_made, own_names}
use Rattle.aml_paths.proofs.Positions.{position_new, position_other, position_stays}

-- what one statement more makes
pub own_names-push : (bytes : List ℕ) (ts : List Term) (i : ℕ) (t : Term) → i < length ts → get_or ts i t ≡ t → own_names bytes (map view (take (i + 1) ts)) ≡ own_names bytes (map view (take i ts)) ++ cons_option (own_made bytes (view t)) []
own_names-push bytes ts i t lt at =
    ap (λ (s : List Term). own_names bytes (map view s)) (take_more ts i t lt ∙ ap (λ (x : Term). take i ts ++ x ∷ []) at)
    ∙ ap (own_names bytes) (map_push view (take i ts) t)
    ∙ filter_map-append (own_made bytes) (map view (take i ts)) (view t ∷ [])

-- segments that are alike are the same
same_segments : (a b : NameSeg) → same_segment a b ≡ true → a ≡ b
same_segments a b alike = let bytes = (bytes_decides a.bytes b.bytes).0 alike in λ i. record { bytes = bytes i }

module _ (owns : List OwnName) (own : OwnName) where
  abbrev more : List OwnName
  more = owns ++ own ∷ []

  -- the test by which the first name of a segment is found
  abbrev has : NameSeg → OwnName → Bool
  has segment o = same_segment o.segment segment

  module _ (firsts : BTreeMap NameSeg ℕ) (held : HasFirsts firsts owns) where
    -- a segment that was there already has the name that it had
    known_by : (n : ℕ) (segment : NameSeg) (o : Option ℕ) (b : Bool) → get segment_order firsts own.segment ≡ Some n → first_own owns segment.bytes ≡ o → has segment own ≡ b → first_own owns segment.bytes ≡ first_own more segment.bytes
    known_by n segment (Some i) b known was is = was ∙ sym (position_stays (has segment) owns own i was)
    known_by n segment None false known was is = sym (position_other (has segment) owns own is)
    known_by n segment None true known was is =
        let there = sym (ap (get segment_order firsts) (same_segments own.segment segment is)) ∙ known in
        let no : Some n ≡ None = sym there ∙ held segment ∙ was in absurd cc

    pub firsts_same : (n : ℕ) → get segment_order firsts own.segment ≡ Some n → HasFirsts firsts more
    firsts_same n known segment = held segment ∙ known_by n segment (first_own owns segment.bytes) (has segment own) known refl refl

    new_by : (segment : NameSeg) (b : Bool) → get segment_order firsts own.segment ≡ None → has segment own ≡ b → cond b (Some (length owns)) (get segment_order firsts segment) ≡ first_own more segment.bytes
    new_by segment false absent is = held segment ∙ sym (position_other (has segment) owns own is)
    new_by segment true absent is =
        let none = sym (held segment) ∙ sym (ap (get segment_order firsts) (same_segments own.segment segment is)) ∙ absent in
        sym (position_new (has segment) owns own none is)

    -- a segment that was not there has the number of the new name
    pub firsts_more : (after : BTreeMap NameSeg ℕ) → get segment_order firsts own.segment ≡ None → Updates segment_order firsts after own.segment (Some (length owns)) → HasFirsts after more
    firsts_more after absent updates segment =
        updates.0 segment
        ∙ ap (λ (b : Bool). cond b (Some (length owns)) (get segment_order firsts segment)) (sym (texts_ties own.segment.bytes segment.bytes))
        ∙ new_by segment (has segment own) absent refl

-- One more path, a segment below another.
use Rattle.std.proofs.Common.{◌≡◌, ℕ, suc, ◌<◌, ◌≤◌, ◌⊎◌, inl, inr, List, [], ◌∷◌, ◌++◌, length, slice_get, Option, Some, None, Bool, true, false, cond, refl, sym, ap, ◌∙◌, subst, arith, option_and_then}
use Rattle.std.specs.declared.cmp.Ordering.{Ordering}
use Rattle.std.specs.declared.cmp.Ordering.TheVariants.{Less, Equal, Greater}
use Rattle.std.specs.Ordering.{nat_cmp, ordering_then, is_eq}
use Rattle.std.specs.Map.{lookup}
use Rattle.std.specs.BTreeMap.{BTreeMap, get, is_at, Updates}
use Rattle.std.proofs.lemmas.Bool.{both_ways}
use Rattle.std.proofs.lemmas.Bool.Decides.{nat_tests}
use Rattle.std.proofs.lemmas.Cmp.{tied_itself, nat_cmp_total, nat_list_cmp_total}
use Rattle.std.proofs.lemmas.List.{length_push, same_from_push}
use Rattle.std.proofs.lemmas.Option.{same_Some, slice_get_within}
use Rattle.std.specs.Cmp.Lexicographic.{bytes_decides, texts_ties}
use Rattle.aml_lex.specs.declared.names.NameSeg.{NameSeg}
use Rattle.aml_lex.specs.Order.{segment_order}
use Rattle.aml_paths.specs.declared.chains.Spot.{Spot}
use Rattle.aml_paths.specs.declared.place.Place.{Place}
use Rattle.aml_paths.specs.declared.paths.Step.{Step}
use Rattle.aml_paths.specs.Chains.{AreChained, CanFollow, number_below_chain, number_on_chain, spots_of, stands_at}
use Rattle.aml_paths.specs.Paths.{Path, path_at, path_number, number_below, AreDistinct, AreClosed}
use Rattle.aml_paths.specs.Trie.{place_order, path_of, paths_of, LeadTo, HasPlaceNumbers, IsTrie, AreNumbered}
use Rattle.aml_paths.proofs.Chained.{alone, chained_push, found_on_chain, length-spots_of, spots_push, stays}
use Rattle.aml_paths.proofs.Positions.{position_new, position_other, slice_get_left, slice_get_last, slice_get_push}
use Rattle.aml_paths.proofs.PathNumbers.{path_at_there, path_at_is, number_below_at, path_number_stays, path_number_new, path_number_other, path_once, no_longer_path}
use Rattle.aml_paths.proofs.Tries.{paths_push, length-paths_of, root_first, paths_closed}

-- two places that are equal in the order are the same
nat_tied : (a b : ℕ) → is_eq (nat_cmp a b) ≡ true → a ≡ b
nat_tied a b e = grind (arith, nat_tests)

both_tied : (o u : Ordering) → is_eq (ordering_then o u) ≡ true → (is_eq o ≡ true) × (is_eq u ≡ true)
both_tied Less u e = absurd cc
both_tied Equal u e = (refl, e)
both_tied Greater u e = absurd cc

pub same_place : (p q : Place) → is_at (place_order p) q ≡ true → p ≡ q
same_place p q e =
    let tied = both_tied (nat_cmp p.top q.top) (ordering_then (segment_order p.segment q.segment) (nat_cmp p.depth q.depth)) e in
    let segment = both_tied (segment_order p.segment q.segment) (nat_cmp p.depth q.depth) tied.1 in
    let bytes : p.segment.bytes ≡ q.segment.bytes = (bytes_decides p.segment.bytes q.segment.bytes).0 (texts_ties p.segment.bytes q.segment.bytes ∙ segment.0) in
    let tops = nat_tied p.top q.top tied.0 in
    let depths = nat_tied p.depth q.depth segment.1 in
    λ i. record { segment = record { bytes = bytes i }; top = tops i; depth = depths i }

itself : (p : Place) → is_at (place_order p) p ≡ true
itself p = ap is_eq (ap (λ (o : Ordering). ordering_then o (ordering_then (segment_order p.segment p.segment) (nat_cmp p.depth p.depth))) (tied_itself nat_cmp_total p.top)
    ∙ ap (λ (o : Ordering). ordering_then o (nat_cmp p.depth p.depth)) (tied_itself nat_list_cmp_total p.segment.bytes)
    ∙ tied_itself nat_cmp_total p.depth)

module _ (paths : List Path) (distinct : AreDistinct paths) (step : Step) (there : step.parent < length paths) (new : path_number paths (path_of paths step) ≡ None) where
  abbrev more : List Path
  more = paths ++ path_of paths step ∷ []

  distinct_of : (i : ℕ) (path : Path) → (slice_get paths i ≡ Some path) ⊎ ((i ≡ length paths) × (path ≡ path_of paths step)) → path_number more path ≡ Some i
  distinct_of i path (inl is) = path_number_stays paths (path_of paths step) path i (distinct i path is)
  distinct_of i path (inr last) = ap (path_number more) last.1 ∙ path_number_new paths (path_of paths step) new ∙ ap Some (sym last.0)

  distinct_push : AreDistinct more
  distinct_push i path is = distinct_of i path (slice_get_push paths (path_of paths step) i path is)

  kept_path : (s : Step) → s.parent < length paths → path_of more s ≡ path_of paths s
  kept_path s before = ap (λ (p : Path). p ++ s.segment.bytes ∷ []) (path_at_is more s.parent (path_at paths s.parent) (slice_get_left paths (path_of paths step ∷ []) s.parent (path_at paths s.parent) (path_at_there paths s.parent before)))

  module _ (steps : List Step) (count : length paths ≡ suc (length steps)) (leads : LeadTo steps paths) where
    leads_of : (i : ℕ) (s : Step) → (slice_get steps i ≡ Some s) ⊎ ((i ≡ length steps) × (s ≡ step)) → (s.parent ≤ i) × (slice_get more (suc i) ≡ Some (path_of more s))
    leads_of i s (inl is) =
        let led = leads i s is in
        let before : s.parent < length paths = let w = slice_get_within steps i s is in omega (arith, led.0, w, count) in
        (led.0, slice_get_left paths (path_of paths step ∷ []) (suc i) (path_of paths s) led.1 ∙ ap Some (sym (kept_path s before)))
    leads_of i s (inr last) =
        let same : s.parent ≡ step.parent = ap (λ (x : Step). x.parent) last.1 in
        let next : suc i ≡ length paths = omega (arith, last.0, count) in
        (omega (arith, same, next, there), ap (slice_get more) next ∙ slice_get_last paths (path_of paths step) ∙ ap Some (sym (ap (path_of more) last.1 ∙ kept_path step there)))

    leads_push : LeadTo (steps ++ step ∷ []) more
    leads_push i s is = leads_of i s (slice_get_push steps step i s is)

  module _ (closed : AreClosed paths) where
    longer_apart : (path : Path) (segment : List ℕ) → path ++ segment ∷ [] ≡ path → ⊥
    longer_apart path segment e = let long : length (path ++ segment ∷ []) ≡ length path = ap length e in omega (arith, long, length_push path segment)

    -- nothing stands below the new path
    none_below : (segment : List ℕ) → number_below more (length paths) (segment ∷ []) ≡ None
    none_below segment =
        number_below_at more (length paths) (path_of paths step) (segment ∷ []) (slice_get_last paths (path_of paths step))
        ∙ path_number_other paths (path_of paths step) (path_of paths step ++ segment ∷ []) (longer_apart (path_of paths step) segment)
        ∙ no_longer_path paths distinct closed (path_of paths step) (segment ∷ []) new

    -- below each other path stands what stood there
    others_stay : (parent : ℕ) (segment : NameSeg) → (parent ≡ step.parent → segment ≡ step.segment → ⊥) → parent < length paths → number_below more parent (segment.bytes ∷ []) ≡ number_below paths parent (segment.bytes ∷ [])
    others_stay parent segment apart before =
        let path = path_at paths parent in
        let is = path_at_there paths parent before in
        number_below_at more parent path (segment.bytes ∷ []) (slice_get_left paths (path_of paths step ∷ []) parent path is)
        ∙ path_number_other paths (path_of paths step) (path ++ segment.bytes ∷ []) (λ e.
        let parts = same_from_push path (path_at paths step.parent) segment.bytes step.segment.bytes e in
        apart (path_once paths distinct path parent step.parent is (path_at_there paths step.parent there ∙ ap Some (sym parts.0))) (λ i. record { bytes = parts.1 i }))
        ∙ sym (number_below_at paths parent path (segment.bytes ∷ []) is)

    new_number : number_below more step.parent (step.segment.bytes ∷ []) ≡ Some (length paths)
    new_number =
        let parent = path_at paths step.parent in
        number_below_at more step.parent parent (step.segment.bytes ∷ []) (slice_get_left paths (path_of paths step ∷ []) step.parent parent (path_at_there paths step.parent there))
        ∙ path_number_new paths (path_of paths step) new

    module _ (steps : List Step) (count : length paths ≡ suc (length steps)) (chained : AreChained (spots_of steps) paths) (above : Spot) (is_above : slice_get (spots_of steps) step.parent ≡ Some above) (follows : CanFollow (spots_of steps) above step.spot) where
      abbrev spots : List Spot
      spots = spots_of steps

      abbrev longer : List Spot
      longer = spots ++ step.spot ∷ []

      abbrev place : Place
      place = record { segment = step.segment; top = above.top; depth = above.depth }

      as_many : length spots ≡ length paths
      as_many = length-spots_of steps ∙ sym count

      at_place : number_below_chain more longer above.top step.segment.bytes above.depth ≡ Some (length paths)
      at_place =
          let on_chain = alone paths spots step.parent above (chained step.parent above is_above) distinct there in
          ap (option_and_then (λ (p : ℕ). number_below more p (step.segment.bytes ∷ [])))
          (stays paths distinct closed spots as_many chained step.parent above is_above step.spot follows above.top above.depth step.parent on_chain)
          ∙ new_number

      apart : (p : Place) (n : ℕ) → is_at (place_order place) p ≡ false → number_on_chain spots p.top p.depth ≡ Some n → n ≡ step.parent → p.segment ≡ step.segment → ⊥
      apart p n other is same segments =
          let found = found_on_chain spots p.top p.depth n is in
          let spot = same_Some found.0 above (sym found.1 ∙ ap (slice_get spots) same ∙ is_above) in
          let tops : p.top ≡ above.top = sym found.2 ∙ ap (λ (s : Spot). s.top) spot in
          let depths : p.depth ≡ above.depth = sym found.3 ∙ ap (λ (s : Spot). s.depth) spot in
          let one : p ≡ place = λ i. record { segment = segments i; top = tops i; depth = depths i } in
          both_ways (is_at (place_order place) p) other (ap (is_at (place_order place)) one ∙ itself place)

      unknown_by : (p : Place) (b : Bool) → stands_at p.top p.depth step.spot ≡ b → number_on_chain spots p.top p.depth ≡ None → number_below_chain more longer p.top p.segment.bytes p.depth ≡ None
      unknown_by p true here none =
          ap (option_and_then (λ (n : ℕ). number_below more n (p.segment.bytes ∷ []))) (position_new (stands_at p.top p.depth) spots step.spot none here ∙ ap Some as_many)
          ∙ none_below p.segment.bytes
      unknown_by p false here none =
          ap (option_and_then (λ (n : ℕ). number_below more n (p.segment.bytes ∷ []))) (position_other (stands_at p.top p.depth) spots step.spot here ∙ none)

      -- at each other place stands what stood there
      places_stay : (p : Place) (o : Option ℕ) → is_at (place_order place) p ≡ false → number_on_chain spots p.top p.depth ≡ o → number_below_chain more longer p.top p.segment.bytes p.depth ≡ number_below_chain paths spots p.top p.segment.bytes p.depth
      places_stay p None other is =
          unknown_by p (stands_at p.top p.depth step.spot) refl is
          ∙ sym (ap (option_and_then (λ (n : ℕ). number_below paths n (p.segment.bytes ∷ []))) is)
      places_stay p (Some n) other is =
          let found = found_on_chain spots p.top p.depth n is in
          let within = slice_get_within spots n found.0 found.1 in
          ap (option_and_then (λ (n : ℕ). number_below more n (p.segment.bytes ∷ []))) (stays paths distinct closed spots as_many chained step.parent above is_above step.spot follows p.top p.depth n is)
          ∙ others_stay n p.segment (apart p n other is) (omega (arith, within, as_many))
          ∙ sym (ap (option_and_then (λ (n : ℕ). number_below paths n (p.segment.bytes ∷ []))) is)

      known_of : (old : Option ℕ) (p : Place) → old ≡ number_below_chain paths spots p.top p.segment.bytes p.depth → (b : Bool) → is_at (place_order place) p ≡ b → cond b (Some (length paths)) old ≡ number_below_chain more longer p.top p.segment.bytes p.depth
      known_of old p known true is = sym (ap (λ (x : Place). number_below_chain more longer x.top x.segment.bytes x.depth) (sym (same_place place p is)) ∙ at_place)
      known_of old p known false is = known ∙ sym (places_stay p (number_on_chain spots p.top p.depth) is refl)

      known_push : (numbers after : BTreeMap Place ℕ) → HasPlaceNumbers numbers steps paths → Updates place_order numbers after place (Some (length paths)) → HasPlaceNumbers after (steps ++ step ∷ []) more
      known_push numbers after known updates segment top depth =
          let p : Place = record { segment = segment; top = top; depth = depth } in
          updates.0 p ∙ known_of (get place_order numbers p) p (known segment top depth) (is_at (place_order place) p) refl
          ∙ ap (λ (s : List Spot). number_below_chain more s top segment.bytes depth) (sym (spots_push steps step))

-- the same steps, and a map with the same entries
pub AreNumbered-same : (old new : BTreeMap Place ℕ) (before after : List Step) → new.entries ≡ old.entries → after ≡ before → AreNumbered old before → AreNumbered new after
AreNumbered-same old new before after entries steps held = subst (AreNumbered new) (sym steps) (record {
  leads = held.leads;
  distinct = held.distinct;
  chained = held.chained;
  known = λ segment top depth. ap (lookup (is_at (place_order (record { segment = segment; top = top; depth = depth })))) entries ∙ held.known segment top depth;
})

-- one more step, to a path that is new
pub AreNumbered-push : (old new : BTreeMap Place ℕ) (steps : List Step) (step : Step) (above : Spot) (number : ℕ) → number ≡ length (paths_of steps) → AreNumbered old steps → step.parent < length (paths_of steps) → number_below (paths_of steps) step.parent (step.segment.bytes ∷ []) ≡ None
    → slice_get (spots_of steps) step.parent ≡ Some above → CanFollow (spots_of steps) above step.spot
    → Updates place_order old new (record { segment = step.segment; top = above.top; depth = above.depth }) (Some number) → AreNumbered new (steps ++ step ∷ [])
AreNumbered-push old new steps step above number next held there none is_above follows updates =
    let paths = paths_of steps in
    let count = length-paths_of steps in
    let closed = paths_closed steps paths count (root_first steps) held.leads in
    let parent = path_at paths step.parent in
    let absent : path_number paths (path_of paths step) ≡ None = sym (number_below_at paths step.parent parent (step.segment.bytes ∷ []) (path_at_there paths step.parent there)) ∙ none in
    let place : Place = record { segment = step.segment; top = above.top; depth = above.depth } in
    let at_end = subst (λ (n : ℕ). Updates place_order old new place (Some n)) next updates in
    let as_many : length (spots_of steps) ≡ length paths = length-spots_of steps ∙ sym count in
    let after : IsTrie new (steps ++ step ∷ []) (paths ++ path_of paths step ∷ []) = record {
      leads = leads_push paths held.distinct step there absent steps count held.leads;
      distinct = distinct_push paths held.distinct step there absent;
      chained = subst (λ (spots : List Spot). AreChained spots (paths ++ path_of paths step ∷ [])) (sym (spots_push steps step)) (chained_push paths held.distinct closed (spots_of steps) as_many held.chained step.parent above is_above step.spot follows step.segment.bytes absent);
      known = known_push paths held.distinct step there absent closed steps count held.chained above is_above follows old new held.known at_end;
    } in
    subst (λ (ps : List Path). IsTrie new (steps ++ step ∷ []) ps) (sym (paths_push steps step)) after

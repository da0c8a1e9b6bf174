-- Chains of paths, and what they are with one path more.
use Rattle.std.proofs.Common.{◌≡◌, ℕ, suc, ◌-◌, ◌<◌, ◌≤◌, ◌⊎◌, inl, inr, List, [], ◌∷◌, ◌++◌, length, take, get_or, slice_get, Option, Some, None, true, refl, sym, ap, ◌∙◌, subst, arith, option_and_then}
use Rattle.std.specs.BTreeMap.{BTreeMap, get}
use Rattle.std.specs.Option.{option_map}
use Rattle.std.proofs.lemmas.Bool.{cases_lt, false_from_ne_true}
use Rattle.std.proofs.lemmas.Bool.Decides.{nat_tests}
use Rattle.std.proofs.lemmas.List.{length-map, length-take, length_push, map-append, take_all, take-append-le}
use Rattle.std.proofs.lemmas.List.Quantifiers.{position-Some}
use Rattle.std.proofs.lemmas.Option.{slice_get-get_or, slice_get-map, slice_get_within}
use Rattle.aml_lex.specs.declared.names.NameSeg.{NameSeg}
use Rattle.aml_paths.specs.declared.chains.Spot.{Spot}
use Rattle.aml_paths.specs.declared.place.Place.{Place}
use Rattle.aml_paths.specs.declared.paths.Step.{Step}
use Rattle.aml_paths.specs.Chains.{AreChained, AreLasts, CanFollow, EndsAt, StandsOnChain, number_below_chain, number_on_chain, root_spot, spots_of, stands_at}
use Rattle.aml_paths.specs.Paths.{AreClosed, AreDistinct, Path, number_below, path_at, path_number}
use Rattle.aml_paths.specs.Trie.{AreNumbered, paths_of, place_order}
use Rattle.aml_paths.proofs.PathNumbers.{path_at_is, path_at_there, path_number_new, path_number_stays}
use Rattle.aml_paths.proofs.Tries.{length-paths_of}
use Rattle.aml_paths.proofs.Positions.{position_new, position_other, position_stays, slice_get_last, slice_get_left, slice_get_push}

-- one more step, one more spot
pub spots_push : (steps : List Step) (step : Step) → spots_of (steps ++ step ∷ []) ≡ spots_of steps ++ step.spot ∷ []
spots_push steps step = ap (λ (spots : List Spot). root_spot ∷ spots) (map-append (λ (s : Step). s.spot) steps (step ∷ []))

pub length-spots_of : (steps : List Step) → length (spots_of steps) ≡ suc (length steps)
length-spots_of steps = ap suc (length-map steps (λ (s : Step). s.spot))

-- where the path stands to which the step before a number leads
pub spot_of_step : (steps : List Step) (number : ℕ) (step : Step) → 0 < number → slice_get steps (number - 1) ≡ Some step → slice_get (spots_of steps) number ≡ Some step.spot
spot_of_step steps number step below_root is =
    let next : suc (number - 1) ≡ number = omega arith in
    sym (ap (slice_get (spots_of steps)) next)
    ∙ slice_get-map (λ (s : Step). s.spot) steps (number - 1)
    ∙ ap (option_map (λ (s : Step). s.spot)) is

stood_top : (top k : ℕ) (s : Spot) → stands_at top k s ≡ true → s.top ≡ top
stood_top top k s e = grind (arith, nat_tests)

stood_depth : (top k : ℕ) (s : Spot) → stands_at top k s ≡ true → s.depth ≡ k
stood_depth top k s e = grind (arith, nat_tests)

stands : (top k : ℕ) (s : Spot) → s.top ≡ top → s.depth ≡ k → stands_at top k s ≡ true
stands top k s t d = grind (arith, nat_tests)

-- a path's first segments are as many as the path that they are has
begun_within : (k : ℕ) (whole begun : Path) → length begun ≡ k → take k whole ≡ begun → k ≤ length whole
begun_within k whole begun many is = let short : length (take k whole) ≡ length begun = ap length is in omega (arith, short, many, length-take k whole)

module _ (spots : List Spot) where
  -- what is found on a chain stands there
  pub found_on_chain : (top k i : ℕ) → number_on_chain spots top k ≡ Some i → (s : Spot) × (slice_get spots i ≡ Some s) × (s.top ≡ top) × (s.depth ≡ k)
  found_on_chain top k i is =
      let found = position-Some (stands_at top k) spots i root_spot is in
      let s = get_or spots i root_spot in
      (s, slice_get-get_or spots i root_spot found.0, stood_top top k s found.1, stood_depth top k s found.1)

  -- on a chain whose top would stand behind all paths is none
  module _ (tops : (i : ℕ) (s : Spot) → slice_get spots i ≡ Some s → s.top ≤ i) where
    unused_by : (top k : ℕ) (o : Option ℕ) → number_on_chain spots top k ≡ o → length spots ≤ top → o ≡ None
    unused_by top k None is past = refl
    unused_by top k (Some i) is past =
        let f = found_on_chain top k i is in
        absurd (let within = slice_get_within spots i f.0 f.1 in let early = tops i f.0 f.1 in omega (arith, within, early, f.2, past))

    unused : (top k : ℕ) → length spots ≤ top → number_on_chain spots top k ≡ None
    unused top k past = unused_by top k (number_on_chain spots top k) refl past

module _ (paths : List Path) (spots : List Spot) (i : ℕ) (spot : Spot) (held : StandsOnChain paths spots i spot) where
  -- a chain's top is no longer than the paths on it
  pub top_within : length (path_at paths spot.top) ≤ spot.depth
  top_within = let le = begun_within (length (path_at paths spot.top)) (path_at paths i) (path_at paths spot.top) refl held.top_begins in omega (arith, le, held.depth)

  pub alone : AreDistinct paths → i < length paths → number_on_chain spots spot.top spot.depth ≡ Some i
  alone distinct there =
      let whole = path_at paths i in
      held.begins spot.depth top_within (omega arith)
      ∙ ap (path_number paths) (take_all spot.depth whole (let d = held.depth in omega (arith, d)))
      ∙ distinct i whole (path_at_there paths i there)

-- where the last of chains are known, and the next path is made the last of one, no more is said of those before it
abbrev pub Noted : List ℕ → List ℕ → ℕ → Type 0
Noted old new number = (t i : ℕ) → slice_get new t ≡ Some i → i < number → slice_get old t ≡ Some i

noted_by : (old lasts : List ℕ) (number : ℕ) → Noted old lasts number → (t i : ℕ) → (slice_get lasts t ≡ Some i) ⊎ ((t ≡ length lasts) × (i ≡ number)) → i < number → slice_get old t ≡ Some i
noted_by old lasts number kept t i (inl is) lt = kept t i is lt
noted_by old lasts number kept t i (inr last) lt = absurd (let same = last.1 in omega (arith, same, lt))

pub noted_push : (old lasts new : List ℕ) (number : ℕ) → Noted old lasts number → new ≡ lasts ++ number ∷ [] → Noted old new number
noted_push old lasts new number kept is t i at lt = noted_by old lasts number kept t i (slice_get_push lasts number t i (sym (ap (λ (xs : List ℕ). slice_get xs t) is) ∙ at)) lt

pub lasts_kept : (old new : List ℕ) (steps : List Step) (number : ℕ) → number ≡ length (paths_of steps) → Noted old new number → AreLasts old (spots_of steps) → AreLasts new (spots_of steps)
lasts_kept old new steps number next kept lasts i s is at =
    let within = slice_get_within (spots_of steps) i s is in
    lasts i s is (kept s.top i at (omega (arith, within, next, length-spots_of steps, length-paths_of steps)))

module _ (paths : List Path) (distinct : AreDistinct paths) (closed : AreClosed paths) (spots : List Spot) (count : length spots ≡ length paths) (chained : AreChained spots paths) where
  module _ (at : ℕ) (above : Spot) (is_above : slice_get spots at ≡ Some above) (spot : Spot) (follows : CanFollow spots above spot) where
    abbrev longer : List Spot
    longer = spots ++ spot ∷ []

    pub there : at < length paths
    there = let within = slice_get_within spots at above is_above in omega (arith, within, count)

    tops : (i : ℕ) (s : Spot) → slice_get spots i ≡ Some s → s.top ≤ i
    tops i s is = (chained i s is).top

    -- elsewhere nothing is new
    pub other : (top k : ℕ) → (spot.top ≡ top → spot.depth ≡ k → ⊥) → number_on_chain longer top k ≡ number_on_chain spots top k
    other top k apart = position_other (stands_at top k) spots spot (false_from_ne_true (stands_at top k spot) (λ e. apart (stood_top top k spot e) (stood_depth top k spot e)))

    pub stays : (top k i : ℕ) → number_on_chain spots top k ≡ Some i → number_on_chain longer top k ≡ Some i
    stays top k i is = position_stays (stands_at top k) spots spot i is

    free_by : (spot.top ≡ length spots) ⊎ ((spot.top ≡ above.top) × EndsAt spots above) → (k : ℕ) → above.depth < k → number_on_chain spots spot.top k ≡ None
    free_by (inl own) k lt = unused spots tops spot.top k (omega (arith, own))
    free_by (inr on) k lt = ap (λ (t : ℕ). number_on_chain spots t k) on.0 ∙ on.1 k lt

    free : (k : ℕ) → above.depth < k → number_on_chain spots spot.top k ≡ None
    free k lt = free_by follows.1 k lt

    newest : number_on_chain longer spot.top spot.depth ≡ Some (length paths)
    newest =
        let deeper = follows.0 in
        position_new (stands_at spot.top spot.depth) spots spot (free spot.depth (omega (arith, deeper))) (stands spot.top spot.depth spot refl refl) ∙ ap Some count

    -- the last of the chains
    module _ (old new : List ℕ) (lasts : AreLasts old spots) (kept : Noted old new (length spots)) (noted : (i : ℕ) → slice_get new spot.top ≡ Some i → i ≡ length spots) where
      ends_by : (i : ℕ) (s : Spot) → (slice_get spots i ≡ Some s) ⊎ ((i ≡ length spots) × (s ≡ spot)) → slice_get new s.top ≡ Some i → EndsAt longer s
      ends_by i s (inl is) at_top k lt =
          let within = slice_get_within spots i s is in
          other s.top k (λ t d. let same = noted i (ap (slice_get new) t ∙ at_top) in omega (arith, same, within)) ∙ lasts i s is (kept s.top i at_top within) k lt
      ends_by i s (inr last) at_top k lt =
          let deeper = follows.0 in
          let depth : s.depth ≡ spot.depth = ap (λ (x : Spot). x.depth) last.1 in
          ap (λ (x : Spot). number_on_chain longer x.top k) last.1
          ∙ other spot.top k (λ t d. omega (arith, d, depth, lt)) ∙ free k (omega (arith, deeper, depth, lt))

      pub lasts_push : AreLasts new longer
      lasts_push i s is at_top = ends_by i s (slice_get_push spots spot i s is) at_top

    module _ (segment : List ℕ) (absent : path_number paths (path_at paths at ++ segment ∷ []) ≡ None) where
      abbrev path : Path
      path = path_at paths at ++ segment ∷ []

      abbrev more : List Path
      more = paths ++ path ∷ []

      kept_path : (i : ℕ) → i < length paths → path_at more i ≡ path_at paths i
      kept_path i before = path_at_is more i (path_at paths i) (slice_get_left paths (path ∷ []) i (path_at paths i) (path_at_there paths i before))

      last_path : path_at more (length paths) ≡ path
      last_path = path_at_is more (length paths) path (slice_get_last paths path)

      begins_still : (i : ℕ) (s : Spot) → slice_get spots i ≡ Some s → (k : ℕ) → length (path_at paths s.top) ≤ k → k ≤ s.depth → number_on_chain longer s.top k ≡ path_number more (take k (path_at paths i))
      begins_still i s is k from to =
          let held = chained i s is in
          let whole = path_at paths i in
          let within = slice_get_within spots i s is in
          let long = held.depth in
          let begun = closed i whole k (path_at_there paths i (omega (arith, within, count))) (omega (arith, long, to)) in
          let number = distinct begun.0 (take k whole) begun.2 in
          stays s.top k begun.0 (held.begins k from to ∙ number) ∙ sym (path_number_stays paths path (take k whole) begun.0 number)

      apart_above : (i : ℕ) (s : Spot) → slice_get spots i ≡ Some s → (k : ℕ) → k < length (path_at paths s.top) → (spot.top ≡ length spots) ⊎ ((spot.top ≡ above.top) × EndsAt spots above) → spot.top ≡ s.top → spot.depth ≡ k → ⊥
      apart_above i s is k lt (inl own) t d =
          let within = slice_get_within spots i s is in
          let early = tops i s is in
          omega (arith, within, early, own, t)
      apart_above i s is k lt (inr on) t d =
          let same : length (path_at paths above.top) ≡ length (path_at paths s.top) = ap (λ (n : ℕ). length (path_at paths n)) (sym on.0 ∙ t) in
          let low = top_within paths spots at above (chained at above is_above) in
          let deeper = follows.0 in
          omega (arith, same, low, deeper, d, lt)

      above_still : (i : ℕ) (s : Spot) → slice_get spots i ≡ Some s → (k : ℕ) → k < length (path_at paths s.top) → number_on_chain longer s.top k ≡ None
      above_still i s is k lt = other s.top k (apart_above i s is k lt follows.1) ∙ (chained i s is).above k lt

      abbrev Begins : Spot → Path → Path → Type 0
      Begins s top whole = (k : ℕ) → length top ≤ k → k ≤ s.depth → number_on_chain longer s.top k ≡ path_number more (take k whole)

      abbrev Above : Spot → Path → Type 0
      Above s top = (k : ℕ) → k < length top → number_on_chain longer s.top k ≡ None

      stands_by : (number : ℕ) (s : Spot) (top whole : Path) → path_at more s.top ≡ top → path_at more number ≡ whole → s.depth ≡ length whole → s.depth ≤ number → s.top ≤ number → take (length top) whole ≡ top → Begins s top whole → Above s top → StandsOnChain more longer number s
      stands_by number s top whole at_top at_whole depth within before top_begins begins over =
          let many : length (path_at more s.top) ≡ length top = ap length at_top in
          record {
            depth = depth ∙ ap length (sym at_whole);
            within = within;
            top = before;
            top_begins = ap (λ (p : Path). take (length p) (path_at more number)) at_top ∙ ap (take (length top)) at_whole ∙ top_begins ∙ sym at_top;
            begins = λ k from to. begins k (omega (arith, many, from)) to ∙ ap (λ (p : Path). path_number more (take k p)) (sym at_whole);
            above = λ k lt. over k (omega (arith, many, lt));
          }

      old_stands : (i : ℕ) (s : Spot) → slice_get spots i ≡ Some s → StandsOnChain more longer i s
      old_stands i s is =
          let held = chained i s is in
          let within = slice_get_within spots i s is in
          let early = held.top in
          stands_by i s (path_at paths s.top) (path_at paths i) (kept_path s.top (omega (arith, within, early, count))) (kept_path i (omega (arith, within, count))) held.depth held.within early held.top_begins (begins_still i s is) (above_still i s is)

      long : spot.depth ≡ length path
      long = let deeper = follows.0 in let d = (chained at above is_above).depth in let l = length_push (path_at paths at) segment in omega (arith, deeper, d, l)

      shallow : spot.depth ≤ length paths
      shallow = let deeper = follows.0 in let w = (chained at above is_above).within in omega (arith, deeper, w, there)

      begins_last : (k : ℕ) → k ≡ spot.depth → number_on_chain longer spot.top k ≡ path_number more (take k path)
      begins_last k is =
          ap (number_on_chain longer spot.top) is ∙ newest
          ∙ sym (ap (path_number more) (take_all k path (omega (arith, is, long))) ∙ path_number_new paths path absent)

      from_parent : (k : ℕ) → k ≤ above.depth → take k path ≡ take k (path_at paths at)
      from_parent k le = let depth = (chained at above is_above).depth in take-append-le k (path_at paths at) (segment ∷ []) (omega (arith, le, depth))

      begins_on : spot.top ≡ above.top → (k : ℕ) → length (path_at paths above.top) ≤ k → k ≤ spot.depth → (above.depth < k) ⊎ (k ≤ above.depth) → number_on_chain longer spot.top k ≡ path_number more (take k path)
      begins_on on k from to (inl beyond) = let deeper = follows.0 in begins_last k (omega (arith, to, beyond, deeper))
      begins_on on k from to (inr within) =
          ap (λ (t : ℕ). number_on_chain longer t k) on ∙ begins_still at above is_above k from within
          ∙ ap (path_number more) (sym (from_parent k within))

      new_stands : (spot.top ≡ length spots) ⊎ ((spot.top ≡ above.top) × EndsAt spots above) → StandsOnChain more longer (length paths) spot
      new_stands (inl own) =
          stands_by (length paths) spot path path (ap (path_at more) (own ∙ count) ∙ last_path) last_path long shallow (omega (arith, own, count)) (take_all (length path) path (omega arith))
          (λ k from to. begins_last k (omega (arith, from, to, long)))
          (λ k lt. other spot.top k (λ t d. omega (arith, d, lt, long)) ∙ unused spots tops spot.top k (omega (arith, own)))
      new_stands (inr on) =
          let held = chained at above is_above in
          let top = path_at paths above.top in
          let early = held.top in
          let low = top_within paths spots at above held in
          stands_by (length paths) spot top path (ap (path_at more) on.0 ∙ kept_path above.top (omega (arith, early, there))) last_path long shallow (let t = on.0 in omega (arith, t, early, there))
          (from_parent (length top) low ∙ held.top_begins)
          (λ k from to. begins_on on.0 k from to (cases_lt above.depth k))
          (λ k lt. ap (λ (t : ℕ). number_on_chain longer t k) on.0 ∙ above_still at above is_above k lt)

      stands_of : (i : ℕ) (s : Spot) → (slice_get spots i ≡ Some s) ⊎ ((i ≡ length spots) × (s ≡ spot)) → StandsOnChain more longer i s
      stands_of i s (inl is) = old_stands i s is
      stands_of i s (inr last) =
          let here : i ≡ length paths = last.0 ∙ count in
          subst (λ (x : Spot). StandsOnChain more longer i x) (sym last.1) (subst (λ (n : ℕ). StandsOnChain more longer n spot) (sym here) (new_stands follows.1))

      pub chained_push : AreChained longer more
      chained_push i s is = stands_of i s (slice_get_push spots spot i s is)

-- the path of a segment right below a path is that below its place on its chain
pub below_chain_at : (numbers : BTreeMap Place ℕ) (steps : List Step) → AreNumbered numbers steps → (at : ℕ) (segment : NameSeg) (spot : Spot) → at < length (paths_of steps) → slice_get (spots_of steps) at ≡ Some spot
    → number_below_chain (paths_of steps) (spots_of steps) spot.top segment.bytes spot.depth ≡ number_below (paths_of steps) at (segment.bytes ∷ [])
below_chain_at numbers steps held at segment spot there is =
    ap (option_and_then (λ (parent : ℕ). number_below (paths_of steps) parent (segment.bytes ∷ []))) (alone (paths_of steps) (spots_of steps) at spot (held.chained at spot is) held.distinct there)

-- the map has its number
pub known_below : (numbers : BTreeMap Place ℕ) (steps : List Step) → AreNumbered numbers steps → (at : ℕ) (segment : NameSeg) (spot : Spot) → at < length (paths_of steps) → slice_get (spots_of steps) at ≡ Some spot
    → get place_order numbers (record { segment = segment; top = spot.top; depth = spot.depth }) ≡ number_below (paths_of steps) at (segment.bytes ∷ [])
known_below numbers steps held at segment spot there is = held.known segment spot.top spot.depth ∙ below_chain_at numbers steps held at segment spot there is

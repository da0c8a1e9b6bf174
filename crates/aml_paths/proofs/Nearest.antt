-- The upward search over chains, and from what it finds.
use Rattle.std.proofs.Common.{◌≡◌, ℕ, ◌+◌, ◌<◌, ◌≤◌, ◌⊎◌, inl, inr, List, [], ◌∷◌, ◌++◌, length, take, slice_get, Option, Some, None, refl, sym, ap, ◌∙◌, arith, option_and_then}
use Rattle.std.proofs.lemmas.Bool.{cases_lt}
use Rattle.std.proofs.lemmas.List.{length_push, same_from_push, take_all, take-append-le, take-take}
use Rattle.std.proofs.lemmas.Option.{none-some, same_Some, slice_get_within}
use Rattle.aml_paths.specs.declared.chains.Spot.{Spot}
use Rattle.aml_paths.specs.declared.paths.Step.{Step}
use Rattle.aml_paths.specs.Chains.{StandsOnChain, number_below_chain}
use Rattle.aml_paths.specs.Paths.{AreClosed, AreDistinct, Path, path_at, path_number, number_below, root}
use Rattle.aml_paths.specs.Resolve.{greatest, upward_search}
use Rattle.aml_paths.specs.Trie.{path_of}
use Rattle.aml_paths.proofs.Chained.{top_within}
use Rattle.aml_paths.proofs.PathNumbers.{no_longer_path, number_below_at, path_at_is, path_at_there, path_number_there, path_once}
use Rattle.aml_paths.proofs.Upward.{Stands, below, greatest_last, greatest_none, greatest_nowhere, greatest_stands, search_shorter}

abbrev pub search_from : List Path → List ℕ → ℕ → Option ℕ
search_from paths segment at = upward_search (path_number paths) (path_at paths at) segment

module _ (paths : List Path) (distinct : AreDistinct paths) (closed : AreClosed paths) (segment : List ℕ) where
  below_by : (path : Path) (o : Option ℕ) → path_number paths path ≡ o → option_and_then (λ (p : ℕ). number_below paths p (segment ∷ [])) o ≡ path_number paths (path ++ segment ∷ [])
  below_by path None is = sym (no_longer_path paths distinct closed path (segment ∷ []) is)
  below_by path (Some n) is = number_below_at paths n path (segment ∷ []) (path_number_there paths path n is)

  module _ (spots : List Spot) (number : ℕ) (spot : Spot) (held : StandsOnChain paths spots number spot) where
    abbrev path : Path
    path = path_at paths number

    abbrev first : ℕ
    first = length (path_at paths spot.top)

    abbrev chain : ℕ → Option ℕ
    chain = number_below_chain paths spots spot.top segment

    abbrev find : ℕ → Option ℕ
    find = below (path_number paths) segment path

    chain_is : (k : ℕ) → first ≤ k → k ≤ spot.depth → chain k ≡ find k
    chain_is k from to =
        ap (option_and_then (λ (p : ℕ). number_below paths p (segment ∷ []))) (held.begins k from to)
        ∙ below_by (take k path) (path_number paths (take k path)) refl

    found_by : (n : ℕ) (s : Stands chain spot.depth n) → (s.at < first) ⊎ (first ≤ s.at) → search_from paths segment number ≡ Some n
    found_by n s (inl over) =
        let none = ap (option_and_then (λ (p : ℕ). number_below paths p (segment ∷ []))) (held.above s.at over) in
        absurd (none-some n (sym none ∙ s.is))
    found_by n s (inr on) =
        let depth = held.depth in
        let within = s.within in
        greatest_last find s.at (length path) n (omega (arith, within, depth)) (sym (chain_is s.at on within) ∙ s.is)
        (λ j after le. sym (chain_is j (omega (arith, on, after)) (omega (arith, le, depth))) ∙ s.last j after (omega (arith, le, depth)))

    -- what is found on the path's chain is nearest
    pub found_on_chain : (n : ℕ) → greatest chain spot.depth ≡ Some n → search_from paths segment number ≡ Some n
    found_on_chain n found = let s = greatest_stands chain spot.depth n found in found_by n s (cases_lt s.at first)

    module _ (none : greatest chain spot.depth ≡ None) where
      absent : (k : ℕ) → first ≤ k → k ≤ length path → find k ≡ None
      absent k from to =
          let depth = held.depth in
          let within : k ≤ spot.depth = omega (arith, to, depth) in
          sym (chain_is k from within) ∙ greatest_nowhere chain spot.depth none k within

      -- nothing is above the root's chain
      pub found_nowhere : path_at paths spot.top ≡ root → search_from paths segment number ≡ None
      found_nowhere at_root = let short : first ≡ 0 = ap length at_root in greatest_none find (length path) (λ k le. absent k (omega (arith, short)) le)

      -- the search goes on above the chain's top
      pub found_above_chain : (step : Step) → slice_get paths spot.top ≡ Some (path_of paths step) → search_from paths segment number ≡ search_from paths segment step.parent
      found_above_chain step leads =
          let parent = path_at paths step.parent in
          let last = step.segment.bytes in
          let top_is : path_at paths spot.top ≡ parent ++ last ∷ [] = path_at_is paths spot.top (path_of paths step) leads in
          let many : first ≡ length parent + 1 = ap length top_is ∙ length_push parent last in
          let low = top_within paths spots number spot held in
          let depth = held.depth in
          let begins : take (length parent) path ≡ parent =
          sym (take-take (length parent) first path (omega (arith, many)))
          ∙ ap (take (length parent)) (held.top_begins ∙ top_is)
          ∙ take-append-le (length parent) parent (last ∷ []) (omega arith) ∙ take_all (length parent) parent (omega arith) in
          search_shorter (path_number paths) segment path (length parent) (omega (arith, many, low, depth)) (λ j after le. absent j (omega (arith, many, after)) le)
          ∙ ap (λ (p : Path). upward_search (path_number paths) p segment) begins

  -- a search for what is told of the path with a number goes on where the path stands that is found
  module _ (at : ℕ) (there : at < length paths) where
    abbrev whole : Path
    whole = path_at paths at

    abbrev told : (ℕ → Option ℕ) → Path → Option ℕ
    told count path = option_and_then count (path_number paths path)

    pub told_nowhere : (count : ℕ → Option ℕ) → search_from paths segment at ≡ None → upward_search (told count) whole segment ≡ None
    told_nowhere count none =
        greatest_none (below (told count) segment whole) (length whole)
        (λ k le. ap (option_and_then count) (greatest_nowhere (below (path_number paths) segment whole) (length whole) none k le))

    module _ (found : ℕ) (is : search_from paths segment at ≡ Some found) where
      abbrev stands : Stands (below (path_number paths) segment whole) (length whole) found
      stands = greatest_stands (below (path_number paths) segment whole) (length whole) found is

      abbrev parent : Path
      parent = take stands.at whole

      pub found_there : slice_get paths found ≡ Some (parent ++ segment ∷ [])
      found_there = path_number_there paths (parent ++ segment ∷ []) found stands.is

      pub found_within : found < length paths
      found_within = slice_get_within paths found (parent ++ segment ∷ []) found_there

      found_below : slice_get paths 0 ≡ Some root → (n : ℕ) → found ≡ n → n ≡ 0 → ⊥
      found_below first n same zero_is =
          let one = same_Some (parent ++ segment ∷ []) root (sym found_there ∙ ap (slice_get paths) (same ∙ zero_is) ∙ first) in
          let many : length (parent ++ segment ∷ []) ≡ 0 = ap length one in
          omega (arith, many, length_push parent segment)

      pub found_below_root : slice_get paths 0 ≡ Some root → 0 < found
      found_below_root first = let no = found_below first found refl in omega (arith, no)

      -- what is told of what is found
      pub told_first : (count : ℕ → Option ℕ) (x : ℕ) → count found ≡ Some x → upward_search (told count) whole segment ≡ Some x
      told_first count x counts =
          greatest_last (below (told count) segment whole) stands.at (length whole) x stands.within (ap (option_and_then count) stands.is ∙ counts)
          (λ j after le. ap (option_and_then count) (stands.last j after le))

      search_on : (count : ℕ → Option ℕ) → upward_search (told count) whole segment ≡ upward_search (told count) parent segment
      search_on count = search_shorter (told count) segment whole stands.at stands.within (λ j after le. ap (option_and_then count) (stands.last j after le))

      -- what is found from the path above what is found
      pub told_answer : (count : ℕ → Option ℕ) (answer : Option ℕ)
          → ((above : Path) (last : List ℕ) → slice_get paths found ≡ Some (above ++ last ∷ []) → upward_search (told count) above last ≡ answer)
          → upward_search (told count) whole segment ≡ answer
      told_answer count answer right = search_on count ∙ right parent segment found_there

      module _ (step : Step) (leads : slice_get paths found ≡ Some (path_of paths step)) where
        parent_is : path_at paths step.parent ≡ parent
        parent_is = (same_from_push (path_at paths step.parent) parent step.segment.bytes segment (same_Some (path_of paths step) (parent ++ segment ∷ []) (sym leads ∙ found_there))).0

        pub told_here : (count : ℕ → Option ℕ) → told count (path_at paths step.parent ++ segment ∷ []) ≡ count found
        told_here count = ap (λ (p : Path). told count (p ++ segment ∷ [])) parent_is ∙ ap (option_and_then count) stands.is

        pub told_above : (count : ℕ → Option ℕ) → upward_search (told count) whole segment ≡ upward_search (told count) (path_at paths step.parent) segment
        told_above count = search_on count ∙ ap (λ (p : Path). upward_search (told count) p segment) (sym parent_is)

        pub parent_before : step.parent < length paths → step.parent ≤ at
        parent_before before =
            let begun = closed at whole stands.at (path_at_there paths at there) stands.within in
            let one = path_once paths distinct parent step.parent begun.0 (path_at_there paths step.parent before ∙ ap Some parent_is) begun.2 in
            let early = begun.1 in
            omega (arith, one, early)

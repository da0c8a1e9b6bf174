-- From path to path, down by segments and up by carets.
use Rattle.std.proofs.Common.{◌≡◌, ℕ, suc, ◌+◌, ◌-◌, ◌<◌, ◌≤◌, ◌⊎◌, inl, inr, List, [], ◌∷◌, ◌++◌, length, take, drop, slice_get, Option, Some, None, refl, sym, ap, ◌∙◌, arith, append_assoc, option_and_then, leb}
use Rattle.std.proofs.lemmas.Bool.{cond-true, cond-false, le-leb, lt-leb, cases_lt}
use Rattle.std.proofs.lemmas.List.{take-append-le, take_all, length_push}
use Rattle.std.proofs.lemmas.Option.{none-some}
use Rattle.aml_paths.specs.declared.paths.Step.{Step}
use Rattle.aml_paths.specs.Paths.{Path, root, path_at, path_number, number_below, path_above, number_above, AreDistinct, AreClosed}
use Rattle.aml_paths.specs.Trie.{path_of}
use Rattle.aml_paths.proofs.Positions.{drop_from}
use Rattle.aml_paths.proofs.PathNumbers.{path_at_there, number_above_at, path_number_there, path_number_within, no_longer_path}

module _ (paths : List Path) (distinct : AreDistinct paths) where
  found : (segment : List ℕ) (rest : Path) (n : ℕ) (o : Option Path) → option_and_then (λ (p : Path). path_number paths (p ++ segment ∷ [])) o ≡ Some n → option_and_then (λ (p : Path). path_number paths (p ++ segment ∷ rest)) o ≡ number_below paths n rest
  found segment rest n None is = absurd (none-some n is)
  found segment rest n (Some path) is =
      let there = path_number_there paths (path ++ segment ∷ []) n is in
      ap (path_number paths) (sym (append_assoc path (segment ∷ []) rest)) ∙ sym (ap (option_and_then (λ (p : Path). path_number paths (p ++ rest))) there)

  -- one segment down, and then the rest
  pub number_below_more : (at : ℕ) (segment : List ℕ) (rest : Path) (n : ℕ) → number_below paths at (segment ∷ []) ≡ Some n → number_below paths at (segment ∷ rest) ≡ number_below paths n rest
  number_below_more at segment rest n is = found segment rest n (slice_get paths at) is

  below_there : (segments : Path) (n : ℕ) (o : Option Path) → option_and_then (λ (p : Path). path_number paths (p ++ segments)) o ≡ Some n → n < length paths
  below_there segments n None is = absurd (none-some n is)
  below_there segments n (Some path) is = path_number_within paths (path ++ segments) n is

  pub number_below_within : (at : ℕ) (segments : Path) (n : ℕ) → number_below paths at segments ≡ Some n → n < length paths
  number_below_within at segments n is = below_there segments n (slice_get paths at) is

  -- the next of some segments down, and then those that are left
  pub number_below_next : (at : ℕ) (segments : Path) (i : ℕ) (segment : List ℕ) (n : ℕ) → slice_get segments i ≡ Some segment → number_below paths at (segment ∷ []) ≡ Some n → number_below paths at (drop i segments) ≡ number_below paths n (drop (i + 1) segments)
  number_below_next at segments i segment n is down = ap (number_below paths at) (drop_from segments i segment is) ∙ number_below_more at segment (drop (i + 1) segments) n down

  module _ (closed : AreClosed paths) where
    missing : (segment : List ℕ) (rest : Path) (o : Option Path) → option_and_then (λ (p : Path). path_number paths (p ++ segment ∷ [])) o ≡ None → option_and_then (λ (p : Path). path_number paths (p ++ segment ∷ rest)) o ≡ None
    missing segment rest None is = refl
    missing segment rest (Some path) is =
        ap (path_number paths) (sym (append_assoc path (segment ∷ []) rest)) ∙ no_longer_path paths distinct closed (path ++ segment ∷ []) rest is

    -- where the first segment is missing, the rest is
    pub number_below_missing : (at : ℕ) (segment : List ℕ) (rest : Path) → number_below paths at (segment ∷ []) ≡ None → number_below paths at (segment ∷ rest) ≡ None
    number_below_missing at segment rest none = missing segment rest (slice_get paths at) none

    -- where the next of some segments is missing, those that are left are
    pub number_below_no_next : (at : ℕ) (segments : Path) (i : ℕ) (segment : List ℕ) → slice_get segments i ≡ Some segment → number_below paths at (segment ∷ []) ≡ None → number_below paths at (drop i segments) ≡ None
    number_below_no_next at segments i segment is none = ap (number_below paths at) (drop_from segments i segment is) ∙ number_below_missing at segment (drop (i + 1) segments) none

-- a path above, and none above the root
pub path_above_within : (carets : ℕ) (path : Path) → carets ≤ length path → path_above carets path ≡ Some (take (length path - carets) path)
path_above_within carets path within = cond-true (leb carets (length path)) (Some (take (length path - carets) path)) None (le-leb carets (length path) within)

pub path_above_past : (carets : ℕ) (path : Path) → length path < carets → path_above carets path ≡ None
path_above_past carets path past = cond-false (leb carets (length path)) (Some (take (length path - carets) path)) None (lt-leb carets (length path) past)

path_above-none : (path : Path) → path_above 0 path ≡ Some path
path_above-none path = path_above_within 0 path (omega arith) ∙ ap Some (take_all (length path - 0) path (omega arith))

above_child : (path : Path) (segment : List ℕ) (carets less : ℕ) → carets ≡ suc less → (length path < less) ⊎ (less ≤ length path) → path_above carets (path ++ segment ∷ []) ≡ path_above less path
above_child path segment carets less next (inl past) =
    let long : length (path ++ segment ∷ []) < carets = omega (arith, length_push path segment, next, past) in
    path_above_past carets (path ++ segment ∷ []) long ∙ sym (path_above_past less path past)
above_child path segment carets less next (inr within) =
    let longer = path ++ segment ∷ [] in
    let long : carets ≤ length longer = omega (arith, length_push path segment, next, within) in
    let left : length longer - carets ≡ length path - less = omega (arith, length_push path segment, next, within) in
    path_above_within carets longer long
    ∙ ap Some (ap (λ (n : ℕ). take n longer) left ∙ take-append-le (length path - less) path (segment ∷ []) (omega arith))
    ∙ sym (path_above_within less path within)

module _ (paths : List Path) where
  pub number_above_root : (carets : ℕ) → slice_get paths 0 ≡ Some root → 0 < carets → number_above paths 0 carets ≡ None
  number_above_root carets first some = number_above_at paths 0 root carets first ∙ ap (option_and_then (path_number paths)) (path_above_past carets root some)

  -- one caret up, and then the others
  pub number_above_more : (at : ℕ) (step : Step) (carets less : ℕ) → slice_get paths at ≡ Some (path_of paths step) → step.parent < length paths → carets ≡ suc less → number_above paths at carets ≡ number_above paths step.parent less
  number_above_more at step carets less is there next =
      let parent = path_at paths step.parent in
      number_above_at paths at (path_of paths step) carets is
      ∙ ap (option_and_then (path_number paths)) (above_child parent step.segment.bytes carets less next (cases_lt (length parent) less))
      ∙ sym (number_above_at paths step.parent parent less (path_at_there paths step.parent there))

  -- no caret leads to the path itself
  pub number_above_itself : AreDistinct paths → (at : ℕ) → at < length paths → number_above paths at 0 ≡ Some at
  number_above_itself distinct at there =
      let path = path_at paths at in
      let is = path_at_there paths at there in
      number_above_at paths at path 0 is ∙ ap (option_and_then (path_number paths)) (path_above-none path) ∙ distinct at path is

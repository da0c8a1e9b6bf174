-- The paths that steps make.
use Rattle.std.proofs.Common.{◌≡◌, ℕ, zero, suc, ◌+◌, ◌-◌, ◌<◌, ◌≤◌, ◌⊎◌, inl, inr, List, [], ◌∷◌, ◌++◌, length, take, get_or, slice_get, Some, None, refl, sym, ap, ◌∙◌, arith}
use Rattle.std.proofs.lemmas.Bool.{cases_lt}
use Rattle.std.proofs.lemmas.List.{length_push, take_all, take-append-le}
use Rattle.std.proofs.lemmas.Option.{same_Some, slice_get_within, slice_get_cases}
use Rattle.aml_paths.specs.declared.paths.Step.{Step}
use Rattle.aml_paths.specs.Paths.{Path, root, path_at, AreClosed}
use Rattle.aml_paths.specs.Trie.{path_of, paths_from, paths_of, LeadTo}
use Rattle.aml_paths.proofs.PathNumbers.{path_at_there}

-- one more step makes one more path
push_from : (paths : List Path) (steps : List Step) (step : Step) → paths_from paths (steps ++ step ∷ []) ≡ paths_from paths steps ++ path_of (paths_from paths steps) step ∷ []
push_from paths [] step = refl
push_from paths (s ∷ steps) step = push_from (paths ++ path_of paths s ∷ []) steps step

pub paths_push : (steps : List Step) (step : Step) → paths_of (steps ++ step ∷ []) ≡ paths_of steps ++ path_of (paths_of steps) step ∷ []
paths_push steps step = push_from (root ∷ []) steps step

length_from : (paths : List Path) (steps : List Step) → length (paths_from paths steps) ≡ length paths + length steps
length_from paths [] = omega arith
length_from paths (s ∷ steps) = let more = length_from (paths ++ path_of paths s ∷ []) steps in omega (arith, more, length_push paths (path_of paths s))

-- one path a step, and the root
pub length-paths_of : (steps : List Step) → length (paths_of steps) ≡ suc (length steps)
length-paths_of steps = let all = length_from (root ∷ []) steps in omega (arith, all)

first_from : (path : Path) (paths : List Path) (steps : List Step) → slice_get (paths_from (path ∷ paths) steps) 0 ≡ Some path
first_from path paths [] = refl
first_from path paths (s ∷ steps) = first_from path (paths ++ path_of (path ∷ paths) s ∷ []) steps

-- the root's number is 0
pub root_first : (steps : List Step) → slice_get (paths_of steps) 0 ≡ Some root
root_first steps = first_from root [] steps

-- a number but the root's is that of the path to which the step before it leads
pub last_step_leads : (steps : List Step) (paths : List Path) (number : ℕ) (step : Step) → LeadTo steps paths → 0 < number → slice_get steps (number - 1) ≡ Some step → (slice_get paths number ≡ Some (path_of paths step)) × (step.parent < number)
last_step_leads steps paths number step leads below_root is =
    let led = leads (number - 1) step is in
    let next : suc (number - 1) ≡ number = omega arith in
    (sym (ap (slice_get paths) next) ∙ led.1, omega (arith, led.0))

module _ (steps : List Step) (paths : List Path) (count : length paths ≡ suc (length steps)) (first : slice_get paths 0 ≡ Some root) (leads : LeadTo steps paths) where
  -- what a path begins with stands at its number or before
  abbrev Begun : ℕ → Path → ℕ → Type 0
  Begun i path n = (j : ℕ) × (j ≤ i) × (slice_get paths j ≡ Some (take n path))

  begun_root : (path : Path) (n : ℕ) → slice_get paths 0 ≡ Some path → n ≤ length path → Begun 0 path n
  begun_root path n is le =
      let same : path ≡ root = same_Some path root (sym is ∙ first) in
      let short : length path ≤ n = let e : length path ≡ length root = ap length same in omega (arith, e) in
      (0, omega arith, is ∙ ap Some (sym (take_all n path short)))

  abbrev BegunBelow : ℕ → ℕ → Type 0
  BegunBelow m n = (i : ℕ) (path : Path) → i < m → slice_get paths i ≡ Some path → n ≤ length path → Begun i path n

  abbrev parent_of : Step → Path
  parent_of step = path_at paths step.parent

  begun_step : (m k : ℕ) (path : Path) (n : ℕ) (step : Step) → BegunBelow m n → suc k < suc m → slice_get paths (suc k) ≡ Some path → slice_get steps k ≡ Some step → (length (parent_of step) < n) ⊎ (n ≤ length (parent_of step)) → n ≤ length path → Begun (suc k) path n
  begun_step m k path n step before lt is is_step (inl beyond) le =
      let led = leads k step is_step in
      let same : path ≡ parent_of step ++ step.segment.bytes ∷ [] = same_Some path (path_of paths step) (sym is ∙ led.1) in
      let long : length path ≡ length (parent_of step) + 1 = ap length same ∙ length_push (parent_of step) step.segment.bytes in
      (suc k, omega arith, is ∙ ap Some (sym (take_all n path (omega (arith, long, beyond)))))
  begun_step m k path n step before lt is is_step (inr within) le =
      let led = leads k step is_step in
      let same : path ≡ parent_of step ++ step.segment.bytes ∷ [] = same_Some path (path_of paths step) (sym is ∙ led.1) in
      let there : step.parent < length paths = let w = slice_get_within paths (suc k) path is in omega (arith, led.0, w) in
      let begun = before step.parent (parent_of step) (omega (arith, led.0, lt)) (path_at_there paths step.parent there) within in
      (begun.0, omega (arith, begun.1, led.0), begun.2 ∙ ap Some (sym (ap (take n) same ∙ take-append-le n (parent_of step) (step.segment.bytes ∷ []) within)))

  abbrev Found : ℕ → Type 0
  Found k = ((step : Step) × (k < length steps) × (slice_get steps k ≡ Some step) × (get_or steps k step ≡ step)) ⊎ ((length steps ≤ k) × (slice_get steps k ≡ None))

  begun_found : (m k : ℕ) (path : Path) (n : ℕ) → BegunBelow m n → Found k → suc k < suc m → slice_get paths (suc k) ≡ Some path → n ≤ length path → Begun (suc k) path n
  begun_found m k path n before (inl f) lt is le = begun_step m k path n f.0 before lt is f.2 (cases_lt (length (parent_of f.0)) n) le
  begun_found m k path n before (inr past) lt is le = absurd (let w = slice_get_within paths (suc k) path is in omega (arith, w, count, past.0))

  begun_below : (m n : ℕ) → BegunBelow m n
  begun_below zero n i path lt is le = absurd (omega arith)
  begun_below (suc m) n zero path lt is le = begun_root path n is le
  begun_below (suc m) n (suc k) path lt is le = begun_found m k path n (begun_below m n) (slice_get_cases steps k).1 lt is le

  -- with a path stands each that begins it
  pub paths_closed : AreClosed paths
  paths_closed i path n is le = begun_below (suc i) n i path (omega arith) is le

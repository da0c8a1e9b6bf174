-- Paths that are made again, step by step.
use Rattle.std.proofs.Common.{◌≡◌, ℕ, suc, ◌<◌, List, [], ◌∷◌, ◌++◌, length, take, drop, slice_get, Option, Some, None, refl, sym, ap, ◌∙◌, subst, arith}
use Rattle.std.proofs.lemmas.List.{length-take-le, take-append-drop}
use Rattle.std.proofs.lemmas.Option.{slice_get_within}
use Rattle.std.specs.BTreeMap.{BTreeMap}
use Rattle.aml_paths.specs.declared.place.Place.{Place}
use Rattle.aml_paths.specs.declared.paths.Step.{Step}
use Rattle.aml_paths.specs.Chains.{root_spot}
use Rattle.aml_paths.specs.Paths.{Path, path_at, path_number, number_below}
use Rattle.aml_paths.specs.Trie.{AreNumbered, path_of, paths_from, paths_of}
use Rattle.aml_paths.proofs.PathNumbers.{number_below_at, path_at_is, path_at_there, path_number_there, path_number_within, path_once}
use Rattle.aml_paths.proofs.Positions.{slice_get_left}
use Rattle.aml_paths.proofs.Tries.{length-paths_of}

-- a step where none is
abbrev pub nothing : Step
nothing = record { parent = 0; segment = record { bytes = [] }; spot = root_spot }

-- steps go on from the paths that are there
from_append : (paths : List Path) (steps more : List Step) → paths_from paths (steps ++ more) ≡ paths_from (paths_from paths steps) more
from_append paths [] more = refl
from_append paths (s ∷ steps) more = from_append (paths ++ path_of paths s ∷ []) steps more

from_keeps : (paths : List Path) (steps : List Step) (n : ℕ) (path : Path) → slice_get paths n ≡ Some path → slice_get (paths_from paths steps) n ≡ Some path
from_keeps paths [] n path is = is
from_keeps paths (s ∷ steps) n path is = from_keeps (paths ++ path_of paths s ∷ []) steps n path (slice_get_left paths (path_of paths s ∷ []) n path is)

module _ (numbers : BTreeMap Place ℕ) (steps : List Step) (numbered : AreNumbered numbers steps) (i : ℕ) (step : Step) (is : slice_get steps i ≡ Some step) where
  abbrev first : List Path
  first = paths_of (take i steps)

  first_stay : (n : ℕ) (path : Path) → slice_get first n ≡ Some path → slice_get (paths_of steps) n ≡ Some path
  first_stay n path at =
      let all : paths_from first (drop i steps) ≡ paths_of steps = sym (from_append _ (take i steps) (drop i steps)) ∙ ap paths_of (take-append-drop i steps) in
      subst (λ (paths : List Path). slice_get paths n ≡ Some path) all (from_keeps first (drop i steps) n path at)

  first_count : length first ≡ suc i
  first_count = let there = slice_get_within steps i step is in let taken = length-take-le i steps (omega (arith, there)) in length-paths_of (take i steps) ∙ ap suc taken

  -- the parent is among the first
  pub parent_there : step.parent < length first
  parent_there = let led = (numbered.leads i step is).0 in omega (arith, led, first_count)

  abbrev parent : Path
  parent = path_at first step.parent

  led_to : slice_get (paths_of steps) (suc i) ≡ Some (parent ++ step.segment.bytes ∷ [])
  led_to =
      let same = path_at_is (paths_of steps) step.parent parent (first_stay step.parent parent (path_at_there first step.parent parent_there)) in
      (numbered.leads i step is).1 ∙ ap Some (ap (λ (p : Path). p ++ step.segment.bytes ∷ []) same)

  not_among : (o : Option ℕ) → path_number first (parent ++ step.segment.bytes ∷ []) ≡ o → o ≡ None
  not_among None found = refl
  not_among (Some n) found =
      let path = parent ++ step.segment.bytes ∷ [] in
      let early = path_number_within first path n found in
      let once = path_once (paths_of steps) numbered.distinct path n (suc i) (first_stay n path (path_number_there first path n found)) led_to in
      absurd (omega (arith, early, once, first_count))

  -- and the step's path is not
  pub step_new : number_below first step.parent (step.segment.bytes ∷ []) ≡ None
  step_new =
      number_below_at first step.parent parent (step.segment.bytes ∷ []) (path_at_there first step.parent parent_there)
      ∙ not_among (path_number first (parent ++ step.segment.bytes ∷ [])) refl

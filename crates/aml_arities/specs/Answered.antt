-- The answers of searches that the program keeps.
use Rattle.std.specs.Prelude.{◌≡◌, ℕ, List, [], ◌∷◌, ◌++◌, slice_get, Option, Some}
use Rattle.std.specs.BTreeMap.{BTreeMap, get}
use Rattle.std.specs.Ordering.{nat_cmp}
use Rattle.aml_arities.specs.declared.counted.Counted.{Counted}
use Rattle.aml_arities.specs.Counted.{all_paths, told}
use Rattle.aml_paths.specs.Paths.{Path}
use Rattle.aml_paths.specs.Resolve.{upward_search}

-- the number is that of the path of this segment below this one
abbrev pub IsNumberOf : Counted → Path → List ℕ → ℕ → Type 0
IsNumberOf c path segment n = slice_get (all_paths c) n ≡ Some (path ++ segment ∷ [])

-- what a search for the last segment of the path with a number finds from the path above it
abbrev pub IsAnswerAt : Counted → ℕ → Option ℕ → Type 0
IsAnswerAt c n answer = (path : Path) (segment : List ℕ)
    → IsNumberOf c path segment n → upward_search (told c) path segment ≡ answer

-- each answer that is kept is right
abbrev pub AreAnswers : Counted → BTreeMap ℕ (Option ℕ) → Type 0
AreAnswers c answers = (n : ℕ) (answer : Option ℕ)
    → get nat_cmp answers n ≡ Some answer → IsAnswerAt c n answer

-- The numbers of paths in a list in which no path stands twice.
use Rattle.std.proofs.Common.{◌≡◌, ℕ, suc, ◌<◌, ◌≤◌, List, [], ◌∷◌, ◌++◌, length, get_or, slice_get, Option, Some, None, Decides, refl, sym, ap, ◌∙◌, arith, false, unwrap_or, option_map, option_and_then}
use Rattle.std.specs.Cmp.Lexicographic.{pointwise_decides, bytes_decides}
use Rattle.std.proofs.lemmas.List.{append-nil, take_at, length-append}
use Rattle.std.proofs.lemmas.List.Quantifiers.{position-Some}
use Rattle.std.proofs.lemmas.Option.{none-some, same_Some, slice_get-get_or, slice_get_within, unwrap_or-slice_get}
use Rattle.std.proofs.lemmas.Bool.{false_from_ne_true}
use Rattle.aml_paths.specs.Paths.{Path, root, same_path, path_at, path_number, number_below, path_above, number_above, AreDistinct, AreClosed}
use Rattle.aml_paths.proofs.Positions.{position_stays, position_new, position_other, position_behind}

pub path_decides : (p q : Path) → Decides (same_path p q) (p ≡ q)
path_decides = pointwise_decides bytes_decides

different : (p q : Path) → (p ≡ q → ⊥) → same_path p q ≡ false
different p q apart = false_from_ne_true (same_path p q) (λ e. apart ((path_decides p q).0 e))

module _ (paths : List Path) where
  -- the path with a number is there
  pub path_at_there : (i : ℕ) → i < length paths → slice_get paths i ≡ Some (path_at paths i)
  path_at_there i there = slice_get-get_or paths i root there ∙ ap Some (sym (unwrap_or-slice_get paths i root))

  pub path_at_is : (i : ℕ) (path : Path) → slice_get paths i ≡ Some path → path_at paths i ≡ path
  path_at_is i path is = ap (λ (o : Option Path). unwrap_or o root) is

  -- a path stands at its number
  pub path_number_there : (path : Path) (i : ℕ) → path_number paths path ≡ Some i → slice_get paths i ≡ Some path
  path_number_there path i is =
      let found = position-Some (same_path path) paths i path is in
      slice_get-get_or paths i path found.0 ∙ ap Some (sym ((path_decides path (get_or paths i path)).0 found.1))

  pub path_number_within : (path : Path) (i : ℕ) → path_number paths path ≡ Some i → i < length paths
  path_number_within path i is = slice_get_within paths i path (path_number_there path i is)

  -- the number of the path of some segments below a path that is there, and of the path above it
  pub number_below_at : (at : ℕ) (path segments : Path) → slice_get paths at ≡ Some path → number_below paths at segments ≡ path_number paths (path ++ segments)
  number_below_at at path segments is = ap (option_and_then (λ (p : Path). path_number paths (p ++ segments))) is

  pub number_above_at : (at : ℕ) (path : Path) (carets : ℕ) → slice_get paths at ≡ Some path → number_above paths at carets ≡ option_and_then (path_number paths) (path_above carets path)
  number_above_at at path carets is = ap (λ (o : Option Path). option_and_then (path_number paths) (option_and_then (path_above carets) o)) is

  -- with one path more, each path keeps its number, and the path that was new has the next
  pub path_number_stays : (added path : Path) (i : ℕ) → path_number paths path ≡ Some i → path_number (paths ++ added ∷ []) path ≡ Some i
  path_number_stays added path i is = position_stays (same_path path) paths added i is

  pub path_number_new : (added : Path) → path_number paths added ≡ None → path_number (paths ++ added ∷ []) added ≡ Some (length paths)
  path_number_new added none = position_new (same_path added) paths added none ((path_decides added added).1 refl)

  pub path_number_other : (added path : Path) → (path ≡ added → ⊥) → path_number (paths ++ added ∷ []) path ≡ path_number paths path
  path_number_other added path apart = position_other (same_path path) paths added (different path added apart)

  -- behind another path, each path has a number one higher
  pub path_number_behind : (first path : Path) → (path ≡ first → ⊥) → path_number (first ∷ paths) path ≡ option_map suc (path_number paths path)
  path_number_behind first path apart = position_behind (same_path path) first paths (different path first apart)

  module _ (distinct : AreDistinct paths) where
    -- a path without a number stands nowhere
    pub path_nowhere : (path : Path) (i : ℕ) → path_number paths path ≡ None → slice_get paths i ≡ Some path → ⊥
    path_nowhere path i none is = none-some i (sym none ∙ distinct i path is)

    -- a path stands at one place
    pub path_once : (path : Path) (i j : ℕ) → slice_get paths i ≡ Some path → slice_get paths j ≡ Some path → i ≡ j
    path_once path i j at_i at_j = same_Some i j (sym (distinct i path at_i) ∙ distinct j path at_j)

    -- no segments below a path lead to the path itself
    pub number_below_itself : (at : ℕ) → at < length paths → number_below paths at [] ≡ Some at
    number_below_itself at there =
        let path = path_at paths at in
        let is = path_at_there at there in
        number_below_at at path [] is ∙ ap (path_number paths) (append-nil path) ∙ distinct at path is

    module _ (closed : AreClosed paths) where
      longer : (path rest : Path) (number : Option ℕ) → path_number paths (path ++ rest) ≡ number → path_number paths path ≡ None → number ≡ None
      longer path rest None is none = refl
      longer path rest (Some i) is none =
          let le : length path ≤ length (path ++ rest) = omega (arith, length-append path rest) in
          let front = closed i (path ++ rest) (length path) (path_number_there (path ++ rest) i is) le in
          absurd (path_nowhere path front.0 none (front.2 ∙ ap Some (take_at path rest (length path) refl)))

      -- where a path is missing, each path that begins with it is missing too
      pub no_longer_path : (path rest : Path) → path_number paths path ≡ None → path_number paths (path ++ rest) ≡ None
      no_longer_path path rest none = longer path rest (path_number paths (path ++ rest)) refl none

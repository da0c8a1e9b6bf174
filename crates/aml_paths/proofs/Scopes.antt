-- The number of the path that a name spells in a scope.
use Rattle.std.proofs.Common.{◌≡◌, ℕ, ◌-◌, ◌<◌, ◌≤◌, ◌⊎◌, inl, inr, List, ◌++◌, length, take, slice_get, Option, Some, None, refl, sym, ap, ◌∙◌, arith, option_map, option_and_then, leb}
use Rattle.std.proofs.lemmas.Option.{none-some, cond_some}
use Rattle.std.proofs.lemmas.Bool.{cases_lt}
use Rattle.std.proofs.lemmas.List.{nil_from_length}
use Rattle.aml_paths.specs.Paths.{Path, root, path_number, number_below, path_above, number_above, AreDistinct, AreClosed}
use Rattle.aml_paths.proofs.PathNumbers.{path_number_there, number_below_at, number_above_at}
use Rattle.aml_paths.proofs.Ways.{path_above_within, path_above_past}

module _ (paths : List Path) where
  above_of : (n : ℕ) (above : Option Path) → option_and_then (path_number paths) above ≡ Some n → slice_get paths n ≡ above
  above_of n None is = absurd (none-some n is)
  above_of n (Some path) is = path_number_there paths path n is

  -- the path above, by its number
  pub number_above_is : (at : ℕ) (scope : Path) (carets n : ℕ) → slice_get paths at ≡ Some scope → number_above paths at carets ≡ Some n → slice_get paths n ≡ path_above carets scope
  number_above_is at scope carets n is up = above_of n (path_above carets scope) (sym (number_above_at paths at scope carets is) ∙ up)

  one_above : (at : ℕ) (scope : Path) (n : ℕ) → slice_get paths at ≡ Some scope → number_above paths at 1 ≡ Some n → (length scope < 1) ⊎ (1 ≤ length scope) → slice_get paths n ≡ Some (take (length scope - 1) scope)
  one_above at scope n is up (inl short) = absurd (none-some n (sym (number_above_at paths at scope 1 is ∙ ap (option_and_then (path_number paths)) (path_above_past 1 scope short)) ∙ up))
  one_above at scope n is up (inr long) = number_above_is at scope 1 n is up ∙ path_above_within 1 scope long

  -- one caret up is to the path without its last segment
  pub parent_is : (at : ℕ) (scope : Path) (n : ℕ) → slice_get paths at ≡ Some scope → number_above paths at 1 ≡ Some n → slice_get paths n ≡ Some (take (length scope - 1) scope)
  parent_is at scope n is up = one_above at scope n is up (cases_lt (length scope) 1)

  module _ (distinct : AreDistinct paths) (closed : AreClosed paths) where
    -- with a path stands each above it
    pub path_above_there : (at : ℕ) (scope : Path) (carets : ℕ) (path : Path) → slice_get paths at ≡ Some scope → path_above carets scope ≡ Some path → (n : ℕ) × (n ≤ at) × (slice_get paths n ≡ Some path)
    path_above_there at scope carets path is up =
        let begins = cond_some (leb carets (length scope)) (take (length scope - carets) scope) path up in
        let front = closed at scope (length scope - carets) is (omega arith) in
        (front.0, front.1, front.2 ∙ ap Some begins.1)

    below_above : (at : ℕ) (scope : Path) (carets : ℕ) (segments : Path) (above : Option Path) → slice_get paths at ≡ Some scope → path_above carets scope ≡ above
        → option_and_then (λ (n : ℕ). number_below paths n segments) (option_and_then (path_number paths) above) ≡ option_and_then (path_number paths) (option_map (λ (p : Path). p ++ segments) above)
    below_above at scope carets segments None is up = refl
    below_above at scope carets segments (Some path) is up =
        let there = path_above_there at scope carets path is up in
        ap (option_and_then (λ (n : ℕ). number_below paths n segments)) (distinct there.0 path there.2) ∙ number_below_at paths there.0 path segments there.2

    -- up by a name's carets and down by its segments is to the path that it spells
    pub number_below_above : (at : ℕ) (scope : Path) (carets : ℕ) (segments : Path) → slice_get paths at ≡ Some scope
        → option_and_then (λ (n : ℕ). number_below paths n segments) (number_above paths at carets) ≡ option_and_then (path_number paths) (option_map (λ (p : Path). p ++ segments) (path_above carets scope))
    number_below_above at scope carets segments is =
        ap (option_and_then (λ (n : ℕ). number_below paths n segments)) (number_above_at paths at scope carets is) ∙ below_above at scope carets segments (path_above carets scope) is refl

    none_above : (at : ℕ) (scope : Path) → slice_get paths at ≡ Some scope → number_above paths at 1 ≡ None → (length scope < 1) ⊎ (1 ≤ length scope) → scope ≡ root
    none_above at scope is none (inl short) = nil_from_length scope (omega arith)
    none_above at scope is none (inr long) =
        let up = path_above_within 1 scope long in
        let parent = take (length scope - 1) scope in
        let there = path_above_there at scope 1 parent is up in
        absurd (none-some there.0 (sym none ∙ number_above_at paths at scope 1 is ∙ ap (option_and_then (path_number paths)) up ∙ distinct there.0 parent there.2))

    -- only from the root does no caret lead up
    pub nothing_above_root : (at : ℕ) (scope : Path) → slice_get paths at ≡ Some scope → number_above paths at 1 ≡ None → scope ≡ root
    nothing_above_root at scope is none = none_above at scope is none (cases_lt (length scope) 1)

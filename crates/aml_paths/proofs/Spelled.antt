-- The paths that names spell, by their numbers.
use Rattle.std.proofs.Common.{◌≡◌, ℕ, zero, suc, ◌+◌, ◌-◌, ◌<◌, List, [], ◌∷◌, ◌++◌, length, take, slice_get, Option, Some, None, true, false, refl, sym, ap, ◌∙◌, subst, arith, option_and_then, append_assoc}
use Rattle.std.specs.Prelude.{IfSome, cond}
use Rattle.std.specs.Option.{option_map}
use Rattle.std.proofs.lemmas.List.{take_all, length-append}
use Rattle.std.proofs.lemmas.Option.{same_Some, slice_get_within}
use Rattle.aml_lex.specs.NameStrings.{NameString}
use Rattle.aml_lex.specs.declared.names.NameSeg.{NameSeg}
use Rattle.aml_paths.specs.Paths.{Path, root, path_at, path_number, number_below, number_above, path_above, AreDistinct, AreClosed}
use Rattle.aml_paths.specs.Resolve.{base_of, spelled}
use Rattle.aml_paths.specs.declared.resolve.Lead.TheVariants.{Nowhere, Below}
use Rattle.aml_paths.specs.Steps.{LeadsTo}
use Rattle.aml_paths.proofs.PathNumbers.{path_at_is, path_at_there, path_number_there, path_number_within, number_above_at, number_below_at}
use Rattle.aml_paths.proofs.Scopes.{path_above_there}

module _ (paths : List Path) where
  above_within : (o : Option Path) (n : Option ℕ) → option_and_then (path_number paths) o ≡ n → IfSome n (λ i. i < length paths)
  above_within o None is = tt
  above_within None (Some n) is = absurd cc
  above_within (Some path) (Some n) is = path_number_within paths path n is

  pub number_above_within : (at carets : ℕ) → IfSome (number_above paths at carets) (λ i. i < length paths)
  number_above_within at carets = above_within (option_and_then (path_above carets) (slice_get paths at)) (number_above paths at carets) refl

  module _ (distinct : AreDistinct paths) (closed : AreClosed paths) where
    above_path : (at carets : ℕ) (o : Option Path) → at < length paths → path_above carets (path_at paths at) ≡ o → option_map (path_at paths) (option_and_then (path_number paths) o) ≡ o
    above_path at carets None there is = refl
    above_path at carets (Some path) there is =
        let up = path_above_there paths distinct closed at (path_at paths at) carets path (path_at_there paths at there) is in
        ap (option_map (path_at paths)) (distinct up.0 path up.2) ∙ ap Some (path_at_is paths up.0 path up.2)

    -- so many carets up is the path without its last segments
    pub path_at-above : (at carets : ℕ) → at < length paths → option_map (path_at paths) (number_above paths at carets) ≡ path_above carets (path_at paths at)
    path_at-above at carets there =
        let path = path_at paths at in
        ap (option_map (path_at paths)) (number_above_at paths at path carets (path_at_there paths at there)) ∙ above_path at carets (path_above carets path) there refl

-- where names lead from
pub base_rooted : (scope : Path) (name : NameString) → name.rooted ≡ true → base_of scope name ≡ Some root
base_rooted scope name is = ap (λ b. cond b (Some root) (path_above name.parents scope)) is

pub base_relative : (scope : Path) (name : NameString) → name.rooted ≡ false → base_of scope name ≡ path_above name.parents scope
base_relative scope name is = ap (λ b. cond b (Some root) (path_above name.parents scope)) is

take_both : {X : Type 0} (xs ys : List X) (k : ℕ) → take (length xs + k) (xs ++ ys) ≡ xs ++ take k ys
take_both [] ys k = let none : 0 + k ≡ k = omega arith in ap (λ n. take n ys) none
take_both (x ∷ xs) ys k =
    let more : length (x ∷ xs) + k ≡ suc (length xs + k) = omega arith in
    ap (λ n. take n (x ∷ (xs ++ ys))) more ∙ ap (λ l. x ∷ l) (take_both xs ys k)

-- a list is all but its last, and its last
pub split_last : {X : Type 0} (xs : List X) (k : ℕ) (x : X) → length xs ≡ suc k → slice_get xs k ≡ Some x → xs ≡ take k xs ++ x ∷ []
split_last [] k x e is = absurd (omega arith)
split_last (y ∷ []) zero x e is = ap (λ z. z ∷ []) (same_Some y x is)
split_last (y ∷ z ∷ xs) zero x e is = absurd (omega arith)
split_last (y ∷ xs) (suc k) x e is = ap (λ l. y ∷ l) (split_last xs k x (omega arith) is)

all_but_last : (path segments : Path) (k : ℕ) → length segments ≡ suc k → take (length (path ++ segments) - 1) (path ++ segments) ≡ path ++ take k segments
all_but_last path segments k e =
    let long : length (path ++ segments) - 1 ≡ length path + k = omega (arith, length-append path segments, e) in
    ap (λ n. take n (path ++ segments)) long ∙ take_both path segments k

module _ (paths : List Path) (scope : Path) (name : NameString) (n : ℕ) (there : n < length paths) (found : option_map (path_at paths) (Some n) ≡ base_of scope name) where
  from_base : spelled scope name ≡ Some (path_at paths n ++ name.segs)
  from_base = ap (option_map (λ (base : Path). base ++ name.segs)) (sym found)

  below_base : (segments : Path) → number_below paths n segments ≡ path_number paths (path_at paths n ++ segments)
  below_base segments = number_below_at paths n (path_at paths n) segments (path_at_there paths n there)

  pub spelled_number : (count : ℕ) → count ≡ length name.segs → number_below paths n (take count name.segs) ≡ option_and_then (path_number paths) (spelled scope name)
  spelled_number count is =
      ap (number_below paths n) (take_all count name.segs (omega (arith, is)))
      ∙ below_base name.segs ∙ sym (ap (option_and_then (path_number paths)) from_base)

  pub leads_nowhere : (k : ℕ) → length name.segs ≡ suc k → number_below paths n (take k name.segs) ≡ None → LeadsTo paths Nowhere (spelled scope name)
  leads_nowhere k e none =
      subst (LeadsTo paths Nowhere) (sym from_base) (ap (path_number paths) (all_but_last (path_at paths n) name.segs k e) ∙ sym (below_base (take k name.segs)) ∙ none)

  pub leads_below : (k parent : ℕ) (segment : NameSeg) → length name.segs ≡ suc k → number_below paths n (take k name.segs) ≡ Some parent → slice_get name.segs k ≡ Some segment.bytes → LeadsTo paths (Below parent segment) (spelled scope name)
  leads_below k parent segment e is last =
      let at = path_number_there paths (path_at paths n ++ take k name.segs) parent (sym (below_base (take k name.segs)) ∙ is) in
      let whole = ap (λ l. path_at paths n ++ l) (split_last name.segs k segment.bytes e last) ∙ sym (append_assoc (path_at paths n) (take k name.segs) (segment.bytes ∷ [])) in (
        slice_get_within paths parent (path_at paths n ++ take k name.segs) at,
        from_base ∙ ap Some (whole ∙ ap (λ p. p ++ segment.bytes ∷ []) (sym (path_at_is paths parent (path_at paths n ++ take k name.segs) at))),
      )

-- Sizes that are computed, term by term.
use Rattle.std.proofs.Common.{◌≡◌, ◌+◌, ◌*◌, ◌<◌, ◌∙◌, ℕ, suc, List, ◌∷◌, Option, Some, None, true, false, length, drop, get_or, refl, sym, ap, add-one, drop-cons, arith}
use Rattle.std.specs.Option.{is_some, option_or}
use Rattle.aml_operators.specs.declared.term.Term.{Term}
use Rattle.aml_operators.specs.declared.term.Term.TheViews.{out-Term}
use Rattle.aml_operators.specs.Tree.{Tree, Trees, Node, more, view, views}
use Rattle.aml_operators.proofs.Views.{view_out}
use Rattle.aml_namespace.proofs.Weights.{lighter_item, weight, weights}
use Rattle.aml_contents.specs.BodyData.{computed_size, first_computed}

-- the parts of a term weigh less than the list in which it stands
pub lighter_parts : (ts : List Term) (i : ℕ) (t : Term) → i < length ts → t ≡ get_or ts i t → 2 * weights (views (out-Term t).parts.items) + 1 < 2 * weights (views ts)
lighter_parts ts i t lt is =
    let item = lighter_item ts i t lt is in
    let parts = ap weight (view_out t) in
    omega (arith, item, parts)

-- the size of a term by its tree
abbrev computed_in : Tree → Option ℕ
computed_in (Node o at stop parts) = computed_size o at parts

next_computed : (t : Tree) (ts : Trees) → first_computed (more t ts) ≡ option_or (computed_in t) (first_computed ts)
next_computed (Node o at stop parts) ts = refl

-- of the terms from one place on, the first is asked, and then the others
pub computed_from : (ts : List Term) (i : ℕ) (t : Term) → i < length ts → t ≡ get_or ts i t → first_computed (views (drop i ts)) ≡ option_or (computed_size (out-Term t).op (out-Term t).at (views (out-Term t).parts.items)) (first_computed (views (drop (i + 1) ts)))
computed_from ts i t lt e =
    let one : drop i ts ≡ t ∷ drop (i + 1) ts = drop-cons ts i t lt ∙ ap (λ x. x ∷ drop (suc i) ts) (sym e) ∙ ap (λ n. t ∷ drop n ts) (sym (add-one i)) in
    ap (λ (l : List Term). first_computed (views l)) one
    ∙ next_computed (view t) (views (drop (i + 1) ts))
    ∙ ap (λ (x : Tree). option_or (computed_in x) (first_computed (views (drop (i + 1) ts)))) (view_out t)

-- what is found first, or nothing
pub some_first : (o p : Option ℕ) → is_some o ≡ true → o ≡ option_or o p
some_first (Some n) p e = refl
some_first None p e = absurd cc

pub none_first : (o p : Option ℕ) → is_some o ≡ false → option_or o p ≡ p
none_first (Some n) p e = absurd cc
none_first None p e = refl

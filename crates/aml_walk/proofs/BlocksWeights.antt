-- How much of parts is left behind the first of them, and how much of a term its parts are.
use Rattle.std.proofs.Common.{◌≡◌, ℕ, ◌+◌, ◌<◌, ◌≤◌, List, [], ◌∷◌, length, get_or, drop, take, ◌-◌, refl, sym, ap, subst, arith}
use Rattle.std.proofs.lemmas.List.{take_rest}
use Rattle.aml_operators.specs.declared.term.Term.{Term}
use Rattle.aml_operators.specs.declared.term.Term.TheViews.{out-Term}
use Rattle.aml_operators.specs.Tree.{more, view, views}
use Rattle.aml_operators.proofs.Views.{view_out}
use Rattle.aml_namespace.proofs.Weights.{lighter_item, weight, weights, weight_of}

-- what is behind the first of some parts
abbrev pub behind : List Term → List Term
behind ts = take (length ts - 1) (drop 1 ts)

first_with : (ts rest : List Term) (t : Term) → 1 ≤ length ts → t ≡ get_or ts 0 t → rest ≡ drop 1 ts → views ts ≡ more (view t) (views rest)
first_with [] rest t some is same = absurd (omega (arith, some))
first_with (x ∷ xs) rest t some is same = λ i. more (view (sym is i)) (views (sym same i))

pub first_and : (ts : List Term) (t : Term) → 1 ≤ length ts → t ≡ get_or ts 0 t → views ts ≡ more (view t) (views (behind ts))
first_and ts t some is = first_with ts (behind ts) t some is (take_rest ts 1)

pub first_weighs : (ts : List Term) (t : Term) → 1 ≤ length ts → t ≡ get_or ts 0 t → weights (views ts) ≡ weight (view t) + weights (views (behind ts)) + 1
first_weighs ts t some is = ap weights (first_and ts t some is)

-- a term's own parts
pub parts_weigh : (t : Term) → weight (view t) ≡ weights (views (out-Term t).parts.items) + 2
parts_weigh t = ap weight (view_out t)

-- a term's parts weigh less than the list in which it stands
pub lighter_parts : (ts parts : List Term) (i : ℕ) (t : Term) → i < length ts → t ≡ get_or ts i t → parts ≡ (out-Term t).parts.items → weights (views parts) + 2 < weights (views ts)
lighter_parts ts parts i t lt is same =
    let a : weight (view t) < weights (views ts) = lighter_item ts i t lt is in
    let b : weight (view t) ≡ weights (views (out-Term t).parts.items) + 2 = parts_weigh t in
    let c : weights (views parts) ≡ weights (views (out-Term t).parts.items) = ap (λ (p : List Term). weights (views p)) same in
    omega (arith, a, b, c)

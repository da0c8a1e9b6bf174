-- How much parts weigh beside what they are parts of.
use Rattle.std.proofs.Common.{◌≡◌, ◌+◌, ◌≤◌, ℕ, zero, suc, List, [], ◌∷◌, drop, arith}
use Rattle.aml_operators.specs.declared.term.Term.{Term}
use Rattle.aml_operators.specs.declared.term.Term.TheViews.{out-Term}
use Rattle.aml_operators.specs.Tree.{view, views}
use Rattle.aml_operators.proofs.Views.{view_out}
use Rattle.aml_namespace.proofs.Weights.{weight, weights, weight_of}

-- the parts of a term
pub parts_and_two : (t : Term) → weights (views (out-Term t).parts.items) + 2 ≡ weight (view t)
parts_and_two t =
    let e = weight_of (view t) (views (out-Term t).parts.items) (out-Term t).op (out-Term t).at (out-Term t).end (view_out t) in
    omega (arith, e)

-- those behind some
pub lighter_behind : (ts : List Term) (n : ℕ) → weights (views (drop n ts)) ≤ weights (views ts)
lighter_behind ts zero = omega arith
lighter_behind [] (suc n) = omega arith
lighter_behind (t ∷ ts) (suc n) = let r = lighter_behind ts n in omega (arith, r)

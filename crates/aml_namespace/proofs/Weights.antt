-- How much of a tree is left: a number that falls as definitions go down it.
use Rattle.std.proofs.Common.{◌≡◌, ℕ, zero, suc, ◌+◌, ◌<◌, ◌≤◌, List, [], ◌∷◌, length, get_or, ap, arith}
use Rattle.aml_operators.specs.declared.term.Term.{Term}
use Rattle.aml_operators.specs.Tree.{Tree, Trees, Node, none, more, view, views}

abbrev mutual
  pub weight : Tree → ℕ
  weight (Node o at stop parts) = weights parts + 2

  pub weights : Trees → ℕ
  weights none = 0
  weights (more t ts) = weight t + weights ts + 1

lighter_at : (ts : List Term) (i : ℕ) (d : Term) → i < length ts → weight (view (get_or ts i d)) < weights (views ts)
lighter_at [] i d lt = absurd (omega arith)
lighter_at (t ∷ ts) zero d lt = omega arith
lighter_at (t ∷ ts) (suc i) d lt = let r = lighter_at ts i d (omega arith) in omega (arith, r)

-- a term weighs less than the list in which it stands
pub lighter_item : (ts : List Term) (i : ℕ) (t : Term) → i < length ts → t ≡ get_or ts i t → weight (view t) < weights (views ts)
lighter_item ts i t lt is = rw is (lighter_at ts i t lt)

-- the parts behind the first weigh no more than all
pub lighter_rest : (parts rest : Trees) (first : Tree) → parts ≡ more first rest → weights rest ≤ weights parts
lighter_rest parts rest first is = let e = ap weights is in omega (arith, e)

-- a tree by its parts
pub weight_of : (t parts : _) (o : _) (at stop : ℕ) → t ≡ Node o at stop parts → weight t ≡ weights parts + 2
weight_of t parts o at stop is = ap weight is

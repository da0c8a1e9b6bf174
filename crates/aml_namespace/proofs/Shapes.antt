-- The shape of the terms of a list, and the number of their parts.
use Rattle.std.proofs.Common.{◌≡◌, ℕ, zero, suc, ◌<◌, ◌≤◌, List, [], ◌∷◌, length, get_or, arith}
use Rattle.aml_operators.specs.declared.row.Code.TheVariants as code
use Rattle.aml_operators.specs.declared.row.Letter.{Letter}
use Rattle.aml_operators.specs.declared.row.Letter.TheVariants.{One, Sized, Package, Branch, Terms, Fields, Bytes}
use Rattle.aml_operators.specs.declared.term.Term.{Term}
use Rattle.aml_operators.specs.Shape.{AreShaped, GoBy, IsShaped}
use Rattle.aml_operators.specs.Tree.{view, views}

shaped_at : (ts : List Term) (i : ℕ) (d : Term) → i < length ts → AreShaped code.Module (views ts) → IsShaped code.Module (view (get_or ts i d))
shaped_at [] i d lt h = absurd (omega arith)
shaped_at (t ∷ ts) zero d lt h = h.0
shaped_at (t ∷ ts) (suc i) d lt h = shaped_at ts i d (omega arith) h.1

-- a term of a list has its shape
pub shaped_item : (ts : List Term) (i : ℕ) (t : Term) → AreShaped code.Module (views ts) → i < length ts → t ≡ get_or ts i t → IsShaped code.Module (view t)
shaped_item ts i t h lt is = rw is (shaped_at ts i t lt h)

-- how many parts letters name at the front of their parts
abbrev pub front_count : List Letter → ℕ
front_count [] = 0
front_count (One p ∷ letters) = suc (front_count letters)
front_count (Sized limit ∷ letters) = suc (front_count letters)
front_count (Package ∷ letters) = front_count letters
front_count (Branch ∷ letters) = 0
front_count (Terms s ∷ letters) = 0
front_count (Fields ∷ letters) = 0
front_count (Bytes ∷ letters) = 0

-- letters name no more parts than there are
pub least_parts : (letters : List Letter) (ts : List Term) → GoBy code.Module letters (views ts) → front_count letters ≤ length ts
least_parts [] ts h = omega arith
least_parts (One p ∷ letters) [] h = absurd h
least_parts (One p ∷ letters) (t ∷ ts) h = let r = least_parts letters ts h.1 in omega (arith, r)
least_parts (Sized limit ∷ letters) [] h = absurd h
least_parts (Sized limit ∷ letters) (t ∷ ts) h = let r = least_parts letters ts h.1 in omega (arith, r)
least_parts (Package ∷ letters) ts h = least_parts letters ts h
least_parts (Branch ∷ letters) ts h = omega arith
least_parts (Terms s ∷ letters) ts h = omega arith
least_parts (Fields ∷ letters) ts h = omega arith
least_parts (Bytes ∷ letters) ts h = omega arith

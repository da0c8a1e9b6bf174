-- Parts of a known number.
use Rattle.std.proofs.Common.{◌≡◌, ◌<◌, ◌≤◌, List, [], ◌∷◌, length, get_or, arith, ap, sym}
use Rattle.aml_operators.specs.declared.term.Term.{Term}
use Rattle.aml_operators.specs.Tree.{more, none, view, views}

pub one_part : (ts : List Term) (t : Term) → 1 ≤ length ts → length ts < 2 → t ≡ get_or ts 0 t → views ts ≡ more (view t) none
one_part [] t some below is = absurd (omega (arith, some))
one_part (x ∷ []) t some below is = ap (λ y. more (view y) none) (sym is)
one_part (x ∷ y ∷ others) t some below is = absurd (omega (arith, below))

pub two_parts : (ts : List Term) (s t : Term) → 2 ≤ length ts → length ts < 3 → s ≡ get_or ts 0 s → t ≡ get_or ts 1 t → views ts ≡ more (view s) (more (view t) none)
two_parts [] s t some below is at = absurd (omega (arith, some))
two_parts (x ∷ []) s t some below is at = absurd (omega (arith, some))
two_parts (x ∷ y ∷ []) s t some below is at = λ i. more (view (sym is i)) (more (view (sym at i)) none)
two_parts (x ∷ y ∷ z ∷ others) s t some below is at = absurd (omega (arith, below))

-- the first of two, and another
pub some_two : (ts : List Term) (s : Term) → 2 ≤ length ts → length ts < 3 → s ≡ get_or ts 0 s → (t : Term) × (views ts ≡ more (view s) (more (view t) none))
some_two [] s some below is = absurd (omega (arith, some))
some_two (x ∷ []) s some below is = absurd (omega (arith, some))
some_two (x ∷ y ∷ []) s some below is = (y, λ i. more (view (sym is i)) (more (view y) none))
some_two (x ∷ y ∷ z ∷ others) s some below is = absurd (omega (arith, below))

-- What `_OSI` answers of the values of its arguments.
use Rattle.std.proofs.Common.{◌≡◌, ◌<◌, ◌≤◌, ℕ, List, [], ◌∷◌, map, length, get_or, arith, refl, ap, sym}
use Rattle.aml_values.specs.declared.value.Value as program
use Rattle.aml_values.specs.Views.{view}
use Rattle.aml_meaning.specs.Meaning.{Setting, interface_asked, outside}

-- a value that is the only one
pub one_given : (values : List program.Value) (v : program.Value) → 1 ≤ length values → length values < 2 → v ≡ get_or values 0 v → map view values ≡ view v ∷ []
one_given [] v some below is = absurd (omega (arith, some))
one_given (x ∷ []) v some below is = ap (λ y. view y ∷ []) (sym is)
one_given (x ∷ y ∷ more) v some below is = absurd (omega (arith, below))

-- another number of them
pub other_given : (here : Setting) (at from : ℕ) (values : List program.Value) → (length values ≡ 1 → ⊥) → interface_asked here at from (map view values) ≡ outside here at
other_given here at from [] differs = refl
other_given here at from (x ∷ []) differs = absurd (differs refl)
other_given here at from (x ∷ y ∷ more) differs = refl

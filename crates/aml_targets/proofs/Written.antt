-- The parts of an operator that are targets.
use Rattle.std.proofs.Common.{◌≡◌, ℕ, List, [], ◌∷◌, length, drop, refl, sym, ap, ◌∙◌, arith}
use Rattle.std.specs.Prelude.{Bool, false, ◌||◌}
use Rattle.aml_operators.specs.declared.term.Term.{Term}
use Rattle.aml_operators.specs.Tree.{view, views}
use Rattle.aml_meaning.specs.declared.action.Action.{Action}
use Rattle.aml_meaning.specs.declared.action.Action.TheVariants as does
use Rattle.aml_bounds.specs.Shapes.{acts, targets}
use Rattle.aml_targets.specs.Marks.{acts_in}
use Rattle.aml_targets.proofs.Added.{or_false}

-- what parts are taken of just so many
pub record Taken (count first : ℕ) (ts taken : List Term) : Type 0 where
  pub some : length ts ≡ count → taken ≡ drop first ts
  pub others : (length ts ≡ count → ⊥) → taken ≡ []

-- operators whose only part is a target, the second of two, or the third of three
abbrev pub IsChanged : Action → Type 0
IsChanged (does.ByOne f) = Unit {0}
IsChanged a = ⊥

abbrev pub IsOfTwo : Action → Type 0
IsOfTwo (does.Unary f) = Unit {0}
IsOfTwo (does.Convert f) = Unit {0}
IsOfTwo does.Store = Unit {0}
IsOfTwo does.CondRefOf = Unit {0}
IsOfTwo a = ⊥

abbrev pub IsOfThree : Action → Type 0
IsOfThree (does.Binary f) = Unit {0}
IsOfThree does.Concatenate = Unit {0}
IsOfThree does.Index = Unit {0}
IsOfThree a = ⊥

module _ (is : Action → Bool) where
  one_taken : (t : Term) (taken : List Term) → taken ≡ t ∷ [] → acts is (view t) ≡ acts_in is (views taken)
  one_taken t taken e = sym (ap (λ ts. acts_in is (views ts)) e ∙ or_false (acts is (view t)))

  two_taken : (t u : Term) (taken : List Term) → taken ≡ t ∷ u ∷ [] → (acts is (view t) || acts is (view u)) ≡ acts_in is (views taken)
  two_taken t u taken e = sym (ap (λ ts. acts_in is (views ts)) e ∙ ap (λ b. acts is (view t) || b) (or_false (acts is (view u))))

  none_taken : (taken : List Term) → taken ≡ [] → false ≡ acts_in is (views taken)
  none_taken taken e = sym (ap (λ ts. acts_in is (views ts)) e)

  pub changed : (a : Action) (ts taken : List Term) → IsChanged a → Taken 1 0 ts taken → targets is a (views ts) ≡ acts_in is (views taken)
  changed (does.ByOne f) [] taken u t = none_taken taken (t.others (λ e. omega (arith, e)))
  changed (does.ByOne f) (v ∷ []) taken u t = one_taken v taken (t.some refl)
  changed (does.ByOne f) (v ∷ w ∷ ts) taken u t = none_taken taken (t.others (λ e. omega (arith, e)))
  changed a ts taken u t = absurd u

  pub second_of_two : (a : Action) (ts taken : List Term) → IsOfTwo a → Taken 2 1 ts taken → targets is a (views ts) ≡ acts_in is (views taken)
  second_of_two (does.Unary f) [] taken u t = none_taken taken (t.others (λ e. omega (arith, e)))
  second_of_two (does.Unary f) (v ∷ []) taken u t = none_taken taken (t.others (λ e. omega (arith, e)))
  second_of_two (does.Unary f) (v ∷ w ∷ []) taken u t = one_taken w taken (t.some refl)
  second_of_two (does.Unary f) (v ∷ w ∷ x ∷ ts) taken u t = none_taken taken (t.others (λ e. omega (arith, e)))
  second_of_two (does.Convert f) [] taken u t = none_taken taken (t.others (λ e. omega (arith, e)))
  second_of_two (does.Convert f) (v ∷ []) taken u t = none_taken taken (t.others (λ e. omega (arith, e)))
  second_of_two (does.Convert f) (v ∷ w ∷ []) taken u t = one_taken w taken (t.some refl)
  second_of_two (does.Convert f) (v ∷ w ∷ x ∷ ts) taken u t = none_taken taken (t.others (λ e. omega (arith, e)))
  second_of_two does.Store [] taken u t = none_taken taken (t.others (λ e. omega (arith, e)))
  second_of_two does.Store (v ∷ []) taken u t = none_taken taken (t.others (λ e. omega (arith, e)))
  second_of_two does.Store (v ∷ w ∷ []) taken u t = one_taken w taken (t.some refl)
  second_of_two does.Store (v ∷ w ∷ x ∷ ts) taken u t = none_taken taken (t.others (λ e. omega (arith, e)))
  second_of_two does.CondRefOf [] taken u t = none_taken taken (t.others (λ e. omega (arith, e)))
  second_of_two does.CondRefOf (v ∷ []) taken u t = none_taken taken (t.others (λ e. omega (arith, e)))
  second_of_two does.CondRefOf (v ∷ w ∷ []) taken u t = one_taken w taken (t.some refl)
  second_of_two does.CondRefOf (v ∷ w ∷ x ∷ ts) taken u t = none_taken taken (t.others (λ e. omega (arith, e)))
  second_of_two a ts taken u t = absurd u

  pub third_of_three : (a : Action) (ts taken : List Term) → IsOfThree a → Taken 3 2 ts taken → targets is a (views ts) ≡ acts_in is (views taken)
  third_of_three (does.Binary f) [] taken u t = none_taken taken (t.others (λ e. omega (arith, e)))
  third_of_three (does.Binary f) (v ∷ []) taken u t = none_taken taken (t.others (λ e. omega (arith, e)))
  third_of_three (does.Binary f) (v ∷ w ∷ []) taken u t = none_taken taken (t.others (λ e. omega (arith, e)))
  third_of_three (does.Binary f) (v ∷ w ∷ x ∷ []) taken u t = one_taken x taken (t.some refl)
  third_of_three (does.Binary f) (v ∷ w ∷ x ∷ y ∷ ts) taken u t = none_taken taken (t.others (λ e. omega (arith, e)))
  third_of_three does.Concatenate [] taken u t = none_taken taken (t.others (λ e. omega (arith, e)))
  third_of_three does.Concatenate (v ∷ []) taken u t = none_taken taken (t.others (λ e. omega (arith, e)))
  third_of_three does.Concatenate (v ∷ w ∷ []) taken u t = none_taken taken (t.others (λ e. omega (arith, e)))
  third_of_three does.Concatenate (v ∷ w ∷ x ∷ []) taken u t = one_taken x taken (t.some refl)
  third_of_three does.Concatenate (v ∷ w ∷ x ∷ y ∷ ts) taken u t = none_taken taken (t.others (λ e. omega (arith, e)))
  third_of_three does.Index [] taken u t = none_taken taken (t.others (λ e. omega (arith, e)))
  third_of_three does.Index (v ∷ []) taken u t = none_taken taken (t.others (λ e. omega (arith, e)))
  third_of_three does.Index (v ∷ w ∷ []) taken u t = none_taken taken (t.others (λ e. omega (arith, e)))
  third_of_three does.Index (v ∷ w ∷ x ∷ []) taken u t = one_taken x taken (t.some refl)
  third_of_three does.Index (v ∷ w ∷ x ∷ y ∷ ts) taken u t = none_taken taken (t.others (λ e. omega (arith, e)))
  third_of_three a ts taken u t = absurd u

  pub last_of_four : (ts taken : List Term) → Taken 4 2 ts taken → targets is does.Divide (views ts) ≡ acts_in is (views taken)
  last_of_four [] taken t = none_taken taken (t.others (λ e. omega (arith, e)))
  last_of_four (v ∷ []) taken t = none_taken taken (t.others (λ e. omega (arith, e)))
  last_of_four (v ∷ w ∷ []) taken t = none_taken taken (t.others (λ e. omega (arith, e)))
  last_of_four (v ∷ w ∷ x ∷ []) taken t = none_taken taken (t.others (λ e. omega (arith, e)))
  last_of_four (v ∷ w ∷ x ∷ y ∷ []) taken t = two_taken x y taken (t.some refl)
  last_of_four (v ∷ w ∷ x ∷ y ∷ z ∷ ts) taken t = none_taken taken (t.others (λ e. omega (arith, e)))

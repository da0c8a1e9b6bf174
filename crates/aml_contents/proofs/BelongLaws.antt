-- Going over the names of a namespace.
use Rattle.std.proofs.Common.{◌≡◌, ◌<◌, ◌≤◌, ◌+◌, ◌⊎◌, ◌∙◌, ◌∷◌, ℕ, zero, suc, Bool, true, [], length, Option, Some, None, refl, sym, subst, ap, arith, inl, inr}
use Rattle.std.proofs.Math.Nat.{eq-or-lt_of_le}
use Rattle.aml_objects.specs.Entries.{Entries, object_at, own_object}
use Rattle.aml_namespace.specs.Load.{Shown}
use Rattle.aml_kinds.specs.Kinds.{Kind}
use Rattle.aml_kinds.specs.SameKinds.{same_content_kind}
use Rattle.aml_kinds.proofs.SameKinds.{kind_same, same_kind-equal}
use Rattle.aml_contents.specs.Belongs.{Belong}
use Rattle.aml_contents.specs.Contents.{ContentKinds, kind_at}
use Rattle.aml_contents.specs.DataKinds.{object_kind}
use Rattle.aml_contents.specs.FirstContents.{first_content}
use Rattle.aml_contents.specs.FirstKinds.{first_kind, greatest_of}
use Rattle.aml_contents.proofs.DataKinds.{object_told}
use Rattle.aml_contents.proofs.FirstNames.{kinds_in}

latest : (f : ℕ → Bool) (i k : ℕ) → ((j : ℕ) → j < i → f j ≡ true) → f i ≡ true → (k ≡ i) ⊎ (k < i) → f k ≡ true
latest f i k before this (inl same) = subst (λ n. f n ≡ true) (sym same) this
latest f i k before this (inr below) = before k below

-- what holds of the numbers below one, and of that one, holds of those below the next
pub further : (f : ℕ → Bool) (i : ℕ) → ((k : ℕ) → k < i → f k ≡ true) → f i ≡ true → (k : ℕ) → k < i + 1 → f k ≡ true
further f i before this k h =
    let le : k ≤ i = omega (arith, h) in latest f i k before this (eq-or-lt_of_le le)

content_kind-equal : (j k : Option Kind) → same_content_kind j k ≡ true → j ≡ k
content_kind-equal (Some j) (Some k) e = ap Some (same_kind-equal j k e)
content_kind-equal None None e = refl
content_kind-equal j k e = cc

content_kind_same : (k : Option Kind) → same_content_kind k k ≡ true
content_kind_same (Some k) = kind_same k
content_kind_same None = refl

module _ (ns : Shown) where
  -- whether the kind with a number is that of the object's content
  abbrev pub is_kind_there : Entries → ContentKinds → ℕ → Bool
  is_kind_there entries kinds i = same_content_kind (kind_at kinds i) (object_kind ns (object_at entries i))

  all_there : (kinds : ContentKinds) (entries : Entries) → length kinds ≡ length entries → ((k : ℕ) → k < length kinds → is_kind_there entries kinds k ≡ true) → kinds ≡ kinds_in ns entries
  all_there [] [] many each = refl
  all_there [] (e ∷ entries) many each = absurd (omega (arith, many))
  all_there (k ∷ kinds) [] many each = absurd (omega (arith, many))
  all_there (k ∷ kinds) (e ∷ entries) many each =
      let o = own_object e.1 in
      let first : k ≡ first_kind (greatest_of ns.width) (first_content ns o) = content_kind-equal k (object_kind ns o) (each 0 (omega arith)) ∙ sym (object_told ns o) in
      let rest : kinds ≡ kinds_in ns entries = all_there kinds entries (omega (arith, many)) (λ i lt. each (suc i) (omega (arith, lt))) in
      ap (λ x. x ∷ kinds) first ∙ ap (λ (x : ContentKinds). first_kind (greatest_of ns.width) (first_content ns o) ∷ x) rest

  -- where all are looked at, the names belong to the namespace
  pub all_belong : (kinds : ContentKinds) (n : ℕ) → length kinds ≡ length ns.entries → length kinds ≤ n → ((k : ℕ) → k < n → is_kind_there ns.entries kinds k ≡ true) → Belong ns kinds
  all_belong kinds n as_many all each =
      all_there kinds ns.entries as_many (λ k lt. each k (omega (arith, lt, all)))

  kind_there : (entries : Entries) (i : ℕ) → is_kind_there entries (kinds_in ns entries) i ≡ true
  kind_there [] i = refl
  kind_there (e ∷ entries) zero =
      ap (λ x. same_content_kind x (object_kind ns (own_object e.1))) (object_told ns (own_object e.1)) ∙ content_kind_same (object_kind ns (own_object e.1))
  kind_there (e ∷ entries) (suc i) = kind_there entries i

  -- where names belong, each is of its kind
  pub belong_there : (kinds : ContentKinds) (i : ℕ) → Belong ns kinds → is_kind_there ns.entries kinds i ≡ true
  belong_there kinds i is =
      ap (λ (x : ContentKinds). is_kind_there ns.entries x i) is ∙ kind_there ns.entries i

-- Terms are asked one by one whether they evaluate integers alone.
use Rattle.std.proofs.Common.{◌≡◌, ◌+◌, ◌<◌, ◌≤◌, ℕ, List, length, drop, get_or, refl, ap}
use Rattle.std.specs.Prelude.{Bool, true, false, ◌&&◌}
use Rattle.std.proofs.lemmas.List.{at_drop_all}
use Rattle.aml_operators.specs.declared.term.Term.{Term}
use Rattle.aml_operators.specs.Tree.{Trees, none, more, view, views}
use Rattle.aml_meaning.specs.declared.action.Action.{Action}
use Rattle.aml_meaning.specs.declared.action.Action.TheVariants.{Acquire, Concatenate, CondRefOf, Convert, Data, Dereference, Index, Invoke, Name, Notify, Release, SizeOf}
use Rattle.aml_meaning.specs.declared.action.Conversion.TheVariants as conversion
use Rattle.aml_meaning.specs.Within.{Callee, Methods}
use Rattle.aml_contents.specs.Contents.{ContentKinds}
use Rattle.aml_bounds.proofs.OneByOne.{views_at}
use Rattle.aml_judged.specs.Integers.{integers, integers_by, integers_in}

-- operators of which each part is asked
abbrev pub IsPlain : Action → Type 0
IsPlain (Data o) = ⊥
IsPlain Concatenate = ⊥
IsPlain SizeOf = ⊥
IsPlain Dereference = ⊥
IsPlain Index = ⊥
IsPlain (Convert conversion.ToBuffer) = ⊥
IsPlain Name = ⊥
IsPlain Invoke = ⊥
IsPlain CondRefOf = ⊥
IsPlain Notify = ⊥
IsPlain Acquire = ⊥
IsPlain Release = ⊥
IsPlain a = Unit {0}

module _ (methods : Methods) (m : Callee) (kinds : ContentKinds) (only : ℕ → Bool) where
  pub plain_alone : (a : Action) (at : ℕ) (ts : Trees) → IsPlain a → integers_by methods m kinds only a at ts ≡ integers_in methods m kinds only ts
  plain_alone (Data o) at ts u = absurd u
  plain_alone Concatenate at ts u = absurd u
  plain_alone SizeOf at ts u = absurd u
  plain_alone Dereference at ts u = absurd u
  plain_alone Index at ts u = absurd u
  plain_alone (Convert conversion.ToBuffer) at ts u = absurd u
  plain_alone Name at ts u = absurd u
  plain_alone Invoke at ts u = absurd u
  plain_alone CondRefOf at ts u = absurd u
  plain_alone Notify at ts u = absurd u
  plain_alone Acquire at ts u = absurd u
  plain_alone Release at ts u = absurd u
  plain_alone a at none u = refl
  plain_alone a at (more t ts) u = refl

  -- the first of those that are left, and those behind it
  pub next_alone : (ts : List Term) (i : ℕ) (t : Term) → i < length ts → t ≡ get_or ts i t → integers_in methods m kinds only (views (drop i ts)) ≡ (integers methods m kinds only (view t) && integers_in methods m kinds only (views (drop (i + 1) ts)))
  next_alone ts i t lt is = ap (integers_in methods m kinds only) (views_at ts i t lt is)

  pub none_left : (ts : List Term) (i : ℕ) → length ts ≤ i → integers_in methods m kinds only (views (drop i ts)) ≡ true
  none_left ts i le = ap (integers_in methods m kinds only) (at_drop_all views ts i le)

pub first_fails : (p q : Bool) → p ≡ false → (p && q) ≡ false
first_fails true q e = absurd cc
first_fails false q e = refl

pub first_holds : (p q : Bool) → p ≡ true → (p && q) ≡ q
first_holds true q e = refl
first_holds false q e = absurd cc

-- An answer to which methods are accepted, by the lengths of the chains that begin with them.
use Rattle.std.proofs.Common.{◌≡◌, ℕ, zero, suc, List, Option, None, refl, sym, ap, ◌∙◌}
use Rattle.std.specs.Prelude.{Bool, true, false, if◌then◌else◌}
use Rattle.aml_calls.specs.Chains.{is_among, is_short}
use Rattle.aml_calls.proofs.Among.{among_all}
use Rattle.aml_calls.proofs.ChainLaws.{short_up}
use Rattle.aml_judged.specs.Judged.{Accepted}
use Rattle.aml_judged.specs.Verdicts.{accepted_of, called_from, Judging, verdict_by}
use Rattle.aml_judged.proofs.Order.{local_verdict, long_refused}
use Rattle.aml_verdict_laws.specs.Laws.{VerdictsAreThere}

-- what a method calls has shorter chains
shorter : (calls : ℕ → List ℕ) (d k j : ℕ) → is_short calls (suc d) k ≡ true → is_among j (calls k) ≡ true → is_short calls d j ≡ true
unfolding is_short
shorter calls d k j e among = among_all (is_short calls d) j (calls k) among e

-- no chain has no method at all
never_short : (calls : ℕ → List ℕ) (k : ℕ) → is_short calls 0 k ≡ true → ⊥
unfolding is_short
never_short calls k e = absurd cc

then_same : {X : Type 0} (b : Bool) (x y : X) → b ≡ true → (if b then x else y) ≡ x
then_same true x y e = refl
then_same false x y e = absurd cc

else_same : {X : Type 0} (b : Bool) (x y : X) → b ≡ false → (if b then x else y) ≡ y
else_same true x y e = absurd cc
else_same false x y e = refl

module _ (all : Judging) where
  -- what is known behind so many rounds of judging all methods anew
  within : ℕ → ℕ → Option Accepted
  within zero k = None
  within (suc d) k = accepted_of (verdict_by all (within d) k (all.methods.callee k))

  -- one round more tells the same of a method with shorter chains than that
  stable : (d k : ℕ) → is_short (called_from all) d k ≡ true → within d k ≡ within (suc d) k
  unfolding within
  stable zero k e = absurd (never_short (called_from all) k e)
  stable (suc d) k e =
      ap accepted_of (local_verdict all (within d) (within (suc d)) k
      (λ j among. stable d j (shorter (called_from all) d k j e among)) (all.methods.callee k))

  module _ (d : ℕ) where
    -- of those with longer chains none is accepted
    known : ℕ → Option Accepted
    known k = if is_short (called_from all) (suc d) k then within (suc d) k else None

    known_short : (k : ℕ) → is_short (called_from all) (suc d) k ≡ true → known k ≡ within (suc d) k
    unfolding known
    known_short k e = then_same (is_short (called_from all) (suc d) k) (within (suc d) k) None e

    known_long : (k : ℕ) → is_short (called_from all) (suc d) k ≡ false → known k ≡ None
    unfolding known
    known_long k e = else_same (is_short (called_from all) (suc d) k) (within (suc d) k) None e

    judged : (k : ℕ) → within (suc d) k ≡ accepted_of (verdict_by all (within d) k (all.methods.callee k))
    unfolding within
    judged k = refl

    known_by : (k : ℕ) → is_short (called_from all) (suc d) k ≡ true → known k ≡ accepted_of (verdict_by all known k (all.methods.callee k))
    known_by k e =
        known_short k e ∙ judged k ∙
        ap accepted_of (local_verdict all (within d) known k (λ j among. same j (shorter (called_from all) d k j e among)) (all.methods.callee k))
      where
        same : (j : ℕ) → is_short (called_from all) d j ≡ true → within d j ≡ known j
        same j f = stable d j f ∙ sym (known_short j (short_up (called_from all) d j f))

  known_all : (k : ℕ) (t : Bool) → is_short (called_from all) 64 k ≡ t → known 63 k ≡ accepted_of (verdict_by all (known 63) k (all.methods.callee k))
  known_all k true e = known_by 63 k e
  known_all k false e = known_long 63 k e ∙ sym (long_refused all (known 63) k (all.methods.callee k) e)

pub verdicts_are_there : VerdictsAreThere
verdicts_are_there all = record {
  known = known all 63;
  are = record { each = λ k. known_all all k (is_short (called_from all) 64 k) refl };
}

-- Exits may be joined as they come, and costs added: what is judged in place is what is judged by parts.
use Rattle.std.proofs.Common.{◌≡◌, ℕ, ◌+◌, min, List, [], ◌∷◌, Option, Some, None, refl, sym, ap, subst, arith}
use Rattle.std.specs.Prelude.{Bool, true, false, if◌then◌else◌}
use Rattle.aml_kinds.specs.Joins.{join}
use Rattle.aml_kinds.proofs.JoinLaws.{join_assoc}
use Rattle.aml_judged.specs.Known.{Slot, join_slot, join_slots, Held, These, Different, same_mutexes, join_held, Env, pick, join_env}
use Rattle.aml_judged.proofs.Levels.{mutexes_equal}
use Rattle.aml_judged.specs.Judged.{Exits, either, join_exits, Judged, Goes, Stops, after}

slot_assoc : (a b c : Slot) → join_slot (join_slot a b) c ≡ join_slot a (join_slot b c)
slot_assoc (Some i) (Some j) (Some k) = ap Some (join_assoc i j k)
slot_assoc (Some i) (Some j) None = refl
slot_assoc (Some i) None c = refl
slot_assoc None b c = refl

slots_assoc : (a b c : List Slot) → join_slots (join_slots a b) c ≡ join_slots a (join_slots b c)
slots_assoc [] b c = refl
slots_assoc (x ∷ a) [] c = refl
slots_assoc (x ∷ a) (y ∷ b) [] = refl
slots_assoc (x ∷ a) (y ∷ b) (z ∷ c) = λ i. slot_assoc x y z i ∷ slots_assoc a b c i

held_assoc : (a b c : Held) → join_held (join_held a b) c ≡ join_held a (join_held b c)
held_assoc (These a) (These b) (These c) = by (same_mutexes a b) (same_mutexes b c) refl refl
  where
    by : (p q : Bool) → same_mutexes a b ≡ p → same_mutexes b c ≡ q → join_held (if p then These a else Different) (These c) ≡ join_held (These a) (if q then These b else Different)
    by true true e f = let same = mutexes_equal a b e in rw (e, subst (λ l. same_mutexes l c ≡ true) (sym same) f) refl
    by true false e f = let same = mutexes_equal a b e in rw (subst (λ l. same_mutexes l c ≡ false) (sym same) f) refl
    by false true e f = rw e refl
    by false false e f = refl
held_assoc (These a) (These b) Different = by (same_mutexes a b)
  where
    by : (p : Bool) → join_held (if p then These a else Different) Different ≡ Different
    by true = refl
    by false = refl
held_assoc (These a) Different c = refl
held_assoc Different b c = refl

least_assoc : (a b c : ℕ) → min (min a b) c ≡ min a (min b c)
least_assoc a b c = omega arith

env_assoc : (a b c : Env) → join_env (join_env a b) c ≡ join_env a (join_env b c)
env_assoc a b c = by a.counts b.counts c.counts refl refl refl
  where
    by : (x y z : Bool) → a.counts ≡ x → b.counts ≡ y → c.counts ≡ z → pick (pick x y a b).counts z (pick x y a b) c ≡ pick x (pick y z b c).counts a (pick y z b c)
    by true true true e f g = rw (e, f) (λ i. record { locals = slots_assoc a.locals b.locals c.locals i; args = slots_assoc a.args b.args c.args i; held = held_assoc a.held b.held c.held i; counts = true; looped = a.looped })
    by true true false e f g = rw (e, f) refl
    by true false true e f g = rw (e, g) refl
    by true false false e f g = rw (e, f) refl
    by false true true e f g = rw f refl
    by false true false e f g = rw f refl
    by false false true e f g = rw (e, g) refl
    by false false false e f g = rw (e, f) (λ i. record { locals = slots_assoc a.locals b.locals c.locals i; args = slots_assoc a.args b.args c.args i; held = a.held; counts = false; looped = a.looped })

either_assoc : {X : Type 0} (f : X → X → X) → ((a b c : X) → f (f a b) c ≡ f a (f b c)) → (a b c : Option X) → either f (either f a b) c ≡ either f a (either f b c)
either_assoc f h (Some a) (Some b) (Some c) = ap Some (h a b c)
either_assoc f h (Some a) (Some b) None = refl
either_assoc f h (Some a) None (Some c) = refl
either_assoc f h (Some a) None None = refl
either_assoc f h None b c = refl

pub exits_assoc : (x y z : Exits) → join_exits (join_exits x y) z ≡ join_exits x (join_exits y z)
exits_assoc x y z = λ i. record {
  broke = either_assoc join_env env_assoc x.broke y.broke z.broke i;
  continued = either_assoc join_env env_assoc x.continued y.continued z.continued i;
  returned = either_assoc join join_assoc x.returned y.returned z.returned i;
  least = either_assoc min least_assoc x.least y.least z.least i;
}

pub after_after : {K : Type 0} (x y : Exits) (n m : ℕ) (j : Judged K) → after x n (after y m j) ≡ after (join_exits x y) (n + m) j
after_after x y n m (Goes k env z c) = let e : n + (m + c) ≡ n + m + c = omega arith in λ i. Goes k env (sym (exits_assoc x y z) i) (e i)
after_after x y n m (Stops r) = refl

-- What a fine evaluation lends to its parts, whichever scripts fit.
use Rattle.std.proofs.Common.{◌≡◌, ℕ, zero, suc, List, Result, Ok, Err, refl, subst}
use Rattle.std.specs.Prelude.{Bool, true, false, if◌then◌else◌}
use Rattle.aml_regions.specs.Events.{Event}
use Rattle.aml_meaning.specs.declared.error.AmlError.{AmlError}
use Rattle.aml_meaning.specs.State.{State, Error, Returned, Broke, Continued, Out, Goes, Halts, NoAnswer, Spent, with_steps}
use Rattle.aml_meaning.specs.Parts.{M, Effect, ◌>>=◌, give, stop_with, lift, tick, paid, take_step, then_do}
use Rattle.aml_meaning.specs.Runs.{Halt, NoMemory, OutOfSteps, By, IsPrefix, Runs}
use Rattle.aml_meaning.proofs.Runs.{prefix_refl, prefix_trans, whole, stopped_whole}
use Rattle.aml_judged.specs.Fine.{IsGood}
use Rattle.aml_fine.specs.Fine.{AreGood, FineOver, IsSure}

first_good : {V W : Type 0} (o : Out V) (f : V → State → Out W) → IsGood (then_do o f) → IsGood o
first_good (Goes v s) f h = tt
first_good (Halts (Error e) s) f h = h
first_good (Halts (Returned v) s) f h = tt
first_good (Halts (Broke at) s) f h = tt
first_good (Halts (Continued at) s) f h = tt
first_good (NoAnswer s) f h = tt
first_good (Spent s) f h = h

-- on without the value
abbrev dropped : {V : Type 0} → V → State → Out (Unit {0})
dropped v s = Goes tt s

dropped_good : {V : Type 0} (o : Out V) → IsGood o → IsGood (then_do o dropped)
dropped_good (Goes v s) h = tt
dropped_good (Halts (Error e) s) h = h
dropped_good (Halts (Returned v) s) h = tt
dropped_good (Halts (Broke at) s) h = tt
dropped_good (Halts (Continued at) s) h = tt
dropped_good (NoAnswer s) h = tt
dropped_good (Spent s) h = h

-- a step alone pays for nothing
abbrev ticked : List Event → State → Out (Unit {0})
ticked script s = Goes tt s

-- a step that is good is left, and what it pays for is good
step_good : {U V : Type 0} (Fits : List Event → Type 0) (n : ℕ) (s : State) (effect : List Event → State → Out U) (after : List Event → Out U → Out V) → ((script : List Event) → IsGood (after script (Spent s)) → ⊥) → Fits s.log → AreGood Fits s (λ script. after script (take_step n s (effect script))) → (k : ℕ) × (n ≡ suc k) × AreGood Fits s (λ script. after script (effect script (with_steps s k)))
step_good Fits zero s effect after spent w h = absurd (spent s.log (h s.log (prefix_refl s.log) w))
step_good Fits (suc k) s effect after spent w h = (k, refl, h)

module _ (Fits : List Event → Type 0) where
  pub over_first : {V W : Type 0} (m : M V) (f : V → M W) (s : State) → FineOver Fits (m >>= f) s → FineOver Fits m s
  unfolding ◌>>=◌
  over_first m f s h = record { words = h.words; runs = λ script pre w. first_good (m.run script s) _ (h.runs script pre w) }

  pub over_next : {V W : Type 0} (m : M V) (f : V → M W) (s s1 : State) (v : V) → FineOver Fits (m >>= f) s → Runs (Ok v) m s s1 → Fits s1.log → FineOver Fits (f v) s1
  unfolding ◌>>=◌
  over_next m f s s1 v h r fits = record {
    words = fits;
    runs = λ script pre w. rw (whole m s s1 v script r pre) at (h.runs script (prefix_trans _ _ _ r.grows pre) w);
  }

  pub over_tick : {V : Type 0} (f : Unit {0} → M V) (s : State) → FineOver Fits (tick >>= f) s → (k : ℕ) × (s.steps ≡ suc k) × FineOver Fits (f tt) (with_steps s k)
  unfolding ◌>>=◌ tick paid
  over_tick f s h =
      let q = step_good Fits s.steps s ticked (λ script o. then_do o (λ u next. (f u).run script next)) (λ script x. x) h.words h.runs in
      (q.0, q.1, record { words = h.words; runs = q.2 })

  -- where a part begins with a step inside another
  pub over_steps : {V W : Type 0} (f : Unit {0} → M V) (g : V → M W) (s : State) → FineOver Fits (tick >>= f >>= g) s → (k : ℕ) × (s.steps ≡ suc k) × FineOver Fits (f tt >>= g) (with_steps s k)
  unfolding ◌>>=◌ tick paid
  over_steps f g s h =
      let q = step_good Fits s.steps s ticked (λ script o. then_do (then_do o (λ u next. (f u).run script next)) (λ v next. (g v).run script next)) (λ script x. x) h.words h.runs in
      (q.0, q.1, record { words = h.words; runs = q.2 })

  pub over_paid : {V : Type 0} (effect : Effect V) (s : State) → FineOver Fits (paid effect) s → (k : ℕ) × (s.steps ≡ suc k) × AreGood Fits s (λ script. effect.run script (with_steps s k))
  unfolding paid
  over_paid effect s h = step_good Fits s.steps s effect.run (λ script o. o) (λ script x. x) h.words h.runs

  pub over_paid_first : {V W : Type 0} (effect : Effect V) (f : V → M W) (s : State) → FineOver Fits (paid effect >>= f) s → (k : ℕ) × (s.steps ≡ suc k) × AreGood Fits s (λ script. effect.run script (with_steps s k))
  over_paid_first effect f s h = over_paid effect s (over_first (paid effect) f s h)

  -- an error is never fine
  pub over_stop : {V : Type 0} (e : AmlError) (s : State) → FineOver {V = V} Fits (stop_with (Error e)) s → ⊥
  unfolding stop_with
  over_stop e s h = h.runs s.log (prefix_refl s.log) h.words

  given_on : {V W : Type 0} (v : V) (f : V → M W) (s : State) → FineOver Fits (give v >>= f) s → FineOver Fits (f v) s
  unfolding ◌>>=◌ give
  given_on v f s h = record { words = h.words; runs = h.runs }

  -- a rule that is fine gives a value
  pub over_lift : {V : Type 0} (r : Result V AmlError) (s : State) → FineOver Fits (lift r) s → (v : V) × (r ≡ Ok v)
  over_lift (Ok v) s h = (v, refl)
  over_lift (Err e) s h = absurd (over_stop e s h)

  pub over_lift_first : {V W : Type 0} (r : Result V AmlError) (f : V → M W) (s : State) → FineOver Fits (lift r >>= f) s → (v : V) × (r ≡ Ok v) × FineOver Fits (f v) s
  over_lift_first (Ok v) f s h = (v, refl, given_on v f s h)
  over_lift_first (Err e) f s h = absurd (over_stop e s (over_first (stop_with (Error e)) f s h))

  -- what is given goes on at once
  pub over_give : {V W : Type 0} (v : V) (f : V → M W) (s : State) → FineOver Fits (give v >>= f) s → FineOver Fits (f v) s
  over_give v f s h = given_on v f s h

  -- an answer that says what comes of it is no error, and no want of steps
  pub over_sure : {V : Type 0} (r : Result V Halt) (m : M V) (s s1 : State) → FineOver Fits m s → Runs r m s s1 → Fits s1.log → IsSure r
  over_sure (Ok v) m s s1 h r fits = tt
  over_sure (Err NoMemory) m s s1 h r fits = tt
  over_sure (Err OutOfSteps) m s s1 h r fits = rw (r.gives s1.log (prefix_refl s1.log)) at (h.runs s1.log r.grows fits)
  over_sure (Err (By (Error e))) m s s1 h r fits = rw (stopped_whole m s s1 (Error e) s1.log r (prefix_refl s1.log)) at (h.runs s1.log r.grows fits)
  over_sure (Err (By (Returned v))) m s s1 h r fits = tt
  over_sure (Err (By (Broke at))) m s s1 h r fits = tt
  over_sure (Err (By (Continued at))) m s s1 h r fits = tt

  -- of a choice
  pub over_choice : {V : Type 0} (b : Bool) (m n : M V) (s : State) → FineOver Fits (if b then m else n) s → b ≡ true → FineOver Fits m s
  over_choice true m n s h e = h
  over_choice false m n s h e = absurd cc

  pub over_other : {V : Type 0} (b : Bool) (m n : M V) (s : State) → FineOver Fits (if b then m else n) s → b ≡ false → FineOver Fits n s
  over_other true m n s h e = absurd cc
  over_other false m n s h e = h

  -- of a choice whose other part is an error
  pub over_chosen : {V : Type 0} (b : Bool) (m : M V) (e : AmlError) (s : State) → FineOver Fits (if b then m else stop_with (Error e)) s → (b ≡ true) × FineOver Fits m s
  over_chosen true m e s h = (refl, h)
  over_chosen false m e s h = absurd (over_stop e s h)

  -- what is fine is fine without its value, and the other way round
  pub over_dropped : {V : Type 0} (m : M V) (s : State) → FineOver Fits (m >>= (λ v. give {V = Unit {0}} tt)) s → FineOver Fits m s
  over_dropped m s h = over_first m (λ v. give tt) s h

  pub over_without : {V : Type 0} (m : M V) (s : State) → FineOver Fits m s → FineOver Fits (m >>= (λ v. give {V = Unit {0}} tt)) s
  unfolding ◌>>=◌ give
  over_without m s h = record { words = h.words; runs = λ script pre w. dropped_good (m.run script s) (h.runs script pre w) }

  -- parts from which the same comes
  pub over_same : {V : Type 0} (m n : M V) (s : State) → ((script : List Event) → m.run script s ≡ n.run script s) → FineOver Fits m s → FineOver Fits n s
  over_same m n s same h = record { words = h.words; runs = λ script pre w. subst IsGood (same script) (h.runs script pre w) }

-- what fits the one fits the other
pub over_fewer : {V : Type 0} (Fits Fit : List Event → Type 0) (m : M V) (s : State) → Fit s.log → ((script : List Event) → IsPrefix s.log script → Fit script → Fits script) → FineOver Fits m s → FineOver Fit m s
over_fewer Fits Fit m s w fit h = record { words = w; runs = λ script pre u. h.runs script pre (fit script pre u) }

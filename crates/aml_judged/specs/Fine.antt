-- What an evaluator without errors needs of a verdict: nothing of kinds, only that the meaning goes
-- on from where it stands.
use Rattle.std.specs.Prelude.{◌≡◌, ℕ, suc, List}
use Rattle.aml_contents.specs.Contents.{ContentKinds}
use Rattle.aml_regions.specs.Events.{Event, AreWords}
use Rattle.aml_meaning.specs.declared.error.AmlError.{AmlError}
use Rattle.aml_meaning.specs.State as state
use Rattle.aml_meaning.specs.State.{State, Stop, Error, Out, Halts, NoAnswer, Spent, with_steps}
use Rattle.aml_meaning.specs.Parts.{M, ◌>>=◌, tick, stop_with}
use Rattle.aml_meaning.specs.Runs.{IsPrefix}

abbrev pub IsGood : {V : Type 0} → Out V → Type 0
IsGood (state.Goes v s) = Unit {0}
IsGood (Halts (Error e) s) = ⊥
IsGood (Halts stop s) = Unit {0}
IsGood (NoAnswer s) = Unit {0}
IsGood (Spent s) = ⊥

-- with n steps, fed with any script that the log begins: no error, and not out of steps
abbrev pub IsFine : {V : Type 0} → ContentKinds → ℕ → M V → State → Type 0
IsFine kinds n m s =
    (script : List Event) → IsPrefix s.log script → AreWords kinds script →
    IsGood (m.run script (with_steps s n))

-- parts whose values are of two types
pub record FineParts (V W : Type 0) : Type 0 where
  -- a first part is fine, and so is what follows it, from where it went
  pub first :
      (kinds : ContentKinds) (n : ℕ) (m : M V) (f : V → M W) (s : State) →
      IsFine kinds n (m >>= f) s → IsFine kinds n m s
  pub behind :
      (kinds : ContentKinds) (n k : ℕ) (m : M V) (f : V → M W) (s next : State) (v : V) →
      IsFine kinds n (m >>= f) s → IsPrefix s.log next.log →
      ((script : List Event) → IsPrefix next.log script →
      m.run script (with_steps s n) ≡ state.Goes v (with_steps next k)) →
      IsFine kinds k (f v) next
  -- a step is there, so steps count down as a measure
  pub step :
      (kinds : ContentKinds) (n : ℕ) (f : Unit {0} → M W) (s : State) → AreWords kinds s.log →
      IsFine kinds n (tick >>= f) s → (k : ℕ) × (n ≡ suc k) × IsFine kinds k (f tt) s
  -- and an error is never there
  pub no_error :
      (kinds : ContentKinds) (n : ℕ) (e : AmlError) (s : State) → AreWords kinds s.log →
      IsFine kinds n (stop_with {V = W} (Error e)) s → ⊥

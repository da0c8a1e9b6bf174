-- What an evaluator without errors needs of a verdict.
use Rattle.std.proofs.Common.{◌≡◌, ℕ, zero, suc, List, ◌++◌, refl, ap, ◌∙◌, subst, append_assoc}
use Rattle.aml_contents.specs.Contents.{ContentKinds}
use Rattle.aml_regions.specs.Events.{Event, AreWords}
use Rattle.aml_meaning.specs.declared.error.AmlError.{AmlError}
use Rattle.aml_meaning.specs.State as state
use Rattle.aml_meaning.specs.State.{State, Stop, Error, Returned, Broke, Continued, Out, Halts, NoAnswer, Spent, with_steps}
use Rattle.aml_meaning.specs.Parts.{M, ◌>>=◌, then_do, tick, paid, stop_with}
use Rattle.aml_meaning.specs.Runs.{IsPrefix}
use Rattle.aml_meaning.proofs.Runs.{prefix_refl}
use Rattle.aml_judged.specs.Fine.{IsGood, IsFine, FineParts}

first_good : {V W : Type 0} (o : Out V) (f : V → State → Out W) → IsGood (then_do o f) → IsGood o
first_good (state.Goes v s) f h = tt
first_good (Halts (Error e) s) f h = h
first_good (Halts (Returned v) s) f h = tt
first_good (Halts (Broke at) s) f h = tt
first_good (Halts (Continued at) s) f h = tt
first_good (NoAnswer s) f h = tt
first_good (Spent s) f h = h

first_fine : {V W : Type 0} (kinds : ContentKinds) (n : ℕ) (m : M V) (f : V → M W) (s : State) → IsFine kinds n (m >>= f) s → IsFine kinds n m s
unfolding ◌>>=◌
first_fine kinds n m f s h script pre words = first_good (m.run script (with_steps s n)) _ (h script pre words)

longer : (a b c : List Event) → IsPrefix a b → IsPrefix b c → IsPrefix a c
longer a b c p q = record { growth = p.growth ++ q.growth; is = q.is ∙ ap (λ x. x ++ q.growth) p.is ∙ append_assoc a p.growth q.growth }

behind_fine : {V W : Type 0} (kinds : ContentKinds) (n k : ℕ) (m : M V) (f : V → M W) (s next : State) (v : V) → IsFine kinds n (m >>= f) s → IsPrefix s.log next.log → ((script : List Event) → IsPrefix next.log script → m.run script (with_steps s n) ≡ state.Goes v (with_steps next k)) → IsFine kinds k (f v) next
unfolding ◌>>=◌
behind_fine kinds n k m f s next v h grows went script pre words = subst (λ o. IsGood (then_do o (λ u last. (f u).run script last))) (went script pre) (h script (longer s.log next.log script grows pre) words)

step_fine : {W : Type 0} (kinds : ContentKinds) (n : ℕ) (f : Unit {0} → M W) (s : State) → AreWords kinds s.log → IsFine kinds n (tick >>= f) s → (k : ℕ) × (n ≡ suc k) × IsFine kinds k (f tt) s
unfolding ◌>>=◌ tick paid
step_fine kinds zero f s words h = absurd (h s.log (prefix_refl s.log) words)
step_fine kinds (suc k) f s words h = (k, refl, h)

no_error_there : (V : Type 0) (kinds : ContentKinds) (n : ℕ) (e : AmlError) (s : State) → AreWords kinds s.log → IsFine kinds n (stop_with {V = V} (Error e)) s → ⊥
unfolding stop_with
no_error_there V kinds n e s words h = h s.log (prefix_refl s.log) words

pub fine_parts : (V W : Type 0) → FineParts V W
fine_parts V W = record { first = first_fine; behind = behind_fine; step = step_fine; no_error = no_error_there W }

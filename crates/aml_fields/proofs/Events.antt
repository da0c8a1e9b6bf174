-- Runs of single events.
use Rattle.std.proofs.Common.{◌≡◌, ℕ, suc, ◌<◌, ◌≤◌, ◌^◌, List, [], ◌∷◌, ◌++◌, Some, Ok, Err, refl, ap, ◌∙◌, arith, true}
use Rattle.aml_regions.specs.Worlds.{counted}
use Rattle.std.proofs.lemmas.Bool.Decides.{nat_tests}
use Rattle.aml_regions.specs.declared.access.Access.{Access}
use Rattle.aml_regions.specs.Events.{Log, Read, Written, same_access}
use Rattle.aml_meaning.specs.State.{State, Frame, Names, with_steps, Goes}
use Rattle.aml_meaning.specs.Parts.{M, answer, make_event, read_unit, with_event}
use Rattle.aml_meaning.specs.Runs.{NoMemory, OutOfSteps, IsPrefix, state, Runs}
use Rattle.aml_meaning.proofs.Runs.{runs_paid, runs_unpaid, runs_refused}
use Rattle.aml_meaning.proofs.Told.{has_refused, runs_event, runs_no_event, script_at, words_more}

same : (access : Access) → same_access access access ≡ true
same access = grind (arith, nat_tests)

answered : (access : Access) (value : ℕ) (s : State) → answer access (Some (Read access value)) s ≡ Goes value (with_event s (Read access value))
answered access value s = rw (same access) refl

module _ (frame : Frame) (names : Names) (access : Access) (value : ℕ) where
  pub runs_read : (steps left : ℕ) (log log1 : Log) → steps ≡ suc left → value < 2 ^ access.width → log1.refusals ≡ log.refusals → log1.events ≡ log.events ++ Read access value ∷ [] → Runs (Ok value) (read_unit access) (state frame names steps log) (state frame names left log1)
  unfolding read_unit
  runs_read steps left log log1 e lt counts is = rw (is, counts) (runs_paid _ frame frame names names value steps left log (record { events = log.events ++ Read access value ∷ []; refusals = log.refusals }) e refl (record { growth = _; is = refl }) (words_more names.kinds log.events (Read access value) lt)
      (λ script k pre. ap (λ event. answer access event (state frame names k log)) (script_at log.events (Read access value) script pre) ∙ answered access value (state frame names k log)))

  pub runs_write : (steps left : ℕ) (log log1 : Log) → steps ≡ suc left → log1.refusals ≡ log.refusals → log1.events ≡ log.events ++ Written access value ∷ [] → Runs (Ok tt) (make_event (Written access value)) (state frame names steps log) (state frame names left log1)
  runs_write steps left log log1 e counts is = runs_event frame names (Written access value) steps left log log1 (λ kinds. tt) e counts is

  pub runs_no_read : (steps left : ℕ) (log : Log) → steps ≡ 0 → left ≡ 0 → Runs (Err OutOfSteps) (read_unit access) (state frame names steps log) (state frame names left log)
  unfolding read_unit
  runs_no_read steps left log e f = runs_unpaid _ frame names steps left log e f

  pub runs_no_write : (steps left : ℕ) (log : Log) → steps ≡ 0 → left ≡ 0 → Runs (Err OutOfSteps) (make_event (Written access value)) (state frame names steps log) (state frame names left log)
  runs_no_write steps left log e f = runs_no_event frame names (Written access value) steps left log e f

-- want of memory, with fewer steps counted as left
pub event_refused : {V : Type 0} (m : M V) (frame : Frame) (names : Names) (steps left : ℕ) (log log1 : Log) → log1.events ≡ log.events → left ≤ steps → log1.refusals ≡ counted log.refusals → Runs {V = V} (Err NoMemory) m (state frame names steps log) (state frame names left log1)
event_refused m frame names steps left log log1 e n counts = runs_refused m _ _ refl e n (has_refused log.refusals log1.refusals counts)

-- want of memory says nothing of the steps that are left
pub runs_memory_fewer : {V : Type 0} (m : M V) (s s1 : State) (k : ℕ) → k ≤ s1.steps → Runs {V = V} (Err NoMemory) m s s1 → Runs {V = V} (Err NoMemory) m s (with_steps s1 k)
runs_memory_fewer m s s1 k le runs = record {
  grows = runs.grows;
  words = runs.words;
  falls = omega (arith, runs.falls);
  gives = λ script pre. let g = runs.gives script pre in (g.0, g.1, record { steps = g.2.steps; names = g.2.names; log = g.2.log });
  spares = runs.spares;
}

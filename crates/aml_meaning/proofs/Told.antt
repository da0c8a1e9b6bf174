-- Events, run: those that need no answer, and Sleeps.
use Rattle.std.proofs.Common.{◌≡◌, ◌+◌, ◌-◌, ◌^◌, ℕ, zero, suc, ◌≤◌, List, [], ◌∷◌, ◌++◌, Option, Some, None, Ok, Err, refl, ap, ◌∙◌, subst, length, ◌⊎◌, inl, inr, arith, true, false}
use Rattle.std.specs.Prelude.{slice_get, ◌==◌, Bool, nat_le, if◌then◌else◌}
use Rattle.std.specs.Cmp.{unsigned_Decides}
use Rattle.aml_contents.specs.Contents.{Contents, ContentKinds, are_fitting}
use Rattle.aml_regions.specs.Events.{Event, Log, Slept, AreWords, IsWord}
use Rattle.aml_regions.specs.Worlds.{behind_sleep, counted}
use Rattle.aml_meaning.specs.State.{State, Frame, Names, Goes}
use Rattle.aml_meaning.specs.Parts.{make_event, sleep, with_sleep, woken}
use Rattle.aml_meaning.specs.Runs.{HasRefused, NoMemory, OutOfSteps, IsPrefix, Runs, state}
use Rattle.aml_meaning.proofs.Runs.{runs_refused, runs_paid, runs_unpaid}

at_the_end : (log : List Event) (e : Event) (rest : List Event) → slice_get ((log ++ e ∷ []) ++ rest) (length log) ≡ Some e
at_the_end [] e rest = refl
at_the_end (x ∷ log) e rest = at_the_end log e rest

-- the answer stands in the script just behind what was before
pub script_at : (log : List Event) (e : Event) (script : List Event) → IsPrefix (log ++ e ∷ []) script → slice_get script (length log) ≡ Some e
script_at log e script pre = ap (λ events. slice_get events (length log)) pre.is ∙ at_the_end log e pre.growth

-- what is found in a log with one more event was there, or is that event
found_more : (log : List Event) (e f : Event) (i : ℕ) → slice_get (log ++ e ∷ []) i ≡ Some f → (slice_get log i ≡ Some f) ⊎ (e ≡ f)
found_more [] e f zero is = inr cc
found_more [] e f (suc i) is = absurd cc
found_more (x ∷ log) e f zero is = inl is
found_more (x ∷ log) e f (suc i) is = found_more log e f i is

-- with one more answer that fits, each fits
pub words_more : (kinds : ContentKinds) (log : List Event) (event : Event) → IsWord kinds event → AreWords kinds log → AreWords kinds (log ++ event ∷ [])
words_more kinds log event word words = record {
  each = λ i found is. elim (found_more log event found i is) [ inl p ↦ words.each i found p | inr p ↦ subst (IsWord kinds) p word ];
}

-- a refusal that is counted was one
pub has_refused : (old new : ℕ) → new ≡ counted old → HasRefused old new
has_refused old new e = by (nat_le (2 ^ 64 - 1) old) refl
  where
    by : (b : Bool) → nat_le (2 ^ 64 - 1) old ≡ b → HasRefused old new
    by true full = inr (e ∙ ap (λ c. if c then 2 ^ 64 - 1 else old + 1) full)
    by false more = inl (let one : new ≡ old + 1 = e ∙ ap (λ c. if c then 2 ^ 64 - 1 else old + 1) more in omega (arith, one))

-- whatever the kinds are, an event that needs no answer fits
abbrev pub IsTold : Event → Type 0
IsTold event = (kinds : ContentKinds) → IsWord kinds event

module _ (frame : Frame) (names : Names) (event : Event) where
  pub runs_event : (steps left : ℕ) (log log1 : Log) → IsTold event → steps ≡ suc left → log1.refusals ≡ log.refusals → log1.events ≡ log.events ++ event ∷ [] → Runs (Ok tt) (make_event event) (state frame names steps log) (state frame names left log1)
  unfolding make_event
  runs_event steps left log log1 told e counts is = rw (is, counts) (runs_paid _ frame frame names names tt steps left log (record { events = log.events ++ event ∷ []; refusals = log.refusals }) e refl (record { growth = _; is = refl }) (words_more names.kinds log.events event (told names.kinds)) (λ script k pre. refl))

  pub runs_no_event : (steps left : ℕ) (log : Log) → steps ≡ 0 → left ≡ 0 → Runs (Err OutOfSteps) (make_event event) (state frame names steps log) (state frame names left log)
  unfolding make_event
  runs_no_event steps left log e f = runs_unpaid _ frame names steps left log e f

  pub runs_refused_event : (steps left : ℕ) (log log1 : Log) → log1.events ≡ log.events → left ≤ steps → HasRefused log.refusals log1.refusals → Runs (Err NoMemory) (make_event event) (state frame names steps log) (state frame names left log1)
  runs_refused_event steps left log log1 e n refused = runs_refused (make_event event) _ _ refl e n refused

-- what data names hold behind a Sleep fits their kinds
abbrev pub Fitting : Names → Option Contents → Type 0
Fitting names None = Unit {0}
Fitting names (Some left) = are_fitting left names.kinds ≡ true

-- and names hold that
abbrev pub left_in : Names → Option Contents → Names
left_in names left = record names { contents = behind_sleep left names.contents }

fitting_word : (n : ℕ) (names : Names) (left : Option Contents) → Fitting names left → IsWord names.kinds (Slept n left)
fitting_word n names None fits = tt
fitting_word n names (Some left) fits = fits

same : (n : ℕ) → (n == n) ≡ true
same n = (unsigned_Decides n n).1 refl

pub woken_there : (n : ℕ) (left : Option Contents) (s : State) → woken n (Some (Slept n left)) s ≡ Goes tt (with_sleep s n left)
woken_there n left s = rw (same n) refl

module _ (frame : Frame) (names : Names) (n : ℕ) where
  pub runs_sleep : (left : Option Contents) (names1 : Names) (steps rest : ℕ) (log log1 : Log) → Fitting names left → names1 ≡ left_in names left → steps ≡ suc rest → log1.refusals ≡ log.refusals → log1.events ≡ log.events ++ Slept n left ∷ [] → Runs (Ok tt) (sleep n) (state frame names steps log) (state frame names1 rest log1)
  unfolding sleep
  runs_sleep left names1 steps rest log log1 fits held e counts is = rw (is, counts, held) (runs_paid _ frame frame names (left_in names left) tt steps rest log (record { events = log.events ++ Slept n left ∷ []; refusals = log.refusals }) e refl (record { growth = _; is = refl }) (words_more names.kinds log.events (Slept n left) (fitting_word n names left fits))
      (λ script k pre. ap (λ event. woken n event (state frame names k log)) (script_at log.events (Slept n left) script pre) ∙ woken_there n left (state frame names k log)))

  pub runs_no_sleep : (steps left : ℕ) (log : Log) → steps ≡ 0 → left ≡ 0 → Runs (Err OutOfSteps) (sleep n) (state frame names steps log) (state frame names left log)
  unfolding sleep
  runs_no_sleep steps left log e f = runs_unpaid _ frame names steps left log e f

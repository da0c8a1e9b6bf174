-- An evaluation in which mutexes are not watched tells what the definition tells, where that meets no error.
use Rattle.std.proofs.Common.{◌≡◌, ◌≤◌, ◌+◌, ◌-◌, ℕ, List, Option, Result, Ok, Err, sym, subst, arith, false}
use Rattle.aml_interp.specs.Answers.{AnswersBody}
use Rattle.aml_meaning.specs.Calls.{framed}
use Rattle.aml_meaning.specs.Definitions.{mean_method}
use Rattle.aml_meaning.specs.Meaning.{Setting}
use Rattle.aml_meaning.specs.Parts.{M, Stays}
use Rattle.aml_meaning.specs.State.{Broke, Continued, Error, Goes, Halts, Names, NoAnswer, Out, Returned, Spent, state_of}
use Rattle.aml_meaning.specs.Whole.{before, begun, evaluated}
use Rattle.aml_meaning.specs.declared.outcome.Outcome.{Outcome}
use Rattle.aml_meaning.specs.declared.outcome.Outcome.TheVariants as outcome
use Rattle.aml_operators.specs.Tree.{Trees}
use Rattle.aml_paths.specs.declared.memory.NoMemory.{NoMemory}
use Rattle.aml_regions.specs.Events.{Event, Log}
use Rattle.aml_scene.specs.Outcomes.{EvaluatesBody, IsTold, Leaves, Tells}
use Rattle.aml_steady.specs.Unwatched.{GoesUnwatched, BreaksNone, without_mutexes}
use Rattle.aml_values.specs.Values.{Value}

told_so : (o : Outcome) (out : Out (Option Value)) → IsTold o (without_mutexes out) → IsTold o out
told_so (outcome.Done value) (Goes v s) h = h
told_so (outcome.Done value) (Halts stop s) h = h
told_so (outcome.Done value) (NoAnswer s) h = h
told_so (outcome.Done value) (Spent s) h = h
told_so (outcome.AmlError e) (Goes v s) h = h
told_so (outcome.AmlError e) (Halts (Error f) s) h = h
told_so (outcome.AmlError e) (Halts (Returned v) s) h = h
told_so (outcome.AmlError e) (Halts (Broke at) s) h = h
told_so (outcome.AmlError e) (Halts (Continued at) s) h = h
told_so (outcome.AmlError e) (NoAnswer s) h = h
told_so (outcome.AmlError e) (Spent s) h = h
told_so outcome.OutOfSteps (Goes v s) h = h
told_so outcome.OutOfSteps (Halts stop s) h = h
told_so outcome.OutOfSteps (NoAnswer s) h = h
told_so outcome.OutOfSteps (Spent s) h = h

leaves_so : (out : Out (Option Value)) (names : Names) (log : List Event) → Leaves (state_of (without_mutexes out)) names log → Leaves (state_of out) names log
leaves_so (Goes v s) names log h = record { names = h.names; log = h.log }
leaves_so (Halts stop s) names log h = record { names = h.names; log = h.log }
leaves_so (NoAnswer s) names log h = record { names = h.names; log = h.log }
leaves_so (Spent s) names log h = record { names = h.names; log = h.log }

-- what is no error with more steps is none with these
none_before : {V : Type 0} (k : ℕ) (o more : Out V) → Stays k o more → BreaksNone more → BreaksNone o
none_before k (Goes v s) more stays h = tt
none_before k (Halts (Error e) s) more stays h = subst BreaksNone stays h
none_before k (Halts (Returned v) s) more stays h = tt
none_before k (Halts (Broke at) s) more stays h = tt
none_before k (Halts (Continued at) s) more stays h = tt
none_before k (NoAnswer s) more stays h = tt
none_before k (Spent s) more stays h = tt

module _ (here : Setting) (body : Trees) (values : List Value) (goes : GoesUnwatched (framed here.table values (mean_method here body))) (fuel : ℕ) (names : Names) (log : Log) where
  abbrev meaning : M (Option Value)
  meaning = framed here.table values (mean_method here body)

  none_sooner : (script : List Event) (k : ℕ) → k ≤ fuel → BreaksNone (meaning.run script (before names fuel log)) → BreaksNone (meaning.run script (before names k log))
  none_sooner script k le h =
      let all : k + (fuel - k) ≡ fuel = omega (arith, le) in
      none_before (fuel - k) (meaning.run script (before names k log)) _ (meaning.stays script (before names k log) (fuel - k))
      (subst (λ n. BreaksNone (meaning.run script (before names n log))) (sym all) h)

  tells_so : (answer : Result Outcome NoMemory) (script : List Event) (names_left : Names) (log_left : List Event) → BreaksNone (evaluated here body values script (before names fuel log)) →
      Tells answer (λ k. evaluated here body values script (begun false names k log)) fuel names_left log_left → Tells answer (λ k. evaluated here body values script (before names k log)) fuel names_left log_left
  tells_so (Ok o) script names_left log_left h told =
      let same = goes script (before names fuel log) h in
      let out = meaning.run script (before names fuel log) in
      (told_so o out (subst (IsTold o) same told.0), leaves_so out names_left log_left (subst (λ (p : Out (Option Value)). Leaves (state_of p) names_left log_left) same told.1))
  tells_so (Err e) script names_left log_left h told =
      let same = goes script (before names told.0 log) (none_sooner script told.0 told.1 h) in
      (told.0, told.1, leaves_so (meaning.run script (before names told.0 log)) names_left log_left (subst (λ (p : Out (Option Value)). Leaves (state_of p) names_left log_left) same told.2))

  pub as_defined : (answer : Result Outcome NoMemory) (names_left : Names) (log_left : Log) →
      EvaluatesBody false here body values fuel names log answer names_left log_left → AnswersBody here body values fuel names log answer names_left log_left
  as_defined answer names_left log_left did = record {
    grows = did.grows;
    words = did.words;
    tells = λ script begins h. tells_so answer script names_left log_left.events h (did.tells script begins);
  }

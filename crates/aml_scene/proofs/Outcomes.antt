-- A method's outcome, from how its statements run.
use Rattle.std.proofs.Common.{ℕ, List, Result, Ok, Err, refl, zero-le}
use Rattle.std.specs.Prelude.{Bool, true}
use Rattle.aml_values.specs.Values.{Value}
use Rattle.aml_values.specs.Views.{view}
use Rattle.aml_regions.specs.Events.{Event, Log}
use Rattle.aml_paths.specs.declared.memory.NoMemory.{NoMemory}
use Rattle.aml_operators.specs.Tree.{Trees}
use Rattle.aml_meaning.specs.State.{Frame, Names, entered, Error, Returned, Broke, Continued}
use Rattle.aml_meaning.specs.Meaning.{Setting}
use Rattle.aml_meaning.specs.Definitions.{mean_method}
use Rattle.aml_meaning.specs.Calls.{framed}
use Rattle.aml_meaning.specs.Whole.{before, begun, evaluated}
use Rattle.aml_meaning.specs.Runs as runs
use Rattle.aml_meaning.specs.Runs.{IsPrefix, Runs, state, method_result}
use Rattle.aml_meaning.proofs.Runs.{prefix_refl, whole, stopped_whole, runs_framed}
use Rattle.aml_scene.specs.declared.halt.Halt.{Halt}
use Rattle.aml_scene.specs.declared.halt.Halt.TheVariants as halt
use Rattle.aml_scene.specs.Outcomes.{EvaluatesBody, SparesBody, Tells, outcome_of}
use Rattle.aml_scene.specs.Tells.{went}

module _ (watched : Bool) (here : Setting) (body : Trees) (values : List Value) (fuel left : ℕ) (frame : Frame) (names names1 : Names) (log log1 : Log) where
  abbrev Ran : Result (Unit {0}) runs.Halt → Type 0
  Ran r = Runs r (mean_method here body) (state (entered watched 0 values) names fuel log) (state frame names1 left log1)

  method_ran : (r : Result (Unit {0}) runs.Halt) → Ran r → Runs (method_result here.table r) (framed here.table values (mean_method here body)) (begun watched names fuel log) (begun watched names1 left log1)
  method_ran r ran = runs_framed here.table values (mean_method here body) (begun watched names fuel log) (state frame names1 left log1) r ran

  -- each way in which statements end
  told : (r : Result (Unit {0}) Halt) → Ran (went r) → (script : List Event) → IsPrefix log1.events script → Tells (outcome_of here.table r) (λ k. evaluated here body values script (begun watched names k log)) fuel names1 log1.events
  told (Ok tt) ran script begins = rw (whole _ _ _ _ script (method_ran (Ok tt) ran) begins) (refl, record { names = refl; log = refl })
  told (Err (halt.Returned v)) ran script begins = rw (whole _ _ _ _ script (method_ran (Err (runs.By (Returned (view v)))) ran) begins) (refl, record { names = refl; log = refl })
  told (Err (halt.Error e)) ran script begins = rw (stopped_whole _ _ _ _ script (method_ran (Err (runs.By (Error e))) ran) begins) (refl, record { names = refl; log = refl })
  told (Err (halt.Broke at)) ran script begins = rw (stopped_whole _ _ _ _ script (method_ran (Err (runs.By (Broke at))) ran) begins) (refl, record { names = refl; log = refl })
  told (Err (halt.Continued at)) ran script begins = rw (stopped_whole _ _ _ _ script (method_ran (Err (runs.By (Continued at))) ran) begins) (refl, record { names = refl; log = refl })
  told (Err halt.OutOfSteps) ran script begins = rw ((method_ran (Err runs.OutOfSteps) ran).gives script begins) (tt, record { names = refl; log = refl })
  told (Err halt.NoMemory) ran script begins =
      let g = (method_ran (Err runs.NoMemory) ran).gives script begins in
      (g.0, g.1, record { names = g.2.names; log = g.2.log })

  pub spared : (r : Result (Unit {0}) Halt) → Ran (went r) → SparesBody watched here body values fuel names log (outcome_of here.table r) log1
  spared (Ok tt) ran = (method_ran (Ok tt) ran).spares
  spared (Err (halt.Returned v)) ran = (method_ran (Err (runs.By (Returned (view v)))) ran).spares
  spared (Err (halt.Error e)) ran = (method_ran (Err (runs.By (Error e))) ran).spares
  spared (Err (halt.Broke at)) ran = (method_ran (Err (runs.By (Broke at))) ran).spares
  spared (Err (halt.Continued at)) ran = (method_ran (Err (runs.By (Continued at))) ran).spares
  spared (Err halt.OutOfSteps) ran = (method_ran (Err runs.OutOfSteps) ran).spares
  spared (Err halt.NoMemory) ran = (method_ran (Err runs.NoMemory) ran).spares

  pub evaluates : (r : Result (Unit {0}) Halt) → Ran (went r) → EvaluatesBody watched here body values fuel names log (outcome_of here.table r) names1 log1
  evaluates r ran = record { grows = ran.grows; words = ran.words; tells = told r ran }

-- want of memory before anything is evaluated
pub unread : (here : Setting) (body : Trees) (values : List Value) (fuel : ℕ) (names : Names) (log : Log) (e : NoMemory) → EvaluatesBody true here body values fuel names log (Err e) names log
unread here body values fuel names log e = record {
  grows = prefix_refl log.events;
  words = λ w. w;
  tells = λ script begins.
      let r = (framed here.table values (mean_method here body)).rests script (before names 0 log) refl in
      (0, zero-le, record { names = r.names; log = r.log });
}

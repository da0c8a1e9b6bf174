-- What an evaluation of an accepted method answers.
use Rattle.std.specs.Prelude.{◌≡◌, ℕ, List, Option, Some, None, IsSome, Result, Ok, Err}
use Rattle.aml_bodies.specs.Kept.{kept_at}
use Rattle.aml_quick.specs.Keeps.{AreSound}
use Rattle.aml_bodies.specs.Methods.{Around}
use Rattle.aml_direct.specs.Methods.{Spares}
use Rattle.aml_meaning.specs.Meaning.{Setting}
use Rattle.aml_meaning.specs.Methods.{setting_in}
use Rattle.aml_meaning.specs.Runs.{IsPrefix}
use Rattle.aml_meaning.specs.State.{Names}
use Rattle.aml_meaning.specs.Whole.{before, evaluated}
use Rattle.aml_meaning.specs.declared.outcome.Outcome.{Outcome}
use Rattle.aml_meaning.specs.declared.outcome.Outcome.TheVariants as outcome
use Rattle.aml_methods.specs.Judgings.{Told}
use Rattle.aml_namespace.specs.Names.{IsBodyOf, method_at}
use Rattle.aml_namespace.specs.Shows.{shown}
use Rattle.aml_objects.specs.declared.object.Method.{Method}
use Rattle.aml_operators.specs.Tree.{Tree, Trees, trees}
use Rattle.aml_paths.specs.declared.memory.NoMemory.{NoMemory}
use Rattle.aml_regions.specs.Events.{AreWords, Event, Log}
use Rattle.aml_scene.specs.Outcomes.{Tells}
use Rattle.aml_steady.specs.Unwatched.{BreaksNone}
use Rattle.aml_values.specs.Values.{Value}
use Rattle.aml_values.specs.declared.value.Value as program_value
use Rattle.aml_known.specs.declared.accepted.Accepted.{Accepted}
use Rattle.aml_verify.specs.Said.{verdict_at}
use Rattle.aml_verify.specs.Verdicts.{IsChecked}
use Rattle.aml_verify.specs.declared.checked.Checked.{Checked}
use Rattle.aml_verify.specs.declared.verdict.Verdict.{Verdict}
use Rattle.aml_verify.specs.declared.verdict.Verdict.TheVariants as verdict

-- these are the verifier's verdicts on a namespace, whatever signatures told
pub record WereChecked (c : Checked) : Type 0 where
  pub told : Told
  pub checked : IsChecked told c

-- each method that is accepted is there, and what is kept of its body is right
pub record IsReady (c : Checked) : Type 0 where
  pub sound : AreSound (shown c.namespace.now) c.kept.items
  pub there : (k : ℕ) (a : Accepted) → verdict_at c.verdicts.items k ≡ Some (verdict.Accepted a) →
      IsSome (method_at (shown c.namespace.now) k)
  pub kept : (k : ℕ) (a : Accepted) → verdict_at c.verdicts.items k ≡ Some (verdict.Accepted a) →
      IsSome (kept_at c.kept.items k)

-- as many steps as a method takes at most, where it is accepted
abbrev pub bound_of : Option Verdict → Option ℕ
bound_of (Some (verdict.Accepted a)) = Some a.bound
bound_of said = None

-- the value of an evaluation that is done
abbrev pub value_answered : Result Outcome NoMemory → Result (Option program_value.Value) NoMemory
value_answered (Ok (outcome.Done value)) = Ok value
value_answered (Ok other) = Err (record {})
value_answered (Err e) = Err e

-- what is answered of an evaluation of a body with these arguments and at most so many steps, from
-- what names hold and the events so far: the events go on, and whatever answers are handed in that
-- begin with them, it is what the definition says, where with those answers that breaks no rule of
-- mutexes
pub record AnswersBody (here : Setting) (body : Trees) (values : List Value) (fuel : ℕ)
    (names : Names) (log : Log) (answer : Result Outcome NoMemory) (names_left : Names)
    (log_left : Log) : Type 0 where
  pub grows : IsPrefix log.events log_left.events
  pub words : AreWords names.kinds log.events → AreWords names_left.kinds log_left.events
  pub tells :
      (script : List Event) → IsPrefix log_left.events script →
      BreaksNone (evaluated here body values script (before names fuel log)) →
      Tells answer (λ k. evaluated here body values script (before names k log)) fuel names_left
      log_left.events

-- an evaluation of an accepted method with these arguments, from what names hold and the events so
-- far
module _ (c : Checked) (k : ℕ) (values : List Value) (names : Names) (log : Log) where
  -- its answer, what names hold and the events afterwards are those of the meaning of the
  -- statements that the grammar ties to the method's bytes, with as many steps as its verdict says
  pub record Answers (answer : Result Outcome NoMemory) (names_left : Names)
      (log_left : Log) : Type 0 where
    pub are :
        (a : Accepted) → verdict_at c.verdicts.items k ≡ Some (verdict.Accepted a) →
        (m : Method) → method_at (shown c.namespace.now) k ≡ Some m →
        (ts : List Tree) → IsBodyOf (shown c.namespace.now) k m ts →
        (around : Around (shown c.namespace.now)) →
        AnswersBody (setting_in (shown c.namespace.now) around.bodies k m (trees ts)) (trees ts)
        values a.bound names log answer names_left log_left

  -- it is done, with this value or none
  abbrev pub IsDone : Option program_value.Value → Names → Log → Type 0
  IsDone value names_left log_left = Answers (Ok (outcome.Done value)) names_left log_left

  -- it went no further than some number of those steps takes it
  abbrev pub IsCutShort : Names → Log → Type 0
  IsCutShort names_left log_left = Answers (Err (record {})) names_left log_left

  -- memory was wanted only where the world refused a call, or where that meaning wants it, with no
  -- mutex watched
  pub record WantsRightly (answer : Result Outcome NoMemory) (log_left : Log) : Type 0 where
    pub are :
        (a : Accepted) → verdict_at c.verdicts.items k ≡ Some (verdict.Accepted a) →
        (m : Method) → method_at (shown c.namespace.now) k ≡ Some m →
        (ts : List Tree) → IsBodyOf (shown c.namespace.now) k m ts →
        Spares (shown c.namespace.now) k m (trees ts) values a.bound names log answer log_left

-- How an evaluation that ends well is answered.
use Rattle.std.proofs.Common.{◌≡◌, ℕ, List, Option, Some, None, Result, Ok, Err, sym, ap, ◌∙◌, subst, zero-le, arith, false}
use Rattle.aml_scene.specs.Outcomes.{EvaluatesBody, IsTold, Leaves, Tells}
use Rattle.aml_contents.specs.Contents.{ContentKinds}
use Rattle.aml_contents.specs.FirstContents.{first_kinds}
use Rattle.aml_interp.specs.Answers.{AnswersBody}
use Rattle.aml_interp.specs.Headline.{EndsWell, IsDoneWell}
use Rattle.aml_judged.specs.Judged as judged
use Rattle.aml_judged.specs.Laws.{IsDone}
use Rattle.aml_judged.specs.Safe.{Allows, FitNames, FitsYield}
use Rattle.aml_judged.specs.Verdicts.{Judging}
use Rattle.aml_meaning.specs.Definitions.{mean_method}
use Rattle.aml_meaning.specs.Meaning.{Setting}
use Rattle.aml_meaning.specs.State.{Names, Out, Goes, Halts, NoAnswer, Spent, state_of}
use Rattle.aml_meaning.specs.Whole.{before, begun, evaluated}
use Rattle.aml_meaning.specs.declared.outcome.Outcome.{Outcome}
use Rattle.aml_meaning.specs.declared.outcome.Outcome.TheVariants as outcome
use Rattle.aml_meaning.proofs.Runs.{prefix_refl}
use Rattle.aml_namespace.specs.Load.{Shown}
use Rattle.aml_objects.specs.Widths.{bits_of}
use Rattle.aml_operators.specs.Tree.{Trees}
use Rattle.aml_paths.specs.declared.memory.NoMemory.{NoMemory}
use Rattle.aml_regions.specs.Events.{Event, Log}
use Rattle.aml_steady.proofs.KindsStay.{keeps_framed, methods_keep}
use Rattle.aml_steady.specs.Steady.{CallsKeepKinds}
use Rattle.aml_steady.specs.Unwatched.{BreaksNone}
use Rattle.aml_values.specs.Values.{Value}

-- whom nobody calls may take mutexes of each level
pub allowed : (least : Option ℕ) → Allows least 0
allowed None = tt
allowed (Some level) = zero-le

names_fit : (n w : ℕ) (kinds others : ContentKinds) (names : Names) → n ≡ w → kinds ≡ others → FitNames n kinds names → FitNames w others names
names_fit n w kinds others names p q fit = subst (λ x. FitNames x others names) p (subst (λ x. FitNames n x names) q fit)

module _ (ns : Shown) (a : judged.Accepted) where
  -- what is done in the setting of a judgement ends well in the namespace
  pub ends_well : (all : Judging) → all.methods.width ≡ bits_of ns.width → all.kinds ≡ first_kinds ns → (out : Out (Option Value)) → IsDone all a out → EndsWell ns a out
  ends_well all w kinds (Goes v s) h =
      (subst (λ n. FitsYield n v a.result) w h.0, names_fit all.methods.width (bits_of ns.width) all.kinds (first_kinds ns) s.names w kinds h.1)
  ends_well all w kinds (Halts stop s) h = h
  ends_well all w kinds (NoAnswer s) h = tt
  ends_well all w kinds (Spent s) h = h

  -- and is no error
  pub no_error : (out : Out (Option Value)) → EndsWell ns a out → BreaksNone out
  no_error (Goes v s) h = tt
  no_error (Halts stop s) h = absurd h
  no_error (NoAnswer s) h = tt
  no_error (Spent s) h = tt

  -- an outcome that tells of what ends well is done
  pub done_well : (o : Outcome) (out : Out (Option Value)) (names : Names) (log : List Event) → EndsWell ns a out → IsTold o out → Leaves (state_of out) names log → IsDoneWell ns a o names
  done_well (outcome.Done value) (Goes v s) names log ends told leaves =
      (subst (λ x. FitsYield (bits_of ns.width) x a.result) told ends.0, subst (FitNames (bits_of ns.width) (first_kinds ns)) leaves.names ends.1)
  done_well (outcome.Done value) (Halts stop s) names log ends told leaves = absurd ends
  done_well (outcome.Done value) (NoAnswer s) names log ends told leaves = absurd told
  done_well (outcome.Done value) (Spent s) names log ends told leaves = absurd ends
  done_well (outcome.AmlError e) (Goes v s) names log ends told leaves = told
  done_well (outcome.AmlError e) (Halts stop s) names log ends told leaves = ends
  done_well (outcome.AmlError e) (NoAnswer s) names log ends told leaves = told
  done_well (outcome.AmlError e) (Spent s) names log ends told leaves = told
  done_well outcome.OutOfSteps (Goes v s) names log ends told leaves = told
  done_well outcome.OutOfSteps (Halts stop s) names log ends told leaves = told
  done_well outcome.OutOfSteps (NoAnswer s) names log ends told leaves = told
  done_well outcome.OutOfSteps (Spent s) names log ends told leaves = ends

-- where an evaluation ends, whatever outcome that is, it has gone no further than its steps take it
untold : (o : Outcome) (e : NoMemory) (run : ℕ → Out (Option Value)) (fuel : ℕ) (names : Names) (log : List Event) → Tells (Ok o) run fuel names log → Tells (Err e) run fuel names log
untold o e run fuel names log told = (fuel, omega arith, told.1)

module _ (here : Setting) (body : Trees) (values : List Value) (fuel : ℕ) (names : Names) (log : Log) where
  pub body_untold : (o : Outcome) (e : NoMemory) (names_left : Names) (log_left : Log) →
      AnswersBody here body values fuel names log (Ok o) names_left log_left → AnswersBody here body values fuel names log (Err e) names_left log_left
  body_untold o e names_left log_left did = record {
    grows = did.grows;
    words = did.words;
    tells = λ script begins h. untold o e (λ k. evaluated here body values script (before names k log)) fuel names_left log_left.events (did.tells script begins h);
  }

  -- the kinds of names are as they were, however it ended
  module _ (calls : CallsKeepKinds here.call) where
    kinds_behind : (k : ℕ) (script : List Event) (names_left : Names) (log_left : List Event) →
        Leaves (state_of (evaluated here body values script (begun false names k log))) names_left log_left → names_left.kinds ≡ names.kinds
    kinds_behind k script names_left log_left leaves =
        sym (ap (λ (n : Names). n.kinds) leaves.names)
        ∙ keeps_framed here.table values (mean_method here body) (methods_keep here calls body) script (begun false names k log)

    pub kinds_kept : (answer : Result Outcome NoMemory) (names_left : Names) (log_left : Log) →
        EvaluatesBody false here body values fuel names log answer names_left log_left → names_left.kinds ≡ names.kinds
    kinds_kept (Ok o) names_left log_left did =
        kinds_behind fuel log_left.events names_left log_left.events (did.tells log_left.events (prefix_refl log_left.events)).1
    kinds_kept (Err e) names_left log_left did =
        let t = did.tells log_left.events (prefix_refl log_left.events) in
        kinds_behind t.0 log_left.events names_left log_left.events t.2

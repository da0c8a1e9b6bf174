-- What it means that the verifier accepted a method: the law.
use Rattle.std.specs.Prelude.{◌≡◌, ◌≤◌, ℕ, List, Option, Some, false, true}
use Rattle.aml_integers.specs.Known.{marked}
use Rattle.aml_judged.specs.Laws.{evaluation, HasNoError, IsDone}
use Rattle.aml_judged.specs.Safe.{Allows, FitAll, FitNames, FitScript}
use Rattle.aml_judged.specs.Verdicts.{Judging}
use Rattle.aml_known.specs.declared.accepted.Accepted.{Accepted}
use Rattle.aml_known.specs.Views.{accepted_of}
use Rattle.aml_literal_laws.specs.Laws.{TablesAreBytes}
use Rattle.aml_meaning.specs.Calls.{framed}
use Rattle.aml_meaning.specs.Definitions.{mean_method}
use Rattle.aml_meaning.specs.Parts.{M}
use Rattle.aml_meaning.specs.State.{held_level, State}
use Rattle.aml_meaning.specs.Within.{Callee, Methods, call_within, most_within, setting_for}
use Rattle.aml_methods.specs.Judgings.{IsJudging, Told}
use Rattle.aml_objects.specs.declared.object.Method.{Method}
use Rattle.aml_namespace.specs.Names.{method_at}
use Rattle.aml_namespace.specs.Shows.{shown}
use Rattle.aml_regions.specs.Events.{Event}
use Rattle.aml_shapes.specs.Numbers.{numbered}
use Rattle.aml_values.specs.Values.{Value}
use Rattle.aml_verify.specs.declared.checked.Checked.{Checked}
use Rattle.aml_verify.specs.declared.verdict.Verdict.TheVariants as verdict
use Rattle.aml_verify.specs.Said.{verdict_at}
use Rattle.aml_verify.specs.Verdicts.{IsChecked}

-- a method that was accepted, in the setting in which it was judged, where the tables are made of
-- bytes
pub record WasAccepted (told : Told) (c : Checked) (all : Judging) (k : ℕ) (callee : Callee)
    (a : Accepted) : Type 0 where
  pub checked : IsChecked told c
  pub judging : IsJudging (shown c.namespace.now) told all
  pub bytes : TablesAreBytes (shown c.namespace.now).tables
  pub method : Method
  pub there : method_at (shown c.namespace.now) k ≡ Some method
  pub said : verdict_at c.verdicts.items k ≡ Some (verdict.Accepted a)
  pub called : all.methods.callee k ≡ Some callee

-- arguments, what names hold, and the contents that Sleeps leave fit their kinds; and callers hold
-- no mutex above the least that it takes
pub record MayRun (c : Checked) (all : Judging) (a : Accepted) (values : List Value)
    (script : List Event) (s : State) : Type 0 where
  pub arguments : FitAll all.methods.width values (accepted_of (numbered c.shapes) a).args
  pub names : FitNames all.methods.width all.kinds s.names
  pub answers : FitScript all.methods.width all.kinds script
  pub levels : Allows a.least (held_level s.frame)
  pub watched : s.frame.watched ≡ true

-- then its evaluation meets no error, with however many steps; and with as many as its verdict
-- says, or more, it is done, with names of their kinds and a value as the verdict says, or a read
-- has no answer
pub record AcceptedMethodsRun : Type 0 where
  pub no_error :
      (told : Told) (c : Checked) (all : Judging) (k : ℕ) (callee : Callee) (a : Accepted) →
      WasAccepted told c all k callee a →
      (values : List Value) (script : List Event) (s : State) → MayRun c all a values script s →
      HasNoError (evaluation all callee values script s)
  pub done :
      (told : Told) (c : Checked) (all : Judging) (k : ℕ) (callee : Callee) (a : Accepted) →
      WasAccepted told c all k callee a →
      (values : List Value) (script : List Event) (s : State) → MayRun c all a values script s →
      a.bound ≤ s.steps →
      IsDone all (accepted_of (numbered c.shapes) a) (evaluation all callee values script s)

-- what a method means as the first that is active, among others
abbrev pub meant : Methods → Callee → List Value → M (Option Value)
meant methods m values =
    let here = setting_for methods (call_within methods most_within) m in
    framed here.table values (mean_method here m.body)

-- and where it evaluates integers alone, with mutexes that are not watched, memory is wanted
-- nowhere
pub record AcceptedIntegersSpare : Type 0 where
  pub wants :
      (told : Told) (c : Checked) (all : Judging) (k : ℕ) (callee : Callee) (a : Accepted) →
      WasAccepted told c all k callee a → marked c.integers.items k ≡ true →
      (values : List Value) (script : List Event) (s : State) →
      FitAll all.methods.width values (accepted_of (numbered c.shapes) a).args →
      FitNames all.methods.width all.kinds s.names →
      FitScript all.methods.width all.kinds script →
      s.frame.watched ≡ false →
      (meant all.methods callee values).wants script s ≡ false

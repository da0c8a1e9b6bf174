-- What the verifier accepts is accepted, and the law of verdicts speaks of it.
use Rattle.std.proofs.Common.{◌≡◌, ◌≤◌, ℕ, List, Some, ap}
use Rattle.aml_judged.proofs.Called.{verdicts_mean}
use Rattle.aml_judged.specs.Laws.{AreVerdicts, evaluation, HasNoError, IsCallable, IsDone}
use Rattle.aml_judged.specs.Verdicts.{Judging}
use Rattle.aml_known.specs.declared.accepted.Accepted.{Accepted}
use Rattle.aml_known.specs.Views.{accepted_of}
use Rattle.aml_literal_laws.proofs.Literals.{literals_are_small}
use Rattle.aml_meaning.specs.State.{State}
use Rattle.aml_meaning.specs.Within.{Callee, Methods}
use Rattle.aml_methods.specs.Judgings.{Told}
use Rattle.aml_namespace.specs.Shows.{shown}
use Rattle.aml_regions.specs.Events.{Event}
use Rattle.aml_shapes.specs.Numbers.{numbered}
use Rattle.aml_values.specs.Values.{Value}
use Rattle.aml_verdict_laws.proofs.Known.{verdicts_are_there}
use Rattle.aml_verdict_laws.specs.Laws.{Answer}
use Rattle.aml_verified.specs.Laws.{AcceptedMethodsRun, MayRun, WasAccepted}
use Rattle.aml_verify.proofs.Seeing.{known_said}
use Rattle.aml_verify.specs.declared.checked.Checked.{Checked}
use Rattle.aml_verify.specs.declared.verdict.Verdict.TheVariants as verdict

module _ (told : Told) (c : Checked) (all : Judging) (k : ℕ) (callee : Callee) (a : Accepted) (was : WasAccepted told c all k callee a) where
  answer : Answer all
  answer = verdicts_are_there all

  verdicts : AreVerdicts all answer.known
  verdicts = record {
    width = (shown c.namespace.now).width;
    bits = ap (λ (m : Methods). m.width) was.judging.methods;
    small = literals_are_small (shown c.namespace.now) was.judging.bodies all was.bytes was.judging.are was.judging.methods;
    accepted = answer.are;
  }

  known : answer.known k ≡ Some (accepted_of (numbered c.shapes) a)
  known = known_said (shown c.namespace.now) told all was.judging answer.known answer.are (numbered c.shapes) k was.method (verdict.Accepted a) was.there (was.checked.right all was.judging answer.known answer.are k was.method was.there (verdict.Accepted a) was.said)

  module _ (values : List Value) (script : List Event) (s : State) (may : MayRun c all a values script s) where
    callable : IsCallable all answer.known k (accepted_of (numbered c.shapes) a) callee values script s
    callable = record {
      accepted = known;
      there = was.called;
      arguments = may.arguments;
      names = may.names;
      answers = may.answers;
      watched = may.watched;
    }

    pub runs_well : HasNoError (evaluation all callee values script s)
    runs_well = verdicts_mean.no_error all answer.known verdicts k (accepted_of (numbered c.shapes) a) callee values script s callable may.levels

    pub is_done : a.bound ≤ s.steps → IsDone all (accepted_of (numbered c.shapes) a) (evaluation all callee values script s)
    is_done enough = verdicts_mean.done all answer.known verdicts k (accepted_of (numbered c.shapes) a) callee values script s callable may.levels enough

pub accepted_methods_run : AcceptedMethodsRun
accepted_methods_run = record {
  no_error = λ told c all k callee a was values script s may. runs_well told c all k callee a was values script s may;
  done = λ told c all k callee a was values script s may. is_done told c all k callee a was values script s may;
}

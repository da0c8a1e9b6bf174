-- A method that is accepted and evaluates integers alone wants no memory, where mutexes are not watched.
use Rattle.std.proofs.Common.{◌≡◌, ℕ, List, Some, Ok, false, subst, sym, true, ◌∙◌}
use Rattle.aml_integers.specs.Known.{marked}
use Rattle.aml_judged.proofs.Integers.{integers_want_none}
use Rattle.aml_verified.proofs.Integral.{integer_answers, integer_arguments, integer_names}
use Rattle.aml_judged.specs.Integers.{AreIntegerOnly, AreIntegers, are_integers, integer_only_by, integers_in}
use Rattle.aml_judged.specs.Judged as judged
use Rattle.aml_judged.specs.Safe.{FitAll, FitNames, FitScript}
use Rattle.aml_judged.specs.Verdicts.{Judging, verdict_by}
use Rattle.aml_known.specs.declared.accepted.Accepted.{Accepted}
use Rattle.aml_known.specs.Views.{accepted_of}
use Rattle.aml_meaning.specs.State.{State}
use Rattle.aml_meaning.specs.Within.{Callee, most_within}
use Rattle.aml_methods.specs.Judgings.{Told}
use Rattle.aml_namespace.specs.Shows.{shown}
use Rattle.aml_regions.specs.Events.{Event}
use Rattle.aml_shapes.specs.Numbers.{numbered}
use Rattle.aml_values.proofs.Same.{both_first}
use Rattle.aml_values.specs.Values.{Value}
use Rattle.aml_verdict_laws.proofs.Known.{verdicts_are_there}
use Rattle.aml_verdict_laws.specs.Laws.{Answer}
use Rattle.aml_verified.specs.Laws.{AcceptedIntegersSpare, WasAccepted, meant}
use Rattle.aml_verify.proofs.Accepting.{by_callee}
use Rattle.aml_verify.proofs.Seeing.{known_said}
use Rattle.aml_verify.specs.declared.checked.Checked.{Checked}
use Rattle.aml_verify.specs.declared.verdict.Verdict.TheVariants as verdict

module _ (told : Told) (c : Checked) (all : Judging) (k : ℕ) (callee : Callee) (a : Accepted) (was : WasAccepted told c all k callee a) where
  abbrev answer : Answer all
  answer = verdicts_are_there all

  abbrev verdict_is : judged.Accepted
  verdict_is = accepted_of (numbered c.shapes) a

  says : verdict_by all answer.known k (all.methods.callee k) ≡ Some (Ok verdict_is)
  says = was.checked.right all was.judging answer.known answer.are k was.method was.there (verdict.Accepted a) was.said

  known : answer.known k ≡ Some verdict_is
  known = known_said (shown c.namespace.now) told all was.judging answer.known answer.are (numbered c.shapes) k was.method (verdict.Accepted a) was.there says

  same_kinds : verdict_is.args ≡ all.args k
  same_kinds = by_callee all answer.known k (all.methods.callee k) verdict_is says

  only : AreIntegerOnly all answer.known (marked c.integers.items)
  only = was.checked.integers all was.judging answer.known answer.are

  module _ (integers : marked c.integers.items k ≡ true) where
    decided : integer_only_by all (marked c.integers.items) k (Some verdict_is) (Some callee) ≡ true
    decided = subst (λ o. integer_only_by all (marked c.integers.items) k (Some verdict_is) o ≡ true) was.called
        (subst (λ o. integer_only_by all (marked c.integers.items) k o (all.methods.callee k) ≡ true) known (sym (only.each k) ∙ integers))

    kinds : are_integers (all.args k) ≡ true
    kinds = both_first (are_integers (all.args k)) (integers_in all.methods callee all.kinds (marked c.integers.items) callee.body) decided

    module _ (values : List Value) (script : List Event) (s : State) (fit : FitAll all.methods.width values verdict_is.args) (names : FitNames all.methods.width all.kinds s.names) (answers : FitScript all.methods.width all.kinds script) (unwatched : s.frame.watched ≡ false) where
      arguments : AreIntegers values
      arguments = integer_arguments all.methods.width values (all.args k) kinds (subst (FitAll all.methods.width values) same_kinds fit)

      pub wants_none : (meant all.methods callee values).wants script s ≡ false
      wants_none = integers_want_none.methods all answer.known (marked c.integers.items) only most_within k callee values was.called integers arguments script
          (integer_answers all.methods.width all.kinds script answers) s (integer_names all.methods.width all.kinds s.names names) unwatched

pub accepted_integers_spare : AcceptedIntegersSpare
accepted_integers_spare = record {
  wants = λ told c all k callee a was integers values script s fit names answers unwatched.
      wants_none told c all k callee a was integers values script s fit names answers unwatched;
}

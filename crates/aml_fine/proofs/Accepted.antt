-- From a verdict: what an accepted method means is fine.
use Rattle.std.proofs.Common.{ℕ, List, Option}
use Rattle.aml_values.specs.Values.{Value}
use Rattle.aml_regions.specs.Events.{AreWords}
use Rattle.aml_meaning.specs.Calls.{framed, inside}
use Rattle.aml_meaning.specs.State.{State, Out, Goes, Halts, NoAnswer, Spent}
use Rattle.aml_meaning.specs.Within.{Callee}
use Rattle.aml_judged.specs.Fine.{IsGood}
use Rattle.aml_judged.specs.Judged.{Accepted}
use Rattle.aml_judged.specs.Laws.{AreVerdicts, evaluation, IsDone}
use Rattle.aml_judged.specs.Verdicts.{Judging}
use Rattle.aml_judged.proofs.Called.{verdicts_mean}
use Rattle.aml_fine.specs.Fine.{Fine, FineOver}
use Rattle.aml_fine.specs.Laws.{AcceptedAreFine, AnswersFit, FitAnswers, MayBegin, outermost}
use Rattle.aml_fine.proofs.Calls.{fine_framed, over_framed}
use Rattle.aml_fine.proofs.Over.{over_fewer}

done_good : (all : Judging) (a : Accepted) (o : Out (Option Value)) → IsDone all a o → IsGood o
done_good all a (Goes v s) h = tt
done_good all a (Halts stop s) h = absurd h
done_good all a (NoAnswer s) h = tt
done_good all a (Spent s) h = h

module _ (all : Judging) (known : ℕ → Option Accepted) (are : AreVerdicts all known) (k : ℕ) (a : Accepted) (m : Callee) (values : List Value) (s : State) (may : MayBegin all known k a m values s) where
  -- in its caller's frame, with each script of answers that fit
  pub accepted_over : FineOver (FitAnswers all) (framed m.table values (outermost all m)) s
  accepted_over = record {
    words = may.answers;
    runs = λ script pre fit. done_good all a (evaluation all m values script s)
        (verdicts_mean.done all known are k a m values script s
        (record { accepted = may.accepted; there = may.there; arguments = may.arguments; names = may.names; answers = fit; watched = may.watched })
        may.levels may.steps);
  }

  -- and in its own
  pub accepted_inside : FineOver (FitAnswers all) (outermost all m) (inside values s)
  accepted_inside = over_framed (FitAnswers all) m.table values (outermost all m) s accepted_over

  pub accepted_framed : AreWords s.names.kinds s.log → AnswersFit all s → Fine (framed m.table values (outermost all m)) s
  accepted_framed words fit = over_fewer (FitAnswers all) (AreWords s.names.kinds) (framed m.table values (outermost all m)) s words fit accepted_over

  pub accepted_fine : AreWords s.names.kinds s.log → AnswersFit all s → Fine (outermost all m) (inside values s)
  accepted_fine words fit = fine_framed m.table values (outermost all m) s (accepted_framed words fit)

pub accepted_are_fine : AcceptedAreFine
accepted_are_fine = record {
  answered = λ all known are k a m values s may. (accepted_over all known are k a m values s may, accepted_inside all known are k a m values s may);
  alone = λ all known are k a m values s may words fit. (accepted_framed all known are k a m values s may words fit, accepted_fine all known are k a m values s may words fit);
}

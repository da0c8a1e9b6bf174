use Rattle.aml_plain.proofs.Outcomes.{evaluates}
use Rattle.aml_plain.proofs.body.evaluate_body.Goals as goal

pub returns : goal.returns
returns g c = λ around.
    rw c.outcome_of.ensures (evaluates _ _ _ _ _ _ _ _ _ _ _ (rw (c.new.ensures _ c.of.ensures, c.watched.ensures.outside, c.watched.ensures.watched, c.replace.ensures.value) at (c.eval_body-ended.ensures.means around)))

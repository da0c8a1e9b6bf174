use Rattle.std.proofs.lemmas.Result.{err_from_is_err_and}
use Rattle.std.proofs.Common.{arith}
use Rattle.aml_operators.specs.declared.row.Spot.TheVariants as spot
use Rattle.aml_places.proofs.Inversion.{starts}
use Rattle.aml_acts.proofs.Statements.{on_ok}
use Rattle.aml_quick.specs.Settings.{calls_of, count_of, setting_of}
use Rattle.aml_direct.proofs.Leaves.{behind_of}
use Rattle.aml_direct.proofs.Terms.{value_ends, value_goes, value_stops}
use Rattle.aml_direct.proofs.operand.changed.Goals as goal

pub returns-in_err-take_step-clause-means : goal.returns-in_err-take_step-clause-means
returns-in_err-take_step-clause-means g c = λ around bytes t lies is.
    let p = err_from_is_err_and c.from_residual.result c.from_residual.ensures.1 in
    rw (p.1, p.2) (value_stops (setting_of c.args.here around) t (c.in_err-take_step.ensures.means _))

pub returns-in_err-answer-clause-means : goal.returns-in_err-answer-clause-means
returns-in_err-answer-clause-means g c = λ around bytes t lies is.
    let p = err_from_is_err_and c.from_residual-in_err-answer.result c.from_residual-in_err-answer.ensures.1 in
    let at = starts (count_of c.args.here.scene.now) bytes c.args.at spot.Target t lies in
    rw (p.1, p.2) (value_ends (setting_of c.args.here around) t (c.in_ok-take_step.ensures.means _) (behind_of (setting_of c.args.here around) t c.args.op c.args.at is at (c.in_err-answer.ensures.means around bytes t lies is)))

pub returns-clause-means : goal.returns-clause-means
returns-clause-means g c = λ around bytes t lies is.
    let at = starts (count_of c.args.here.scene.now) bytes c.args.at spot.Target t lies in
    value_goes (setting_of c.args.here around) t c.args.at at (c.in_ok-take_step.ensures.means _) (behind_of (setting_of c.args.here around) t c.args.op c.args.at is at (c.in_ok-answer.ensures.means around bytes t lies is)) (c.want.ensures (calls_of c.args.here around) _)

pub returns-clause-takes : goal.returns-clause-takes
returns-clause-takes g c = on_ok c.want.result _ (omega (arith, c.in_ok-take_step.ensures.takes, c.in_ok-answer.ensures.falls))

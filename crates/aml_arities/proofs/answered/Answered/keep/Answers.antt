use Rattle.std.proofs.Common.{sym, subst}
use Rattle.aml_arities.specs.Answered.{IsAnswerAt}
use Rattle.aml_arities.proofs.Answering.{answer_at, answers_more}
use Rattle.aml_arities.proofs.answered.Answered.keep.Goals as goal

pub invariant_of-self : goal.invariant_of-self
invariant_of-self c =
    let held = c.args.self.now in
    let n = c.args.number in
    let step = c.last_step-step in
    let answer = c.nearest_count-answer.result in
    let at = subst (IsAnswerAt held.counted n) (sym c.nearest_count-answer.ensures) (answer_at held.counted n step.result step.ensures.leads) in
    record { right = answers_more held.counted held.answers c.insert.new.self held.right n answer at c.insert.result c.insert.ensures.updates c.insert.ensures.err }

use Rattle.std.proofs.Common.{sym}
use Rattle.aml_operators.specs.Tree.{views}
use Rattle.aml_meaning.specs.Actions.{action}
use Rattle.aml_bounds.specs.Shapes.{outside_targets, targets}
use Rattle.aml_targets.specs.Marks.{acts_in}
use Rattle.aml_targets.proofs.Added.{adds_as, adds_both}
use Rattle.aml_targets.proofs.targets.Targets.mark_targets.Goals as goal

pub returns : goal.returns
returns c =
    let op = c.args.op in
    let parts = views c.args.parts.now in
    let old = c.args.self.now in
    let mid = c.mark_all.new.self in
    adds_both (λ is. targets is (action op) parts) (λ is. outside_targets is (action op) op parts) old mid c.mark_outside.new.self (adds_as (λ is. acts_in is (views c.written_parts.result.now)) (λ is. targets is (action op) parts) old mid (λ is. sym (c.written_parts.ensures is)) c.mark_all.ensures) c.mark_outside.ensures

use Rattle.std.proofs.Common.{refl}
use Rattle.std.proofs.lemmas.Result.{err_from_is_err_and}
use Rattle.aml_operators.specs.Tree.{views}
use Rattle.aml_findings.specs.Views.{seen_of}
use Rattle.aml_judging.proofs.Calling.{called_well, no_level, no_result, not_within, too_deep}
use Rattle.aml_judging.proofs.calls.called.Goals as goal

pub returns-in_err-with_result : goal.returns-in_err-with_result
returns-in_err-with_result g c =
    let p = err_from_is_err_and c.from_residual.result c.from_residual.ensures.1 in rw (p.1, p.2)
    (no_result (g.A.Shapes.numbered c.args.here.now) (g.A.Around.around c.args.here.now) c.args.wanted c.args.at (seen_of (g.A.Shapes.numbered c.args.here.now) c.args.method) (views c.args.arguments.now) c.args.kinds.now c.args.progress.now c.in_err-with_result.field-0.0 c.in_err-with_result.ensures)

pub returns-then-method : goal.returns-then-method
returns-then-method g c = too_deep (g.A.Shapes.numbered c.args.here.now) (g.A.Around.around c.args.here.now) c.args.wanted c.args.at (seen_of (g.A.Shapes.numbered c.args.here.now) c.args.method) (views c.args.arguments.now) c.args.kinds.now c.args.progress.now c.in-Some.accepted.now (rw c.in-Some.is refl) c.in_ok-with_result.ensures c.refusal-then-method.result c.if-method.true c.refusal-then-method.ensures

pub returns-in_err-are_within : goal.returns-in_err-are_within
returns-in_err-are_within g c =
    let p = err_from_is_err_and c.from_residual-in_err-are_within.result c.from_residual-in_err-are_within.ensures.1 in rw (p.1, p.2)
    (not_within (g.A.Shapes.numbered c.args.here.now) (g.A.Around.around c.args.here.now) c.args.wanted c.args.at (seen_of (g.A.Shapes.numbered c.args.here.now) c.args.method) (views c.args.arguments.now) c.args.kinds.now c.args.progress.now c.in-Some.accepted.now (rw c.in-Some.is refl) c.in_ok-with_result.ensures c.if-method.false c.in_err-are_within.field-0.0 c.deref.result.now c.deref.ensures.value c.in_err-are_within.ensures)

pub returns-in_err-levels : goal.returns-in_err-levels
returns-in_err-levels g c =
    let p = err_from_is_err_and c.from_residual-in_err-levels.result c.from_residual-in_err-levels.ensures.1 in rw (p.1, p.2)
    (no_level (g.A.Shapes.numbered c.args.here.now) (g.A.Around.around c.args.here.now) c.args.wanted c.args.at (seen_of (g.A.Shapes.numbered c.args.here.now) c.args.method) (views c.args.arguments.now) c.args.kinds.now c.args.progress.now c.in-Some.accepted.now (rw c.in-Some.is refl) c.in_ok-with_result.ensures c.if-method.false c.deref.result.now c.deref.ensures.value c.in_ok-are_within.ensures c.levels.new.progress c.in_err-levels.field-0.0 c.in_err-levels.ensures)

pub returns : goal.returns
returns g c = called_well (g.A.Shapes.numbered c.args.here.now) (g.A.Around.around c.args.here.now) c.args.wanted c.args.at (seen_of (g.A.Shapes.numbered c.args.here.now) c.args.method) (views c.args.arguments.now) c.args.kinds.now c.args.progress.now c.in-Some.accepted.now (rw c.in-Some.is refl) c.in_ok-with_result.ensures c.if-method.false c.deref.result.now c.deref.ensures.value c.in_ok-are_within.ensures c.levels.new.progress c.pay.new.self c.takes.new.self c.in_ok-levels.ensures (c.takes.ensures (g.A.Shapes.numbered c.args.here.now)) c.pay.ensures

use Rattle.std.proofs.Common.{◌∙◌, List, sym, ap}
use Rattle.aml_calls.specs.declared.order.Mark.{Mark}
use Rattle.aml_calls.specs.Search.{is_placed, mark_at}
use Rattle.aml_calls.proofs.GoingOn.{begun_of, entered, left_all}
use Rattle.aml_calls.proofs.order.Search.enter.Goals as goal

pub returns-in_ok-push-in-New-2 : goal.returns-in_ok-push-in-New-2
returns-in_ok-push-in-New-2 c = λ calls all s called inside unplaced full.
    let mark = c.mark_of.ensures ∙ ap (λ (ms : List Mark). mark_at ms c.args.callee.0) c.deref.ensures.value in
    entered calls all c.args.self.now c.args.method c.args.callee c.args.passed c.push.new.self c.push-in-New.new.self c.in_ok-push-in-New.ensures.items c.in_ok-push-in-New-2.ensures.items s called inside (sym mark ∙ c.in-New.is) full

pub returns-in-Begun : goal.returns-in-Begun
returns-in-Begun c = λ calls all s called inside unplaced full.
    let mark = c.mark_of.ensures ∙ ap (λ (ms : List Mark). mark_at ms c.args.callee.0) c.deref.ensures.value in
    left_all calls all c.args.self.now c.args.method c.args.callee c.clear.new.self c.clear.ensures.items s called (sym mark ∙ begun_of c.mark_of.result c.in-Begun.is (ap is_placed mark ∙ unplaced))

use Rattle.aml_calls.proofs.GoingOn.{begins}
use Rattle.aml_calls.proofs.order.Search.new.Goals as goal

pub returns-clause-begun : goal.returns-clause-begun
returns-clause-begun c = λ calls all room.
    begins calls all c.args.room c.in_ok-marks.marks.items c.in_ok-passed.passed.items c.new.result.items c.new-2.result.items
    (c.in_ok-marks.ensures.items_if_clones_equal (λ y e. e)) (c.in_ok-passed.ensures.items_if_clones_equal (λ y e. e)) c.new.ensures.items c.new-2.ensures.items room

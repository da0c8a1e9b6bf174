use Rattle.std.proofs.Common.{◌∙◌, ap}
use Rattle.aml_paths.specs.declared.scope.ObjectId.{ObjectId}
use Rattle.aml_calls.specs.Pairs.{calls_in}
use Rattle.aml_calls.proofs.GoingOn.{among_at}
use Rattle.aml_components.specs.Heights.{are_low}
use Rattle.aml_components.proofs.Raising.{raised_more}
use Rattle.aml_components.proofs.heights.raise.Goals as goal

pub bounds-heights-method : goal.bounds-heights-method
bounds-heights-method c =
    let none : ObjectId = record { 0 = 0 } in
    let among = among_at c.args.ordered.now c.ordered.method-index none c.ordered-test.true in
    c.ordered.invariant.room _ among

pub ordered-preserved : goal.ordered-preserved
ordered-preserved c =
    raised_more (calls_in c.args.calls.now.pairs.now) c.args.ordered.now c.ordered.method-index
    (record { 0 = 0 }) c.ordered.heights c.greatest.result c.above.result c.ordered-test.true
    c.above.ensures
    (λ d. c.greatest.ensures d ∙ ap (are_low c.ordered.heights d) c.of.ensures) c.ordered.invariant

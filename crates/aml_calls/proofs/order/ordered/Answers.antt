use Rattle.std.proofs.Common.{List, subst}
use Rattle.aml_paths.specs.declared.scope.ObjectId.{ObjectId}
use Rattle.aml_calls.specs.declared.order.Mark.{Mark}
use Rattle.aml_calls.specs.Pairs.{calls_in, named, numbers}
use Rattle.aml_calls.specs.Search.{AreLeft, IsSearch}
use Rattle.aml_calls.proofs.Ordered.{finished}
use Rattle.aml_calls.proofs.order.ordered.Goals as goal

pub returns : goal.returns
returns c =
    let ps = c.args.pairs.now in
    let s = c.in_ok-search.search in
    let done = c.in_ok-search.ensures in
    finished ps s.marks.items s.passed.items (numbers s.ordered.items) (numbers c.in_ok-others.others.items)
    (subst (λ (ids : List ObjectId). IsSearch (calls_in ps) (named ps) s.marks.items s.passed.items (numbers ids) (numbers s.ordered.items)) done.ended done.searches)
    done.begun (subst (λ (ms : List Mark). AreLeft ms (numbers c.in_ok-others.others.items)) c.deref-2.ensures.value c.in_ok-others.ensures)

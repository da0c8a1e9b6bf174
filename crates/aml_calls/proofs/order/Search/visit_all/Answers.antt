use Rattle.aml_calls.specs.Pairs.{calls_in, named}
use Rattle.aml_calls.proofs.GoingOn.{among_at, visits_more}
use Rattle.aml_calls.proofs.order.Search.visit_all.Goals as goal

pub visit-requires-clause-method : goal.visit-requires-clause-method
visit-requires-clause-method c = c.requires.methods _ (among_at c.args.methods.now c.methods.method-index _ c.methods-test.true)

pub methods-preserved : goal.methods-preserved
methods-preserved c =
    let ps = c.args.calls.now.pairs.now in
    visits_more (calls_in ps) (named ps) c.args.methods.now c.methods.method-index _ c.args.self.now c.methods.self c.visit.new.self c.methods-test.true c.methods.invariant c.in_ok-visit.ensures

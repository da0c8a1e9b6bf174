use Rattle.aml_calls.proofs.GoingOn.{begun_first}
use Rattle.aml_calls.proofs.order.Search.begin.Goals as goal

pub returns : goal.returns
returns c = λ calls all s ended inside new. begun_first calls all c.args.self.now c.args.method c.push.new.self c.in_ok-push.ensures.items s ended inside new

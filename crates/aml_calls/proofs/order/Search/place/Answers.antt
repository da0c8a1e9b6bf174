use Rattle.aml_calls.proofs.GoingOn.{placed}
use Rattle.aml_calls.proofs.order.Search.place.Goals as goal

pub returns : goal.returns
returns c = λ calls all s full. placed calls all c.args.self.now c.args.method c.push.new.self c.in_ok-push.ensures.items s full

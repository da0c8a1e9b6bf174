use Rattle.aml_interp.proofs.Accepted.{ready}
use Rattle.aml_interp.proofs.others.Others.new.Goals as goal

pub invariant_of-result : goal.invariant_of-result
invariant_of-result c = record {
  ready = ready c.requires.checked.told c.args.checked.now c.requires.checked.checked;
  callable = c.requires.callable;
}

use Rattle.aml_counts.proofs.OneCount.{one_count}
use Rattle.aml_counts.proofs.links_tell_counts.Goals as goal

pub returns : goal.returns
returns c = one_count

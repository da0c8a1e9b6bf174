use Rattle.aml_namespace.proofs.LinkCounts.{links_count}
use Rattle.aml_namespace.proofs.law.links_count.Goals as goal

pub returns : goal.returns
returns c = links_count

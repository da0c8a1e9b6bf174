use Rattle.aml_paths.proofs.PrintedPaths.{printed_read}
use Rattle.aml_paths.proofs.law.printed_paths_are_read.Goals as goal

pub returns : goal.returns
returns c = printed_read

use Rattle.std.proofs.Common.{arith}
use Rattle.aml_paths.proofs.Tries.{length-paths_of}
use Rattle.aml_paths.proofs.paths.Paths.len.Goals as goal

pub returns : goal.returns
returns c = let all = length-paths_of c.args.self.now.steps.items in omega (arith, all)

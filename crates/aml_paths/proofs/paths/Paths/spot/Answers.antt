use Rattle.std.proofs.Common.{◌<◌, ◌-◌, arith}
use Rattle.std.proofs.lemmas.Option.{slice_get_read}
use Rattle.aml_paths.proofs.Chained.{spot_of_step}
use Rattle.aml_paths.proofs.Tries.{length-paths_of}
use Rattle.aml_paths.proofs.paths.Paths.spot.Goals as goal

pub index-requires : goal.index-requires
index-requires c =
    let steps = c.args.self.now.steps in
    let count = length-paths_of steps.items in
    omega (arith, count, steps.ok.0)

pub returns : goal.returns
returns c =
    let steps = c.args.self.now.steps in
    let count = length-paths_of steps.items in
    let below_root : 0 < c.args.number = omega arith in
    let read = slice_get_read steps.items steps.len (c.args.number - 1) c.index.result.now (omega (arith, steps.ok.0)) (omega (arith, count, steps.ok.0)) c.index.ensures in
    spot_of_step steps.items c.args.number c.index.result.now below_root read

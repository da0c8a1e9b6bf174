use Rattle.std.proofs.Common.{inl, arith}
use Rattle.std.proofs.lemmas.Option.{slice_get_within}
use Rattle.aml_paths.specs.Chains.{spots_of}
use Rattle.aml_paths.proofs.Chained.{length-spots_of}
use Rattle.aml_paths.proofs.Tries.{length-paths_of}
use Rattle.aml_paths.proofs.paths.Paths.spot_below.Goals as goal

pub overflow_add-depth : goal.overflow_add-depth
overflow_add-depth c =
    let held = c.args.self.now in
    let steps = held.steps.items in
    let within = slice_get_within (spots_of steps) c.args.at c.args.above c.requires in
    let shallow = (held.numbered.chained c.args.at c.args.above c.requires).within in
    omega (arith, within, shallow, length-spots_of steps, length-paths_of steps, c.len-number.ensures)

pub returns : goal.returns
returns c =
    let steps = c.args.self.now.steps.items in
    (omega arith, inl (omega (arith, c.len-number.ensures, length-paths_of steps, length-spots_of steps)))

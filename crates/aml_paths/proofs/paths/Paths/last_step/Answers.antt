use Rattle.std.proofs.Common.{◌-◌, arith}
use Rattle.std.proofs.lemmas.Option.{slice_get_read}
use Rattle.aml_paths.specs.Steps.{paths_seen}
use Rattle.aml_paths.proofs.Chained.{spot_of_step}
use Rattle.aml_paths.proofs.Tries.{length-paths_of, last_step_leads}
use Rattle.aml_paths.proofs.paths.Paths.last_step.Goals as goal

pub index-requires : goal.index-requires
index-requires c =
    let steps = c.args.self.now.steps in
    let count = length-paths_of steps.items in
    omega (arith, count, steps.ok.0)

pub returns : goal.returns
returns c =
    let held = c.args.self.now in
    let count = length-paths_of held.steps.items in
    let read = slice_get_read held.steps.items held.steps.len (c.args.number - 1) c.index.result.now (omega (arith, held.steps.ok.0)) (omega (arith, count, held.steps.ok.0)) c.index.ensures in
    let led = last_step_leads held.steps.items (paths_seen held) c.args.number c.index.result.now held.numbered.leads c.requires.below_root read in
    record {
      leads = led.0;
      spot = spot_of_step held.steps.items c.args.number c.index.result.now c.requires.below_root read;
      earlier = led.1;
    }

use Rattle.std.proofs.Common.{arith}
use Rattle.std.specs.Option.{option_map}
use Rattle.std.specs.Prelude.{Vec}
use Rattle.std.specs.declared.alloc.Global.{Global}
use Rattle.acpi_resources.specs.declared.item.Item.{Item}
use Rattle.aml_paths.specs.declared.scope.ObjectId.{ObjectId}
use Rattle.acpi_resources.specs.Interrupts.{crs_of_links}
use Rattle.aml_machine.specs.Views.{names_of}
use Rattle.acpi_routing.proofs.Asked.{asked_end, asked_none, asked_step, stops_here}
use Rattle.acpi_routing.proofs.links.items_of_links.Goals as goal

pub loop-device-init : goal.loop-device-init
loop-device-init g c = record {
  asked = rw c.new-links.ensures.items (asked_none c.args.checked.now c.args.devices.now _ _);
  belong = c.requires.names;
}

pub loop-device-preserved : goal.loop-device-preserved
loop-device-preserved g c = record {
  asked = asked_step c.args.checked.now c.args.devices.now c.loop-device.device-index _ _ _ _ _ _ c.loop-device.invariant.asked _ _ _ _ c.loop-device-test.true
      c.in_ok-found.ensures.items c.in_ok-add_link.ensures;
  belong = c.in_ok-found.ensures.names;
}

pub returns : goal.returns
returns g c = record {
  items = asked_end c.args.checked.now c.args.devices.now c.loop-device.device-index (record { 0 = 0 }) _ _ _ _ _ c.loop-device.invariant.asked
      (omega (arith, c.loop-device-test.false));
  names = c.loop-device.invariant.belong;
}

pub returns-in_err-found : goal.returns-in_err-found
returns-in_err-found g c = record {
  items =
      stops_here c.args.checked.now c.args.devices.now c.loop-device.device-index _ _ _ _ _ _ c.loop-device.invariant.asked
      (option_map (λ (found : Vec Item Global). found.items)) (λ (links : Vec (ObjectId × Vec Item Global) Global). crs_of_links links.items)
      (names_of c.items_of_device.new.names) (g.W.World.log c.items_of_device.new.world) c.in_err-found.field-0.0 c.loop-device-test.true
      c.in_err-found.ensures.items c.from_residual.result c.from_residual.ensures.1;
  names = c.in_err-found.ensures.names;
}

use Rattle.std.proofs.Common.{◌≡◌, refl}
use Rattle.aml_registers.proofs.Accounts.{held_still, read_answered}
use Rattle.aml_regions.specs.EventViews.{events_of}
use Rattle.aml_regions.specs.Events.{Read}
use Rattle.aml_regions.specs.Registers.{contents}
use Rattle.aml_registers.proofs.registers.RegistersWorld.read.Goals as goal

pub invariant_of-self : goal.invariant_of-self
invariant_of-self c =
    let old = c.args.self.now in
    let new = c.read.new.self in
    record {
      holds = held_still old.text.items c.read.result (Read c.args.access) (events_of old.file.events.items) (events_of new.events.items) (contents old.file) (contents new) (λ v bytes. refl) c.read.ensures.event c.read.ensures.kept old.holds;
      answers = read_answered old.text.items c.args.access c.read.result (events_of old.file.events.items) (events_of new.events.items) (contents old.file) c.read.ensures.event c.read.ensures.value old.holds old.answers;
    }

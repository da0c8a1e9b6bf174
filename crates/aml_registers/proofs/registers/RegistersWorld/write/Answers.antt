use Rattle.std.proofs.Common.{◌≡◌, refl}
use Rattle.aml_registers.proofs.Accounts.{answered_still, held_written, written_answered}
use Rattle.aml_regions.specs.EventViews.{events_of}
use Rattle.aml_regions.specs.Events.{Written}
use Rattle.aml_regions.specs.Registers.{contents}
use Rattle.aml_registers.proofs.registers.RegistersWorld.write.Goals as goal

pub invariant_of-self : goal.invariant_of-self
invariant_of-self c =
    let old = c.args.self.now in
    let new = c.write.new.self in
    record {
      holds = held_written old.text.items c.args.access c.args.value c.write.result (events_of old.file.events.items) (events_of new.events.items) (contents old.file) (contents new) c.write.ensures.event c.write.ensures.put c.write.ensures.kept old.holds;
      answers = answered_still old.text.items c.write.result (λ _. Written c.args.access c.args.value) (events_of old.file.events.items) (events_of new.events.items) (λ v bytes. written_answered c.args.access c.args.value bytes) c.write.ensures.event old.answers;
    }

use Rattle.std.proofs.Common.{◌≡◌, refl}
use Rattle.aml_registers.proofs.Accounts.{answered_still, held_still, stalled_answered}
use Rattle.aml_regions.specs.EventViews.{events_of}
use Rattle.aml_regions.specs.Events.{Stalled}
use Rattle.aml_regions.specs.Registers.{contents}
use Rattle.aml_registers.proofs.registers.RegistersWorld.stall.Goals as goal

pub invariant_of-self : goal.invariant_of-self
invariant_of-self c =
    let old = c.args.self.now in
    let new = c.stall.new.self in
    record {
      holds = held_still old.text.items c.stall.result (λ _. Stalled c.args.microseconds) (events_of old.file.events.items) (events_of new.events.items) (contents old.file) (contents new) (λ v bytes. refl) c.stall.ensures.event c.stall.ensures.kept old.holds;
      answers = answered_still old.text.items c.stall.result (λ _. Stalled c.args.microseconds) (events_of old.file.events.items) (events_of new.events.items) (λ v. stalled_answered c.args.microseconds) c.stall.ensures.event old.answers;
    }

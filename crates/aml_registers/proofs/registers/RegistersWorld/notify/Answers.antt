use Rattle.std.proofs.Common.{◌≡◌, refl}
use Rattle.aml_registers.proofs.Accounts.{answered_still, held_still, notified_answered}
use Rattle.aml_regions.specs.EventViews.{events_of}
use Rattle.aml_regions.specs.Events.{Notified}
use Rattle.aml_regions.specs.Registers.{contents}
use Rattle.aml_registers.proofs.registers.RegistersWorld.notify.Goals as goal

pub invariant_of-self : goal.invariant_of-self
invariant_of-self c =
    let old = c.args.self.now in
    let new = c.notify.new.self in
    record {
      holds = held_still old.text.items c.notify.result (λ _. Notified c.args.object c.args.value) (events_of old.file.events.items) (events_of new.events.items) (contents old.file) (contents new) (λ v bytes. refl) c.notify.ensures.event c.notify.ensures.kept old.holds;
      answers = answered_still old.text.items c.notify.result (λ _. Notified c.args.object c.args.value) (events_of old.file.events.items) (events_of new.events.items) (λ v. notified_answered c.args.object c.args.value) c.notify.ensures.event old.answers;
    }

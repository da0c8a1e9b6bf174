use Rattle.std.proofs.Common.{◌≡◌, refl, None}
use Rattle.aml_registers.proofs.Accounts.{answered_still, held_still, slept_answered}
use Rattle.aml_regions.specs.EventViews.{events_of}
use Rattle.aml_regions.specs.Events.{Slept}
use Rattle.aml_regions.specs.Registers.{contents}
use Rattle.aml_registers.proofs.registers.RegistersWorld.sleep.Goals as goal

pub invariant_of-self : goal.invariant_of-self
invariant_of-self c =
    let old = c.args.self.now in
    let new = c.sleep.new.self in
    record {
      holds = held_still old.text.items c.sleep.result (λ _. Slept c.args.milliseconds None) (events_of old.file.events.items) (events_of new.events.items) (contents old.file) (contents new) (λ v bytes. refl) c.sleep.ensures.untouched c.sleep.ensures.kept old.holds;
      answers = answered_still old.text.items c.sleep.result (λ _. Slept c.args.milliseconds None) (events_of old.file.events.items) (events_of new.events.items) (λ v. slept_answered c.args.milliseconds) c.sleep.ensures.untouched old.answers;
    }

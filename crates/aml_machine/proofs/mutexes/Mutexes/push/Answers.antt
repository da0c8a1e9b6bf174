use Rattle.std.specs.Prelude.{is_ok}
use Rattle.aml_machine.proofs.Rising.{rising_if}
use Rattle.aml_machine.proofs.mutexes.Mutexes.push.Goals as goal

pub invariant_of-self : goal.invariant_of-self
invariant_of-self c =
    let held = c.args.self.now in
    record { rising = rising_if (is_ok c.push.result) held.outside held.taken.items c.args.mutex c.push.new.self.items held.rising c.requires c.push.ensures.items }

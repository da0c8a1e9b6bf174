use Rattle.std.proofs.Common.{sym}
use Rattle.aml_machine.proofs.Rising.{greatest_last}
use Rattle.aml_machine.proofs.mutexes.Mutexes.level.Goals as goal

pub returns-in-Some : goal.returns-in-Some
returns-in-Some c =
    let held = c.args.self.now in
    sym (greatest_last held.outside held.taken.items c.in-Some.last.now held.rising (rw c.deref.ensures.value at (sym c.in-Some.ensures.value)))

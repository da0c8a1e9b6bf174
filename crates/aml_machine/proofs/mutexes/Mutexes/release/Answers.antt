use Rattle.std.proofs.Common.{sym}
use Rattle.aml_machine.proofs.Rising.{last_kept, last_released, other_test, rising_front, same_test}
use Rattle.aml_machine.proofs.mutexes.Mutexes.release.Goals as goal

pub invariant_of-self : goal.invariant_of-self
invariant_of-self c =
    let held = c.args.self.now in
    record { rising = rw c.pop.ensures.rest (rising_front held.outside _ held.taken.items held.rising) }

pub returns-then-last-object-clause-released : goal.returns-then-last-object-clause-released
returns-then-last-object-clause-released c =
    let last = c.in-Some.last.now in
    last_kept c.args.object.0 c.args.self.now.taken.items last (rw c.deref.ensures.value at (sym c.in-Some.ensures.value)) (other_test last.object.0 c.args.object.0 c.if-last-object.true)

pub returns-clause-released : goal.returns-clause-released
returns-clause-released c =
    let last = c.in-Some.last.now in
    rw (c.pop.ensures.rest, c.args.self.now.taken.ok.0) (last_released c.args.object.0 c.args.self.now.taken.items last (rw c.deref.ensures.value at (sym c.in-Some.ensures.value)) (same_test last.object.0 c.args.object.0 c.if-last-object.false))

use Rattle.std.proofs.Common.{refl}
use Rattle.aml_meaning.proofs.Reached.{found_by}
use Rattle.aml_fields.proofs.reach.field_in.Goals as goal

pub returns-else-sound-clause-is : goal.returns-else-sound-clause-is
returns-else-sound-clause-is c =
    let e = found_by c.in_ok-any.any c.sound.result c.sound.ensures in
    rw (← c.in_ok-any.ensures, ← e, c.if-sound.false) refl

use Rattle.std.proofs.Common.{refl}
use Rattle.aml_direct.proofs.placed.ended_at.Goals as goal

pub returns-in-Ok : goal.returns-in-Ok
returns-in-Ok c = λ m s t h. record { runs = rw c.in-Ok.is at h; next = refl }

pub returns-in-Err : goal.returns-in-Err
returns-in-Err c = λ m s t h. record { runs = rw c.in-Err.is at h; next = tt }

use Rattle.std.proofs.Common.{◌<◌, ◌≤◌, ◌+◌, ◌^◌, length, sym, rules}
use Rattle.aml_regions.proofs.registers.RegisterFile.set_line.Goals as goal

pub returns-in-Ok-put_run-clause-set : goal.returns-in-Ok-put_run-clause-set
returns-in-Ok-put_run-clause-set c =
    let address = c.in-Some-read_address.ensures in
    let some : 0 < length c.in-Ok.run'.items = search rules in
    let room : c.in-Some-read_address.address + length c.in-Ok.run'.items ≤ 2 ^ 64 = search rules in (
      record { space = c.in-Some-space_named.space; address = c.in-Some-read_address.address; run = c.in-Ok.run'.items },
      rw c.in-Some.ensures (sym c.in-Some-space_named.ensures, address.1, address.2, c.in-Ok.ensures.ok, some, room),
      rw c.deref.ensures.value at c.in-Ok-put_run.ensures.put,
    )

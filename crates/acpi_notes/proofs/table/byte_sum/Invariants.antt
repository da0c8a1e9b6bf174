use Rattle.std.proofs.Common.{◌≡◌, ◌%◌, sum, take}
use Rattle.acpi_notes.proofs.table.byte_sum.Given as goal

-- the sum so far
abbrev pub invariant-loop-byte : goal.invariant-loop-byte
invariant-loop-byte l = l.total ≡ sum (take l.byte-index l.bytes) % 256

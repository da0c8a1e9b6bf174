use Rattle.std.proofs.Common.{◌-◌, vec_len, vec_items}
use Rattle.std.specs.Io.KnownBytes.{Consumes}
use Rattle.acpi_sources.proofs.input.read_input.Given as goal

abbrev pub invariant-loop-chunk : goal.invariant-loop-chunk
invariant-loop-chunk g l = Consumes (g.R.Read.remaining l.initial.input) (g.R.Read.remaining l.input) (vec_items l.bytes)

abbrev pub decreases-loop-chunk : goal.decreases-loop-chunk
decreases-loop-chunk g l = 16777217 - vec_len l.bytes

use Rattle.std.proofs.Common.{ℕ, ◌<◌}
use Rattle.aml_judged.specs.Safe.{AreBytes}
use Rattle.aml_namespace.specs.Bodies.{bytes_of}
use Rattle.aml_namespace.specs.Shows.{bytes_in}
use Rattle.aml_literal_laws.proofs.tables_are_bytes.Given as goal

abbrev pub invariant-loop-bytes : goal.invariant-loop-bytes
invariant-loop-bytes l = (k : ℕ) → k < l.bytes-index → AreBytes (bytes_of (bytes_in l.tables) k)

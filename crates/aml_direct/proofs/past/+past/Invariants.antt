use Rattle.std.proofs.Common.{◌≡◌, ◌≤◌, length, drop, ℕ, ◌+◌, ◌-◌, ◌*◌, List}
use Rattle.aml_operators.specs.Tree.{Tree}
use Rattle.aml_places.specs.Lies.{LieArguments}
use Rattle.aml_quick.specs.Settings.{count_of}
use Rattle.aml_direct.proofs.past.+past.Given as goal

abbrev pub decreases-past : goal.decreases-past
decreases-past l = 16 * (length l.bytes.now - l.at) + 1

abbrev pub decreases-past_name : goal.decreases-past_name
decreases-past_name l = 16 * (length l.bytes.now - l.at)

abbrev pub decreases-past_arguments : goal.decreases-past_arguments
decreases-past_arguments l = 16 * (length l.bytes.now - l.from) + 2

abbrev pub decreases-past_piece : goal.decreases-past_piece
decreases-past_piece l = 16 * (length l.bytes.now - l.at) + 2

abbrev pub decreases-past_parts : goal.decreases-past_parts
decreases-past_parts l = 16 * (length l.bytes.now - l.at) + 3 + length l.letters.now

abbrev pub invariant-past_arguments-arguments : goal.invariant-past_arguments-arguments
invariant-past_arguments-arguments l = record {
  ahead : l.from ≤ l.at;
  left : (stop : ℕ) (ts : List Tree) → LieArguments (count_of l.scene) l.bytes l.from stop ts → length ts ≡ l.number → LieArguments (count_of l.scene) l.bytes l.at stop (drop l.counter ts);
}

-- A measure is the depth that is left, and within one depth how many calls are still to come before it falls.
use Rattle.std.proofs.Common.{◌+◌, length, ◌*◌}
use Rattle.aml_externals.proofs.extent.+skip.Given as goal

abbrev pub decreases-letters_end : goal.decreases-letters_end
decreases-letters_end l = 40 * l.depth + 2 + length l.letters.now

abbrev pub decreases-piece_end : goal.decreases-piece_end
decreases-piece_end l = 40 * l.depth + 1

abbrev pub decreases-term_end : goal.decreases-term_end
decreases-term_end l = 40 * l.depth

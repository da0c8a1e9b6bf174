use Rattle.std.proofs.Common.{◌≤◌, ◌+◌, ◌-◌, ◌*◌, length}
use Rattle.aml_direct.specs.Data.{ElementsLie}
use Rattle.aml_direct.proofs.Sizes.{TellsAll}
use Rattle.aml_direct.proofs.computed.+computed.Given as goal

-- each goes to a place further on
abbrev pub decreases-computed_at : goal.decreases-computed_at
decreases-computed_at l = 3 * (length l.bytes.now - l.at)

abbrev pub decreases-computed_in : goal.decreases-computed_in
decreases-computed_in l = 3 * (length l.bytes.now - l.at) + 1

abbrev pub decreases-first_computed : goal.decreases-first_computed
decreases-first_computed l = 3 * (length l.bytes.now - l.start) + 2

-- the elements from here on tell of all
abbrev pub invariant-first_computed-elements : goal.invariant-first_computed-elements
invariant-first_computed-elements l = record {
  ahead : l.start ≤ l.at;
  tells : (e : ElementsLie l.bytes l.start) → TellsAll l.bytes l.at e.parts;
}

abbrev pub decreases-first_computed-elements : goal.decreases-first_computed-elements
decreases-first_computed-elements l = length l.bytes - l.at

use Rattle.std.proofs.Common.{◌≡◌, ◌≤◌, ◌+◌, ◌*◌, ◌-◌, length}
use Rattle.aml_kinds.specs.KindViews.{element_kind, shape_of}
use Rattle.aml_kinds.specs.Kinds.{Anything}
use Rattle.aml_contents.proofs.DataWalk.{Walked}
use Rattle.aml_contents.proofs.data_kinds.+data_kind.Given as goal

abbrev pub decreases-element : goal.decreases-element
decreases-element l = 2 * l.depth

abbrev pub decreases-elements : goal.decreases-elements
decreases-elements l = 2 * l.depth + 1

abbrev pub decreases-elements-loop-at : goal.decreases-elements-loop-at
decreases-elements-loop-at l = length l.bytes - l.at

-- the elements so far are read, and it is known whether they have the first places
abbrev pub invariant-elements-loop-at : goal.invariant-elements-loop-at
invariant-elements-loop-at l = record {
  walked : Walked l.width l.count (shape_of l.places) l.depth l.own l.bytes l.start l.at l.i l.same;
  unset : element_kind l.unset ≡ Anything;
  ahead : l.start ≤ l.at;
  within : l.at ≤ length l.bytes;
  few : l.i ≤ l.at;
}

use Rattle.std.proofs.Common.{◌≤◌, length}
use Rattle.aml_shapes.proofs.PlaceJoins.{JoinsFrom}
use Rattle.aml_shapes.proofs.joined.joined_places.Given as goal

-- what the places from there on are joined to
abbrev pub invariant-loop-left : goal.invariant-loop-left
invariant-loop-left l =
    (l.left ≤ length l.key.parts.items) × JoinsFrom l.joined l.key.places l.key.parts.items l.left

abbrev pub decreases-loop-left : goal.decreases-loop-left
decreases-loop-left l = l.left

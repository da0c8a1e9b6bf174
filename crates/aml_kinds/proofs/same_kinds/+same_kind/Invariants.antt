use Rattle.std.proofs.Common.{◌≡◌, drop, length}
use Rattle.aml_kinds.specs.SameKinds.{same_shape}
use Rattle.aml_kinds.specs.KindViews.{shape_of}
use Rattle.aml_kinds.proofs.same_kinds.+same_kind.Given as goal

-- what is left decides
abbrev pub invariant-shapes_match-loop-i : goal.invariant-shapes_match-loop-i
invariant-shapes_match-loop-i l = record {
  lengths : length l.s ≡ length l.t;
  decides : same_shape (shape_of (drop l.i l.s)) (shape_of (drop l.i l.t)) ≡ same_shape (shape_of l.s) (shape_of l.t);
}

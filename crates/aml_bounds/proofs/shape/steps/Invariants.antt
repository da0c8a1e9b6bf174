use Rattle.std.proofs.Common.{◌≡◌, drop}
use Rattle.aml_operators.specs.Tree.{views}
use Rattle.aml_objects.specs.Widths.{bits_of}
use Rattle.aml_bounds.specs.Loops.{moves_of, steps}
use Rattle.aml_bounds.proofs.shape.steps.Given as goal

-- no statement so far moves the local, or stands in its way
abbrev pub invariant-statements : goal.invariant-statements
invariant-statements l =
    steps (moves_of (bits_of l.width) l.step) l.local (views l.body) ≡ steps (moves_of (bits_of l.width) l.step) l.local (views (drop l.i l.body))

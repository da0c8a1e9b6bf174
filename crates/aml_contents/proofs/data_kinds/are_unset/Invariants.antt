use Rattle.std.proofs.Common.{◌≡◌}
use Rattle.aml_kinds.specs.KindViews.{shape_of}
use Rattle.aml_contents.specs.DataKinds.{unset_from}
use Rattle.aml_contents.proofs.data_kinds.are_unset.Given as goal

-- what is left decides
abbrev pub invariant-loop-i : goal.invariant-loop-i
invariant-loop-i l = unset_from (shape_of l.places) l.i ≡ unset_from (shape_of l.places) l.from

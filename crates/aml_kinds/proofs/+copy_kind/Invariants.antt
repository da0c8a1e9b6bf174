use Rattle.std.proofs.Common.{◌≡◌, map, take}
use Rattle.aml_kinds.specs.KindViews.{element_kind}
use Rattle.aml_kinds.proofs.+copy_kind.Given as goal

-- the kinds so far are copied
abbrev pub invariant-kind_copies::copied_places-loop-each : goal.invariant-kind_copies::copied_places-loop-each
invariant-kind_copies::copied_places-loop-each l = map element_kind l.made.items ≡ map element_kind (take l.each-index l.places)

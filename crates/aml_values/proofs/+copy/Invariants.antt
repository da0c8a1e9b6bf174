use Rattle.std.proofs.Common.{◌≡◌, map, take}
use Rattle.aml_values.specs.Views.{element}
use Rattle.aml_values.proofs.+copy.Given as goal

-- the elements so far are copied
abbrev pub invariant-copies::copied_elements-loop-each : goal.invariant-copies::copied_elements-loop-each
invariant-copies::copied_elements-loop-each l = map element l.made.items ≡ map element (take l.each-index l.elements)

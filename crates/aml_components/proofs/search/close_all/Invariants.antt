use Rattle.std.proofs.Common.{take}
use Rattle.aml_calls.specs.Pairs.{numbers}
use Rattle.aml_components.specs.Search.{AreClosed}
use Rattle.aml_components.proofs.search.close_all.Given as goal

-- the methods so far are closed
abbrev pub invariant-methods : goal.invariant-methods
invariant-methods l =
    AreClosed (numbers (take l.method-index l.methods)) l.number l.initial.marks.items l.marks.items

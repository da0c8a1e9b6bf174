use Rattle.std.proofs.Common.{length}
use Rattle.aml_components.proofs.Cutting.{CutTo}
use Rattle.aml_components.proofs.search.cut.Given as goal

abbrev pub invariant-roots : goal.invariant-roots
invariant-roots l = CutTo l.initial.roots.items l.place l.roots.items

abbrev pub decreases-roots : goal.decreases-roots
decreases-roots l = length l.roots.items

use Rattle.std.proofs.Common.{◌≡◌}
use Rattle.aml_objects.specs.Kept.{entries_seen}
use Rattle.aml_objects.specs.LookUp.{methods_before}
use Rattle.aml_objects.proofs.objects.Objects.methods.Given as goal

-- the methods so far
abbrev pub invariant-loop-number : goal.invariant-loop-number
invariant-loop-number l = l.methods.items ≡ methods_before (entries_seen l.self) l.number

use Rattle.std.proofs.Common.{◌≡◌, map}
use Rattle.aml_objects.specs.Kept.{entries_seen, owned_kept}
use Rattle.aml_objects.specs.LookUp.{owned_before}
use Rattle.aml_objects.proofs.objects.Objects.owned_paths.Given as goal

-- the paths so far
abbrev pub invariant-loop-number : goal.invariant-loop-number
invariant-loop-number l = map owned_kept l.paths.items ≡ owned_before (entries_seen l.self) l.number

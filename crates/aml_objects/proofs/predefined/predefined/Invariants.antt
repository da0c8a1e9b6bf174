use Rattle.std.proofs.Common.{◌≡◌}
use Rattle.aml_objects.specs.Kept.{entries_seen}
use Rattle.aml_objects.specs.Predefined.{predefined_objects}
use Rattle.aml_objects.proofs.FirstNames.{first_entries}
use Rattle.aml_objects.proofs.predefined.predefined.Given as goal

-- the names so far stand there
abbrev pub invariant-loop-segment : goal.invariant-loop-segment
invariant-loop-segment l = record {
  items : l.segment-items ≡ predefined_objects l.os_length;
  made : entries_seen l.objects ≡ first_entries l.os_length l.segment-index;
}

use Rattle.std.proofs.Common.{◌≡◌, ◌<◌, map}
use Rattle.aml_objects.specs.Kept.{entries_seen}
use Rattle.aml_namespace.proofs.Tables.{LeftToDeclare, LeftToLoad}
use Rattle.aml_namespace.specs.Load.{first_width}
use Rattle.aml_objects.specs.Widths.{width_by}
use Rattle.aml_namespace.proofs.load.load_tables.Given as goal

-- the tables that are left make and declare what all do, and fail as all do
abbrev pub invariant-loop-number : goal.invariant-loop-number
invariant-loop-number l = record {
  left : LeftToLoad (map (λ t. t.now) l.tables) (entries_seen l.initial.objects) l.number (entries_seen l.objects);
  first : 0 < l.number → width_by l.revision ≡ first_width (map (λ t. t.now) l.tables);
  declares : LeftToDeclare (map (λ t. t.now) l.tables) (entries_seen l.initial.objects) l.number (entries_seen l.objects) l.externals.items;
}

use Rattle.std.proofs.Common.{◌≡◌, ◌++◌, take}
use Rattle.aml_paths.specs.Printed.{segments_text}
use Rattle.aml_paths.specs.Steps.{path_seen}
use Rattle.aml_path_text.proofs.path.push_segments.Given as goal

-- the segments before were added, with a `.` between each two
abbrev pub invariant-loop-i : goal.invariant-loop-i
invariant-loop-i l = l.line.items ≡ l.initial.line.items ++ segments_text (path_seen (take l.i l.path))

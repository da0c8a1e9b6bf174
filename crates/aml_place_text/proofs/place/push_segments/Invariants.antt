use Rattle.std.proofs.Common.{◌≡◌, ◌++◌, take}
use Rattle.aml_lex.specs.Names.{name_of}
use Rattle.aml_paths.specs.Printed.{segments_text}
use Rattle.aml_place_text.proofs.place.push_segments.Given as goal

-- the segments before were added, with a `.` between each two
abbrev pub invariant-loop-i : goal.invariant-loop-i
invariant-loop-i l = l.text.items ≡ l.initial.text.items ++ segments_text (take l.i (name_of l.name).segs)

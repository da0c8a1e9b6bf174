use Rattle.std.proofs.Common.{◌≡◌, ◌++◌, take, slice_get, Some}
use Rattle.aml_lex.specs.Names.{name_of}
use Rattle.aml_arities.specs.Counted.{Stays, all_paths}
use Rattle.aml_paths.specs.Paths.{path_at}
use Rattle.aml_arities.proofs.counted.Counted.path_to.Given as goal

-- the path of the first segments is reached
abbrev pub invariant-loop-i : goal.invariant-loop-i
invariant-loop-i l = record {
  leads : slice_get (all_paths l.self) l.number ≡ Some (path_at (all_paths l.initial.self) l.fn.base ++ take l.i (name_of l.name).segs);
  stays : Stays l.initial.self l.self;
}

use Rattle.std.proofs.Common.{◌≡◌, List, ◌++◌, Some, sym, ap, ◌∙◌, reverse, arith}
use Rattle.std.proofs.lemmas.List.{append-nil}
use Rattle.aml_lex.specs.declared.names.NameSeg.{NameSeg}
use Rattle.aml_paths.specs.Paths.{Path, root, path_at}
use Rattle.aml_paths.specs.Steps.{path_seen, paths_seen}
use Rattle.aml_paths.proofs.PathNumbers.{path_at_is, path_at_there}
use Rattle.aml_paths.proofs.Seen.{seen_root}
use Rattle.aml_paths.proofs.paths.Paths.path.Goals as goal

pub loop-number-init : goal.loop-number-init
loop-number-init c =
    let paths = paths_seen c.args.self.now in
    let none = ap (λ (segments : List NameSeg). path_at paths c.args.at ++ path_seen (reverse segments)) c.new-segments.ensures.items in
    record {
      there = c.requires;
      behind = path_at_there paths c.args.at c.requires ∙ ap Some (sym (none ∙ append-nil (path_at paths c.args.at)));
    }

pub returns : goal.returns
returns c =
    let held = c.args.self.now in
    let at_root : c.loop-number.number ≡ 0 = omega (arith, c.loop-number-test.false) in
    let first : path_at (paths_seen held) c.loop-number.number ≡ root = ap (path_at (paths_seen held)) at_root ∙ path_at_is (paths_seen held) 0 root (seen_root held) in
    c.loop-number.invariant.behind ∙ ap Some (ap (λ (p : Path). p ++ path_seen (reverse c.loop-number.segments.items)) first ∙ ap path_seen (sym c.reverse.ensures.items))

use Rattle.std.proofs.Common.{take, sym, ap, ◌∙◌, arith}
use Rattle.std.proofs.lemmas.List.{drop_all, length-take-le}
use Rattle.aml_lex.specs.Names.{name_of}
use Rattle.aml_paths.specs.Paths.{number_below}
use Rattle.aml_paths.specs.Steps.{paths_seen}
use Rattle.aml_paths.proofs.PathNumbers.{number_below_itself}
use Rattle.aml_paths.proofs.Positions.{slice_get_taken}
use Rattle.aml_paths.proofs.Ways.{number_below_next, number_below_no_next, number_below_within}
use Rattle.aml_paths.proofs.Seen.{seen_distinct, seen_closed}
use Rattle.aml_paths.proofs.paths.Paths.below.Goals as goal

pub returns-in_err-number : goal.returns-in_err-number
returns-in_err-number c =
    let held = c.args.self.now in
    let segments = take c.args.count (name_of c.args.name.now).segs in
    let segment = slice_get_taken (name_of c.args.name.now).segs c.args.count c.loop-i.i c.seg.result.bytes c.loop-i-test.true c.seg.ensures in
    let none = number_below_no_next (paths_seen held) (seen_distinct held) (seen_closed held) c.loop-i.number segments c.loop-i.i c.seg.result.bytes segment (sym c.child.ensures ∙ c.in_err-number.was) in
    c.from_residual.ensures ∙ sym (c.loop-i.invariant.left ∙ none)

pub loop-i-preserved : goal.loop-i-preserved
loop-i-preserved c =
    let held = c.args.self.now in
    let segments = take c.args.count (name_of c.args.name.now).segs in
    let segment = slice_get_taken (name_of c.args.name.now).segs c.args.count c.loop-i.i c.seg.result.bytes c.loop-i-test.true c.seg.ensures in
    let down = sym c.child.ensures ∙ c.in_ok-number.was in
    record {
      there = number_below_within (paths_seen held) (seen_distinct held) c.loop-i.number _ c.in_ok-number.number down;
      left = c.loop-i.invariant.left ∙ number_below_next (paths_seen held) (seen_distinct held) c.loop-i.number segments c.loop-i.i c.seg.result.bytes c.in_ok-number.number segment down;
    }

pub returns : goal.returns
returns c =
    let held = c.args.self.now in
    let segments = take c.args.count (name_of c.args.name.now).segs in
    let count = length-take-le c.args.count (name_of c.args.name.now).segs c.requires.within in
    let all = drop_all c.loop-i.i segments (omega (arith, count, c.loop-i-test.false)) in
    sym (c.loop-i.invariant.left ∙ ap (number_below (paths_seen held) c.loop-i.number) all ∙ number_below_itself (paths_seen held) (seen_distinct held) c.loop-i.number c.loop-i.invariant.there)

use Rattle.std.proofs.Common.{[], ◌∷◌, ◌++◌, ap, ◌∙◌, arith, length}
use Rattle.std.proofs.lemmas.List.{length-append}
use Rattle.std.proofs.lemmas.Result.{err_from_is_err_and}
use Rattle.aml_regions.specs.Text.{lines_of}
use Rattle.aml_regions.proofs.Lines.{done_more, first_bad, next_line}
use Rattle.aml_regions.proofs.Parts.{parts_more, parts_one}
use Rattle.aml_regions.proofs.registers.RegisterFile.read_text.Goals as goal

pub returns-in_err-read_line-clause-fault : goal.returns-in_err-read_line-clause-fault
returns-in_err-read_line-clause-fault c =
    let e = err_from_is_err_and c.from_residual.result c.from_residual.ensures.1 in
    let (before, all, count, done) = c.loop-line.invariant.set in
    let line = c.in-Some.line.now in
    let whole = all ∙ ap (λ l. before ++ l) (ap lines_of c.in-Some.ensures.whole ∙ parts_more 10 line c.in-Some.behind.now c.in-Some.ensures.front) in
    rw (e.1, e.2) (first_bad c.args.text.now line before (lines_of c.in-Some.behind.now) _ c.loop-line.number _ done whole count c.in_err-read_line.ensures.fault)

pub loop-line-preserved : goal.loop-line-preserved
loop-line-preserved c =
    let i = c.loop-line.invariant in
    let (before, all, count, done) = i.set in
    let line = c.in-Some.line.now in
    let len = ap length c.in-Some.ensures.whole in
    let more = length-append line (10 ∷ c.in-Some.behind.now) in
    record {
      log = rw c.in_ok-read_line.ensures.log i.log;
      refusals = c.in_ok-read_line.ensures.refusals ∙ i.refusals;
      room = omega (arith, i.room, len, more);
      set = (before ++ (line ∷ []), next_line c.args.text.now line c.in-Some.behind.now before c.loop-line.rest.now c.in-Some.ensures.front c.in-Some.ensures.whole all, omega (arith, count, length-append before (line ∷ [])), done_more before line _ _ done c.in_ok-read_line.ensures.set);
    }

pub returns-in_err-read_line-2-clause-fault : goal.returns-in_err-read_line-2-clause-fault
returns-in_err-read_line-2-clause-fault c =
    let e = err_from_is_err_and c.from_residual-in_err-read_line-2.result c.from_residual-in_err-read_line-2.ensures.1 in
    let (before, all, count, done) = c.loop-line.invariant.set in
    let line = c.loop-line.rest.now in
    let whole = all ∙ ap (λ l. before ++ l) (parts_one 10 line c.in_default.ensures.none) in
    rw (e.1, e.2) (first_bad c.args.text.now line before [] _ c.loop-line.number _ done whole count c.in_err-read_line-2.ensures.fault)

pub returns-clause-bytes : goal.returns-clause-bytes
returns-clause-bytes c =
    let (before, all, count, done) = c.loop-line.invariant.set in
    let line = c.loop-line.rest.now in
    let end = done_more before line _ _ done c.in_ok-read_line-2.ensures.set in
    let whole = all ∙ ap (λ l. before ++ l) (parts_one 10 line c.in_default.ensures.none) in
    (end.settings, rw whole end.set, end.same)

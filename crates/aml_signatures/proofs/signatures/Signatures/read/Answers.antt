use Rattle.std.proofs.Common.{◌≡◌, ◌+◌, ◌∙◌, [], ◌∷◌, ap, arith, eqb, length, map, rules, subst, sym, tests}
use Rattle.std.proofs.lemmas.Iterator.Consumers.{YieldsList-end, YieldsList-so_far, YieldsList-turn}
use Rattle.std.proofs.lemmas.Iterator.Splits.{YieldsList-from_slice_split}
use Rattle.std.proofs.lemmas.List.{length-map, length_push, map-append}
use Rattle.std.proofs.lemmas.Result.{err_from_is_err_and}
use Rattle.aml_signatures.specs.Signed.{kinds_told}
use Rattle.aml_signatures.specs.Text.{LinesSign, nothing_told}
use Rattle.aml_signatures.proofs.Lines.{first_bad, lines_at, lines_more, lines_within}
use Rattle.aml_signatures.proofs.signatures.Signatures.read.Goals as goal

pub overflow_add-number : goal.overflow_add-number
overflow_add-number c =
    let road = YieldsList-from_slice_split _ (λ b. eqb b 10) c.args.text.now (cc) (cc) (cc) (λ x r q k. search (rules, tests)) in
    let turn = YieldsList-turn road c.loop-line.yielded _ c.loop-line.yielded_by _ _ c.in-Some.line c.in-Some.is c.next.ensures.steps in
    let n = c.loop-line.invariant.count in
    let most = lines_within c.args.text.now in
    omega (arith, n, most, turn.0)

pub returns-in_err-read_line-clause-fault : goal.returns-in_err-read_line-clause-fault
returns-in_err-read_line-clause-fault c =
    let text = c.args.text.now in
    let road = YieldsList-from_slice_split _ (λ b. eqb b 10) text (cc) (cc) (cc) (λ x r q k. search (rules, tests)) in
    let turn = YieldsList-turn road c.loop-line.yielded _ c.loop-line.yielded_by _ _ c.in-Some.line c.in-Some.is c.next.ensures.steps in
    let so_far = YieldsList-so_far road c.loop-line.yielded _ c.loop-line.yielded_by in
    let before = map (λ x. x.now) c.loop-line.yielded in
    let e = err_from_is_err_and c.from_residual.result c.from_residual.ensures.1 in
    let count : c.loop-line.number + 1 ≡ length before + 1 = ap (λ n. n + 1) (c.loop-line.invariant.count ∙ sym (length-map c.loop-line.yielded (λ x. x.now))) in
    let all = lines_at _ before c.in-Some.line.now (length c.loop-line.yielded) so_far turn in
    rw (e.1, e.2) (first_bad text c.in-Some.line.now before _ _ (c.loop-line.number + 1) _ c.loop-line.invariant.signs all count c.in_err-read_line.ensures.fault)

pub loop-line-preserved : goal.loop-line-preserved
loop-line-preserved c = record {
  can = search rules;
  ends = search rules;
  count = omega (arith, c.loop-line.invariant.count, length_push c.loop-line.yielded c.in-Some.line);
  signs =
      subst (λ lines. LinesSign lines nothing_told (kinds_told c.read_line.new.self)) (sym (map-append (λ x. x.now) c.loop-line.yielded (c.in-Some.line ∷ [])))
      (lines_more c.in-Some.line.now (map (λ x. x.now) c.loop-line.yielded) nothing_told (kinds_told c.loop-line.signatures) _ c.loop-line.invariant.signs c.in_ok-read_line.ensures.told);
}

pub returns-clause-signs : goal.returns-clause-signs
returns-clause-signs c =
    let road = YieldsList-from_slice_split _ (λ b. eqb b 10) c.args.text.now (cc) (cc) (cc) (λ x r q k. search (rules, tests)) in
    let end = YieldsList-end road c.loop-line.yielded _ c.loop-line.yielded_by _ _ c.in-None.is c.next.ensures.steps in
    rw (sym end.0) c.loop-line.invariant.signs

use Rattle.std.proofs.Common.{◌≡◌, ◌+◌, ◌-◌, length, drop, ◌∙◌, sym, arith, refl, zero}
use Rattle.std.proofs.lemmas.Result.{err_from_is_err_and}
use Rattle.aml_lex.specs.declared.fault.LexCause.TheVariants.{BadName}
use Rattle.aml_lex.specs.Reading.{segs_read}
use Rattle.aml_lex.proofs.Places.{segs_ok, segs_err, segments_placed, fault_with_value}
use Rattle.aml_lex.proofs.name_reader.name_segs.Goals as goal

pub returns-in_err-next-clause-gives : goal.returns-in_err-next-clause-gives
returns-in_err-next-clause-gives c =
    let p = err_from_is_err_and c.from_residual.result c.from_residual.ensures.1 in
    rw (p.1, p.2) (fault_with_value BadName c.args.at (length c.args.bytes.now) _ (segs_read c.args.count (drop c.args.at c.args.bytes.now))
    (segs_err BadName c.args.bytes.now c.loop-left.next _ c.loop-left.left (c.loop-left.left - 1) _ (omega arith) c.in_err-next.ensures.gives ∙ sym c.loop-left.invariant.rest))

pub loop-left-preserved : goal.loop-left-preserved
loop-left-preserved c = record {
  few = omega arith;
  size = omega (arith, c.in_ok-next.ensures.size);
  within = c.in_ok-next.ensures.within;
  rest = c.loop-left.invariant.rest ∙ segs_ok BadName c.args.bytes.now c.loop-left.next _ c.in_ok-next.next c.loop-left.left (c.loop-left.left - 1) (omega arith) c.in_ok-next.ensures.size c.in_ok-next.ensures.gives;
}

pub returns-clause-gives : goal.returns-clause-gives
returns-clause-gives c =
    let none : c.loop-left.left ≡ zero = omega (arith, c.loop-left-test.false) in
    let here : c.loop-left.next + 0 ≡ c.loop-left.next = omega arith in
    segments_placed BadName c.args.at (length c.args.bytes.now) c.loop-left.next c.args.count (drop c.args.at c.args.bytes.now)
    (c.loop-left.invariant.rest ∙ rw (none, here) refl)

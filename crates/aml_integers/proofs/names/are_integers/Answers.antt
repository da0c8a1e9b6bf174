use Rattle.std.proofs.Common.{◌∙◌, sym}
use Rattle.aml_integers.proofs.Alone.{first_fails, first_holds}
use Rattle.aml_integers.proofs.Narrow.{next_integer, none_left}
use Rattle.aml_integers.proofs.names.are_integers.Goals as goal

pub returns-then-not-is_integer : goal.returns-then-not-is_integer
returns-then-not-is_integer c = λ shapes.
    sym (next_integer shapes c.args.kinds.now c.kinds.i _ c.kinds-test.true ∙ first_fails _ _ (sym (c.is_integer.ensures shapes) ∙ c.if-not-is_integer.true))
    ∙ c.kinds.invariant shapes

pub kinds-preserved : goal.kinds-preserved
kinds-preserved c = λ shapes.
    sym (next_integer shapes c.args.kinds.now c.kinds.i _ c.kinds-test.true ∙ first_holds _ _ (sym (c.is_integer.ensures shapes) ∙ c.if-not-is_integer.false))
    ∙ c.kinds.invariant shapes

pub returns : goal.returns
returns c = λ shapes. sym (none_left shapes c.args.kinds.now c.kinds.i c.kinds-test.false) ∙ c.kinds.invariant shapes

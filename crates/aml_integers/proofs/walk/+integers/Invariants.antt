use Rattle.std.proofs.Common.{◌≡◌, ◌+◌, ◌*◌, drop}
use Rattle.aml_operators.specs.Tree.{view, views}
use Rattle.aml_namespace.proofs.Weights.{weight, weights}
use Rattle.aml_judged.specs.Integers.{integers_in}
use Rattle.aml_integers.specs.Known.{body_in, marked, methods_in}
use Rattle.aml_integers.proofs.walk.+integers.Given as goal

-- the terms so far evaluate integers alone
abbrev pub invariant-all_alone-terms : goal.invariant-all_alone-terms
invariant-all_alone-terms g l =
    let here = g.A.Around.around l.here in
    integers_in (methods_in here) (body_in here) here.kinds.shared (marked l.only) (views (drop l.term-index l.terms))
    ≡ integers_in (methods_in here) (body_in here) here.kinds.shared (marked l.only) (views l.terms)

abbrev pub decreases-term_alone : goal.decreases-term_alone
decreases-term_alone g l = 4 * weight (view l.term.now) + 3

abbrev pub decreases-alone_by : goal.decreases-alone_by
decreases-alone_by g l = 4 * weights (views l.parts.now) + 2

abbrev pub decreases-call_alone : goal.decreases-call_alone
decreases-call_alone g l = 4 * weights (views l.parts.now) + 1

abbrev pub decreases-notice_alone : goal.decreases-notice_alone
decreases-notice_alone g l = 4 * weights (views l.parts.now) + 1

abbrev pub decreases-all_alone : goal.decreases-all_alone
decreases-all_alone g l = 4 * weights (views l.terms.now)

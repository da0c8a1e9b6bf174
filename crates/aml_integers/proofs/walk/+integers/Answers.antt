use Rattle.std.proofs.Common.{◌∙◌, List, sym, ap, arith}
use Rattle.aml_operators.specs.declared.term.Term.{Term}
use Rattle.aml_operators.specs.declared.term.Term.TheViews.{out-Term}
use Rattle.aml_operators.specs.Tree.{views}
use Rattle.aml_operators.proofs.Views.{view_out}
use Rattle.aml_namespace.proofs.Weights.{lighter_item}
use Rattle.aml_meaning.specs.Actions.{action}
use Rattle.aml_judged.specs.Integers.{integer_name, integers, integers_by, makes_nothing}
use Rattle.aml_integers.specs.Known.{body_in, marked, methods_in}
use Rattle.aml_integers.proofs.Alone.{first_holds}
use Rattle.aml_integers.proofs.walk.+integers.Goals as goal

pub all_alone-term_alone-requires : goal.all_alone-term_alone-requires
all_alone-term_alone-requires g t c =
    let less = lighter_item c.args.terms.now c.terms.term-index c.term-item.result c.terms-test.true c.term-item.is in
    λ κs within. (omega (arith, less, c.decreases), within)

pub alone_by-returns-in-Name : goal.alone_by-returns-in-Name
alone_by-returns-in-Name g t c =
    let here = g.A.Around.around c.args.here.now in
    let only = marked c.args.only.now in
    rw c.in-Name.is (c.name.ensures only ∙ ap (integer_name (methods_in here) (body_in here) here.kinds.shared only) c.link.ensures)

pub alone_by-returns-in-Invoke : goal.alone_by-returns-in-Invoke
alone_by-returns-in-Invoke g t c = rw c.in-Invoke.is (c.call_alone.ensures c.args.at)

pub alone_by-returns-in-CondRefOf : goal.alone_by-returns-in-CondRefOf
alone_by-returns-in-CondRefOf g t c = rw c.in-CondRefOf.is (c.condition_alone.ensures (marked c.args.only.now) c.args.at)

pub alone_by-returns-in-Notify : goal.alone_by-returns-in-Notify
alone_by-returns-in-Notify g t c = rw c.in-Notify.is (c.notice_alone.ensures c.args.at)

pub term_alone-returns : goal.term_alone-returns
term_alone-returns g t c =
    let here = g.A.Around.around c.args.here.now in
    let only = marked c.args.only.now in
    let term = out-Term c.args.term.now in
    let nothing = ap makes_nothing (sym c.definition_of.ensures) ∙ sym c.makes_nothing.ensures ∙ c.if-not-makes_nothing.false in
    c.alone_by.ensures
    ∙ ap (λ a. integers_by (methods_in here) (body_in here) here.kinds.shared only a term.at (views c.as_slice-parts.result.now)) c.action_of.ensures
    ∙ ap (λ (ts : List Term). integers_by (methods_in here) (body_in here) here.kinds.shared only (action term.op) term.at (views ts)) c.as_slice-parts.ensures.value
    ∙ sym (ap (integers (methods_in here) (body_in here) here.kinds.shared only) (view_out c.args.term.now) ∙ first_holds _ _ nothing)

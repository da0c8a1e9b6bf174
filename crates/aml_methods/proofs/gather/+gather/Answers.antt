use Rattle.std.proofs.Common.{sym, ◌∙◌, arith}
use Rattle.std.proofs.lemmas.Result.{on_ok_weaker}
use Rattle.aml_namespace.proofs.Weights.{lighter_item}
use Rattle.aml_methods.specs.Gathered.{links_of}
use Rattle.aml_calls.specs.Pairs.{numbers}
use Rattle.aml_methods.proofs.Calls.{bare_calls, term_gathered}
use Rattle.aml_methods.proofs.gather.+gather.Goals as goal

pub gather-returns : goal.gather-returns
gather-returns t c =
    on_ok_weaker c.gather_all.result
    (term_gathered (links_of c.args.names) c.args.term.now c.action_of-action.result c.as_slice-parts.result.now c.as_slice-parts.result.now c.callee.result
    (numbers c.args.callees.now.items) (numbers c.push.new.callees.items) (numbers c.gather_all.new.callees.items)
    c.action_of-action.ensures c.as_slice-parts.ensures.value c.as_slice-parts.ensures.value c.callee.ensures c.in_ok-push.ensures)
    c.gather_all.ensures

pub gather_all-gather-requires : goal.gather_all-gather-requires
gather_all-gather-requires t c =
    let less = lighter_item c.args.terms.now c.loop-term.term-index c.term-item.result c.loop-term-test.true c.term-item.is in
    (omega (arith, less, c.decreases), tt)

pub gather-returns-then-is_empty : goal.gather-returns-then-is_empty
gather-returns-then-is_empty t c =
    bare_calls (links_of c.args.names) c.args.term.now c.as_slice-parts.result.now (numbers c.args.callees.now.items) c.as_slice-parts.ensures.value (sym c.is_empty.ensures ∙ c.if-is_empty.true)

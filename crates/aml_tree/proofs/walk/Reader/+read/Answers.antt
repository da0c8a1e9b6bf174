use Rattle.std.proofs.Common.{◌≡◌, ◌<◌, ◌++◌, ◌∷◌, [], List, arith, refl, sym, ap, ◌∙◌, map, length}
use Rattle.std.specs.Prelude.{◌==◌}
use Rattle.aml_operators.specs.declared.row.Letter.{Letter}
use Rattle.aml_operators.specs.Tree.{view, stop_of}
use Rattle.aml_operators.specs.declared.term.Term.{out-Term}
use Rattle.aml_operators.proofs.Views.{view_out, pushed}
use Rattle.aml_tree.specs.Reading.{term_at}
use Rattle.aml_tree.proofs.Turns.{until_on, items_on, counted_on, bare_form}
use Rattle.aml_tree.proofs.walk.Reader.+read.Goals as goal

pub terms-loop-at-init : goal.terms-loop-at-init
terms-loop-at-init g t c = (length c.args.bytes.now, omega arith, omega arith, omega arith, refl)

pub terms-loop-at-preserved : goal.terms-loop-at-preserved
terms-loop-at-preserved g t c =
    let counts = g.A.Arity.counts c.args.self.now.arity.now in
    let term = c.in_ok-term.term in
    let e : stop_of (view term) ≡ (out-Term term).end = ap stop_of (view_out term) in
    let new : map view c.push.new.self.items ≡ map view c.loop-at.parts.items ++ view term ∷ [] = rw c.in_ok-push.ensures.items (pushed c.loop-at.parts.items term) in
    let ahead : c.loop-at.at < stop_of (view term) = omega (arith, e, c.in_ok-term.ensures.ahead) in
    let on = until_on counts (term_at c.args.self.now.code counts c.args.depth) c.args.own c.args.spot c.args.bytes.now c.loop-at.invariant.0 (map view c.loop-at.parts.items) c.loop-at.at (view term) _ c.loop-at-test.true c.loop-at.invariant.1 ahead c.in_ok-term.ensures.gives c.loop-at.invariant.4 in
    rw (new, ← e) (on.0, on.1, omega (arith, e, c.in_ok-term.ensures.ahead), omega (arith, e, c.in_ok-term.ensures.within), on.2)

pub items-loop-at-init : goal.items-loop-at-init
items-loop-at-init g t c = (length c.args.bytes.now, omega arith, omega arith, omega arith, refl)

pub items-loop-at-preserved : goal.items-loop-at-preserved
items-loop-at-preserved g t c =
    let counts = g.A.Arity.counts c.args.self.now.arity.now in
    let item = c.in_ok-item.item in
    let e : stop_of (view item) ≡ (out-Term item).end = ap stop_of (view_out item) in
    let new : map view c.push.new.self.items ≡ map view c.loop-at.parts.items ++ view item ∷ [] = rw c.in_ok-push.ensures.items (pushed c.loop-at.parts.items item) in
    let ahead : c.loop-at.at < stop_of (view item) = omega (arith, e, c.in_ok-item.ensures.ahead) in
    let on = items_on counts (term_at c.args.self.now.code counts c.args.depth) c.args.own c.args.bytes.now c.loop-at.invariant.0 (map view c.loop-at.parts.items) c.loop-at.at (view item) _ c.loop-at-test.true c.loop-at.invariant.1 ahead c.in_ok-item.ensures.gives c.loop-at.invariant.4 in
    rw (new, ← e) (on.0, on.1, omega (arith, e, c.in_ok-item.ensures.ahead), omega (arith, e, c.in_ok-item.ensures.within), on.2)

pub counted-loop-left-preserved : goal.counted-loop-left-preserved
counted-loop-left-preserved g t c =
    let counts = g.A.Arity.counts c.args.self.now.arity.now in
    let term = c.in_ok-term.term in
    let e : stop_of (view term) ≡ (out-Term term).end = ap stop_of (view_out term) in
    let new : map view c.push.new.self.items ≡ map view c.loop-left.parts.items ++ view term ∷ [] = rw c.in_ok-push.ensures.items (pushed c.loop-left.parts.items term) in
    let on = counted_on counts (term_at c.args.self.now.code counts c.args.depth) c.args.own c.args.bytes.now c.loop-left.left (map view c.loop-left.parts.items) c.loop-left.at (view term) c.loop-left-test.true c.in_ok-term.ensures.gives in
    rw (new, ← e) (omega (arith, e, c.in_ok-term.ensures.ahead), omega (arith, e, c.in_ok-term.ensures.within), c.loop-left.invariant.2 ∙ on)

pub form-returns-then-is_empty-clause-gives : goal.form-returns-then-is_empty-clause-gives
form-returns-then-is_empty-clause-gives g t c =
    let counts = g.A.Arity.counts c.args.self.now.arity.now in
    let none_left = ap (λ (ls : List Letter). length ls == 0) (sym c.row_of.ensures.letters) ∙ sym c.is_empty.ensures ∙ c.if-is_empty.true in
    rw (c.in-Operator.is, c.leaf-then-is_empty.ensures.tree) (bare_form counts (term_at c.args.self.now.code counts c.args.depth) c.in-Operator.op c.args.bytes.now c.args.at c.in-Operator.next none_left)

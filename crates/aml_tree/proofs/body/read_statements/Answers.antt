use Rattle.std.proofs.Common.{◌≡◌, ◌<◌, ◌++◌, ◌∷◌, [], arith, refl, ap, ◌∙◌, length, map, Ok}
use Rattle.std.proofs.lemmas.Result.{err_from_is_err_and}
use Rattle.aml_operators.specs.Tree.{view, stop_of}
use Rattle.aml_operators.specs.declared.term.Term.{out-Term}
use Rattle.aml_operators.proofs.Views.{view_out, pushed}
use Rattle.aml_tree.specs.Body.{trees_of}
use Rattle.aml_tree.specs.Reading.{term_at}
use Rattle.aml_tree.proofs.Kept.{keeps_none, kept_counts}
use Rattle.aml_operators.specs.declared.row.Code.TheVariants as code
use Rattle.aml_operators.specs.declared.row.Spot.TheVariants as spot
use Rattle.aml_tree.specs.Body.{with_owns, greatest_depth}
use Rattle.aml_tree.specs.Owns.{with_kept}
use Rattle.aml_tree.proofs.Combining.{of_ok}
use Rattle.aml_tree.proofs.RightTerms.{term_right}
use Rattle.aml_tree.proofs.Bodies.{body_on, body_end, body_failing}
use Rattle.aml_tree.proofs.Names.{term_spelled}
use Rattle.aml_tree.proofs.Shaped.{term_fits}
use Rattle.aml_tree.proofs.body.read_statements.Goals as goal

pub loop-at-init : goal.loop-at-init
loop-at-init g c = (length c.args.bytes.now, [], keeps_none c.new-owns.result c.new-owns.ensures.empty, omega arith, rw c.new-statements.ensures.items refl)

pub loop-at-preserved : goal.loop-at-preserved
loop-at-preserved g c =
    let counts = g.A.Arity.counts c.args.arity.now in
    let names = c.loop-at.invariant.1 in
    let term = c.in_ok-statement.statement in
    let e : stop_of (view term) ≡ (out-Term term).end = ap stop_of (view_out term) in
    let new : trees_of c.push.new.self ≡ trees_of c.loop-at.statements ++ view term ∷ [] = rw c.in_ok-push.ensures.items (pushed c.loop-at.statements.items term) in
    let ahead : c.loop-at.at < stop_of (view term) = omega (arith, e, c.in_ok-statement.ensures.ahead) in
    let read : term_at code.Body (with_owns counts names) greatest_depth c.loop-at.at spot.Statement c.args.bytes.now c.loop-at.at ≡ Ok (view term) = rw (kept_counts counts c.loop-at.owns names c.loop-at.invariant.2) at c.in_ok-statement.ensures.gives in
    let on = body_on counts c.args.bytes.now c.loop-at.invariant.0 names (trees_of c.loop-at.statements) c.loop-at.at (view term) _ c.loop-at-test.true c.loop-at.invariant.3 ahead read c.loop-at.invariant.4 in
    rw (new, ← e) (on.0, _, c.in_ok-keep_made.ensures.ok names c.loop-at.invariant.2, on.1, on.2)

pub returns-in_err-statement : goal.returns-in_err-statement
returns-in_err-statement g c =
    let counts = g.A.Arity.counts c.args.arity.now in
    let names = c.loop-at.invariant.1 in
    let p = err_from_is_err_and c.from_residual.result c.from_residual.ensures.1 in
    rw (p.1, p.2, c.loop-at.invariant.4)
    (body_failing counts c.args.bytes.now c.loop-at.invariant.0 names (trees_of c.loop-at.statements) c.loop-at.at _ c.loop-at-test.true c.loop-at.invariant.3 (rw (kept_counts counts c.loop-at.owns names c.loop-at.invariant.2) at c.in_err-statement.ensures.gives))

pub returns : goal.returns
returns g c =
    let same : trees_of c.shrink_to_fit.new.self ≡ trees_of c.loop-at.statements = ap (map view) c.shrink_to_fit.ensures.items in
    rw same (c.loop-at.invariant.4 ∙ body_end (g.A.Arity.counts c.args.arity.now) c.args.bytes.now c.loop-at.invariant.0 c.loop-at.invariant.1 (trees_of c.loop-at.statements) c.loop-at.at c.loop-at-test.false)

pub keep_made-requires-clause-shaped : goal.keep_made-requires-clause-shaped
keep_made-requires-clause-shaped g c =
    let counts = with_kept (g.A.Arity.counts c.args.arity.now) c.loop-at.owns in
    let is = of_ok _ _ _ _ (term_right code.Body counts greatest_depth c.loop-at.at spot.Statement c.args.bytes.now c.loop-at.at) c.in_ok-statement.ensures.gives in
    (term_fits code.Body counts greatest_depth c.loop-at.at spot.Statement c.args.bytes.now c.loop-at.at (view c.in_ok-statement.statement) is).1

pub keep_made-requires-clause-spelled : goal.keep_made-requires-clause-spelled
keep_made-requires-clause-spelled g c =
    let counts = with_kept (g.A.Arity.counts c.args.arity.now) c.loop-at.owns in
    let is = of_ok _ _ _ _ (term_right code.Body counts greatest_depth c.loop-at.at spot.Statement c.args.bytes.now c.loop-at.at) c.in_ok-statement.ensures.gives in
    term_spelled code.Body counts greatest_depth c.loop-at.at spot.Statement c.args.bytes.now c.loop-at.at (view c.in_ok-statement.statement) is

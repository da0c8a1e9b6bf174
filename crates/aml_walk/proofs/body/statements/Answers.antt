use Rattle.std.proofs.Common.{◌≡◌, suc, ◌+◌, [], ◌∷◌, drop, Ok, Err, refl, ap, subst, ◌∙◌, arith}
use Rattle.std.proofs.lemmas.List.{drop_all}
use Rattle.std.proofs.lemmas.Result.{err_from_is_err_and}
use Rattle.aml_operators.specs.Tree.{view, views}
use Rattle.aml_judged.specs.Bodies.{grown, judged_body, judged_statement}
use Rattle.aml_findings.specs.Views.{made_of}
use Rattle.aml_judging.specs.Follows.{Judges}
use Rattle.aml_judging.proofs.Going.{gives_judges, leads_begin, leads_more, leads_on, stops_judge}
use Rattle.aml_judging.proofs.Makings.{left_with}
use Rattle.aml_walk.proofs.body.statements.Goals as goal

pub loop-term-init : goal.loop-term-init
loop-term-init g c = (refl, refl, leads_begin c.args.progress.now)

pub loop-term-preserved : goal.loop-term-preserved
loop-term-preserved g c =
    let same = c.loop-term.invariant.0 in
    let next : c.loop-term.term-index + 1 ≡ suc c.loop-term.term-index = omega arith in
    let left : drop c.loop-term.term-index c.args.body.now ≡ c.term-item.result ∷ drop (suc c.loop-term.term-index) c.args.body.now = left_with c.args.body.now c.loop-term.term-index c.term-item.result c.loop-term-test.true c.term-item.is in
    let made : g.A.Around.around c.make.new.self ≡ grown (g.A.Around.around c.loop-term.here) (made_of (g.A.Shapes.numbered c.args.here.now) c.in_ok-made.made) = c.in_ok-make.ensures.makes ∙ ap (λ s. grown (g.A.Around.around c.loop-term.here) (made_of s c.in_ok-made.made)) same in
    let judges : Judges (g.A.Shapes.numbered c.args.here.now) (λ l. λ m. made_of (g.A.Shapes.numbered c.args.here.now) m) (judged_statement (g.A.Around.around c.loop-term.here) (view c.term-item.result)) c.loop-term.progress c.top_statement.new.progress (Ok c.in_ok-made.made) = subst (λ s. Judges s (λ l. λ m. made_of s m) (judged_statement (g.A.Around.around c.loop-term.here) (view c.term-item.result)) c.loop-term.progress c.top_statement.new.progress (Ok c.in_ok-made.made)) same c.in_ok-made.ensures in
    let leads = rw left at c.loop-term.invariant.2 in
    (c.in_ok-make.ensures.shapes ∙ same, ap (λ a. a.table) made ∙ c.loop-term.invariant.1, rw (next, made) (leads_more (λ m. judged_body (grown (g.A.Around.around c.loop-term.here) m) (views (drop (suc c.loop-term.term-index) c.args.body.now))) leads judges))

pub returns-in_err-made-clause-judges : goal.returns-in_err-made-clause-judges
returns-in_err-made-clause-judges g c =
    let same = c.loop-term.invariant.0 in
    let p = err_from_is_err_and c.from_residual.result c.from_residual.ensures.1 in
    let left : drop c.loop-term.term-index c.args.body.now ≡ c.term-item.result ∷ drop (suc c.loop-term.term-index) c.args.body.now = left_with c.args.body.now c.loop-term.term-index c.term-item.result c.loop-term-test.true c.term-item.is in
    let leads = rw left at c.loop-term.invariant.2 in
    let judges : Judges (g.A.Shapes.numbered c.args.here.now) (λ l. λ m. made_of (g.A.Shapes.numbered c.args.here.now) m) (judged_statement (g.A.Around.around c.loop-term.here) (view c.term-item.result)) c.loop-term.progress c.top_statement.new.progress (Err c.in_err-made.field-0.0) = subst (λ s. Judges s (λ l. λ m. made_of s m) (judged_statement (g.A.Around.around c.loop-term.here) (view c.term-item.result)) c.loop-term.progress c.top_statement.new.progress (Err c.in_err-made.field-0.0)) same c.in_err-made.ensures in
    rw (p.1, p.2) (leads_on (Err c.in_err-made.field-0.0) leads (stops_judge (λ m. judged_body (grown (g.A.Around.around c.loop-term.here) m) (views (drop (suc c.loop-term.term-index) c.args.body.now))) c.in_err-made.field-0.0 judges))

pub returns-in_err-made-clause-shapes : goal.returns-in_err-made-clause-shapes
returns-in_err-made-clause-shapes g c = c.loop-term.invariant.0

pub returns-clause-judges : goal.returns-clause-judges
returns-clause-judges g c =
    let all : drop c.loop-term.term-index c.args.body.now ≡ [] = drop_all c.loop-term.term-index c.args.body.now c.loop-term-test.false in
    let leads = rw all at c.loop-term.invariant.2 in
    leads_on (Ok tt) leads (gives_judges {see = λ u. u} c.loop-term.progress tt (λ env. refl))

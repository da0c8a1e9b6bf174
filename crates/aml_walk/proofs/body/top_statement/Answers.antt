use Rattle.std.proofs.Common.{◌≡◌, Ok, refl, sym, ◌∙◌}
use Rattle.std.proofs.lemmas.Result.{err_from_is_err_and}
use Rattle.aml_operators.specs.Tree.{Node, view, views}
use Rattle.aml_operators.specs.declared.term.Term.TheViews.{out-Term}
use Rattle.aml_operators.proofs.Views.{view_out}
use Rattle.aml_judged.specs.Bodies.{judged_made}
use Rattle.aml_findings.specs.Views.{made_of}
use Rattle.aml_judging.proofs.Going.{gives_judges, stops_judge, then_judges}
use Rattle.aml_judged.specs.Judged.{goes, step}
use Rattle.aml_judged.specs.Bodies.{Nothing}
use Rattle.aml_findings.specs.declared.around.Made.TheVariants as program
use Rattle.aml_judging.proofs.Stored.{costs_judge}
use Rattle.aml_judging.proofs.Makings.{stated_nothing, stated_what}
use Rattle.aml_walk.proofs.body.top_statement.Goals as goal

pub returns-in_err-statement-in-Nothing : goal.returns-in_err-statement-in-Nothing
returns-in_err-statement-in-Nothing g c =
    let p = err_from_is_err_and c.from_residual.result c.from_residual.ensures.1 in
    let is = stated_nothing (g.A.Around.around c.args.here.now) (view c.args.term.now) (out-Term c.args.term.now).op (out-Term c.args.term.now).at (out-Term c.args.term.now).end (views (out-Term c.args.term.now).parts.items) (view_out c.args.term.now) (sym c.definition_of.ensures ∙ c.in-Nothing.is) in
    rw (is, p.1, p.2) (stops_judge (λ y. goes Nothing) c.in_err-statement-in-Nothing.field-0.0 c.in_err-statement-in-Nothing.ensures)

pub returns-in_ok-statement-in-Nothing : goal.returns-in_ok-statement-in-Nothing
returns-in_ok-statement-in-Nothing g c =
    let is = stated_nothing (g.A.Around.around c.args.here.now) (view c.args.term.now) (out-Term c.args.term.now).op (out-Term c.args.term.now).at (out-Term c.args.term.now).end (views (out-Term c.args.term.now).parts.items) (view_out c.args.term.now) (sym c.definition_of.ensures ∙ c.in-Nothing.is) in
    rw is (then_judges (λ y. goes Nothing) (Ok program.Nothing) c.in_ok-statement-in-Nothing.ensures (gives_judges {see = made_of (g.A.Shapes.numbered c.args.here.now)} c.statement.new.progress program.Nothing (λ env. refl)))

pub returns-in_default : goal.returns-in_default
returns-in_default g c =
    let is : view c.args.term.now ≡ Node (out-Term c.args.term.now).op (out-Term c.args.term.now).at (out-Term c.args.term.now).end (views c.deref.result.now) = rw c.deref.ensures.value (view_out c.args.term.now) in
    let what = stated_what (g.A.Around.around c.args.here.now) (view c.args.term.now) c.definition_of.result (out-Term c.args.term.now).op (out-Term c.args.term.now).at (out-Term c.args.term.now).end (views c.deref.result.now) is (sym c.definition_of.ensures) (λ h. c.in_default.not-Nothing h) in
    rw what (then_judges {see = λ u. u} {m = step} (λ u. judged_made (g.A.Around.around c.args.here.now) c.definition_of.result (out-Term c.args.term.now).at (views c.deref.result.now)) c.made.result (costs_judge c.step.ensures (λ env. refl)) c.made.ensures)

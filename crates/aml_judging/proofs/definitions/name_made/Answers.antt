use Rattle.std.proofs.Common.{◌≡◌, true, refl}
use Rattle.std.proofs.lemmas.Result.{err_from_is_err_and}
use Rattle.aml_operators.specs.Tree.{Node, more, none, view, views}
use Rattle.aml_operators.specs.declared.term.Term.TheViews.{out-Term}
use Rattle.aml_operators.proofs.Views.{view_out}
use Rattle.aml_meaning.specs.Meaning.{at_of}
use Rattle.aml_meaning.specs.declared.definition.Definition.TheVariants as makes
use Rattle.aml_judged.specs.Bodies.{judged_made, may_make}
use Rattle.aml_known.specs.Views.{kind_of}
use Rattle.aml_findings.specs.Views.{made_of}
use Rattle.aml_judging.proofs.Going.{paid_judges}
use Rattle.aml_judging.proofs.Makings.{name_goes, name_stops, paid_stops}
use Rattle.aml_judging.proofs.definitions.name_made.Goals as goal

pub returns-in_err-kind : goal.returns-in_err-kind
returns-in_err-kind g c =
    let p = err_from_is_err_and c.from_residual.result c.from_residual.ensures.1 in
    let may : may_make (g.A.Around.around c.args.here.now) (at_of (view c.args.name.now)) ≡ true = rw (view_out c.args.name.now, ← c.may_make.ensures) c.if-not-may_make.false in
    let is : view c.args.held.now ≡ Node (out-Term c.args.held.now).op (out-Term c.args.held.now).at (out-Term c.args.held.now).end (views c.deref.result.now) = rw c.deref.ensures.value (view_out c.args.held.now) in
    rw (p.1, p.2) (paid_stops (made_of (g.A.Shapes.numbered c.args.here.now)) (judged_made (g.A.Around.around c.args.here.now) makes.Name c.args.at (more (view c.args.name.now) (more (view c.args.held.now) none))) c.step.ensures c.in_err-kind.field-0.0 (name_stops (g.A.Around.around c.args.here.now) c.args.at (kind_of (g.A.Shapes.numbered c.args.here.now)) (made_of (g.A.Shapes.numbered c.args.here.now)) (view c.args.name.now) (view c.args.held.now) (out-Term c.args.held.now).op (out-Term c.args.held.now).at (out-Term c.args.held.now).end (views c.deref.result.now) is may c.in_err-kind.field-0.0 (λ env. c.in_err-kind.ensures env)))

pub returns : goal.returns
returns g c =
    let may : may_make (g.A.Around.around c.args.here.now) (at_of (view c.args.name.now)) ≡ true = rw (view_out c.args.name.now, ← c.may_make.ensures) c.if-not-may_make.false in
    let is : view c.args.held.now ≡ Node (out-Term c.args.held.now).op (out-Term c.args.held.now).at (out-Term c.args.held.now).end (views c.deref.result.now) = rw c.deref.ensures.value (view_out c.args.held.now) in
    paid_judges {see = made_of (g.A.Shapes.numbered c.args.here.now)} (λ m. 1) c.step.ensures refl (name_goes (g.A.Around.around c.args.here.now) c.args.at (view c.args.name.now) (view c.args.held.now) (kind_of (g.A.Shapes.numbered c.args.here.now) c.in_ok-kind.kind) (out-Term c.args.held.now).op (out-Term c.args.held.now).at (out-Term c.args.held.now).end (views c.deref.result.now) is may (λ env. c.in_ok-kind.ensures env))

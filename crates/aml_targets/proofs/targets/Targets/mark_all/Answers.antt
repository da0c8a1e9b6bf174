use Rattle.std.proofs.Common.{◌+◌, ◌∙◌, ap, drop}
use Rattle.std.specs.Prelude.{◌||◌}
use Rattle.aml_operators.specs.declared.term.Term.TheViews.{out-Term}
use Rattle.aml_operators.specs.Tree.{views}
use Rattle.aml_operators.proofs.Views.{view_out}
use Rattle.aml_meaning.specs.Actions.{action}
use Rattle.aml_bounds.specs.Shapes.{acts}
use Rattle.aml_targets.specs.Marks.{acts_in}
use Rattle.aml_targets.proofs.Added.{leaves_less, views_at}
use Rattle.aml_targets.proofs.targets.Targets.mark_all.Goals as goal

pub terms-preserved : goal.terms-preserved
terms-preserved c =
    let ts = c.args.terms.now in
    let i = c.terms.term-index in
    let t = c.term-item.result in
    let rest = views (drop (i + 1) ts) in
    leaves_less (λ is. is (action (out-Term t).op)) (λ is. acts_in is rest) (λ is. acts_in is (views (drop i ts))) (λ is. acts_in is (views ts)) c.args.self.now c.terms.self c.mark_place.new.self (λ is. ap (acts_in is) (views_at ts i t c.terms-test.true c.term-item.is) ∙ ap (λ x. acts is x || acts_in is rest) (view_out t)) c.terms.invariant c.mark_place.ensures

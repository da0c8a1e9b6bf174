use Rattle.std.proofs.Common.{sym, subst, ◌∙◌}
use Rattle.std.proofs.lemmas.Option.{same_Some}
use Rattle.aml_bodies.specs.Links.{AreLinks, IsLinked}
use Rattle.aml_bodies.specs.declared.keeping.Kept.{Kept}
use Rattle.aml_namespace.specs.Shows.{shown}
use Rattle.aml_verify.proofs.Linked.{linked_means}
use Rattle.aml_verify.proofs.checked.Checked.link.Goals as goal

pub returns-in-Some-clause-means : goal.returns-in-Some-clause-means
returns-in-Some-clause-means c = λ told is.
    linked_means (shown c.args.self.now.namespace.now) c.args.method.0 c.args.at c.in-Some.kept.now c.linked.result
    (is.kept c.args.method.0 c.in-Some.kept.now (sym c.in-Some.ensures)) c.linked.ensures.means

pub returns-in-Some-clause-all : goal.returns-in-Some-clause-all
returns-in-Some-clause-all c = λ one e stop is.
    c.linked.ensures.all stop (subst (λ (k : Kept). IsLinked k.links c.args.at stop) (same_Some one c.in-Some.kept.now (sym e ∙ sym c.in-Some.ensures)) is)

pub returns-in-Some-clause-kept : goal.returns-in-Some-clause-kept
returns-in-Some-clause-kept c = λ one e means are.
    c.linked.ensures.means means (subst (λ (k : Kept). AreLinks means k.links) (same_Some one c.in-Some.kept.now (sym e ∙ sym c.in-Some.ensures)) are)

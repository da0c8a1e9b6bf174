use Rattle.std.proofs.Common.{◌∙◌, sym}
use Rattle.aml_operators.specs.Tree.{views}
use Rattle.aml_operators.proofs.Views.{view_out}
use Rattle.aml_operators.specs.declared.term.Term.TheViews.{out-Term}
use Rattle.aml_scene.proofs.Letters.{invoked_letters}
use Rattle.aml_plain.proofs.Forms.{some_arguments}
use Rattle.aml_scene.proofs.Written.{indexed_elsewhere}
use Rattle.aml_plain.proofs.Written.{indexed_invoked}
use Rattle.aml_plain.specs.Tells.{calls_of, setting_of}
use Rattle.aml_plain.proofs.index.name_indexed.Goals as goal

pub returns-in-Name-clause-means : goal.returns-in-Name-clause-means
returns-in-Name-clause-means c = λ around log. rw (← c.action_of.ensures, c.in-Name.is) (c.bound.ensures.means (calls_of c.args.here around) log)

pub returns-in-Invoke-clause-means : goal.returns-in-Invoke-clause-means
returns-in-Invoke-clause-means c = λ around log.
    rw (← c.action_of.ensures, c.in-Invoke.is, ← c.deref.ensures.value, c.first_and_rest.ensures.views, indexed_invoked (setting_of c.args.here around) c.args.at (out-Term c.args.source.now).at c.first_and_rest.result.0.now (views c.first_and_rest.result.1.now)) (c.bound-in-Invoke.ensures.means (calls_of c.args.here around) log)

pub returns-in_default-clause-means : goal.returns-in_default-clause-means
returns-in_default-clause-means c = λ around log.
    rw (← c.action_of.ensures, indexed_elsewhere (setting_of c.args.here around) c.args.at _ (out-Term c.args.source.now).at (views (out-Term c.args.source.now).parts.items) c.in_default.not-Name c.in_default.not-Invoke) (c.refused.ensures.means (calls_of c.args.here around) log)

pub first_and_rest-requires : goal.first_and_rest-requires
first_and_rest-requires c =
    let h = rw view_out at c.requires in
    let letters = rw (invoked_letters _ (sym c.action_of.ensures ∙ c.in-Invoke.is)) at h.0 in
    some_arguments c.deref.result.now (rw c.deref.ensures.value letters)

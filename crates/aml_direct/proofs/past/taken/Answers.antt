use Rattle.std.proofs.Common.{sym, ap, ◌∙◌}
use Rattle.aml_namespace.specs.Shows.{shown}
use Rattle.aml_quick.specs.Settings.{takes_by}
use Rattle.aml_direct.proofs.Named.{as_many}
use Rattle.aml_direct.proofs.past.taken.Goals as goal

pub returns-in-Missing : goal.returns-in-Missing
returns-in-Missing c = λ name. c.taken_at.ensures ∙ ap (takes_by (shown c.args.scene.now.namespace.now) c.args.scene.now.links.now c.args.at) (sym c.in-Missing.is ∙ c.link_of.ensures)

pub returns-in_default : goal.returns-in_default
returns-in_default c = λ name.
    let takes = takes_by (shown c.args.scene.now.namespace.now) c.args.scene.now.links.now c.args.at in
    c.count.ensures ∙ as_many (shown c.args.scene.now.namespace.now) c.args.scene.now.links.now c.args.at c.link_of.result c.in_default.not-Missing ∙ ap takes c.link_of.ensures

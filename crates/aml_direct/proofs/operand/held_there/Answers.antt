use Rattle.std.proofs.Common.{◌∙◌, subst}
use Rattle.aml_meaning.proofs.Runs.{runs_stop_with}
use Rattle.aml_quick.specs.Settings.{calls_of, count_of, setting_of}
use Rattle.aml_direct.proofs.Leaves.{MayBeTarget, may_be_target, not_leaf, target_outside}
use Rattle.aml_direct.proofs.operand.held_there.Goals as goal

pub returns-in-Name-clause-means : goal.returns-in-Name-clause-means
returns-in-Name-clause-means g c = λ around bytes t lies is parts. rw (← c.action_of.ensures, c.in-Name.is) (c.named.ensures.means (calls_of c.args.here around))

pub returns-in-Local-clause-means : goal.returns-in-Local-clause-means
returns-in-Local-clause-means g c = λ around bytes t lies is parts. rw (← c.action_of.ensures, c.in-Local.is) (c.local.ensures (calls_of c.args.here around) parts _)

pub returns-in-Argument-clause-means : goal.returns-in-Argument-clause-means
returns-in-Argument-clause-means g c = λ around bytes t lies is parts. rw (← c.action_of.ensures, c.in-Argument.is) (c.argument.ensures (calls_of c.args.here around) parts _)

pub returns-in_default-clause-means : goal.returns-in_default-clause-means
returns-in_default-clause-means g c = λ around bytes t lies is parts.
    let count = count_of c.args.here.scene.now in
    let may = subst (MayBeTarget count bytes c.args.at) is (may_be_target count bytes c.args.at t lies) in
    let leaf = not_leaf _ (λ e. c.in_default.not-Name (c.action_of.ensures ∙ e)) (λ k e. c.in_default.not-Local k (c.action_of.ensures ∙ e)) (λ k e. c.in_default.not-Argument k (c.action_of.ensures ∙ e)) in
    rw (target_outside (setting_of c.args.here around) c.args.op c.args.at parts may leaf c.requires, c.fails.ensures) (runs_stop_with _ _)

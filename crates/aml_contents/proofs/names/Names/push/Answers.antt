use Rattle.aml_contents.proofs.ContentLaws.{pushed_fitting}
use Rattle.std.proofs.Common.{ap, ◌∙◌}
use Rattle.aml_contents.specs.FirstKinds.{first_kind}
use Rattle.aml_contents.specs.ContentViews.{content}
use Rattle.aml_contents.proofs.names.Names.push.Goals as goal

pub invariant_of-self-in-Ok : goal.invariant_of-self-in-Ok
invariant_of-self-in-Ok c =
    let before = c.args.self.now in
    record { fitting = pushed_fitting c.args.width before.contents.items c.push-2.new.self.items before.kinds.items c.push.new.self.items c.args.held c.held_first.result c.in_ok-kind.kind c.in-Ok.ensures.items c.in_ok-push.ensures.items c.held_first.ensures (c.in_ok-kind.ensures ∙ ap (λ n. first_kind n (content c.args.held)) c.greatest.ensures) before.fitting }

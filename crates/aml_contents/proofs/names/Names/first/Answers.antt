use Rattle.std.proofs.Common.{◌<◌, ◌≤◌, ◌∙◌, ◌++◌, ◌∷◌, [], length, ap, arith}
use Rattle.aml_objects.specs.declared.width.Width.{Width}
use Rattle.aml_namespace.specs.Shows.{shown}
use Rattle.aml_contents.specs.ContentViews.{content}
use Rattle.aml_contents.specs.FirstKinds.{first_kind, greatest_of, held_first}
use Rattle.aml_contents.specs.Held.{contents, content_kinds}
use Rattle.aml_contents.proofs.FirstNames.{contents_all, contents_next, kinds_all, kinds_next}
use Rattle.aml_contents.proofs.names.Names.first.Goals as goal

pub loop-i-preserved : goal.loop-i-preserved
loop-i-preserved c =
    let ns = shown c.args.namespace.now in
    let there : c.loop-i.i < length ns.entries = omega (arith, c.loop-i-test.true, c.len-i-end.ensures) in
    let added = c.in_ok-push.ensures in
    record {
      held = contents_next ns c.loop-i.i (contents c.loop-i.names) (contents c.push.new.self) (content c.in_ok-held.held) there c.loop-i.invariant.held c.in_ok-held.ensures (added.held ∙ ap (λ (w : Width). contents c.loop-i.names ++ held_first w (content c.in_ok-held.held) ∷ []) c.width.ensures);
      kinds = kinds_next ns c.loop-i.i (content_kinds c.loop-i.names) (content_kinds c.push.new.self) (content c.in_ok-held.held) there c.loop-i.invariant.kinds c.in_ok-held.ensures (added.kinds ∙ ap (λ (w : Width). content_kinds c.loop-i.names ++ first_kind (greatest_of w) (content c.in_ok-held.held) ∷ []) c.width.ensures);
    }

pub returns-clause-contents : goal.returns-clause-contents
returns-clause-contents c =
    let ns = shown c.args.namespace.now in
    let past : length ns.entries ≤ c.loop-i.i = omega (arith, c.loop-i-test.false, c.len-i-end.ensures) in
    c.loop-i.invariant.held ∙ contents_all ns c.loop-i.i past

pub returns-clause-kinds : goal.returns-clause-kinds
returns-clause-kinds c =
    let ns = shown c.args.namespace.now in
    let past : length ns.entries ≤ c.loop-i.i = omega (arith, c.loop-i-test.false, c.len-i-end.ensures) in
    c.loop-i.invariant.kinds ∙ kinds_all ns c.loop-i.i past

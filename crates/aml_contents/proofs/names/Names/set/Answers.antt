use Rattle.std.proofs.Common.{◌≡◌, ◌<◌, true, sym, subst, ◌∙◌}
use Rattle.aml_values.specs.Views.{view}
use Rattle.aml_contents.specs.Contents.{Contents, are_fitting}
use Rattle.aml_contents.specs.ContentViews.{contents_of, content_kinds_of}
use Rattle.aml_contents.proofs.ContentLaws.{may_hold-there, given_are_fitting, contents_given, contents_length}
use Rattle.aml_contents.proofs.names.Names.set.Goals as goal

pub index_mut-requires : goal.index_mut-requires
index_mut-requires c =
    let held = c.args.self.now in
    let there = may_hold-there (contents_of held.contents.items) (content_kinds_of held.kinds.items) c.args.id.0 (view c.args.value) held.fitting (sym c.may_hold.ensures ∙ c.if-not-may_hold.false) in
    subst (λ n. c.args.id.0 < n) (contents_length held.contents.items ∙ sym held.contents.ok.0) there

pub invariant_of-self : goal.invariant_of-self
invariant_of-self c =
    let held = c.args.self.now in
    record { fitting = subst (λ (vs : Contents). are_fitting vs (content_kinds_of held.kinds.items) ≡ true) (sym (contents_given held.contents.items c.args.id.0 c.args.value)) (given_are_fitting (contents_of held.contents.items) (content_kinds_of held.kinds.items) c.args.id.0 (view c.args.value) held.fitting (sym c.may_hold.ensures ∙ c.if-not-may_hold.false)) }

pub returns-clause-put : goal.returns-clause-put
returns-clause-put c = contents_given c.args.self.now.contents.items c.args.id.0 c.args.value

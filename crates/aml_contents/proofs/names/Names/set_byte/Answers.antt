use Rattle.std.proofs.Common.{◌≡◌, true, length, sym, subst, ap, ◌∙◌}
use Rattle.std.proofs.lemmas.List.{with_items_is}
use Rattle.aml_contents.specs.Contents.{Contents, are_fitting, changed_byte}
use Rattle.aml_contents.specs.ContentViews.{contents_of, content_kinds_of}
use Rattle.aml_contents.proofs.ContentLaws.{changed_are_fitting}
use Rattle.aml_contents.proofs.names.Names.set_byte.Goals as goal

pub invariant_of-self : goal.invariant_of-self
invariant_of-self c =
    let held = c.args.self.now in
    let as_many : length c.put_byte.new.contents ≡ held.contents.len = c.put_byte.auto.contents ∙ (ap length c.deref_mut.ensures.value ∙ sym held.contents.ok.0) in
    let left : contents_of c.put_byte.new.contents ≡ changed_byte (contents_of held.contents.items) c.args.id.0 c.args.at c.args.byte = c.put_byte.ensures.put ∙ ap (λ vs. changed_byte (contents_of vs) c.args.id.0 c.args.at c.args.byte) c.deref_mut.ensures.value in
    record { fitting = subst (λ (vs : Contents). are_fitting vs (content_kinds_of held.kinds.items) ≡ true) (sym (ap contents_of (with_items_is held.contents c.put_byte.new.contents as_many) ∙ left)) (changed_are_fitting (contents_of held.contents.items) (content_kinds_of held.kinds.items) c.args.id.0 c.args.at c.args.byte held.fitting) }

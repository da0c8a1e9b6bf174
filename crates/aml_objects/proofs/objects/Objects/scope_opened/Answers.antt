use Rattle.std.proofs.Common.{sym, ◌∙◌, arith}
use Rattle.aml_objects.proofs.Kept.{object_within}
use Rattle.aml_objects.proofs.objects.Objects.scope_opened.Goals as goal

pub opened_by-requires : goal.opened_by-requires
opened_by-requires c =
    let entries = c.args.self.now.entries in
    let within = object_within c.args.self.now c.in_ok-number.number c.in_ok-object.field-0 (sym c.object.ensures ∙ c.in_ok-object.was) in
    omega (arith, within, entries.ok.0, entries.ok.1, entries.small)

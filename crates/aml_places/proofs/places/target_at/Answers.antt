use Rattle.std.proofs.Common.{Some, sym, ◌∙◌, ap}
use Rattle.aml_operators.specs.declared.row.Spot.TheVariants as spot
use Rattle.aml_places.proofs.Inversion.{form_in}
use Rattle.aml_places.proofs.Targets.{name_form, name_there, null_form}
use Rattle.aml_places.proofs.places.target_at.Goals as goal

pub name_end-requires : goal.name_end-requires
name_end-requires c = name_there c.args.bytes.now c.args.at (sym c.op_at.ensures.is ∙ c.in-None.is) c.requires

pub returns-in-None-clause-is : goal.returns-in-None-clause-is
returns-in-None-clause-is c = name_form c.args.bytes.now c.args.at c.name_end.result (sym c.op_at.ensures.is ∙ c.in-None.is) c.name_end.ensures.is

pub returns-in-Zero-clause-is : goal.returns-in-Zero-clause-is
returns-in-Zero-clause-is c =
    null_form c.args.bytes.now c.args.at c.in-Some.next (sym c.op_at.ensures.is ∙ c.in-Some.is ∙ ap (λ o. Some (o, c.in-Some.next)) c.in-Zero.is)

pub returns-in_default-clause-is : goal.returns-in_default-clause-is
returns-in_default-clause-is c = λ count.
    form_in count c.args.bytes.now c.args.at spot.Target c.in-Some.op c.in-Some.next (sym c.op_at.ensures.is ∙ c.in-Some.is) c.in_default.not-Zero

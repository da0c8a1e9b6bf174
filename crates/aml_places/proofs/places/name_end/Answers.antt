use Rattle.std.proofs.Common.{sym, ◌∙◌}
use Rattle.aml_places.proofs.Names.{lead_inside, lead_is}
use Rattle.aml_places.proofs.places.name_end.Goals as goal

pub returns-then-leads_segment-clause-is : goal.returns-then-leads_segment-clause-is
returns-then-leads_segment-clause-is c =
    let look = c.in-Some.ensures.lookup in
    lead_is c.args.bytes.now c.args.at c.in-Some.byte.now look.3.0 (look.3.1 0) (sym c.leads_segment.ensures ∙ c.if-leads_segment.true)

pub returns-then-leads_segment-clause-within : goal.returns-then-leads_segment-clause-within
returns-then-leads_segment-clause-within c =
    let look = c.in-Some.ensures.lookup in
    lead_inside c.args.bytes.now c.args.at c.in-Some.byte.now look.3.0 (look.3.1 0) (sym c.leads_segment.ensures ∙ c.if-leads_segment.true) c.requires

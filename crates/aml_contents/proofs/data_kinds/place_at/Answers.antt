use Rattle.std.proofs.Common.{◌∙◌, sym}
use Rattle.aml_contents.proofs.DataWalk.{place_there, place_past}
use Rattle.aml_contents.proofs.data_kinds.place_at.Goals as goal

pub returns-then-number-places : goal.returns-then-number-places
returns-then-number-places c =
    place_there c.args.places.now c.args.number c.index-places-number.result c.if-number-places.true c.index-places-number.is

pub returns-else-number-places : goal.returns-else-number-places
returns-else-number-places c =
    c.requires ∙ sym (place_past c.args.places.now c.args.number c.if-number-places.false)

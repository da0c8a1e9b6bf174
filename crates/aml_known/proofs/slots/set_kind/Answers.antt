use Rattle.std.proofs.Common.{Some}
use Rattle.std.proofs.lemmas.List.{map-set}
use Rattle.aml_known.specs.Views.{slot_of}
use Rattle.aml_known.proofs.slots.set_kind.Goals as goal

pub returns-then-place-slots : goal.returns-then-place-slots
returns-then-place-slots c = λ shapes.
    rw c.from-place.ensures (map-set (slot_of shapes) c.args.slots.now c.args.number (Some c.args.kind))

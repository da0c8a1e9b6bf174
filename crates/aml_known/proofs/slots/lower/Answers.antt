use Rattle.std.proofs.Common.{◌∙◌, None, ap, arith, get_or}
use Rattle.std.proofs.lemmas.List.{get_or-map, length-map, map-set}
use Rattle.aml_judged.specs.Known.{lower}
use Rattle.aml_known.specs.Views.{slot_of, slots_of}
use Rattle.aml_known.proofs.OneByOne.{none_lowered, one_lowered}
use Rattle.aml_known.proofs.slots.lower.Goals as goal

pub returns-then-place-slots : goal.returns-then-place-slots
returns-then-place-slots c = λ shapes.
    let see = slot_of shapes in
    let slots = c.args.slots.now in
    let place = c.from-place.result in
    map-set see slots place c.lowered.result
    ∙ one_lowered place c.args.most (slots_of shapes slots) None (see (get_or slots place None)) (see c.lowered.result) (omega (arith, length-map slots see, c.if-place-slots.true)) (get_or-map see slots place None None c.if-place-slots.true) (c.lowered.ensures shapes)
    ∙ ap (λ n. lower (slots_of shapes slots) n c.args.most) c.from-place.ensures

pub returns-else-place-slots : goal.returns-else-place-slots
returns-else-place-slots c = λ shapes.
    none_lowered c.args.number c.args.most (slots_of shapes c.args.slots.now) (omega (arith, length-map c.args.slots.now (slot_of shapes), c.from-place.ensures, c.if-place-slots.false))

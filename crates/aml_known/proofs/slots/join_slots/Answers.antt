use Rattle.std.proofs.Common.{◌<◌, ◌∙◌, None, add-one, ap, arith, get_or, length, set, suc}
use Rattle.std.proofs.lemmas.List.{get_or-map, length-map, map-set}
use Rattle.aml_known.specs.Views.{slot_of, slots_of}
use Rattle.aml_known.proofs.OneByOne.{joined_from, one_joined}
use Rattle.aml_known.proofs.slots.join_slots.Goals as goal

pub loop-i-preserved : goal.loop-i-preserved
loop-i-preserved c = λ shapes are.
    let i = c.loop-i.i in
    let see = slot_of shapes in
    let slots = c.loop-i.slots in
    let others = c.args.others.now in
    let js = slots_of shapes slots in
    let ks = slots_of shapes others in
    let lt : i < length slots = omega arith in
    let lt_other : i < length others = omega arith in
    ap (λ n. joined_from n (slots_of shapes (set slots i c.join_slot.result)) ks) (add-one i)
    ∙ ap (λ zs. joined_from (suc i) zs ks) (map-set see slots i c.join_slot.result)
    ∙ one_joined i js ks None (see (get_or slots i None)) (see (get_or others i None)) (see c.join_slot.result) (omega (arith, length-map slots see, lt)) (omega (arith, length-map others see, lt_other)) (get_or-map see slots i None None lt) (get_or-map see others i None None lt_other) (c.join_slot.ensures shapes are)
    ∙ c.loop-i.invariant shapes are

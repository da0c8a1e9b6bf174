use Rattle.std.proofs.Common.{◌<◌, ◌∙◌, None, add-one, ap, arith, get_or, length, set, suc, sym}
use Rattle.std.specs.Prelude.{if◌then◌else◌}
use Rattle.std.proofs.lemmas.List.{get_or-map, length-map, map-set}
use Rattle.aml_judged.specs.Known.{widened_slot}
use Rattle.aml_objects.specs.Widths.{bits_of}
use Rattle.aml_known.specs.Views.{slot_of, slots_of}
use Rattle.aml_known.proofs.OneByOne.{one_widened, widened_from}
use Rattle.aml_known.proofs.slots.widen.Goals as goal

pub loop-i-preserved : goal.loop-i-preserved
loop-i-preserved c = λ shapes is same.
    let i = c.loop-i.i in
    let width = bits_of c.args.width in
    let see = slot_of shapes in
    let slots = c.loop-i.slots in
    let js = slots_of shapes slots in
    let old = see (get_or slots i None) in
    let lt : i < length slots = omega arith in
    let marked = c.is_marked.ensures ∙ sym (same i (omega arith)) in
    ap (λ n. widened_from is width n n (slots_of shapes (set slots i c.widened_if.result))) (add-one i)
    ∙ ap (widened_from is width (suc i) (suc i)) (map-set see slots i c.widened_if.result)
    ∙ one_widened is width i i js None old (see c.widened_if.result) (omega (arith, length-map slots see, lt)) (get_or-map see slots i None None lt) (c.widened_if.ensures shapes ∙ ap (λ b. if b then widened_slot width old else old) marked)
    ∙ c.loop-i.invariant shapes is same

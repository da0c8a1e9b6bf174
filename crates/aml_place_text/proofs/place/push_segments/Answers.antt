use Rattle.std.proofs.Common.{◌++◌, List, [], ◌∷◌, ℕ, ap, ◌∙◌, append_assoc}
use Rattle.aml_lex.specs.Names.{name_of}
use Rattle.aml_place_text.proofs.NameTexts.{added, first_of_name, next_of_name}
use Rattle.aml_place_text.proofs.place.push_segments.Goals as goal
use Rattle.aml_place_text.proofs.place.push_segments.Goals.{then-i-gt0+in_ok-push, else-i-gt0}

pub loop-i-preserved : goal.loop-i-preserved
loop-i-preserved c =
    let segs = (name_of c.args.name.now).segs in
    let i = c.loop-i.i in
    let seg : List ℕ = c.seg.result.bytes in
    elim c.if-i-gt0.branch [
      | then-i-gt0+in_ok-push w ↦ (
          let behind = rw w.text-is at c.in_ok-extend_from_slice.ensures.items in
          added _ _ c.loop-i.text.items (46 ∷ seg) _ _
          (behind ∙ ap (λ text. text ++ seg) w.in_ok-push.ensures.items ∙ append_assoc c.loop-i.text.items (46 ∷ []) seg)
          c.loop-i.invariant (next_of_name segs i seg c.seg.ensures w.if-i-gt0.true)
          )
      | else-i-gt0 w ↦ (
          let behind = rw w.text-is at c.in_ok-extend_from_slice.ensures.items in
          added _ _ c.loop-i.text.items seg _ _ behind c.loop-i.invariant (first_of_name segs i seg c.seg.ensures w.if-i-gt0.false)
          )
    ]

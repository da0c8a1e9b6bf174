use Rattle.std.proofs.Common.{◌<◌, ◌++◌, List, [], ◌∷◌, ℕ, get_or, length, ap, ◌∙◌, append_assoc, arith}
use Rattle.aml_path_text.proofs.PathLemmas.{added, first_segment, next_segment}
use Rattle.aml_lex.specs.declared.names.NameSeg.{NameSeg}
use Rattle.aml_path_text.proofs.path.push_segments.Goals as goal
use Rattle.aml_path_text.proofs.path.push_segments.Goals.{then-i-gt0+in_ok-push-2, else-i-gt0}

pub loop-i-preserved : goal.loop-i-preserved
loop-i-preserved c =
    let path = c.args.path.now in
    let i = c.loop-i.i in
    let within : i < length path = omega arith in
    let none : NameSeg = record { bytes = [] } in
    let bytes : List ℕ = (get_or path i none).bytes in
    elim c.if-i-gt0.branch [
      | then-i-gt0+in_ok-push-2 w ↦ (
          let behind = rw w.line-is at c.in_ok-extend_from_slice.ensures.items in
          added _ _ c.loop-i.line.items (46 ∷ bytes) _ _
          (behind ∙ ap (λ line. line ++ bytes) w.in_ok-push-2.ensures.items ∙ append_assoc c.loop-i.line.items (46 ∷ []) bytes)
          c.loop-i.invariant (next_segment path i none within w.if-i-gt0.true)
          )
      | else-i-gt0 w ↦ (
          let behind = rw w.line-is at c.in_ok-extend_from_slice.ensures.items in
          added _ _ c.loop-i.line.items bytes _ _ behind c.loop-i.invariant (first_segment path i none within w.if-i-gt0.false)
          )
    ]

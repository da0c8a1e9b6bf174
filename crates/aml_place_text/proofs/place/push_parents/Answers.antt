use Rattle.std.proofs.Common.{[], ◌∷◌}
use Rattle.std.specs.Prelude.{replicate}
use Rattle.aml_place_text.proofs.NameTexts.{added, one_more}
use Rattle.aml_place_text.proofs.place.push_parents.Goals as goal

pub loop-preserved : goal.loop-preserved
loop-preserved c =
    added c.args.text.now.items (replicate c.loop.counter 94) c.loop.text.items (94 ∷ []) _ _
    c.in_ok-push.ensures.items c.loop.invariant (one_more c.loop.counter 94)

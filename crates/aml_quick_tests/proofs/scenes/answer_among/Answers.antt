use Rattle.aml_namespace.specs.Shows.{shown}
use Rattle.aml_quick.proofs.Keeps.{are_sound}
use Rattle.aml_quick_tests.proofs.scenes.answer_among.Goals as goal

-- what is kept of the bodies is the verifier's
pub answer_in-requires : goal.answer_in-requires
answer_in-requires c =
    let checked = c.in_ok-checked.ensures.checked in
    are_sound (shown c.in_ok-checked.checked.namespace.now) c.in_ok-checked.checked.kept.items checked.kept checked.all_kept

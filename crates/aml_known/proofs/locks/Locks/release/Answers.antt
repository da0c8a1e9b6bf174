use Rattle.std.proofs.Common.{◌∙◌, Some, None, sym, ap}
use Rattle.std.specs.Prelude.{if◌then◌else◌}
use Rattle.aml_meaning.specs.Mutexes.{without_last}
use Rattle.aml_known.specs.Views.{held_before, mutexes_of}
use Rattle.aml_known.proofs.Ends.{other_number, same_number}
use Rattle.aml_known.proofs.Takings.{end_released}
use Rattle.aml_known.proofs.locks.Locks.release.Goals as goal

pub returns-then-taking-object-clause-releases : goal.returns-then-taking-object-clause-releases
returns-then-taking-object-clause-releases c = λ lists say.
    let t = c.in_ok-taking.taking in
    sym (
    ap (λ h. without_last c.args.object.0 (mutexes_of lists h)) c.in-UpTo.is
    ∙ end_released lists c.args.self.now.takings.items c.args.object.0 c.in-UpTo.last t say c.in_ok-taking.ensures.there
    ∙ ap (λ b. if b then Some (held_before lists t.before) else None) (other_number t.mutex.object.0 c.args.object.0 c.if-taking-object.true)
    )

pub returns-in-Some-clause-releases : goal.returns-in-Some-clause-releases
returns-in-Some-clause-releases c = λ lists say.
    let t = c.in_ok-taking.taking in
    sym (
    ap (λ h. without_last c.args.object.0 (mutexes_of lists h)) c.in-UpTo.is
    ∙ end_released lists c.args.self.now.takings.items c.args.object.0 c.in-UpTo.last t say c.in_ok-taking.ensures.there
    ∙ ap (λ b. if b then Some (held_before lists t.before) else None) (same_number t.mutex.object.0 c.args.object.0 c.if-taking-object.false)
    ∙ ap (λ o. Some (held_before lists o)) c.in-Some.is
    )

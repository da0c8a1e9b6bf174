use Rattle.std.proofs.Common.{◌∙◌, [], ap, sym}
use Rattle.aml_judged.specs.Known.{These, same_held}
use Rattle.aml_known.specs.Views.{held_of}
use Rattle.aml_known.proofs.Takings.{none_held, some_held}
use Rattle.aml_known.proofs.locks.Locks.same.Goals as goal

pub returns-in_ok-taking-in-UpTo-Nothing : goal.returns-in_ok-taking-in-UpTo-Nothing
returns-in_ok-taking-in-UpTo-Nothing c = λ lists say.
    let taking = c.in_ok-taking-in-UpTo-Nothing in
    let last = c.in-UpTo-Nothing.last in
    sym (
    ap (λ h. same_held (held_of lists h) (held_of lists c.args.other)) c.in-UpTo-Nothing.is-0
    ∙ ap (λ h. same_held (These (lists last)) (held_of lists h)) c.in-UpTo-Nothing.is-1
    ∙ some_held lists c.args.self.now.takings.items last taking.field-0 say taking.ensures.there
    )

pub returns-in_ok-taking-in-Nothing-UpTo : goal.returns-in_ok-taking-in-Nothing-UpTo
returns-in_ok-taking-in-Nothing-UpTo c = λ lists say.
    let taking = c.in_ok-taking-in-Nothing-UpTo in
    let last = c.in-Nothing-UpTo.last in
    sym (
    ap (λ h. same_held (held_of lists h) (held_of lists c.args.other)) c.in-Nothing-UpTo.is-0
    ∙ ap (λ h. same_held (These []) (held_of lists h)) c.in-Nothing-UpTo.is-1
    ∙ none_held lists c.args.self.now.takings.items last taking.field-0 say taking.ensures.there
    )

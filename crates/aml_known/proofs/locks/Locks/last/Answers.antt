use Rattle.std.proofs.Common.{◌∙◌, None, ap, sym}
use Rattle.std.specs.List.{last_or}
use Rattle.aml_known.specs.Views.{mutexes_of}
use Rattle.aml_known.proofs.Takings.{last_taken}
use Rattle.aml_known.proofs.locks.Locks.last.Goals as goal

pub returns-in_ok-taking-in-UpTo : goal.returns-in_ok-taking-in-UpTo
returns-in_ok-taking-in-UpTo c = λ lists say.
    let taking = c.in_ok-taking-in-UpTo in
    sym (
    ap (λ h. last_or None (mutexes_of lists h)) c.in-UpTo.is
    ∙ last_taken lists c.args.self.now.takings.items c.in-UpTo.last taking.field-0 say taking.ensures.there
    )

use Rattle.std.proofs.Common.{arith}
use Rattle.aml_regions.specs.Events.{Stalled}
use Rattle.aml_meaning.proofs.Told.{runs_event, runs_no_event}
use Rattle.aml_acts.proofs.notice.stall.Goals as goal

pub returns-then-machine-eq0-clause-means : goal.returns-then-machine-eq0-clause-means
returns-then-machine-eq0-clause-means g c = runs_no_event _ _ _ _ _ _ (omega (arith, c.if-machine-eq0.true)) (omega (arith, c.if-machine-eq0.true))

pub returns-clause-means : goal.returns-clause-means
returns-clause-means g c =
    runs_event _ _ (Stalled c.args.microseconds) _ _ _ _ (λ kinds. tt) (omega (arith, c.if-machine-eq0.false)) c.in_ok-stall.ensures.refusal c.in_ok-stall.ensures.event

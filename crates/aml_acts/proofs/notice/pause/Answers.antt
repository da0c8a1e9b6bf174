use Rattle.aml_acts.proofs.notice.pause.Goals as goal

pub returns-in-Sleep-clause-means : goal.returns-in-Sleep-clause-means
returns-in-Sleep-clause-means g c = rw c.in-Sleep.is c.sleep.ensures.means

pub returns-in-Stall-clause-means : goal.returns-in-Stall-clause-means
returns-in-Stall-clause-means g c = rw c.in-Stall.is c.stall.ensures.means

use Rattle.aml_namespace.proofs.Placed.{faults_within}
use Rattle.aml_namespace.proofs.law.faults_stand_within.Goals as goal

pub returns : goal.returns
returns c = faults_within

use Rattle.aml_findings.proofs.Reasons.{faults_are_reasons}
use Rattle.aml_findings.proofs.faults.faults_are_reasons.Goals as goal

pub returns : goal.returns
returns c = faults_are_reasons

use Rattle.aml_methods.proofs.JudgingsThere.{judgings_are_there}
use Rattle.aml_methods.proofs.law.judgings_are_there.Goals as goal

pub returns : goal.returns
returns c = judgings_are_there

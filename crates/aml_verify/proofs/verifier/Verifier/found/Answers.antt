use Rattle.std.proofs.Common.{sym, ◌∙◌}
use Rattle.aml_verify.proofs.Finding.{none_found}
use Rattle.aml_verify.proofs.verifier.Verifier.found.Goals as goal

pub returns-in-None : goal.returns-in-None
returns-in-None c = λ is. none_found c.args.self.now c.args.id.0 (sym c.method.ensures ∙ c.in-None.is)

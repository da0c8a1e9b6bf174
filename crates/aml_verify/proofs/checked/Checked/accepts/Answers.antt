use Rattle.std.proofs.Common.{map, refl, ◌∙◌}
use Rattle.aml_values.specs.Views.{view}
use Rattle.aml_verify.proofs.Accepting.{fit}
use Rattle.aml_verify.proofs.checked.Checked.accepts.Goals as goal

pub returns-clause-fits : goal.returns-clause-fits
returns-clause-fits c = λ told is. c.takes.ensures ∙ fit told c.args.self.now is c.args.method.0 (map view c.args.values.now) _ refl

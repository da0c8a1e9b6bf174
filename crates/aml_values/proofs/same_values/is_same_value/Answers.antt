use Rattle.aml_values.specs.Views.{view}
use Rattle.aml_values.proofs.SameValues.{same_value_decides}
use Rattle.aml_values.proofs.same_values.is_same_value.Goals as goal

pub returns : goal.returns
returns c = same_value_decides c.values_match.result (view c.args.v.now) (view c.args.w.now) c.values_match.ensures

use Rattle.std.proofs.Common.{◌∙◌}
use Rattle.aml_contents.proofs.DataWalk.{no_elements_told}
use Rattle.aml_contents.proofs.data_kinds.no_elements.Goals as goal

pub returns : goal.returns
returns c = c.is_rest_unset.ensures ∙ no_elements_told c.args.places.now c.args.count

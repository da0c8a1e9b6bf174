use Rattle.aml_places.proofs.Within.{name_within}
use Rattle.aml_places.proofs.places.read_end.Goals as goal

pub name_string-requires : goal.name_string-requires
name_string-requires c = name_within c.args.bytes.now c.args.at c.requires

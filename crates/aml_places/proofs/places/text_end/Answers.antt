use Rattle.aml_places.proofs.Within.{text_within}
use Rattle.aml_places.proofs.places.text_end.Goals as goal

pub string_data-requires : goal.string_data-requires
string_data-requires c = text_within c.args.bytes.now c.args.at c.requires

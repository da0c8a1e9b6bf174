use Rattle.aml_interp.proofs.FromTables.{from_tables}
use Rattle.aml_interp.proofs.headline.tables_begin_well.Goals as goal

pub returns : goal.returns
returns c = from_tables

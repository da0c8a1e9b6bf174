use Rattle.aml_externals.specs.Table.{table_opened}
use Rattle.aml_externals.specs.Opened.{opened}
use Rattle.aml_externals.proofs.Turns.{module_on}
use Rattle.aml_externals.proofs.table.open_module.Goals as goal

pub returns-clause-opened : goal.returns-clause-opened
unfolding table_opened
returns-clause-opened c = module_on (opened 63) 36 c.args.table.now c.open_list-count.new.list c.open_list-count.result c.raised.result c.open_list-count.ensures.gives c.raised.ensures

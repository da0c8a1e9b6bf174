use Rattle.std.proofs.Common.{below_more}
use Rattle.aml_literal_laws.proofs.Tables.{all_bytes, item_bytes}
use Rattle.aml_literal_laws.proofs.tables_are_bytes.Goals as goal

pub loop-bytes-preserved : goal.loop-bytes-preserved
loop-bytes-preserved c = below_more _ _ c.loop-bytes.invariant (item_bytes c.args.tables.now c.loop-bytes.bytes-index _ c.loop-bytes-test.true c.are_bytes.ensures)

pub returns : goal.returns
returns c = all_bytes c.args.tables.now c.loop-bytes.bytes-index c.loop-bytes-test.false c.loop-bytes.invariant

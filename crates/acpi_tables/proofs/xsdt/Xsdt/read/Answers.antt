use Rattle.std.proofs.Common.{ap}
use Rattle.std.proofs.lemmas.List.{take_rest}
use Rattle.acpi_tables.specs.Xsdt.{addresses}
use Rattle.acpi_tables.proofs.xsdt.Xsdt.read.Goals as goal

pub returns-clause-fields : goal.returns-clause-fields
returns-clause-fields c = record {
  header = c.in_ok-header.ensures.fields;
  entries = ap addresses (take_rest c.args.bytes.now 36);
}

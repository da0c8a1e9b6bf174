-- What is wrong, as it is printed: a number and a name.
use Rattle.std.specs.Prelude.{ℕ, List, codes}
use Rattle.acpi_tables.specs.declared.fault.TableCause.{TableCause}
use Rattle.acpi_tables.specs.declared.fault.TableCause.TheVariants.{Short, BadLength, BadSum, BadSignature, BadEntry}

abbrev pub table_cause_text : TableCause → List ℕ
table_cause_text Short = codes "E101 Short"
table_cause_text BadLength = codes "E102 BadLength"
table_cause_text BadSum = codes "E103 BadSum"
table_cause_text BadSignature = codes "E104 BadSignature"
table_cause_text BadEntry = codes "E105 BadEntry"

use Rattle.acpi_tables.proofs.fadt.Fadt.read.Goals as goal

pub returns-clause-fields : goal.returns-clause-fields
returns-clause-fields c = record {
  header = c.in_ok-header.ensures.fields;
  dsdt = c.u32_at.ensures;
  preferred_profile = c.u8_at.ensures;
  sci_interrupt = c.u16_at.ensures;
  flags = c.u32_at-2.ensures;
  x_dsdt = c.u64_at.ensures;
}

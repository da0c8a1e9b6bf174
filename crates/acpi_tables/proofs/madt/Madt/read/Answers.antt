use Rattle.std.proofs.Common.{ap, ◌∙◌, ◌≡◌, length, refl, arith}
use Rattle.std.proofs.lemmas.List.{take_rest}
use Rattle.byteorder.specs.Endian.{little_number}
use Rattle.std.proofs.lemmas.Bool.{false≢true}
use Rattle.acpi_tables.specs.Structure.{entries_of}
use Rattle.acpi_tables.specs.Madt.{structures_end}
use Rattle.acpi_tables.proofs.Tiling.{reaches, divided}
use Rattle.acpi_tables.proofs.madt.Madt.read.Goals as goal

pub returns-clause-fields : goal.returns-clause-fields
returns-clause-fields c = record {
  header = c.in_ok-header.ensures.fields;
  local_address = c.read_u32.ensures ∙ ap (little_number 4) (take_rest c.args.bytes.now 36);
  flags = c.read_u32-2.ensures ∙ ap (little_number 4) (take_rest c.args.bytes.now 40);
  entries = ap entries_of (take_rest c.args.bytes.now 44);
}

pub returns-then-end-bytes-clause-table : goal.returns-then-end-bytes-clause-table
returns-then-end-bytes-clause-table c = (
  λ b. absurd (false≢true b),
  λ m. let r = reaches c.args.bytes.now m.long_enough m.whole in
      absurd (omega (arith, c.end_of_structures-end.ensures.value)),
)

pub returns-clause-table : goal.returns-clause-table
returns-clause-table c =
    let end : structures_end c.args.bytes.now ≡ length c.args.bytes.now =
    omega (arith, c.end_of_structures-end.ensures.value, c.end_of_structures-end.ensures.within) in (
      λ _. record {
        table = c.in_ok-header.ensures.table.0 refl;
        long_enough = omega arith;
        whole = divided c.args.bytes.now (omega arith) end;
      },
      λ _. refl,
    )

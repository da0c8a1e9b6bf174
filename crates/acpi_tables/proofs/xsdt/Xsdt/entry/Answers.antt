use Rattle.std.proofs.Common.{◌*◌, ap, sym, ◌∙◌, Some, arith}
use Rattle.std.proofs.lemmas.List.{take_rest}
use Rattle.byteorder.specs.Endian.{little_number}
use Rattle.acpi_tables.proofs.XsdtAddresses.{address_within, length-addresses}
use Rattle.acpi_tables.proofs.xsdt.Xsdt.entry.Goals as goal

pub returns-then-i-len : goal.returns-then-i-len
returns-then-i-len c =
    let xs = c.args.self.now.entries.now in
    let l = length-addresses xs in
    ap (λ x. Some x) (c.read_u64.ensures ∙ ap (little_number 8) (take_rest xs (8 * c.args.i)))
    ∙ sym (address_within xs c.args.i (omega arith))

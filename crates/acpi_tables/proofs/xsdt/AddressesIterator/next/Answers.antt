use Rattle.std.proofs.Common.{◌∷◌, ap, sym, ◌∙◌, drop, arith}
use Rattle.std.proofs.lemmas.List.{take_rest}
use Rattle.acpi_tables.specs.Xsdt.{addresses}
use Rattle.acpi_tables.proofs.XsdtAddresses.{first_address}
use Rattle.acpi_tables.proofs.xsdt.AddressesIterator.next.Goals as goal

pub returns-clause-steps : goal.returns-clause-steps
returns-clause-steps c =
    let rest = c.args.self.now.rest.now in
    first_address rest (omega arith)
    ∙ (ap (λ a. a ∷ addresses (drop 8 rest)) (sym c.read_u64-address.ensures)
    ∙ ap (λ left. c.read_u64-address.result ∷ addresses left) (sym (take_rest rest 8)))

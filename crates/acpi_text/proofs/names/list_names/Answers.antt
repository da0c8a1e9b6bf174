use Rattle.std.proofs.Common.{arith}
use Rattle.acpi_text.proofs.Listing.{more_listed, stopped_listed}
use Rattle.acpi_text.proofs.NameLemmas.{element_there, next_text}
use Rattle.acpi_text.specs.Names.{entry_line}
use Rattle.aml_namespace.specs.Shows.{shown}
use Rattle.acpi_text.proofs.names.list_names.Goals as goal

pub loop-number-preserved : goal.loop-number-preserved
loop-number-preserved g c =
    let ns = shown c.args.namespace.now in
    let named = element_there ns.entries c.loop-number.number (omega arith) in
    let begins = next_text (entry_line ns) ns.entries c.loop-number.number named.0 named.1 in
    more_listed _ _ begins c.loop-number.invariant (c.in_ok-list_name.ensures named.0 named.1)

pub returns-in_err-list_name : goal.returns-in_err-list_name
returns-in_err-list_name g c =
    let ns = shown c.args.namespace.now in
    let named = element_there ns.entries c.loop-number.number (omega arith) in
    let begins = next_text (entry_line ns) ns.entries c.loop-number.number named.0 named.1 in
    stopped_listed c.from_residual.result _ _ _ c.from_residual.ensures.0 begins c.loop-number.invariant (c.in_err-list_name.ensures named.0 named.1)

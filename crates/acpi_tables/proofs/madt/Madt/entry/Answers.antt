use Rattle.std.proofs.Common.{sym, ◌∙◌}
use Rattle.std.proofs.lemmas.Iterator.Consumers.{YieldsList-from_first, nth_from_yields_List}
use Rattle.acpi_tables.specs.Entries.{entries_left}
use Rattle.acpi_tables.specs.Madt.{entries}
use Rattle.acpi_tables.proofs.Options.{option_map-same}
use Rattle.acpi_tables.proofs.madt.Madt.entry.Goals as goal

pub returns : goal.returns
returns c =
    sym (option_map-same c.nth.result)
    ∙ nth_from_yields_List c.nth.result c.nth.new.self _ c.nth.ensures.ran
    (YieldsList-from_first (λ x. x) entries_left {s = c.entries.result} (entries c.args.self.now) c.entries.ensures)

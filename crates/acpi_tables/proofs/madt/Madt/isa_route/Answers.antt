use Rattle.std.proofs.Common.{sym, ◌∙◌, ap, rules, tests}
use Rattle.std.proofs.lemmas.Iterator.Consumers.{YieldsList-from_first}
use Rattle.std.proofs.lemmas.Iterator.Search.{find_from_yields_List}
use Rattle.acpi_tables.specs.Entries.{entries_left}
use Rattle.acpi_tables.specs.Madt.{entries}
use Rattle.acpi_tables.specs.Isa.{overrides, route}
use Rattle.acpi_tables.proofs.Options.{option_map-same}
use Rattle.acpi_tables.proofs.madt.Madt.isa_route.Goals as goal

pub returns : goal.returns
returns c =
    c.routed.ensures
    ∙ ap (route c.args.source) (sym (option_map-same c.find-first.result)
    ∙ find_from_yields_List (overrides c.args.source) c.find-first.new.self _ c.find-first.result c.find-first.ensures.ran
    (YieldsList-from_first (λ x. x) entries_left {s = c.entries.result} (entries c.args.self.now) c.entries.ensures)
    (λ x b q k. search (rules, tests)))

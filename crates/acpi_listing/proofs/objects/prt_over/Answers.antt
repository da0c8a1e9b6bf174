use Rattle.std.proofs.Common.{◌≡◌, [], ◌∷◌, Err}
use Rattle.aml_machine.specs.Views.{names_of}
use Rattle.aml_namespace.specs.Shows.{shown}
use Rattle.aml_regions.specs.EventViews.{events_of}
use Rattle.aml_regions.specs.Registers.{contents}
use Rattle.aml_registers.specs.Answers.{start_of}
use Rattle.aml_literal_laws.specs.Laws.{first_names}
use Rattle.acpi_listing.proofs.RoutesListed.{link_told}
use Rattle.acpi_listing.proofs.Started.{answered, begins_still, log_with}
use Rattle.acpi_listing.proofs.objects.prt_over.Goals as goal

-- the names are the namespace's
pub prt_noted-requires-clause-names : goal.prt_noted-requires-clause-names
prt_noted-requires-clause-names g c = rw c.namespace.ensures at c.in_ok-names.ensures.belong

-- the log began with the text, so these are the registers that it sets
pub returns-in-Ok : goal.returns-in-Ok
returns-in-Ok g c =
    let gave = rw (c.in_ok-names.ensures.contents, c.in_ok-names.ensures.kinds, c.requires.fresh, c.namespace.ensures) at c.in-Ok.ensures in
    let first = c.args.registers in
    let left = c.prt_noted.new.world in
    record {
      names = _;
      before = record { events = start_of first.text.items ∷ []; refusals = first.file.refusals };
      log = _;
      still = begins_still (shown c.args.checked.now.namespace.now) first.text.items;
      gives = gave;
      answered = answered first left c.requires.set;
    }

pub returns : goal.returns
returns g c =
    let first = c.args.registers in
    let left = c.prt_noted.new.world in
    let checked = c.args.checked.now in
    let held : names_of c.in_ok-names.names ≡ first_names (shown checked.namespace.now) =
    rw (c.in_ok-names.ensures.contents, c.in_ok-names.ensures.kinds, c.namespace.ensures) in
    let had : log_with first.text.items (events_of first.file.events.items) first.file.refusals ≡ log_with first.text.items [] first.file.refusals = rw c.requires.fresh in
    link_told (contents first.file) checked c.args.id.0 (names_of c.in_ok-names.names) (names_of c.prt_noted.new.names)
    (log_with first.text.items (events_of first.file.events.items) first.file.refusals) (log_with first.text.items [] first.file.refusals)
    (log_with left.text.items (events_of left.file.events.items) left.file.refusals) c.in-Err.fault (Err c.fault_of_link.result) c.fault_of_link.ensures
    c.in-Err.ensures held had (begins_still (shown checked.namespace.now) first.text.items) (answered first left c.requires.set)

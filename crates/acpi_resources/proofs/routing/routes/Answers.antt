use Rattle.std.proofs.Common.{◌≡◌, ℕ, sym, ap, ◌∙◌, slice_index}
use Rattle.std.specs.BTreeMap.{get}
use Rattle.std.specs.Option.{option_map}
use Rattle.std.specs.Ordering.{nat_cmp}
use Rattle.aml_values.specs.Views.{elements_of, view}
use Rattle.aml_values.specs.declared.value.Value as program
use Rattle.acpi_resources.specs.Interrupts.{crs_of_links, flat, global_number, interrupt_of_device}
use Rattle.acpi_resources.specs.Routes.{routes_from, routes_of}
use Rattle.acpi_resources.proofs.Routed.{routes_agree, routes_as}
use Rattle.acpi_resources.proofs.routing.routes.Goals as goal

pub returns : goal.returns
returns c =
    let global = global_number (option_map (λ madt. madt.now) c.args.madt) in
    let links = crs_of_links c.args.links.now in
    let kept = λ (device : ℕ). get nat_cmp c.in_ok-links.links.interrupts device in
    let found = elements_of c.elements.result.now in
    let same : routes_from (λ (device : ℕ). flat (kept device)) 0 found ≡ routes_from (interrupt_of_device global links) 0 found =
    routes_agree (slice_index c.of.result.numbers) global c.of.ensures links kept c.in_ok-links.ensures found in
    routes_as (λ routes. routes.items) c.routes_of_elements.result _ _
    (same ∙ ap (routes_from (interrupt_of_device global links) 0) c.elements.ensures
    ∙ sym (ap (λ (v : program.Value). routes_of (interrupt_of_device global links) (view v)) c.in-Pkg.is))
    c.routes_of_elements.ensures

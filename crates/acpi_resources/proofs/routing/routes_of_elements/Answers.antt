use Rattle.std.proofs.Common.{◌≡◌, ℕ, Ok, refl, subst, ap, sym, ◌∙◌, get_or, arith}
use Rattle.std.specs.BTreeMap.{get}
use Rattle.std.specs.Ordering.{nat_cmp}
use Rattle.aml_values.specs.Views.{element, elements_of}
use Rattle.aml_values.specs.declared.value.Element as program
use Rattle.acpi_resources.specs.Interrupts.{flat}
use Rattle.acpi_resources.specs.RouteFaults.{RouteFails}
use Rattle.acpi_resources.specs.Routes.{route_of, routes_from}
use Rattle.acpi_resources.proofs.Routed.{fault_as, routes_end, routes_fail, routes_on}
use Rattle.acpi_resources.proofs.routing.routes_of_elements.Goals as goal

pub loop-number-init : goal.loop-number-init
loop-number-init c = rw c.new-routes.ensures.items refl

pub loop-number-preserved : goal.loop-number-preserved
loop-number-preserved c =
    let of_device = λ (device : ℕ). flat (get nat_cmp c.args.links.now.interrupts device) in
    let es = c.args.elements.now in
    let i = c.loop-number.number in
    let e = c.index-elements-number.result in
    let is : route_of of_device i (element (get_or es i e)) ≡ Ok c.in_ok-route.route =
    ap (λ (e : program.Element). route_of of_device i (element e)) (sym c.index-elements-number.is) ∙ c.in_ok-route.ensures in
    rw c.in_ok-push.ensures.items
    (routes_on of_device es i e c.loop-number.routes.items c.in_ok-route.route _ c.loop-number-test.true is c.loop-number.invariant)

pub returns-in_err-route : goal.returns-in_err-route
returns-in_err-route c =
    let of_device = λ (device : ℕ). flat (get nat_cmp c.args.links.now.interrupts device) in
    let es = c.args.elements.now in
    let i = c.loop-number.number in
    let e = c.index-elements-number.result in
    let fault = c.in_err-route.field-0.0 in
    let answer = routes_from of_device 0 (elements_of es) in
    let fails : RouteFails fault (route_of of_device i (element (get_or es i e))) =
    subst (λ (e : program.Element). RouteFails fault (route_of of_device i (element e))) c.index-elements-number.is c.in_err-route.ensures in
    fault_as (λ routes. routes.items) fault c.from_residual.result answer c.from_residual.ensures.1
    (routes_fail of_device es i e c.loop-number.routes.items fault answer c.loop-number-test.true fails c.loop-number.invariant)

pub returns : goal.returns
returns c =
    let of_device = λ (device : ℕ). flat (get nat_cmp c.args.links.now.interrupts device) in
    routes_end of_device c.args.elements.now c.loop-number.number c.loop-number.routes.items _ (omega (arith, c.loop-number-test.false)) c.loop-number.invariant

-- Routes that were found, in front of what is left to find.
use Rattle.std.proofs.Common.{◌≡◌, refl, ap, sym, ◌∙◌, subst, ℕ, ◌+◌, ◌<◌, ◌≤◌, List, [], ◌∷◌, ◌++◌, Option, Some, None, Result, Ok, Err, length, drop, get_or, add-one, drop-cons}
use Rattle.std.proofs.Math.ListN.{drop_of_length-le}
use Rattle.std.specs.Option.{option_map}
use Rattle.std.specs.Result.{IsErrAnd}
use Rattle.aml_values.specs.Values.{Elements, more, none}
use Rattle.aml_values.specs.Views.{element, elements_of}
use Rattle.aml_values.specs.declared.value.Element as program
use Rattle.acpi_resources.proofs.Linked.{Agree, kept_agrees}
use Rattle.acpi_resources.specs.RouteFaults.{RouteFails, RoutesAs}
use Rattle.acpi_resources.specs.Routes.{leads, mapped, route_of, routed, routes_from, source_interrupt}
use Rattle.acpi_resources.specs.Interrupts.{Links, flat, interrupt_of_device, items_of_device, link_interrupt}
use Rattle.acpi_resources.specs.Mappings.{mapping_of}
use Rattle.acpi_resources.specs.declared.mapping.EntryFault.{EntryFault}
use Rattle.acpi_resources.specs.declared.mapping.Mapping.{Mapping}
use Rattle.acpi_resources.specs.declared.mapping.Source.{Source}
use Rattle.acpi_resources.specs.declared.mapping.Source.TheVariants as source
use Rattle.acpi_resources.specs.declared.route.GlobalInterrupt.{GlobalInterrupt}
use Rattle.acpi_resources.specs.declared.route.Route.{Route}
use Rattle.acpi_resources.specs.declared.route_fault.RouteFault.{RouteFault}
use Rattle.acpi_resources.specs.declared.route_fault.RouteFault.TheVariants.{NoMemory, Refused}
use Rattle.acpi_resources.specs.declared.route_fault.RouteRefusal.{RouteRefusal}

abbrev pub ahead : List Route → Result (List Route) RouteRefusal → Result (List Route) RouteRefusal
ahead [] answer = answer
ahead (route ∷ routes) answer = leads (Ok route) (ahead routes answer)

ahead-Err : (routes : List Route) (refused : RouteRefusal) → ahead routes (Err refused) ≡ Err refused
ahead-Err [] refused = refl
ahead-Err (route ∷ routes) refused = ap (leads (Ok route)) (ahead-Err routes refused)

ahead-Ok : (routes : List Route) → ahead routes (Ok []) ≡ Ok routes
ahead-Ok [] = refl
ahead-Ok (route ∷ routes) = ap (leads (Ok route)) (ahead-Ok routes)

ahead-leads : (routes : List Route) (route : Route) (answer : Result (List Route) RouteRefusal) → ahead routes (leads (Ok route) answer) ≡ ahead (routes ++ route ∷ []) answer
ahead-leads [] route answer = refl
ahead-leads (r ∷ routes) route answer = ap (leads (Ok r)) (ahead-leads routes route answer)

module _ (of_device : ℕ → Option GlobalInterrupt) (es : List program.Element) (i : ℕ) where
  -- the routes of the elements from a place on
  next : (d : program.Element) → i < length es
      → routes_from of_device i (elements_of (drop i es)) ≡ leads (route_of of_device i (element (get_or es i d))) (routes_from of_device (i + 1) (elements_of (drop (i + 1) es)))
  next d l =
      let split : drop i es ≡ get_or es i d ∷ drop (i + 1) es = rw add-one (drop-cons es i d l) in
      ap (λ (es : List program.Element). routes_from of_device i (elements_of es)) split

  -- where the element has a route
  pub routes_on : (d : program.Element) (routes : List Route) (route : Route) (answer : Result (List Route) RouteRefusal) → i < length es
      → route_of of_device i (element (get_or es i d)) ≡ Ok route
      → ahead routes (routes_from of_device i (elements_of (drop i es))) ≡ answer
      → ahead (routes ++ route ∷ []) (routes_from of_device (i + 1) (elements_of (drop (i + 1) es))) ≡ answer
  routes_on d routes route answer l is done =
      let rest = routes_from of_device (i + 1) (elements_of (drop (i + 1) es)) in
      sym (ahead-leads routes route rest) ∙ sym (ap (ahead routes) (next d l ∙ ap (λ (r : Result Route RouteRefusal). leads r rest) is)) ∙ done

  -- where it is refused
  pub routes_fail : (d : program.Element) (routes : List Route) (fault : RouteFault) (answer : Result (List Route) RouteRefusal) → i < length es
      → RouteFails fault (route_of of_device i (element (get_or es i d)))
      → ahead routes (routes_from of_device i (elements_of (drop i es))) ≡ answer
      → RouteFails fault answer
  routes_fail d routes NoMemory answer l fails done = tt
  routes_fail d routes (Refused refused) answer l fails done =
      let rest = routes_from of_device (i + 1) (elements_of (drop (i + 1) es)) in
      sym done ∙ ap (ahead routes) (next d l ∙ ap (λ (r : Result Route RouteRefusal). leads r rest) fails) ∙ ahead-Err routes refused

  -- where none is left
  pub routes_end : (routes : List Route) (answer : Result (List Route) RouteRefusal) → length es ≤ i
      → ahead routes (routes_from of_device i (elements_of (drop i es))) ≡ answer
      → answer ≡ Ok routes
  routes_end routes answer l done =
      let none_left : routes_from of_device i (elements_of (drop i es)) ≡ Ok [] = rw (drop_of_length-le es l) refl in
      sym done ∙ ap (ahead routes) none_left ∙ ahead-Ok routes

-- a fault that is handed on
pub fault_as :
    {X Y : Type 0} (view : X → Y) (fault : RouteFault) (result : Result X RouteFault) (answer : Result Y RouteRefusal) →
    IsErrAnd result (λ e. e ≡ fault) → RouteFails fault answer → RoutesAs view result answer
fault_as {X = X} {Y = Y} view fault (Ok _) answer same fails = elim same [ ]
fault_as view fault (Err e) answer same fails = subst (λ f. RouteFails f answer) (sym same) fails

-- devices whose interrupts are the same give the same routes
module _ (f g : ℕ → Option GlobalInterrupt) (same : (device : ℕ) → f device ≡ g device) where
  same_source : (s : Source) → source_interrupt f s ≡ source_interrupt g s
  same_source (source.Link (Some device)) = same device.0
  same_source (source.Link None) = refl
  same_source (source.Global number) = refl

  same_mapped : (number : ℕ) (m : Result Mapping EntryFault) → mapped f number m ≡ mapped g number m
  same_mapped number (Ok mapping) = ap (routed number mapping) (same_source mapping.source)
  same_mapped number (Err fault) = refl

  pub same_routes : (number : ℕ) (es : Elements) → routes_from f number es ≡ routes_from g number es
  same_routes number none = refl
  same_routes number (more e es) =
      ap (λ (r : Result Route RouteRefusal). leads r (routes_from f (number + 1) es)) (same_mapped number (mapping_of e))
      ∙ ap (leads (route_of g number e)) (same_routes (number + 1) es)

-- so with what is kept of links, by whatever agrees on the interrupts of the ISA bus
pub routes_agree : (f global : ℕ → ℕ) → Agree f global → (links : Links) (kept : ℕ → Option (Option GlobalInterrupt))
    → ((device : ℕ) → kept device ≡ option_map (link_interrupt f) (items_of_device links device)) → (es : Elements)
    → routes_from (λ device. flat (kept device)) 0 es ≡ routes_from (interrupt_of_device global links) 0 es
routes_agree f global agree links kept is es =
    same_routes (λ device. flat (kept device)) (interrupt_of_device global links)
    (λ device. ap flat (is device) ∙ kept_agrees f global agree (items_of_device links device)) 0 es

-- an answer of the one is an answer of the other, where both are the same
pub routes_as : {X : Type 0} (view : X → List Route) (result : Result X RouteFault) (a b : Result (List Route) RouteRefusal) → a ≡ b → RoutesAs view result a → RoutesAs view result b
routes_as view result a b same gives = subst (λ (r : Result (List Route) RouteRefusal). RoutesAs view result r) same gives

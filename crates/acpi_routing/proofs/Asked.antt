-- Answers of links, and links that were asked.
use Rattle.std.proofs.Common.{◌≡◌, refl, ap, sym, subst, ℕ, ◌+◌, ◌<◌, ◌≤◌, List, [], ◌∷◌, ◌++◌, Option, Result, Ok, Err, length, drop, get_or, add-one, drop-cons, append_assoc, inl, inr}
use Rattle.std.proofs.Math.ListN.{drop_of_length-le}
use Rattle.std.specs.Prelude.{◌==◌, Vec, true, false}
use Rattle.std.specs.Result.{IsErrAnd}
use Rattle.acpi_resources.specs.Interrupts.{Links, crs_of_links}
use Rattle.acpi_resources.specs.declared.item.Item.{Item}
use Rattle.acpi_routing.specs.Crs.{HasItems}
use Rattle.acpi_routing.specs.Faults.{Answers}
use Rattle.acpi_routing.specs.Links.{HaveItems, leads, link_with}
use Rattle.acpi_routing.specs.Notes.{is_listed}
use Rattle.acpi_routing.specs.declared.fault.LinkFault.{LinkFault}
use Rattle.acpi_routing.specs.declared.fault.LinkFault.TheVariants as fault
use Rattle.acpi_routing.specs.declared.fault.LinkRefusal.{LinkRefusal}
use Rattle.aml_meaning.specs.State.{Names}
use Rattle.aml_paths.specs.declared.scope.ObjectId.{ObjectId}
use Rattle.aml_regions.specs.Events.{Log}
use Rattle.aml_verify.specs.declared.checked.Checked.{Checked}

-- nothing is said where memory is wanted
pub no_memory : {X Y : Type 0} (view : X → Y) (is : Result Y LinkRefusal → Type 0) (r : Result X LinkFault)
    → IsErrAnd r (λ f. f ≡ fault.NoMemory) → Answers view is r
no_memory view is (Ok x) wants = absurd wants
no_memory view is (Err f) wants = subst (λ (e : LinkFault). Answers view is (Err e)) (sym wants) tt

-- what holds of each answer of which another thing holds
pub weaker : {X Y : Type 0} (view : X → Y) (is also : Result Y LinkRefusal → Type 0) → ((y : Result Y LinkRefusal) → is y → also y)
    → (r : Result X LinkFault) → Answers view is r → Answers view also r
weaker view is also more (Ok x) holds = more (Ok (view x)) holds
weaker view is also more (Err fault.NoMemory) holds = tt
weaker view is also more (Err (fault.Refused refused)) holds = more (Err refused) holds

-- a fault that is handed on
pub handed : {X Y Z V : Type 0} (view : X → Y) (other : Z → V) (is : Result Y LinkRefusal → Type 0) (also : Result V LinkRefusal → Type 0) (f : LinkFault)
    → ((e : LinkRefusal) → is (Err e) → also (Err e)) → Answers view is (Err f) → (r : Result Z LinkFault) → IsErrAnd r (λ e. e ≡ f) → Answers other also r
handed view other is also fault.NoMemory more holds r same = no_memory other also r same
handed view other is also (fault.Refused refused) more holds (Ok z) same = absurd same
handed view other is also (fault.Refused refused) more holds (Err e) same =
    subst (λ (x : LinkFault). Answers other also (Err x)) (sym same) (more refused holds)

leads_leads : (first second : Links) (r : Result Links LinkRefusal) → leads first (leads second r) ≡ leads (first ++ second) r
leads_leads first second (Ok links) = ap (λ (ls : Links). Ok ls) (sym (append_assoc first second links))
leads_leads first second (Err refused) = refl

pub leads_none : (r : Result Links LinkRefusal) → leads [] r ≡ r
leads_none (Ok links) = refl
leads_none (Err refused) = refl

append_none : (links : Links) → links ++ [] ≡ links
append_none [] = refl
append_none (link ∷ links) = ap (λ (ls : Links). link ∷ ls) (append_none links)

pub leads_end : (links : Links) → leads links (Ok []) ≡ Ok links
leads_end links = ap (λ (ls : Links). Ok ls) (append_none links)

-- the links that were asked, and what is left to ask: whatever comes of the rest, all come to the same behind what was found
pub record AreAsked (c : Checked) (devices left : List ObjectId) (links : Links) (names : Names) (log : Log) (mid : Names) (mid_log : Log) : Type 0 where
  pub rest : (r : Result Links LinkRefusal) (last : Names) (last_log : Log)
      → HaveItems c left r mid mid_log last last_log → HaveItems c devices (leads links r) names log last last_log

pub asked_none : (c : Checked) (devices : List ObjectId) (names : Names) (log : Log) → AreAsked c devices devices [] names log names log
asked_none c devices names log = record {
  rest = λ r last last_log have. subst (λ (x : Result Links LinkRefusal). HaveItems c devices x names log last last_log) (sym (leads_none r)) have;
}

-- one more
pub asked_more : (c : Checked) (devices : List ObjectId) (device : ObjectId) (left : List ObjectId) (links : Links) (names : Names) (log : Log) (mid : Names) (mid_log : Log)
    (next : Names) (next_log : Log) (found : Option (List Item))
    → AreAsked c devices (device ∷ left) links names log mid mid_log → HasItems c device (Ok found) mid mid_log next next_log
    → AreAsked c devices left (links ++ link_with device found) names log next next_log
asked_more c devices device left links names log mid mid_log next next_log found asked has = record {
  rest = λ r last last_log have.
      subst (λ (x : Result Links LinkRefusal). HaveItems c devices x names log last last_log) (leads_leads links (link_with device found) r)
      (asked.rest (leads (link_with device found) r) last last_log (inl (found, next, next_log, r, has, have, refl)));
}

-- one that is refused
pub asked_refused : (c : Checked) (devices : List ObjectId) (device : ObjectId) (left : List ObjectId) (links : Links) (names : Names) (log : Log) (mid : Names) (mid_log : Log)
    (last : Names) (last_log : Log) (refused : LinkRefusal)
    → AreAsked c devices (device ∷ left) links names log mid mid_log → HasItems c device (Err refused) mid mid_log last last_log
    → HaveItems c devices (Err refused) names log last last_log
asked_refused c devices device left links names log mid mid_log last last_log refused asked has =
    asked.rest (Err refused) last last_log (inr (refused, has, refl))

-- all
pub asked_all : (c : Checked) (devices : List ObjectId) (links : Links) (names : Names) (log : Log) (last : Names) (last_log : Log)
    → AreAsked c devices [] links names log last last_log → HaveItems c devices (Ok links) names log last last_log
asked_all c devices links names log last last_log asked =
    subst (λ (x : Result Links LinkRefusal). HaveItems c devices x names log last last_log) (leads_end links)
    (asked.rest (Ok []) last last_log (refl, refl, refl))

-- the devices from a place on
pub from_here : (devices : List ObjectId) (i : ℕ) (d : ObjectId) → i < length devices → drop i devices ≡ get_or devices i d ∷ drop (i + 1) devices
from_here devices i d l = rw add-one (drop-cons devices i d l)

pub none_left : (devices : List ObjectId) (i : ℕ) → length devices ≤ i → drop i devices ≡ []
none_left devices i l = drop_of_length-le devices l

-- whether a device is among those that have items, from a place on
module _ {Z : Type 0} (links : List (ObjectId × Vec Item Z)) (device : ObjectId) (i : ℕ) where
  pub this_link : (d : ObjectId × Vec Item Z) → i < length links → ((get_or links i d).0.0 == device.0) ≡ true → is_listed (crs_of_links (drop i links)) device ≡ true
  this_link d l e = rw (drop-cons links i d l, e) refl

  pub not_this_link : (d : ObjectId × Vec Item Z) → i < length links → ((get_or links i d).0.0 == device.0) ≡ false
      → is_listed (crs_of_links (drop i links)) device ≡ is_listed (crs_of_links (drop (i + 1) links)) device
  not_this_link d l e = rw (add-one, drop-cons links i d l, e) refl

  pub no_link : length links ≤ i → is_listed (crs_of_links (drop i links)) device ≡ false
  no_link l = rw (drop_of_length-le links l) refl

-- the same by places
module _ (c : Checked) (devices : List ObjectId) (i : ℕ) (d : ObjectId) (links : Links) (names : Names) (log : Log) (mid : Names) (mid_log : Log)
    (asked : AreAsked c devices (drop i devices) links names log mid mid_log) where
  asked_here : i < length devices → AreAsked c devices (get_or devices i d ∷ drop (i + 1) devices) links names log mid mid_log
  asked_here l = subst (λ (left : List ObjectId). AreAsked c devices left links names log mid mid_log) (from_here devices i d l) asked

  pub asked_step : (new : Links) (next : Names) (next_log : Log) (found : Option (List Item)) → i < length devices
      → HasItems c (get_or devices i d) (Ok found) mid mid_log next next_log → new ≡ links ++ link_with (get_or devices i d) found
      → AreAsked c devices (drop (i + 1) devices) new names log next next_log
  asked_step new next next_log found l has is =
      subst (λ (ls : Links). AreAsked c devices (drop (i + 1) devices) ls names log next next_log) (sym is)
      (asked_more c devices (get_or devices i d) (drop (i + 1) devices) links names log mid mid_log next next_log found (asked_here l) has)

  pub asked_stop : (last : Names) (last_log : Log) (refused : LinkRefusal) → i < length devices
      → HasItems c (get_or devices i d) (Err refused) mid mid_log last last_log → HaveItems c devices (Err refused) names log last last_log
  asked_stop last last_log refused l has =
      asked_refused c devices (get_or devices i d) (drop (i + 1) devices) links names log mid mid_log last last_log refused (asked_here l) has

  pub asked_end : length devices ≤ i → HaveItems c devices (Ok links) names log mid mid_log
  asked_end l = asked_all c devices links names log mid mid_log
      (subst (λ (left : List ObjectId). AreAsked c devices left links names log mid mid_log) (none_left devices i l) asked)

  -- one whose answer is a fault
  pub stops_here : {X Z : Type 0} (view : X → Option (List Item)) (other : Z → Links) (last : Names) (last_log : Log) (f : LinkFault) → i < length devices
      → Answers view (λ r. HasItems c (get_or devices i d) r mid mid_log last last_log) (Err f)
      → (r : Result Z LinkFault) → IsErrAnd r (λ e. e ≡ f) → Answers other (λ r. HaveItems c devices r names log last last_log) r
  stops_here view other last last_log f l holds r same =
      handed view other (λ r. HasItems c (get_or devices i d) r mid mid_log last last_log) (λ r. HaveItems c devices r names log last last_log) f
      (λ e has. asked_stop last last_log e l has) holds r same

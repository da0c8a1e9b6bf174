-- The interrupts of links, as they are looked up.
use Rattle.std.proofs.Common.{◌≡◌, refl, ap, sym, ◌∙◌, ℕ, zero, suc, ◌+◌, ◌-◌, ◌<◌, ◌≤◌, List, [], ◌∷◌, Bool, true, false, Option, Some, None, length, drop, get_or, arith, add-one, drop-cons, cond, slice_index, slice_set, inl, inr}
use Rattle.std.specs.Prelude.{◌==◌, Vec, find, vec_items}
use Rattle.std.specs.BTreeMap.{BTreeMap, Updates, get, is_at}
use Rattle.std.specs.List.{filter, range_with_len}
use Rattle.std.specs.Option.{option_and_then, option_map}
use Rattle.std.specs.Ordering.{nat_cmp}
use Rattle.std.proofs.Math.ListN.{drop_of_length-le}
use Rattle.std.proofs.lemmas.Bool.{cases_lt}
use Rattle.std.proofs.lemmas.Bool.Decides.{nat_tests}
use Rattle.std.proofs.lemmas.Grind.{get_or-set_at}
use Rattle.std.proofs.lemmas.List.{get_or-set_other}
use Rattle.acpi_resources.specs.Interrupts.{by_signal, crs_of_links, first_interrupt, first_of, flat, has_irq, irqs, is_of_interrupts, items_of_device, link_interrupt}
use Rattle.acpi_resources.specs.declared.item.Item.{Item}
use Rattle.acpi_resources.specs.declared.item.Item.TheVariants as item
use Rattle.acpi_resources.specs.declared.route.GlobalInterrupt.{GlobalInterrupt}
use Rattle.acpi_resources.specs.declared.signal.Signal.{Signal}
use Rattle.aml_paths.specs.declared.scope.ObjectId.{ObjectId}

-- the interrupts of a mask from one on
pub irqs_from : ℕ → ℕ → List ℕ
irqs_from mask irq = filter (has_irq mask) (range_with_len irq (16 - irq))

pub all_irqs : (mask : ℕ) → irqs_from mask 0 ≡ irqs mask
unfolding irqs irqs_from
all_irqs mask = refl

pub this_irq : (mask irq : ℕ) → irq < 16 → has_irq mask irq ≡ true → irqs_from mask irq ≡ irq ∷ irqs_from mask (irq + 1)
unfolding irqs_from
this_irq mask irq l e =
    let left : 16 - irq ≡ suc (15 - irq) = omega arith in
    let same : 16 - (irq + 1) ≡ 15 - irq = omega arith in
    rw (left, same, e) refl

pub not_this_irq : (mask irq : ℕ) → irq < 16 → has_irq mask irq ≡ false → irqs_from mask irq ≡ irqs_from mask (irq + 1)
unfolding irqs_from
not_this_irq mask irq l e =
    let left : 16 - irq ≡ suc (15 - irq) = omega arith in
    let same : 16 - (irq + 1) ≡ 15 - irq = omega arith in
    rw (left, same, e) refl

pub no_irq : (mask irq : ℕ) → 16 ≤ irq → irqs_from mask irq ≡ []
unfolding irqs_from
no_irq mask irq l = let left : 16 - irq ≡ 0 = omega arith in rw left refl

-- what comes first is in the range
below_or_behind : (a k n : ℕ) (rest : Option ℕ) (b : Bool) → (rest ≡ Some n → n < a + 1 + k) → cond b (Some a) rest ≡ Some n → n < a + suc k
below_or_behind a k n rest true behind e = let same : a ≡ n = cc in omega arith
below_or_behind a k n rest false behind e = let l : n < a + 1 + k = behind e in omega arith

first_of_cond : (b : Bool) (a : ℕ) (rest : List ℕ) → first_of (cond b (a ∷ rest) rest) ≡ cond b (Some a) (first_of rest)
first_of_cond true a rest = refl
first_of_cond false a rest = refl

first_below : (p : ℕ → Bool) (a k n : ℕ) → first_of (filter p (range_with_len a k)) ≡ Some n → n < a + k
first_below p a zero n e = absurd cc
first_below p a (suc k) n e =
    below_or_behind a k n (first_of (filter p (range_with_len (a + 1) k))) (p a) (first_below p (a + 1) k n)
    (sym (first_of_cond (p a) a (filter p (range_with_len (a + 1) k))) ∙ e)

-- two ways to number the interrupts of the ISA bus that agree on sixteen
abbrev pub Agree : (ℕ → ℕ) → (ℕ → ℕ) → Type 0
Agree f g = (irq : ℕ) → irq < 16 → f irq ≡ g irq

listed : (mask n : ℕ) → first_of (irqs mask) ≡ Some n → n < 16
unfolding irqs
listed mask n e = first_below (has_irq mask) 0 16 n e

first_agrees : (f g : ℕ → ℕ) → Agree f g → (signal : Signal) (o : Option ℕ) → ((n : ℕ) → o ≡ Some n → n < 16)
    → option_map (λ irq. by_signal signal (f irq)) o ≡ option_map (λ irq. by_signal signal (g irq)) o
first_agrees f g agree signal None below = refl
first_agrees f g agree signal (Some n) below = ap (λ (number : ℕ). Some (by_signal signal number)) (agree n (below n refl))

item_agrees : (f g : ℕ → ℕ) → Agree f g → (i : Item) → first_interrupt f i ≡ first_interrupt g i
item_agrees f g agree (item.Irq mask signal) = first_agrees f g agree signal (first_of (irqs mask)) (listed mask)
item_agrees f g agree (item.Interrupt signal numbers) = refl
item_agrees f g agree (item.Io minimum maximum alignment length) = refl
item_agrees f g agree (item.FixedIo base length) = refl
item_agrees f g agree item.End = refl
item_agrees f g agree (item.Memory minimum maximum alignment length) = refl
item_agrees f g agree (item.FixedMemory base length) = refl
item_agrees f g agree (item.AddressSpace width kind granularity minimum maximum translation length) = refl
item_agrees f g agree (item.Other tag length) = refl

found_agrees : (f g : ℕ → ℕ) → Agree f g → (o : Option Item) → option_and_then (first_interrupt f) o ≡ option_and_then (first_interrupt g) o
found_agrees f g agree None = refl
found_agrees f g agree (Some i) = item_agrees f g agree i

link_agrees : (f g : ℕ → ℕ) → Agree f g → (items : List Item) → link_interrupt f items ≡ link_interrupt g items
link_agrees f g agree items = found_agrees f g agree (find is_of_interrupts items)

-- what is kept of a device is its interrupt
pub kept_agrees : (f g : ℕ → ℕ) → Agree f g → (o : Option (List Item)) → flat (option_map (link_interrupt f) o) ≡ option_and_then (link_interrupt g) o
kept_agrees f g agree None = refl
kept_agrees f g agree (Some items) = link_agrees f g agree items

-- an item at a place, of those from it on
pub this_item : (global : ℕ → ℕ) (items : List Item) (i : ℕ) (d : Item) → i < length items → is_of_interrupts (get_or items i d) ≡ true
    → link_interrupt global (drop i items) ≡ first_interrupt global (get_or items i d)
this_item global items i d l e = rw (drop-cons items i d l, e) refl

pub not_this_item : (global : ℕ → ℕ) (items : List Item) (i : ℕ) (d : Item) → i < length items → is_of_interrupts (get_or items i d) ≡ false
    → link_interrupt global (drop i items) ≡ link_interrupt global (drop (i + 1) items)
not_this_item global items i d l e = rw (add-one, drop-cons items i d l, e) refl

pub no_item : (global : ℕ → ℕ) (items : List Item) (i : ℕ) → length items ≤ i → link_interrupt global (drop i items) ≡ None
no_item global items i l = rw (drop_of_length-le items l) refl

-- a device more
same_key : (key device : ℕ) → is_at (nat_cmp key) device ≡ (key == device)
same_key key device = grind (arith, nat_tests)

mapped_cond : (f : List Item → Option GlobalInterrupt) (b : Bool) (items : List Item) (o : Option (List Item))
    → cond b (Some (f items)) (option_map f o) ≡ option_map f (cond b (Some items) o)
mapped_cond f true items o = refl
mapped_cond f false items o = refl

pub device_more : {Z : Type 0} → (global : ℕ → ℕ) (links : List (ObjectId × Vec Item Z)) (i : ℕ) (d : ObjectId × Vec Item Z) → i < length links
    → (old new : BTreeMap ℕ (Option GlobalInterrupt))
    → Updates nat_cmp old new (get_or links i d).0.0 (Some (link_interrupt global (vec_items (get_or links i d).1)))
    → ((device : ℕ) → get nat_cmp old device ≡ option_map (link_interrupt global) (items_of_device (crs_of_links (drop (i + 1) links)) device))
    → (device : ℕ) → get nat_cmp new device ≡ option_map (link_interrupt global) (items_of_device (crs_of_links (drop i links)) device)
device_more {Z = Z} global links i d l old new updates before device =
    let link = get_or links i d in
    let key : ℕ = link.0.0 in
    let items : List Item = vec_items link.1 in
    let rest : Option (List Item) = items_of_device (crs_of_links (drop (suc i) links)) device in
    let old_is : get nat_cmp old device ≡ option_map (link_interrupt global) rest = rw add-one at (before device) in
    let step : get nat_cmp new device ≡ cond (key == device) (Some (link_interrupt global items)) (option_map (link_interrupt global) rest) =
    updates.0 device ∙ ap (λ (b : Bool). cond b (Some (link_interrupt global items)) (get nat_cmp old device)) (same_key key device)
    ∙ ap (λ (o : Option (Option GlobalInterrupt)). cond (key == device) (Some (link_interrupt global items)) o) old_is in
    step ∙ mapped_cond (link_interrupt global) (key == device) items rest
    ∙ sym (ap (λ (ls : List (ObjectId × Vec Item Z)). option_map (link_interrupt global) (items_of_device (crs_of_links ls) device)) (drop-cons links i d l))

-- one number more is looked up
pub number_more : (numbers : List ℕ) (f : ℕ → ℕ) (i number : ℕ) → i < length numbers → number ≡ f i
    → ((k : ℕ) → k < i → slice_index numbers k ≡ f k) → (k : ℕ) → k < i + 1 → slice_index (slice_set numbers i number) k ≡ f k
number_more numbers f i number there is before k l =
    elim (cases_lt k i) [
      | inl less ↦ get_or-set_other numbers i k number 0 (λ (same : k ≡ i). omega arith) ∙ before k less
      | inr not_less ↦ get_or-set_at numbers i k number 0 (omega arith) there ∙ is ∙ ap f (omega arith)
    ]

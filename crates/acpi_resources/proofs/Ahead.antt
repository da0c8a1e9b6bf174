-- Items that were read, in front of what is left to read.
use Rattle.std.proofs.Common.{◌≡◌, refl, ap, sym, ◌∙◌, subst, ℕ, zero, suc, ◌+◌, ◌<◌, ◌≤◌, List, [], ◌∷◌, ◌++◌, true, false, Result, Ok, Err, length, drop, arith}
use Rattle.std.proofs.lemmas.List.{drop-drop, length-drop}
use Rattle.std.specs.Result.{IsErrAnd}
use Rattle.std.proofs.Math.ListN.{drop_of_length-le}
use Rattle.acpi_resources.specs.Fault.{Fails, ReadsAs, refusal}
use Rattle.acpi_resources.specs.Items.{first_item, in_front, is_end, item_and_rest, items_from}
use Rattle.acpi_resources.specs.declared.fault.ResourceCause.TheVariants.{NoEnd}
use Rattle.acpi_resources.specs.declared.fault.ResourceFault.{ResourceFault}
use Rattle.acpi_resources.specs.declared.fault.ResourceFault.TheVariants.{NoMemory, Refused}
use Rattle.acpi_resources.specs.declared.fault.ResourceRefusal.{ResourceRefusal}
use Rattle.acpi_resources.specs.declared.item.Item.{Item}

abbrev pub ahead : List Item → Result (List Item) ResourceRefusal → Result (List Item) ResourceRefusal
ahead [] answer = answer
ahead (item ∷ items) answer = in_front item (ahead items answer)

pub ahead-Err : (items : List Item) (refused : ResourceRefusal) → ahead items (Err refused) ≡ Err refused
ahead-Err [] refused = refl
ahead-Err (item ∷ items) refused = ap (in_front item) (ahead-Err items refused)

pub ahead-last : (items : List Item) (item : Item) → ahead items (Ok (item ∷ [])) ≡ Ok (items ++ item ∷ [])
ahead-last [] item = refl
ahead-last (i ∷ items) item = ap (in_front i) (ahead-last items item)

pub ahead-in_front : (items : List Item) (item : Item) (answer : Result (List Item) ResourceRefusal) → ahead items (in_front item answer) ≡ ahead (items ++ item ∷ []) answer
ahead-in_front [] item answer = refl
ahead-in_front (i ∷ items) item answer = ap (in_front i) (ahead-in_front items item answer)

-- where no byte is left, there is no end tag
pub none_left : (n at : ℕ) → items_from n at [] ≡ Err (refusal NoEnd at)
unfolding items_from
none_left zero at = refl
none_left (suc n) at = refl

-- where a byte is left, an item begins there
pub one_more : (n at : ℕ) (bytes : List ℕ) → 0 < length bytes → length bytes ≤ n → (m : ℕ) × (n ≡ suc m) × (items_from n at bytes ≡ item_and_rest (first_item at bytes) (λ size. items_from m (at + size) (drop size bytes)))
unfolding items_from
one_more n at [] some few = absurd (omega arith)
one_more zero at (byte ∷ rest) some few = absurd (omega arith)
one_more (suc n) at (byte ∷ rest) some few = (n, refl, refl)

-- an item at the end of a list
pub last_read : (size : ℕ) (item : Item) (behind : ℕ → Result (List Item) ResourceRefusal) → is_end item ≡ true → item_and_rest (Ok (item, size)) behind ≡ Ok (item ∷ [])
last_read size item behind e = rw e (refl {a = Ok (item ∷ [])})

-- an item with others behind it
pub not_last_read : (size : ℕ) (item : Item) (behind : ℕ → Result (List Item) ResourceRefusal) → is_end item ≡ false → item_and_rest (Ok (item, size)) behind ≡ in_front item (behind size)
not_last_read size item behind e = rw e (refl {a = in_front item (behind size)})

-- what is read from a place on, behind some items: where an item with others behind it stands there
pub items_on :
    (bytes : List ℕ) (n : ℕ) (front : List Item) (at : ℕ) (item : Item) (size : ℕ) (answer : Result (List Item) ResourceRefusal) →
    at < length bytes → length bytes ≤ at + n → 1 ≤ size →
    first_item at (drop at bytes) ≡ Ok (item, size) → is_end item ≡ false →
    ahead front (items_from n at (drop at bytes)) ≡ answer →
    (m : ℕ) × (length bytes ≤ at + size + m) × (ahead (front ++ item ∷ []) (items_from m (at + size) (drop (at + size) bytes)) ≡ answer)
items_on bytes n front at item size answer l few some first e done =
    let more = one_more n at (drop at bytes) (omega (arith, length-drop at bytes, l)) (omega (arith, length-drop at bytes, few)) in
    let behind : ℕ → Result (List Item) ResourceRefusal = λ size. items_from more.0 (at + size) (drop size (drop at bytes)) in
    let step : items_from n at (drop at bytes) ≡ in_front item (items_from more.0 (at + size) (drop (at + size) bytes)) =
    more.2 ∙ ap (λ r. item_and_rest r behind) first ∙ not_last_read size item behind e
    ∙ ap (λ rest. in_front item (items_from more.0 (at + size) rest)) (drop-drop size at bytes) in
    (more.0, omega (arith, more.1, few, some), sym (ahead-in_front front item _) ∙ sym (ap (ahead front) step) ∙ done)

-- where the last one stands there
pub items_last :
    (bytes : List ℕ) (n : ℕ) (front : List Item) (at : ℕ) (item : Item) (size : ℕ) (answer : Result (List Item) ResourceRefusal) →
    at < length bytes → length bytes ≤ at + n →
    first_item at (drop at bytes) ≡ Ok (item, size) → is_end item ≡ true →
    ahead front (items_from n at (drop at bytes)) ≡ answer →
    answer ≡ Ok (front ++ item ∷ [])
items_last bytes n front at item size answer l few first e done =
    let more = one_more n at (drop at bytes) (omega (arith, length-drop at bytes, l)) (omega (arith, length-drop at bytes, few)) in
    let behind : ℕ → Result (List Item) ResourceRefusal = λ size. items_from more.0 (at + size) (drop size (drop at bytes)) in
    let step : items_from n at (drop at bytes) ≡ Ok (item ∷ []) =
    more.2 ∙ ap (λ r. item_and_rest r behind) first ∙ last_read size item behind e in
    sym done ∙ ap (ahead front) step ∙ ahead-last front item

-- where none can be read there
pub items_refused :
    (bytes : List ℕ) (n : ℕ) (front : List Item) (at : ℕ) (refused : ResourceRefusal) (answer : Result (List Item) ResourceRefusal) →
    at < length bytes → length bytes ≤ at + n →
    first_item at (drop at bytes) ≡ Err refused →
    ahead front (items_from n at (drop at bytes)) ≡ answer →
    answer ≡ Err refused
items_refused bytes n front at refused answer l few first done =
    let more = one_more n at (drop at bytes) (omega (arith, length-drop at bytes, l)) (omega (arith, length-drop at bytes, few)) in
    let behind : ℕ → Result (List Item) ResourceRefusal = λ size. items_from more.0 (at + size) (drop size (drop at bytes)) in
    let step : items_from n at (drop at bytes) ≡ Err refused =
    more.2 ∙ ap (λ r. item_and_rest r behind) first in
    sym done ∙ ap (ahead front) step ∙ ahead-Err front refused

-- the same of the program's fault
pub items_fail :
    (bytes : List ℕ) (n : ℕ) (front : List Item) (at : ℕ) (fault : ResourceFault) (answer : Result (List Item) ResourceRefusal) →
    at < length bytes → length bytes ≤ at + n →
    Fails fault (first_item at (drop at bytes)) →
    ahead front (items_from n at (drop at bytes)) ≡ answer →
    Fails fault answer
items_fail bytes n front at NoMemory answer l few fails done = tt
items_fail bytes n front at (Refused refused) answer l few fails done = items_refused bytes n front at refused answer l few fails done

-- where no byte is left
pub items_end :
    (bytes : List ℕ) (n : ℕ) (front : List Item) (at : ℕ) (answer : Result (List Item) ResourceRefusal) →
    length bytes ≤ at →
    ahead front (items_from n at (drop at bytes)) ≡ answer →
    answer ≡ Err (refusal NoEnd at)
items_end bytes n front at answer l done =
    let step : items_from n at (drop at bytes) ≡ Err (refusal NoEnd at) = rw (drop_of_length-le bytes l) (none_left n at) in
    sym done ∙ ap (ahead front) step ∙ ahead-Err front (refusal NoEnd at)

-- a fault that is handed on
pub fails_as :
    {X Y : Type 0} (view : X → Y) (fault : ResourceFault) (result : Result X ResourceFault) (answer : Result Y ResourceRefusal) →
    IsErrAnd result (λ e. e ≡ fault) → Fails fault answer → ReadsAs view result answer
fails_as {X = X} {Y = Y} view fault (Ok _) answer same fails = elim same [ ]
fails_as view fault (Err e) answer same fails = subst (λ f. Fails f answer) (sym same) fails

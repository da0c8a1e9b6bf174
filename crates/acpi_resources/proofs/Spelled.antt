-- What is read of bytes is what they spell.
use Rattle.std.proofs.Common.{◌≡◌, refl, ap, sym, ◌∙◌, subst, ℕ, zero, suc, ◌+◌, ◌%◌, ◌<◌, ◌≤◌, List, [], ◌∷◌, ◌++◌, true, false, Option, Some, None, Result, Ok, Err, length, take, drop, arith, inl, inr, length-append, append_assoc}
use Rattle.std.specs.Prelude.{◌⊎◌, IfErr, nat_lt}
use Rattle.std.proofs.Math.Seq.{take-append_seam, drop-append_seam}
use Rattle.std.proofs.lemmas.Bool.{cases_Bool, cases_lt}
use Rattle.std.proofs.lemmas.Bool.Decides.{nat_tests}
use Rattle.std.proofs.lemmas.List.{take-append-drop, length-take-le}
use Rattle.acpi_tables.specs.Bytes.{number_at}
use Rattle.acpi_resources.specs.Fault.{ReadsAs, StandsWithin, refusal}
use Rattle.acpi_resources.specs.Forms.{small_form, large_form, may_have}
use Rattle.acpi_resources.specs.Items.{first_item, head_of, in_front, is_end, item_and_rest, item_or_truncated, item_with, items_from, items_of, said}
use Rattle.acpi_resources.specs.Spelling.{AreRefused, Begin, HasBadLength, IsCutBody, IsCutLead, IsLead, IsWrong, SaysNothing, Spells}
use Rattle.acpi_resources.specs.Laws.{ItemsAreSpelled, RefusalsAreFirst, RefusalsAreWithin}
use Rattle.acpi_resources.specs.declared.fault.ResourceCause.{ResourceCause}
use Rattle.acpi_resources.specs.declared.fault.ResourceCause.TheVariants.{Truncated, BadItem, NoEnd}
use Rattle.acpi_resources.specs.declared.fault.ResourceFault.{ResourceFault}
use Rattle.acpi_resources.specs.declared.fault.ResourceFault.TheVariants.{NoMemory, Refused}
use Rattle.acpi_resources.specs.declared.fault.ResourceRefusal.{ResourceRefusal}
use Rattle.acpi_resources.specs.declared.form.Form.{Form}
use Rattle.acpi_resources.specs.declared.head.Head.{Head}
use Rattle.acpi_resources.specs.declared.item.Item.{Item}
use Rattle.acpi_resources.proofs.Ahead.{none_left, one_more, last_read, not_last_read}

below : (a b : ℕ) → a < b → nat_lt a b ≡ true
below a b l = grind (arith, nat_tests)

not_below : (a b : ℕ) → b ≤ a → nat_lt a b ≡ false
not_below a b l = grind (arith, nat_tests)

-- tag and length, by themselves and with what they are followed by
abbrev headed : Form → ℕ → List ℕ → Head
headed form size lead = record { form = form; lead = length lead; size = size }

small_head : (tag : ℕ) (behind : List ℕ) → tag < 128 → head_of (tag ∷ behind) ≡ Some (headed (small_form tag) (tag % 8) (tag ∷ []))
small_head tag behind l = rw (below tag 128 l) refl

large_head : (tag low high : ℕ) (behind : List ℕ) → 128 ≤ tag
    → head_of (tag ∷ low ∷ high ∷ behind) ≡ Some (headed (large_form tag) (number_at 0 2 (low ∷ high ∷ [])) (tag ∷ low ∷ high ∷ []))
large_head tag low high behind l =
    rw (not_below tag 128 l, not_below (length (low ∷ high ∷ behind)) 2 (omega arith)) refl

cut_head : (tag : ℕ) (rest : List ℕ) → 128 ≤ tag → length rest < 2 → head_of (tag ∷ rest) ≡ None
cut_head tag rest l short = rw (not_below tag 128 l, below (length rest) 2 short) refl

small_lead : (form : Form) (size : ℕ) (lead behind : List ℕ) (tag : ℕ) → lead ≡ tag ∷ [] → tag < 128 → small_form tag ≡ form → tag % 8 ≡ size
    → head_of (lead ++ behind) ≡ Some (headed form size lead)
small_lead form size lead behind tag is small names tells = rw (is, ← names, ← tells) (small_head tag behind small)

large_lead : (form : Form) (size : ℕ) (lead behind : List ℕ) (tag low high : ℕ) → lead ≡ tag ∷ low ∷ high ∷ [] → 128 ≤ tag → large_form tag ≡ form
    → number_at 0 2 (low ∷ high ∷ []) ≡ size → head_of (lead ++ behind) ≡ Some (headed form size lead)
large_lead form size lead behind tag low high is large names tells = rw (is, ← names, ← tells) (large_head tag low high behind large)

pub head_is : (form : Form) (size : ℕ) (lead behind : List ℕ) → IsLead form size lead → head_of (lead ++ behind) ≡ Some (headed form size lead)
head_is form size lead behind (inl s) = small_lead form size lead behind s.tag s.is s.small s.names s.tells
head_is form size lead behind (inr s) = large_lead form size lead behind s.tag s.low s.high s.is s.large s.names s.tells

-- the first item, behind such a beginning
with_lead : (at : ℕ) (form : Form) (size : ℕ) (lead behind : List ℕ) → IsLead form size lead → first_item at (lead ++ behind) ≡ item_with at (headed form size lead) behind
unfolding first_item
with_lead at form size lead behind leads =
    ap (item_or_truncated at (lead ++ behind)) (head_is form size lead behind leads)
    ∙ ap (item_with at (headed form size lead)) (drop-append_seam lead behind)

pub spelled : (at : ℕ) (item : Item) (spelling rest : List ℕ) → Spells item spelling → first_item at (spelling ++ rest) ≡ Ok (item, length spelling)
spelled at item spelling rest s =
    let behind : List ℕ = s.body ++ rest in
    let enough : nat_lt (length behind) (length s.body) ≡ false = not_below (length behind) (length s.body) (omega (arith, length-append s.body rest)) in
    let split : spelling ++ rest ≡ s.lead ++ behind = ap (λ bytes. bytes ++ rest) s.whole ∙ append_assoc s.lead s.body rest in
    let read : item_with at (headed s.form (length s.body) s.lead) behind ≡ Ok (item, length s.lead + length s.body) =
    rw (s.allowed, enough, take-append_seam s.body rest, s.says) refl in
    ap (first_item at) split ∙ with_lead at s.form (length s.body) s.lead behind s.leads ∙ read
    ∙ ap (λ (n : ℕ). Ok (item, n)) (sym (ap length s.whole ∙ length-append s.lead s.body))

-- what is wrong where some byte stands
cut_lead : (at : ℕ) (bytes : List ℕ) → IsCutLead bytes → first_item at bytes ≡ Err (refusal Truncated at)
unfolding first_item
cut_lead at bytes w = rw w.is (ap (item_or_truncated at (w.tag ∷ w.rest)) (cut_head w.tag w.rest w.large w.short))

cut_body : (at : ℕ) (bytes : List ℕ) → IsCutBody bytes → first_item at bytes ≡ Err (refusal Truncated at)
cut_body at bytes w =
    let read : item_with at (headed w.form w.size w.lead) w.behind ≡ Err (refusal Truncated at) =
    rw (w.allowed, below (length w.behind) w.size w.short) refl in
    ap (first_item at) w.whole ∙ with_lead at w.form w.size w.lead w.behind w.leads ∙ read

bad_length : (at : ℕ) (bytes : List ℕ) → HasBadLength bytes → first_item at bytes ≡ Err (refusal BadItem at)
bad_length at bytes w =
    let read : item_with at (headed w.form w.size w.lead) w.behind ≡ Err (refusal BadItem at) = rw w.refused refl in
    ap (first_item at) w.whole ∙ with_lead at w.form w.size w.lead w.behind w.leads ∙ read

says_nothing : (at : ℕ) (bytes : List ℕ) → SaysNothing bytes → first_item at bytes ≡ Err (refusal BadItem at)
says_nothing at bytes w =
    let behind : List ℕ = w.body ++ w.rest in
    let enough : nat_lt (length behind) (length w.body) ≡ false = not_below (length behind) (length w.body) (omega (arith, length-append w.body w.rest)) in
    let read : item_with at (headed w.form (length w.body) w.lead) behind ≡ Err (refusal BadItem at) =
    rw (w.allowed, enough, take-append_seam w.body w.rest, w.nothing) refl in
    ap (first_item at) w.whole ∙ with_lead at w.form (length w.body) w.lead behind w.leads ∙ read

pub wrong : (at : ℕ) (cause : ResourceCause) (byte : ℕ) (rest : List ℕ) → IsWrong cause (byte ∷ rest) → first_item at (byte ∷ rest) ≡ Err (refusal cause at)
wrong at Truncated byte rest (inl w) = cut_lead at (byte ∷ rest) w
wrong at Truncated byte rest (inr w) = cut_body at (byte ∷ rest) w
wrong at BadItem byte rest (inl w) = bad_length at (byte ∷ rest) w
wrong at BadItem byte rest (inr w) = says_nothing at (byte ∷ rest) w
wrong at NoEnd byte rest w = absurd cc

-- an item is spelled at the front, or something is wrong
abbrev pub IsSpelledOrWrong : List ℕ → Type 0
IsSpelledOrWrong bytes =
    ((item : Item) × (spelling : List ℕ) × (rest : List ℕ) × (bytes ≡ spelling ++ rest) × Spells item spelling)
    ⊎ ((cause : ResourceCause) × IsWrong cause bytes)

-- behind tag and length, whose bytes are all there
said_there : (form : Form) (lead body rest : List ℕ) → IsLead form (length body) lead → may_have form (length body) ≡ true → IsSpelledOrWrong (lead ++ (body ++ rest))
said_there form lead body rest leads allowed = by (said form body) refl
  where
    by : (o : Option Item) → said form body ≡ o → IsSpelledOrWrong (lead ++ (body ++ rest))
    by None nothing = inr (
      BadItem,
      inr (record {
        form = form;
        lead = lead;
        body = body;
        rest = rest;
        whole = refl;
        leads = leads;
        allowed = allowed;
        nothing = nothing;
      }),
    )
    by (Some item) says = inl (
      item,
      lead ++ body,
      rest,
      sym (append_assoc lead body rest),
      record {
        form = form;
        lead = lead;
        body = body;
        whole = refl;
        leads = leads;
        allowed = allowed;
        says = says;
      },
    )

behind_allowed : (form : Form) (size : ℕ) (lead behind : List ℕ) → IsLead form size lead → may_have form size ≡ true → IsSpelledOrWrong (lead ++ behind)
behind_allowed form size lead behind leads allowed =
    elim (cases_lt (length behind) size) [
      | inl short ↦ inr (
        Truncated,
        inr (record {
          form = form;
          size = size;
          lead = lead;
          behind = behind;
          whole = refl;
          leads = leads;
          allowed = allowed;
          short = short;
        }),
      )
      | inr enough ↦
          let body : List ℕ = take size behind in
          let there : length body ≡ size = length-take-le size behind enough in
          subst (λ (bytes : List ℕ). IsSpelledOrWrong (lead ++ bytes)) (take-append-drop size behind)
          (said_there form lead body (drop size behind) (subst (λ (n : ℕ). IsLead form n lead) (sym there) leads)
          (subst (λ (n : ℕ). may_have form n ≡ true) (sym there) allowed))
    ]

behind_lead : (form : Form) (size : ℕ) (lead behind : List ℕ) → IsLead form size lead → IsSpelledOrWrong (lead ++ behind)
behind_lead form size lead behind leads =
    elim (cases_Bool (may_have form size)) [
      | inl allowed ↦ behind_allowed form size lead behind leads allowed
      | inr refused ↦ inr (
        BadItem,
        inl (record {
          form = form;
          size = size;
          lead = lead;
          behind = behind;
          whole = refl;
          leads = leads;
          refused = refused;
        }),
      )
    ]

large_front : (tag : ℕ) (rest : List ℕ) → 128 ≤ tag → IsSpelledOrWrong (tag ∷ rest)
large_front tag [] large = inr (Truncated, inl (record { tag = tag; rest = []; is = refl; large = large; short = omega arith }))
large_front tag (low ∷ []) large = inr (Truncated, inl (record { tag = tag; rest = low ∷ []; is = refl; large = large; short = omega arith }))
large_front tag (low ∷ high ∷ behind) large =
    behind_lead (large_form tag) (number_at 0 2 (low ∷ high ∷ [])) (tag ∷ low ∷ high ∷ []) behind
    (inr (record { tag = tag; low = low; high = high; is = refl; large = large; names = refl; tells = refl }))

pub front : (tag : ℕ) (rest : List ℕ) → IsSpelledOrWrong (tag ∷ rest)
front tag rest =
    elim (cases_lt tag 128) [
      | inl small ↦ behind_lead (small_form tag) (tag % 8) (tag ∷ []) rest (inl (record { tag = tag; is = refl; small = small; names = refl; tells = refl }))
      | inr large ↦ large_front tag rest large
    ]

-- tag and length have a byte at least
lead_there : (form : Form) (size : ℕ) (lead : List ℕ) → IsLead form size lead → 1 ≤ length lead
lead_there form size lead (inl l) = omega (arith, ap length l.is)
lead_there form size lead (inr l) = omega (arith, ap length l.is)

some_byte : (item : Item) (spelling : List ℕ) → Spells item spelling → 1 ≤ length spelling
some_byte item spelling s = omega (arith, ap length s.whole, length-append s.lead s.body, lead_there s.form (length s.body) s.lead s.leads)

-- what is read from a place on: an item, and what is read behind it
read_on : (n at : ℕ) (item : Item) (spelling rest : List ℕ) → Spells item spelling → length (spelling ++ rest) ≤ n
    → (m : ℕ) × (length rest ≤ m) × (items_from n at (spelling ++ rest) ≡ item_and_rest (Ok (item, length spelling)) (λ size. items_from m (at + size) (drop size (spelling ++ rest))))
read_on n at item spelling rest s few =
    let some = some_byte item spelling s in
    let more = one_more n at (spelling ++ rest) (omega (arith, length-append spelling rest)) few in (
      more.0,
      omega (arith, length-append spelling rest, more.1),
      more.2 ∙ ap (λ r. item_and_rest r (λ size. items_from more.0 (at + size) (drop size (spelling ++ rest)))) (spelled at item spelling rest s),
    )

pub begun : (items : List Item) (n at : ℕ) (bytes : List ℕ) → length bytes ≤ n → Begin items bytes → items_from n at bytes ≡ Ok items
begun [] n at bytes few b = absurd b
begun (item ∷ items) n at bytes few (spelling, rest, whole, s, inl (last, none)) =
    let on = read_on n at item spelling rest s (subst (λ (b : List ℕ). length b ≤ n) whole few) in
    ap (items_from n at) whole ∙ on.2 ∙ last_read (length spelling) item (λ size. items_from on.0 (at + size) (drop size (spelling ++ rest))) last
    ∙ ap (λ (more : List Item). Ok (item ∷ more)) (sym none)
begun (item ∷ items) n at bytes few (spelling, rest, whole, s, inr (not_last, behind)) =
    let on = read_on n at item spelling rest s (subst (λ (b : List ℕ). length b ≤ n) whole few) in
    ap (items_from n at) whole ∙ on.2 ∙ not_last_read (length spelling) item (λ size. items_from on.0 (at + size) (drop size (spelling ++ rest))) not_last
    ∙ ap (λ (bytes : List ℕ). in_front item (items_from on.0 (at + length spelling) bytes)) (drop-append_seam spelling rest)
    ∙ ap (in_front item) (begun items on.0 (at + length spelling) rest on.1 behind)

-- where no byte is left, the end tag is missing
no_lead : (form : Form) (size : ℕ) (lead behind : List ℕ) → IsLead form size lead → [] ≡ lead ++ behind → ⊥
no_lead form size lead behind leads e = omega (arith, ap length e, length-append lead behind, lead_there form size lead leads)

wrong_of_none : (cause : ResourceCause) → IsWrong cause [] → NoEnd ≡ cause
wrong_of_none Truncated (inl w) = absurd (omega (arith, ap length w.is))
wrong_of_none Truncated (inr w) = absurd (no_lead w.form w.size w.lead w.behind w.leads w.whole)
wrong_of_none BadItem (inl w) = absurd (no_lead w.form w.size w.lead w.behind w.leads w.whole)
wrong_of_none BadItem (inr w) = absurd (no_lead w.form (length w.body) w.lead (w.body ++ w.rest) w.leads w.whole)
wrong_of_none NoEnd w = refl

-- what is wrong at the front is what is refused
refused_here : (n at : ℕ) (cause : ResourceCause) (bytes : List ℕ) → length bytes ≤ n → IsWrong cause bytes → items_from n at bytes ≡ Err (refusal cause at)
refused_here n at cause [] few w = none_left n at ∙ ap (λ (cause : ResourceCause). Err (refusal cause at)) (wrong_of_none cause w)
refused_here n at cause (byte ∷ rest) few w =
    let more = one_more n at (byte ∷ rest) (omega arith) few in
    more.2 ∙ ap (λ r. item_and_rest r (λ size. items_from more.0 (at + size) (drop size (byte ∷ rest)))) (wrong at cause byte rest w)

pub refused_behind : (before : List Item) (refused : ResourceRefusal) (n at : ℕ) (bytes : List ℕ) → length bytes ≤ n → AreRefused before refused at bytes → items_from n at bytes ≡ Err refused
refused_behind [] refused n at bytes few (place, w) =
    refused_here n at refused.cause bytes few w ∙ ap (λ (at : ℕ). Err (refusal refused.cause at)) (sym place)
refused_behind (item ∷ items) refused n at bytes few (spelling, rest, whole, s, not_last, behind) =
    let on = read_on n at item spelling rest s (subst (λ (b : List ℕ). length b ≤ n) whole few) in
    ap (items_from n at) whole ∙ on.2 ∙ not_last_read (length spelling) item (λ size. items_from on.0 (at + size) (drop size (spelling ++ rest))) not_last
    ∙ ap (λ (bytes : List ℕ). in_front item (items_from on.0 (at + length spelling) bytes)) (drop-append_seam spelling rest)
    ∙ ap (in_front item) (refused_behind items refused on.0 (at + length spelling) rest on.1 behind)

-- the one or the other is so
abbrev IsReadOrRefused : ℕ → List ℕ → Type 0
IsReadOrRefused at bytes =
    ((items : List Item) × Begin items bytes) ⊎ ((before : List Item) × (refused : ResourceRefusal) × AreRefused before refused at bytes)

-- an item in front of what is so behind it
goes_on : (at : ℕ) (item : Item) (spelling rest : List ℕ) → Spells item spelling → is_end item ≡ false → IsReadOrRefused (at + length spelling) rest → IsReadOrRefused at (spelling ++ rest)
goes_on at item spelling rest s not_last (inl (items, behind)) = inl (item ∷ items, (spelling, rest, refl, s, inr (not_last, behind)))
goes_on at item spelling rest s not_last (inr (before, refused, behind)) = inr (item ∷ before, refused, (spelling, rest, refl, s, not_last, behind))

-- where a byte stands at the front, and what is shorter is read or refused
from_front : (n at byte : ℕ) (rest : List ℕ) → length (byte ∷ rest) ≤ suc n → ((at : ℕ) (more : List ℕ) → length more ≤ n → IsReadOrRefused at more)
    → IsSpelledOrWrong (byte ∷ rest) → IsReadOrRefused at (byte ∷ rest)
from_front n at byte rest few shorter (inr (cause, w)) = inr ([], refusal cause at, (refl, w))
from_front n at byte rest few shorter (inl (item, spelling, more, whole, s)) =
    elim (cases_Bool (is_end item)) [
      | inl last ↦ inl (item ∷ [], (spelling, more, whole, s, inl (last, refl)))
      | inr not_last ↦
          let fewer : length more ≤ n = omega (arith, ap length whole, length-append spelling more, some_byte item spelling s) in
          subst (IsReadOrRefused at) (sym whole) (goes_on at item spelling more s not_last (shorter (at + length spelling) more fewer))
    ]

read_or_refused : (n at : ℕ) (bytes : List ℕ) → length bytes ≤ n → IsReadOrRefused at bytes
read_or_refused n at [] few = inr ([], refusal NoEnd at, (refl, refl))
read_or_refused zero at (byte ∷ rest) few = absurd (omega arith)
read_or_refused (suc n) at (byte ∷ rest) few = from_front n at byte rest few (λ at more fewer. read_or_refused n at more fewer) (front byte rest)

same_items : (a b : List Item) → ◌≡◌ {A = Result (List Item) ResourceRefusal} (Ok a) (Ok b) → a ≡ b
same_items a b e = cc

same_refusal : (a b : ResourceRefusal) → ◌≡◌ {A = Result (List Item) ResourceRefusal} (Err a) (Err b) → a ≡ b
same_refusal a b e = cc

not_both : (a : List Item) (b : ResourceRefusal) → ◌≡◌ {A = Result (List Item) ResourceRefusal} (Ok a) (Err b) → ⊥
not_both a b e = cc

read_begins : (items : List Item) (bytes : List ℕ) → items_of bytes ≡ Ok items → Begin items bytes
read_begins items bytes e = by (read_or_refused (length bytes) 0 bytes (omega arith))
  where
    by : IsReadOrRefused 0 bytes → Begin items bytes
    by (inl (found, b)) =
        subst (λ (items : List Item). Begin items bytes) (same_items found items (sym (begun found (length bytes) 0 bytes (omega arith) b) ∙ e)) b
    by (inr (before, refused, b)) =
        absurd (not_both items refused (sym e ∙ refused_behind before refused (length bytes) 0 bytes (omega arith) b))

refused_is_first : (refused : ResourceRefusal) (bytes : List ℕ) → items_of bytes ≡ Err refused → (before : List Item) × AreRefused before refused 0 bytes
refused_is_first refused bytes e = by (read_or_refused (length bytes) 0 bytes (omega arith))
  where
    by : IsReadOrRefused 0 bytes → (before : List Item) × AreRefused before refused 0 bytes
    by (inl (found, b)) = absurd (not_both found refused (sym (begun found (length bytes) 0 bytes (omega arith) b) ∙ e))
    by (inr (before, told, b)) = (
      before,
      subst (λ (told : ResourceRefusal). AreRefused before told 0 bytes)
          (same_refusal told refused (sym (refused_behind before told (length bytes) 0 bytes (omega arith) b) ∙ e)) b,
    )

pub items_spelled : ItemsAreSpelled
items_spelled items bytes = (read_begins items bytes, begun items (length bytes) 0 bytes (omega arith))

pub refusals_first : RefusalsAreFirst
refusals_first refused bytes = (
  refused_is_first refused bytes,
  λ (before, b). refused_behind before refused (length bytes) 0 bytes (omega arith) b,
)

-- the place of a refusal
within : (before : List Item) (refused : ResourceRefusal) (at : ℕ) (bytes : List ℕ) → AreRefused before refused at bytes → refused.at ≤ at + length bytes
within [] refused at bytes (place, w) = omega arith
within (item ∷ items) refused at bytes (spelling, rest, whole, s, not_last, behind) =
    omega (arith, within items refused (at + length spelling) rest behind, ap length whole, length-append spelling rest)

pub refusals_within : RefusalsAreWithin
refusals_within refused bytes e =
    let first = refused_is_first refused bytes e in
    omega (arith, within first.0 refused 0 bytes first.1)

-- so also that of an answer
pub placed : {X : Type 0} (view : X → List Item) (result : Result X ResourceFault) (bytes : List ℕ) → ReadsAs view result (items_of bytes) → IfErr result (StandsWithin (length bytes))
placed view (Ok items) bytes gives = tt
placed view (Err NoMemory) bytes gives = tt
placed view (Err (Refused refused)) bytes gives = refusals_within refused bytes gives

-- Lists of resource descriptors (ACPI 6.5, 6.4).
use Rattle.std.specs.Prelude.{◌+◌, ◌*◌, ◌%◌, ℕ, zero, suc, ◌==◌, List, [], ◌∷◌, Bool, true, false, Option, Some, None, Result, Ok, Err, length, take, drop, nat_le, nat_lt, if◌then◌else◌}
use Rattle.acpi_tables.specs.Bytes.{number_at}
use Rattle.acpi_resources.specs.Fault.{refusal}
use Rattle.acpi_resources.specs.Forms.{bytes_of, small_form, large_form, may_have}
use Rattle.acpi_resources.specs.Signals.{irq_signal, isa_signal, interrupt_signal}
use Rattle.acpi_resources.specs.declared.fault.ResourceCause.TheVariants.{Truncated, BadItem, NoEnd}
use Rattle.acpi_resources.specs.declared.fault.ResourceRefusal.{ResourceRefusal}
use Rattle.acpi_resources.specs.declared.form.Form.{Form}
use Rattle.acpi_resources.specs.declared.form.Form.TheVariants as form
use Rattle.acpi_resources.specs.declared.item.AddressWidth.{AddressWidth}
use Rattle.acpi_resources.specs.declared.head.Head.{Head}
use Rattle.acpi_resources.specs.declared.item.Item.{Item}
use Rattle.acpi_resources.specs.declared.item.Item.TheVariants.{Irq, Io, FixedIo, End, Memory, FixedMemory, AddressSpace, Interrupt, Other}

-- how a descriptor begins, where its tag and length are whole: a small one has its length in bits
-- 2:0 of its tag, a large one, whose tag has bit 7, in the two bytes behind it
abbrev pub head_of : List ℕ → Option Head
head_of [] = None
head_of (tag ∷ rest) =
    if nat_lt tag 128 then Some (record { form = small_form tag; lead = 1; size = tag % 8 })
    else (if nat_lt (length rest) 2 then None
    else Some (record { form = large_form tag; lead = 3; size = number_at 0 2 rest }))

-- so many numbers of four bytes, one behind the other
abbrev pub interrupts : ℕ → List ℕ → List ℕ
interrupts zero bytes = []
interrupts (suc n) bytes = number_at 0 4 bytes ∷ interrupts n (drop 4 bytes)

-- the i-th of the five numbers of an address space descriptor, which stand from the fourth byte on
abbrev pub range_number : AddressWidth → ℕ → List ℕ → ℕ
range_number width i bytes = number_at (3 + i * bytes_of width) (bytes_of width) bytes

-- granularity, least and greatest address, translation and length
abbrev pub address_space : AddressWidth → List ℕ → Item
address_space width bytes =
    AddressSpace width (number_at 0 1 bytes) (range_number width 0 bytes)
    (range_number width 1 bytes) (range_number width 2 bytes) (range_number width 3 bytes)
    (range_number width 4 bytes)

-- what the bytes behind tag and length say; an extended interrupt descriptor says nothing where its
-- numbers go past them
abbrev pub said : Form → List ℕ → Option Item
said form.Irq bytes = Some (Irq (number_at 0 2 bytes)
    (if length bytes == 2 then isa_signal else irq_signal (number_at 2 1 bytes)))
said form.Io bytes = Some
    (Io (number_at 1 2 bytes) (number_at 3 2 bytes) (number_at 5 1 bytes) (number_at 6 1 bytes))
said form.FixedIo bytes = Some (FixedIo (number_at 0 2 bytes) (number_at 2 1 bytes))
said form.End bytes = Some End
said form.Memory bytes = Some (Memory (number_at 1 4 bytes) (number_at 5 4 bytes)
    (number_at 9 4 bytes) (number_at 13 4 bytes))
said form.FixedMemory bytes = Some (FixedMemory (number_at 1 4 bytes) (number_at 5 4 bytes))
said (form.AddressSpace width) bytes = Some (address_space width bytes)
said form.Interrupt bytes =
    if nat_le (2 + 4 * number_at 1 1 bytes) (length bytes)
    then Some (Interrupt (interrupt_signal (number_at 0 1 bytes))
    (interrupts (number_at 1 1 bytes) (drop 2 bytes)))
    else None
said (form.Other tag) bytes = Some (Other tag (length bytes))

-- an item, or that the bytes of a descriptor at a place do not say one
abbrev pub said_or_bad : ℕ → Option Item → Result Item ResourceRefusal
said_or_bad at (Some item) = Ok item
said_or_bad at None = Err (refusal BadItem at)

-- an item and how many bytes it takes
abbrev pub sized : ℕ → Result Item ResourceRefusal → Result (Item × ℕ) ResourceRefusal
sized size (Ok item) = Ok (item, size)
sized size (Err refused) = Err refused

-- the item with a head, of which the bytes behind tag and length are at the front of these: first
-- its length is judged, then that it is there
abbrev pub item_with : ℕ → Head → List ℕ → Result (Item × ℕ) ResourceRefusal
item_with at head behind =
    if may_have head.form head.size
    then (if nat_lt (length behind) head.size then Err (refusal Truncated at)
    else sized (head.lead + head.size) (said_or_bad at (said head.form (take head.size behind))))
    else Err (refusal BadItem at)

abbrev pub item_or_truncated : ℕ → List ℕ → Option Head → Result (Item × ℕ) ResourceRefusal
item_or_truncated at bytes (Some head) = item_with at head (drop head.lead bytes)
item_or_truncated at bytes None = Err (refusal Truncated at)

-- the item at the front of some bytes that stand at a place, and how many bytes it takes
unfoldable pub first_item : ℕ → List ℕ → Result (Item × ℕ) ResourceRefusal
first_item at bytes = item_or_truncated at bytes (head_of bytes)

abbrev pub is_end : Item → Bool
is_end End = true
is_end item = false

-- an item in front of others
abbrev pub in_front : Item → Result (List Item) ResourceRefusal → Result (List Item) ResourceRefusal
in_front item (Ok items) = Ok (item ∷ items)
in_front item (Err refused) = Err refused

-- an item, and those behind it where it is not the last
abbrev pub item_and_rest : Result (Item × ℕ) ResourceRefusal →
    (ℕ → Result (List Item) ResourceRefusal) → Result (List Item) ResourceRefusal
item_and_rest (Ok (item, size)) behind =
    if is_end item then Ok (item ∷ []) else in_front item (behind size)
item_and_rest (Err refused) behind = Err refused

-- the items of some bytes that stand at a place, up to the first end tag; there are no more of them
-- than bytes
unfoldable pub items_from : ℕ → ℕ → List ℕ → Result (List Item) ResourceRefusal
items_from zero at bytes = Err (refusal NoEnd at)
items_from (suc n) at [] = Err (refusal NoEnd at)
items_from (suc n) at (byte ∷ rest) = item_and_rest (first_item at (byte ∷ rest))
    (λ size. items_from n (at + size) (drop size (byte ∷ rest)))

abbrev pub items_of : List ℕ → Result (List Item) ResourceRefusal
items_of bytes = items_from (length bytes) 0 bytes

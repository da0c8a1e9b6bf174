-- Bits that tell of many segments at once whether any of them stands below a chain.
use Rattle.std.specs.Prelude.{◌≡◌, ◌*◌, ◌%◌, ◌/◌, ◌^◌, ℕ, List, None, slice_index}
use Rattle.std.specs.Int.{bit_at, from_be_bytes, w32}
use Rattle.std.specs.BTreeMap.{BTreeMap, get}
use Rattle.aml_lex.specs.declared.names.NameSeg.{NameSeg}
use Rattle.aml_paths.specs.declared.place.Place.{Place}
use Rattle.aml_paths.specs.Trie.{place_order}

-- the group of a segment, of 64
abbrev pub group_of : NameSeg → ℕ
group_of segment = from_be_bytes w32 segment.bytes * 2654435761 % 2 ^ 32 / 2 ^ 26

-- where a group's bit is not set for a chain, no segment of the group stands below it
abbrev pub AreMarked : List ℕ → BTreeMap Place ℕ → Type 0
AreMarked marks numbers = (place : Place) →
    bit_at (slice_index marks place.top) (group_of place.segment) ≡ 0 →
    get place_order numbers place ≡ None

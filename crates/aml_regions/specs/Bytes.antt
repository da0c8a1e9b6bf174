-- Bytes by space and address, 0 where unset, and the numbers that they make, lowest first.
use Rattle.std.specs.Prelude.{◌≡◌, ◌==◌, ◌&&◌, ◌+◌, ◌-◌, ◌*◌, ◌/◌, ◌<◌, ℕ, zero, suc, nat_le, nat_lt, unwrap_or, IsSome, if◌then◌else◌}
use Rattle.std.specs.Int.{byte_at}
use Rattle.std.specs.BTreeMap.{BTreeMap, get}
use Rattle.std.specs.declared.cmp.Ordering.{Ordering}
use Rattle.std.specs.Ordering.{ordering_then, nat_cmp}
use Rattle.aml_regions.specs.declared.access.Access.{Access}

-- the order of places: by space, then by address
abbrev pub place_cmp : ℕ × ℕ → ℕ × ℕ → Ordering
place_cmp p q = ordering_then (nat_cmp p.0 q.0) (nat_cmp p.1 q.1)

-- the byte that is kept at an address of a space, 0 where none is
abbrev pub byte_of : BTreeMap (ℕ × ℕ) ℕ → ℕ → ℕ → ℕ
byte_of bytes space address = unwrap_or (get place_cmp bytes (space, address)) 0

-- a byte is kept there
abbrev pub IsSet : BTreeMap (ℕ × ℕ) ℕ → ℕ → ℕ → Type 0
IsSet bytes space address = IsSome (get place_cmp bytes (space, address))

-- bytes are kept at each of so many addresses
abbrev pub AreSet : BTreeMap (ℕ × ℕ) ℕ → ℕ → ℕ → ℕ → Type 0
AreSet bytes space address count = (i : ℕ) → i < count → IsSet bytes space (address + i)

-- the same byte at each place
abbrev pub SameBytes : (ℕ → ℕ → ℕ) → (ℕ → ℕ → ℕ) → Type 0
SameBytes old new = (space address : ℕ) → new space address ≡ old space address

-- the bytes, with others at so many addresses of a space from one on
abbrev pub with_run : (ℕ → ℕ → ℕ) → ℕ → ℕ → ℕ → (ℕ → ℕ) → ℕ → ℕ → ℕ
with_run old space at count run s a =
    if (s == space) && (nat_le at a && nat_lt a (at + count)) then run (a - at) else old s a

-- the bytes, with a unit's, of which the lowest stands first
abbrev pub with_unit : (ℕ → ℕ → ℕ) → Access → ℕ → ℕ → ℕ → ℕ
with_unit old access value =
    with_run old access.space access.address (access.width / 8) (λ i. byte_at i value)

-- the number of so many bytes from an address on, the lowest first
unfoldable pub number_from : ℕ → (ℕ → ℕ) → ℕ → ℕ
number_from zero bytes at = 0
number_from (suc n) bytes at = bytes at + 256 * number_from n bytes (at + 1)

-- a unit's value
abbrev pub unit_of : (ℕ → ℕ → ℕ) → Access → ℕ
unit_of bytes access = number_from (access.width / 8) (bytes access.space) access.address

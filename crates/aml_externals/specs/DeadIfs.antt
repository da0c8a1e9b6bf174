-- The `If (Zero)` that a compiler puts round a table's Externals (ACPI 6.5, 19.6.46 and 20.2.5.3).
use Rattle.std.specs.Prelude.{ℕ, zero, suc, ◌+◌, ◌&&◌, not, Bool, true, false, List, length, take, Option, Some, None, nat_lt, if◌then◌else◌}
use Rattle.aml_lex.specs.Standing.{has_byte}
use Rattle.aml_externals.specs.Extents.{and_then, name_end, package_at, bytes_end}

-- the place behind an External: its opcode, a name, its type, and how many arguments it takes
unfoldable pub external_end : List ℕ → ℕ → Option ℕ
external_end bytes at =
    if has_byte 0x15 bytes at then and_then (name_end bytes (at + 1)) (bytes_end 2 bytes) else None

-- the rest, where there is such a place
abbrev pub holds_behind : Option ℕ → (ℕ → Bool) → Bool
holds_behind None rest = false
holds_behind (Some next) rest = rest next

-- Externals alone up to the end of the bytes
abbrev pub externals_until : ℕ → List ℕ → ℕ → Bool
externals_until zero bytes at = true
externals_until (suc n) bytes at = if nat_lt at (length bytes)
    then holds_behind (external_end bytes at) (externals_until n bytes) else true

-- one External or more, up to the end of the bytes
unfoldable pub are_externals : List ℕ → ℕ → Bool
are_externals bytes at = nat_lt at (length bytes) && externals_until (length bytes) bytes at

-- behind the length of its package stands the test Zero, then Externals alone; no Else follows
abbrev pub holds_externals : List ℕ → ℕ → ℕ → Bool
holds_externals bytes stop next = has_byte 0x00 (take stop bytes) next
    && are_externals (take stop bytes) (next + 1) && not (has_byte 0xA1 bytes stop)

abbrev pub dead_end_of : List ℕ → Option (ℕ × ℕ) → Option ℕ
dead_end_of bytes None = None
dead_end_of bytes (Some (stop, next)) = if holds_externals bytes stop next then Some stop else None

-- the end of the dead If that the bytes begin with: an If whose test is Zero, which holds Externals
-- alone and has no Else
unfoldable pub dead_end : List ℕ → Option ℕ
dead_end bytes = if has_byte 0xA0 bytes 0 then dead_end_of bytes (package_at bytes 1) else None

-- Reading from left to right, as functions of the bytes (ACPI 6.5, 20.2.2 to 20.2.4). Each
-- `.._read` reads from a list's first byte on, and each `.._at` from a place on, with places and
-- faults in the whole bytes.
use Rattle.std.specs.Prelude.{◌≡◌, ℕ, zero, suc, ◌+◌, ◌/◌, ◌^◌, ◌-◌, ◌==◌, Bool, true, false, List, [], ◌∷◌, length, nat_lt, drop, Option, Some, None, Result, Ok, Err, if◌then◌else◌}
use Rattle.aml_lex.specs.declared.fault.LexCause.TheVariants.{BadPkgLength, BadName, BadString, Overrun}
use Rattle.aml_lex.specs.declared.fault.LexFault.{LexFault}
use Rattle.aml_lex.specs.Characters.{fits_name}
use Rattle.aml_lex.specs.Numbers.{little, pkg_value}
use Rattle.aml_lex.specs.NameStrings.{NameString}
use Rattle.aml_lex.specs.Read.{Read, Found, Ends, Wrong, behind, then_read, tested_read, bytes_read, fault_of, truncated, placed}

-- a package length: bits 7:6 of the lead byte say how many bytes follow it
abbrev pub pkg_length_read : List ℕ → Read ℕ
pkg_length_read [] = Ends
pkg_length_read (lead ∷ more) =
    behind 1 (λ bytes. pkg_value lead bytes) (bytes_read (lead / 64) more)

-- no byte is wrong in a package length, so the cause of a wrong byte is never told
unfoldable pub pkg_length_at : List ℕ → ℕ → Result (ℕ × ℕ) LexFault
pkg_length_at bytes at = placed BadPkgLength at (length bytes) (pkg_length_read (drop at bytes))

-- the package of a value that was read at a place: its end, and the place behind the package length
abbrev pub package_of : ℕ → ℕ → Result (ℕ × ℕ) LexFault → Result (ℕ × ℕ) LexFault
package_of at end (Ok (value, next)) =
    if nat_lt (at + value) next then Err (fault_of BadPkgLength at)
    else (if nat_lt end (at + value) then Err (fault_of Overrun at) else Ok (at + value, next))
package_of at end (Err fault) = Err fault

unfoldable pub package_end_at : List ℕ → ℕ → Result (ℕ × ℕ) LexFault
package_end_at bytes at = package_of at (length bytes) (pkg_length_at bytes at)

-- a name segment: one byte that leads it, and three others
abbrev pub seg_tests : List (ℕ → Bool)
seg_tests = fits_name true ∷ fits_name false ∷ fits_name false ∷ fits_name false ∷ []

abbrev pub seg_read : List ℕ → Read (List ℕ)
seg_read bytes = tested_read seg_tests bytes

-- so many name segments
abbrev pub segs_read : ℕ → List ℕ → Read (List (List ℕ))
segs_read zero bytes = Found [] 0
segs_read (suc n) bytes =
    then_read (seg_read bytes) (λ seg rest. behind 0 (λ segs. seg ∷ segs) (segs_read n rest)) bytes

-- a count of at least 1, and so many segments
abbrev pub counted_read : List ℕ → Read (List (List ℕ))
counted_read [] = Ends
counted_read (count ∷ more) =
    if count == 0 then Wrong 0 else behind 1 (λ segs. segs) (segs_read count more)

-- what stands behind a name string's prefix
abbrev pub path_read : List ℕ → Read (List (List ℕ))
path_read [] = Ends
path_read (b ∷ more) =
    if b == 0x00 then Found [] 1
    else (if b == 0x2E then behind 1 (λ segs. segs) (segs_read 2 more)
    else (if b == 0x2F then behind 1 (λ segs. segs) (counted_read more)
    else segs_read 1 (b ∷ more)))

abbrev pub named : Bool → ℕ → List (List ℕ) → NameString
named rooted parents segs = record { rooted = rooted; parents = parents; segs = segs }

-- how many `^` the bytes begin with
abbrev pub carets : List ℕ → ℕ
carets [] = 0
carets (b ∷ more) = if b == 0x5E then carets more + 1 else 0

-- any number of `^`, and what stands behind them
abbrev pub relative_read : List ℕ → Read NameString
relative_read bytes =
    behind (carets bytes) (named false (carets bytes)) (path_read (drop (carets bytes) bytes))

abbrev pub is_rooted : List ℕ → Bool
is_rooted [] = false
is_rooted (b ∷ more) = b == 0x5C

-- a name string
abbrev pub name_string_read : List ℕ → Read NameString
name_string_read bytes = if is_rooted bytes then behind 1 (named true 0) (path_read (drop 1 bytes))
    else relative_read bytes

unfoldable pub name_string_at : List ℕ → ℕ → Result (NameString × ℕ) LexFault
name_string_at bytes at = placed BadName at (length bytes) (name_string_read (drop at bytes))

-- integer data; its first byte alone can be wrong
abbrev pub integer_read : List ℕ → Read ℕ
integer_read [] = Ends
integer_read (b ∷ more) =
    if b == 0x00 then Found 0 1
    else (if b == 0x01 then Found 1 1
    else (if b == 0x0A then behind 1 little (bytes_read 1 more)
    else (if b == 0x0B then behind 1 little (bytes_read 2 more)
    else (if b == 0x0C then behind 1 little (bytes_read 4 more)
    else (if b == 0x0E then behind 1 little (bytes_read 8 more)
    else (if b == 0xFF then Found (2 ^ 64 - 1) 1
    else Wrong 0))))))

-- no integer where the first byte is wrong
abbrev pub integer_placed : ℕ → ℕ → Read ℕ → Result (Option (ℕ × ℕ)) LexFault
integer_placed at end (Found value len) = Ok (Some (value, at + len))
integer_placed at end Ends = Err (truncated end)
integer_placed at end (Wrong place) = Ok None

unfoldable pub integer_data_at : List ℕ → ℕ → Result (Option (ℕ × ℕ)) LexFault
integer_data_at bytes at = integer_placed at (length bytes) (integer_read (drop at bytes))

-- string data: a text up to a 00
abbrev pub string_read : List ℕ → Read (List ℕ)
string_read [] = Ends
string_read (b ∷ more) =
    if b == 0x00 then Found [] 1
    else (if nat_lt 0x7F b then Wrong 0 else behind 1 (λ text. b ∷ text) (string_read more))

unfoldable pub string_data_at : List ℕ → ℕ → Result (List ℕ × ℕ) LexFault
string_data_at bytes at = placed BadString at (length bytes) (string_read (drop at bytes))

-- the program's answer, seen by a view of its value, is that of a definition
abbrev pub IsSeenAs : {X V : Type 0} → (X → V) → Result (X × ℕ) LexFault →
    Result (V × ℕ) LexFault → Type 0
IsSeenAs view (Ok r) answer = answer ≡ Ok (view r.0, r.1)
IsSeenAs view (Err fault) answer = answer ≡ Err fault

-- an answer with its value seen by a view
abbrev pub with_value : {X V : Type 0} → (X → V) → Result (X × ℕ) LexFault → Result (V × ℕ) LexFault
with_value view (Ok r) = Ok (view r.0, r.1)
with_value view (Err fault) = Err fault

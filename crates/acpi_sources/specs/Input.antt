-- Standard input: its bytes, its lines, and the files that stand on them in hex.
use Rattle.std.specs.Prelude.{◌≡◌, ◌≤◌, ◌<◌, ◌⊎◌, ◌==◌, ℕ, List, [], ◌∷◌, length, ◌++◌, Bool, true, false, All, Option, Some, None, Result, Ok, Err, codes, not, vec_items}
use Rattle.std.specs.Io.KnownBytes.{Consumes, IsAtEnd}
use Rattle.hex.specs.Hex.{decode_of}
use Rattle.hex.specs.declared.error.FromHexError.{FromHexError}
use Rattle.acpi_sources.specs.Files.{limit}
use Rattle.acpi_sources.specs.declared.disk.Unread.{Unread}
use Rattle.acpi_sources.specs.declared.disk.Unread.TheVariants as unread
use Rattle.acpi_sources.specs.declared.input.End.{End}
use Rattle.acpi_sources.specs.declared.input.End.TheVariants as end
use Rattle.acpi_sources.specs.declared.input.Input.{Input}
use Rattle.acpi_sources.specs.declared.hex_lines.HexLines.{HexLines}
use Rattle.acpi_sources.specs.declared.source.SourceFault.{SourceFault}
use Rattle.acpi_sources.specs.declared.source.SourceFault.TheVariants.{File, NoMemory}

-- whether all bytes of a stream were read
unfoldable pub is_whole : End → Bool
is_whole end.Whole = true
is_whole (end.Failed error) = false
is_whole end.TooLarge = false

-- how reading a stream ends behind these bytes: they are all and at most 16 MiB, or they are more;
-- or a read failed
abbrev pub EndsAs : Option (List ℕ) → List ℕ → End → Type 0
EndsAs rest bytes end.Whole = IsAtEnd rest × (length bytes ≤ limit)
EndsAs rest bytes (end.Failed error) = Unit {0}
EndsAs rest bytes end.TooLarge = limit < length bytes

-- what was read of a stream: its next bytes, and how that ended
pub record IsRead (old new : Option (List ℕ)) (read : Input) : Type 0 where
  pub next : Consumes old new (vec_items read.bytes)
  pub ends : EndsAs new (vec_items read.bytes) read.end

-- all bytes of a stream, at most 16 MiB
abbrev pub IsAllOf : Option (List ℕ) → Option (List ℕ) → List ℕ → Type 0
IsAllOf old new bytes = Consumes old new bytes × IsAtEnd new × (length bytes ≤ limit)

-- more bytes of a stream than 16 MiB were read
pub record IsTooLarge (old new : Option (List ℕ)) : Type 0 where
  pub bytes : List ℕ
  pub next : Consumes old new bytes
  pub large : limit < length bytes

-- what is told of a file that was not read whole
abbrev pub unread_fault : Unread → SourceFault
unread_fault (unread.Failed error) = File
unread_fault unread.TooLarge = File
unread_fault unread.NoMemory = NoMemory

-- the next line of some bytes, without its end, and the bytes behind it; none where no byte is left
abbrev pub NextLine : List ℕ → Option (List ℕ) → List ℕ → Type 0
NextLine bytes None rest = (bytes ≡ []) × (rest ≡ [])
NextLine bytes (Some line) rest =
    All (λ b. not (b == 10) ≡ true) line
    × ((bytes ≡ line ++ (10 ∷ rest)) ⊎ ((bytes ≡ line) × (0 < length line) × (rest ≡ [])))

-- a first line that may go on, as the input failed behind it
abbrev pub IsTorn : Bool → List ℕ → List ℕ → Type 0
IsTorn whole line bytes = (whole ≡ false) × (length line ≡ length bytes)

-- a line is taken, and nothing else changes
abbrev pub TakesLine : HexLines → Option (List ℕ) → HexLines → Type 0
TakesLine old line new =
    NextLine old.lines.rest.now line new.lines.rest.now × (new.is_whole ≡ old.is_whole)

-- a file `@` is the next line's hex text; of any other name, and where lines are missing, none is
-- taken
abbrev pub hex_answers : HexLines → List ℕ → Result (List ℕ) SourceFault → HexLines → Type 0
hex_answers old name (Ok bytes) new =
    (name ≡ codes "@") × (old.is_whole ≡ true)
    × ((line : List ℕ) × TakesLine old (Some line) new × (decode_of line ≡ Ok bytes))
hex_answers old name (Err File) new =
    ((name ≡ codes "@" → ⊥) × (new ≡ old))
    ⊎ (((old.is_whole ≡ false) × (new ≡ old)) ⊎ (TakesLine old None new
    ⊎ ((line : List ℕ) × (e : FromHexError)
    × TakesLine old (Some line) new × (decode_of line ≡ Err e))))
hex_answers old name (Err NoMemory) new = (line : List ℕ) × TakesLine old (Some line) new

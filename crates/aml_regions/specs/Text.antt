-- The text of a register file: what its lines set.
use Rattle.std.specs.Prelude.{◌≡◌, ◌==◌, ◌+◌, ◌<◌, ◌≤◌, ◌^◌, ℕ, List, [], ◌∷◌, ◌++◌, length, slice_index, All, not, Bool, true, false, ⊤, ◌⊎◌, Option, Some, None, Ok, codes, nat_eq, if◌then◌else◌}
use Rattle.std.specs.Cmp.Lexicographic.{pointwise}
use Rattle.std.specs.Str.Parse.{IsNumeral, digits_value}
use Rattle.hex.specs.Hex.{decode_of}
use Rattle.aml_regions.specs.Bytes.{with_run, SameBytes}
use Rattle.aml_regions.specs.declared.fault.RegistersFault.{RegistersFault}
use Rattle.aml_regions.specs.declared.fault.RegistersFault.TheVariants.{NoMemory, BadRegs}

-- parts of which the first begins with a further byte
abbrev pub begun_with : ℕ → List (List ℕ) → List (List ℕ)
begun_with b [] = (b ∷ []) ∷ []
begun_with b (part ∷ more) = (b ∷ part) ∷ more

-- the parts of some bytes, between the bytes that separate them
abbrev pub parts_at : ℕ → List ℕ → List (List ℕ)
parts_at separator [] = [] ∷ []
parts_at separator (b ∷ rest) =
    if b == separator then [] ∷ parts_at separator rest else begun_with b (parts_at separator rest)

-- none of them is the separator
abbrev pub Lacks : ℕ → List ℕ → Type 0
Lacks separator bytes = All (λ b. not (b == separator) ≡ true) bytes

-- the lines of a text, between line feeds
abbrev pub lines_of : List ℕ → List (List ℕ)
lines_of text = parts_at 10 text

-- the words of a line, between single spaces
abbrev pub words_of : List ℕ → List (List ℕ)
words_of line = parts_at 32 line

-- the address space that a word names
abbrev pub space_of : List ℕ → Option ℕ
space_of word =
    if pointwise nat_eq word (codes "mem") then Some 0
    else if pointwise nat_eq word (codes "io") then Some 1
    else if pointwise nat_eq word (codes "pci") then Some 2
    else if pointwise nat_eq word (codes "ec") then Some 3
    else if pointwise nat_eq word (codes "cmos") then Some 5
    else None

-- bytes that are set from an address of a space on
pub record Setting : Type 0 where
  pub space : ℕ
  pub address : ℕ
  pub run : List ℕ

-- the words of a line set bytes: a space, an address in hex, and at least one byte in hex, none
-- past the last address
abbrev pub AreSetting : List (List ℕ) → Setting → Type 0
AreSetting (name ∷ place ∷ bytes ∷ []) s =
    (space_of name ≡ Some s.space) × IsNumeral 16 place × (s.address ≡ digits_value 16 place)
    × (decode_of bytes ≡ Ok s.run) × (0 < length s.run) × (s.address + length s.run ≤ 2 ^ 64)
AreSetting words s = ⊥

-- a line that counts for nothing: empty, or from # on
abbrev pub counts_nothing : List ℕ → Bool
counts_nothing [] = true
counts_nothing (b ∷ rest) = b == 35

-- what lines set, in order
abbrev pub LinesSet : List (List ℕ) → List Setting → Type 0
LinesSet [] settings = settings ≡ []
LinesSet (line ∷ more) settings =
    ((counts_nothing line ≡ true) × LinesSet more settings)
    ⊎ ((s : Setting) × (rest : List Setting) × (settings ≡ s ∷ rest) × AreSetting (words_of line) s
    × LinesSet more rest)

-- bytes, with those of a setting
abbrev pub with_setting : (ℕ → ℕ → ℕ) → Setting → ℕ → ℕ → ℕ
with_setting old s = with_run old s.space s.address (length s.run) (slice_index s.run)

-- bytes, with those of settings, of which a later one wins
abbrev pub with_settings : (ℕ → ℕ → ℕ) → List Setting → ℕ → ℕ → ℕ
with_settings old [] = old
with_settings old (s ∷ rest) = with_settings (with_setting old s) rest

-- the bytes that a text sets, others being 0
abbrev pub TextSets : List ℕ → (ℕ → ℕ → ℕ) → Type 0
TextSets text bytes =
    (settings : List Setting) × LinesSet (lines_of text) settings
    × SameBytes (with_settings (λ _ _. 0) settings) bytes

-- a line that counts and sets nothing
abbrev pub IsBad : List ℕ → Type 0
IsBad line = (counts_nothing line ≡ false) × ((s : Setting) → AreSetting (words_of line) s → ⊥)

-- the number, from 1 on, of the first bad line
abbrev pub FirstBad : List (List ℕ) → ℕ → Type 0
FirstBad lines n =
    (before behind : List (List ℕ)) × (line : List ℕ) × (lines ≡ before ++ (line ∷ behind))
    × ((settings : List Setting) × LinesSet before settings) × IsBad line × (n ≡ length before + 1)

-- why a text makes no register file: want of memory, or its first bad line
abbrev pub FailsToSet : List ℕ → RegistersFault → Type 0
FailsToSet text NoMemory = ⊤
FailsToSet text (BadRegs line) = FirstBad (lines_of text) line

-- the words of a line change bytes to others
abbrev pub WordsSet : List (List ℕ) → (ℕ → ℕ → ℕ) → (ℕ → ℕ → ℕ) → Type 0
WordsSet words old new = (s : Setting) × AreSetting words s × SameBytes (with_setting old s) new

abbrev pub WordsFail : List (List ℕ) → ℕ → RegistersFault → Type 0
WordsFail words number NoMemory = ⊤
WordsFail words number (BadRegs n) = (n ≡ number) × ((s : Setting) → AreSetting words s → ⊥)

-- a line changes bytes to others, or does not count
abbrev pub LineSets : List ℕ → (ℕ → ℕ → ℕ) → (ℕ → ℕ → ℕ) → Type 0
LineSets line old new =
    ((counts_nothing line ≡ true) × SameBytes old new) ⊎ WordsSet (words_of line) old new

abbrev pub LineFails : List ℕ → ℕ → RegistersFault → Type 0
LineFails line number NoMemory = ⊤
LineFails line number (BadRegs n) = (n ≡ number) × IsBad line

-- The text of signatures: what its lines tell of methods' arguments.
use Rattle.std.specs.Prelude.{◌≡◌, ◌==◌, ◌+◌, ◌<◌, ◌^◌, ◌||◌, ℕ, List, [], ◌∷◌, ◌++◌, length, Bool, true, false, ⊤, ◌⊎◌, Option, Some, None, IsSome, codes, nat_eq}
use Rattle.std.specs.List.{slice_split, starts_with}
use Rattle.std.specs.Map.{update}
use Rattle.std.specs.Str.{bytes_eq}
use Rattle.std.specs.Str.Parse.{IsNumeral, digits_value}
use Rattle.aml_signatures.specs.declared.argument_kind.ArgumentKind.{ArgumentKind}
use Rattle.aml_signatures.specs.declared.argument_kind.ArgumentKind.TheVariants.{Int, IntUpTo, Buf, Str, Pkg}
use Rattle.aml_signatures.specs.declared.fault.SignatureFault.{SignatureFault}
use Rattle.aml_signatures.specs.declared.fault.SignatureFault.TheVariants.{NoMemory, BadKinds}

-- the lines of a text, between line feeds
abbrev pub lines_of : List ℕ → List (List ℕ)
lines_of text = slice_split (λ b. b == 10) text

-- the words of a line, between single spaces
abbrev pub words_of : List ℕ → List (List ℕ)
words_of line = slice_split (λ b. b == 32) line

-- decimal digits spell a number, below 2 to the power 64
abbrev pub IsDecimal : List ℕ → ℕ → Type 0
IsDecimal digits n = (n < 2 ^ 64) × IsNumeral 10 digits × (n ≡ digits_value 10 digits)

-- a word begins so, and goes on with a number
abbrev pub IsNumberBehind : List ℕ → List ℕ → ℕ → Type 0
IsNumberBehind beginning word n =
    (digits : List ℕ) × (word ≡ beginning ++ digits) × IsDecimal digits n

-- a word names a kind
abbrev pub Names : List ℕ → ArgumentKind → Type 0
Names word Int = word ≡ codes "int"
Names word (IntUpTo greatest) = IsNumberBehind (codes "int:") word greatest
Names word (Buf size) = IsNumberBehind (codes "buf:") word size
Names word (Str size) = IsNumberBehind (codes "str:") word size
Names word Pkg = word ≡ codes "pkg"

-- words name kinds, in order
abbrev pub AreNames : List (List ℕ) → List ArgumentKind → Type 0
AreNames [] [] = ⊤
AreNames (word ∷ words) (kind ∷ kinds) = Names word kind × AreNames words kinds
AreNames words kinds = ⊥

-- the path of a method, and the kinds that are told of its arguments
pub record Signature : Type 0 where
  pub path : List ℕ
  pub kinds : List ArgumentKind

-- the words of a line tell a signature: a path, which is any word that is not empty, and names of
-- kinds
abbrev pub AreSignature : List (List ℕ) → Signature → Type 0
AreSignature [] s = ⊥
AreSignature (path ∷ words) s = (s.path ≡ path) × (0 < length path) × AreNames words s.kinds

-- a line that counts for nothing: empty, or from # on
abbrev pub counts_nothing : List ℕ → Bool
counts_nothing line = (length line == 0) || starts_with nat_eq line (codes "#")

-- the words of a line add a signature to what is told of methods, where nothing is told of its path
abbrev pub WordsSign : List (List ℕ) → (List ℕ → Option (List ArgumentKind)) →
    (List ℕ → Option (List ArgumentKind)) → Type 0
WordsSign words old new =
    (s : Signature) × AreSignature words s × (old s.path ≡ None)
    × ((path : List ℕ) → new path ≡ update bytes_eq old s.path (Some s.kinds) path)

-- a line adds its signature, or does not count
abbrev pub LineSigns : List ℕ → (List ℕ → Option (List ArgumentKind)) →
    (List ℕ → Option (List ArgumentKind)) → Type 0
LineSigns line old new =
    ((counts_nothing line ≡ true) × ((path : List ℕ) → new path ≡ old path))
    ⊎ ((counts_nothing line ≡ false) × WordsSign (words_of line) old new)

-- lines do so, one after the other
abbrev pub LinesSign : List (List ℕ) → (List ℕ → Option (List ArgumentKind)) →
    (List ℕ → Option (List ArgumentKind)) → Type 0
LinesSign [] old new = (path : List ℕ) → new path ≡ old path
LinesSign (line ∷ more) old new =
    (between : List ℕ → Option (List ArgumentKind)) × LineSigns line old between
    × LinesSign more between new

-- before the first line nothing is told of any method
abbrev pub nothing_told : List ℕ → Option (List ArgumentKind)
nothing_told path = None

-- what a text tells of methods, by their printed paths
abbrev pub TextSigns : List ℕ → (List ℕ → Option (List ArgumentKind)) → Type 0
TextSigns text told = LinesSign (lines_of text) nothing_told told

-- a line that counts and tells no signature, or one of a path of which something is told
abbrev pub IsBad : List ℕ → (List ℕ → Option (List ArgumentKind)) → Type 0
IsBad line told =
    (counts_nothing line ≡ false)
    × ((s : Signature) → AreSignature (words_of line) s → IsSome (told s.path))

-- the number, from 1 on, of the first bad line
abbrev pub FirstBad : List (List ℕ) → ℕ → Type 0
FirstBad lines n =
    (before behind : List (List ℕ)) × (line : List ℕ) × (told : List ℕ → Option (List ArgumentKind))
    × (lines ≡ before ++ (line ∷ behind)) × LinesSign before nothing_told told × IsBad line told
    × (n ≡ length before + 1)

-- why a text tells nothing: want of memory, or its first bad line
abbrev pub FailsToSign : List ℕ → SignatureFault → Type 0
FailsToSign text NoMemory = ⊤
FailsToSign text (BadKinds line) = FirstBad (lines_of text) line

abbrev pub LineFails : List ℕ → (List ℕ → Option (List ArgumentKind)) → ℕ → SignatureFault → Type 0
LineFails line told number NoMemory = ⊤
LineFails line told number (BadKinds n) = (n ≡ number) × IsBad line told

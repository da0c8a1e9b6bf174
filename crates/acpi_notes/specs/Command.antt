-- What is told of the words of a command and of the texts that they name.
use Rattle.std.specs.Prelude.{ℕ, List, [], ◌∷◌, codes, decimal}
use Rattle.acpi_notes.specs.Text.{joined}

-- an element of `--args` that is no value
unfoldable pub argument_note : ℕ → List ℕ → List ℕ
argument_note number text =
    joined (codes "element " ∷ decimal number ∷ codes " of --args is '" ∷ text
    ∷ codes "', and a number below 2^64 as 41 or 0x29, buf:00a5, str:TEXT or pkg is wanted" ∷ [])

-- a number of arguments that is not the method's
unfoldable pub count_note : List ℕ → ℕ → ℕ → List ℕ
count_note path wanted given = joined (path ∷ codes ": --args lists " ∷ decimal given
    ∷ codes " arguments, and the method takes " ∷ decimal wanted ∷ [])

-- an argument above the greatest integer
unfoldable pub greatest_note : ℕ → ℕ → ℕ → List ℕ
greatest_note number given greatest =
    joined (codes "element " ∷ decimal number ∷ codes " of --args is " ∷ decimal given
    ∷ codes ", and the greatest integer of the tables is " ∷ decimal greatest ∷ [])

-- a line that sets no registers
unfoldable pub registers_note : List ℕ → ℕ → List ℕ
registers_note label line =
    joined (label ∷ codes ": line " ∷ decimal line ∷ codes
    " is not SPACE ADDRESS BYTES, as io 60 1527: mem, io, pci, ec or cmos, hex without prefix, two digits a byte, one space between and nothing behind, no CR either, and no byte past 2^64 - 1" ∷ [])

-- a line that is no signature, or has the path of a line before it
unfoldable pub signatures_note : List ℕ → ℕ → List ℕ
signatures_note label line =
    joined (label ∷ codes ": line " ∷ decimal line
    ∷ codes " is not PATH KINDS, as \\_SB_.EC0_.WRIT int:15 buf:32, or has a path for the second time: int, int:MAX, buf:N, str:N or pkg, decimal below 2^64, one space between and nothing behind, no CR either"
    ∷ [])

-- a line of standard input that is no file
unfoldable pub line_note : ℕ → List ℕ
line_note number = joined (codes "line " ∷ decimal number
    ∷ codes " of standard input, from 0 behind the words: hex text is wanted there, two digits a byte"
    ∷ [])

-- What is told of AML that cannot be read.
use Rattle.std.specs.Prelude.{ℕ, List, [], ◌∷◌, ◌==◌, ◌||◌, Bool, Option, Some, None, codes, decimal, drop, is_some, if◌then◌else◌}
use Rattle.std.specs.Option.{option_map_or}
use Rattle.aml_lex.specs.declared.fault.LexCause.{LexCause}
use Rattle.aml_lex.specs.declared.fault.LexCause.TheVariants.{Truncated, BadPkgLength, BadName, BadString, Overrun}
use Rattle.aml_lex.specs.Standing.{name_there}
use Rattle.aml_operators.specs.declared.op.Op.{Op}
use Rattle.aml_place_text.specs.Operators.{operator_name}
use Rattle.aml_tree.specs.OperatorAt.{op_there}
use Rattle.aml_tree.specs.declared.fault.TreeCause.{TreeCause}
use Rattle.aml_tree.specs.declared.fault.TreeCause.TheVariants.{Lexical, UnknownOpcode, TooDeep, TooLarge, ModuleCode}
use Rattle.acpi_notes.specs.Text.{hex, joined}
use Rattle.acpi_notes.specs.Table.{byte_at}

unfoldable pub lexical_note : List ℕ → List ℕ → ℕ → LexCause → List ℕ
lexical_note label bytes at Truncated = joined (label ∷ codes ": the bytes end at " ∷ decimal at
    ∷ codes " within a term that wants more" ∷ [])
lexical_note label bytes at BadPkgLength =
    joined (label ∷ codes ": the package length at byte " ∷ decimal at
    ∷ codes " is less than its own bytes" ∷ [])
lexical_note label bytes at BadName =
    joined (label ∷ codes ": byte " ∷ decimal at ∷ codes " is 0x" ∷ hex (byte_at bytes at)
    ∷ codes ", where a name (A to Z or _ first), or an item of a field list, is wanted" ∷ [])
lexical_note label bytes at BadString =
    joined (label ∷ codes ": byte " ∷ decimal at ∷ codes " is 0x" ∷ hex (byte_at bytes at)
    ∷ codes ", and a string has 0x1 to 0x7f" ∷ [])
lexical_note label bytes at Overrun =
    joined (label ∷ codes ": the package at byte " ∷ decimal at
    ∷ codes " goes past the end of what encloses it" ∷ [])

-- how an operator is called; a name, where none stands
abbrev pub word_of : Option (Op × ℕ) → List ℕ
word_of (Some p) = operator_name p.0
word_of None = codes "a name"

-- how what stands at a place is called
abbrev pub word_at : List ℕ → ℕ → List ℕ
word_at bytes at = word_of (op_there bytes at)

unfoldable pub module_note : List ℕ → ℕ → ℕ → List ℕ → List ℕ
module_note label at byte word =
    joined (label ∷ codes ": at byte " ∷ decimal at ∷ codes " stands 0x" ∷ hex byte ∷ codes " ("
    ∷ word ∷ codes "), code outside methods or data that is no literal" ∷ [])

-- an operator or a name that may not stand there
unfoldable pub known_note : List ℕ → ℕ → ℕ → List ℕ → List ℕ
known_note label at byte word =
    joined (label ∷ codes ": at byte " ∷ decimal at ∷ codes " stands 0x" ∷ hex byte ∷ codes " ("
    ∷ word ∷ codes "), which may not stand there" ∷ [])

-- an opcode of two bytes that no operator has
unfoldable pub pair_note : List ℕ → ℕ → ℕ → List ℕ
pair_note label at second =
    joined (label ∷ codes ": the opcode at byte " ∷ decimal at ∷ codes ", 0x5b 0x" ∷ hex second
    ∷ codes ", is unknown" ∷ [])

-- and one of one byte
unfoldable pub opcode_note : List ℕ → ℕ → ℕ → List ℕ
opcode_note label at byte =
    joined (label ∷ codes ": the opcode at byte " ∷ decimal at ∷ codes ", 0x" ∷ hex byte
    ∷ codes ", is unknown" ∷ [])

-- an Else, which has to stand behind the If that it belongs to
unfoldable pub else_note : List ℕ → ℕ → List ℕ
else_note label at =
    joined (label ∷ codes ": at byte " ∷ decimal at
    ∷ codes " stands 0xa1 (Else), and no If before it" ∷ [])

abbrev pub single_note : List ℕ → ℕ → ℕ → List ℕ
single_note label at byte = if byte == 0xA1 then else_note label at else opcode_note label at byte

-- whether an operator or a name stands at a place
abbrev pub is_known : List ℕ → ℕ → Bool
is_known bytes at = is_some (op_there bytes at) || is_some (name_there bytes at)

-- the second byte of an opcode of two
abbrev pub second_in : List ℕ → Option ℕ
second_in (first ∷ second ∷ more) = if first == 0x5B then Some second else None
second_in bytes = None

abbrev pub second_byte : List ℕ → ℕ → Option ℕ
second_byte bytes at = second_in (drop at bytes)

-- what may not stand at a place
abbrev pub unknown_note : List ℕ → List ℕ → ℕ → List ℕ
unknown_note label bytes at =
    if is_known bytes at then known_note label at (byte_at bytes at) (word_at bytes at)
    else option_map_or (pair_note label at) (second_byte bytes at)
    (single_note label at (byte_at bytes at))

unfoldable pub tree_note : List ℕ → List ℕ → ℕ → TreeCause → List ℕ
tree_note label bytes at (Lexical part) = lexical_note label bytes at part
tree_note label bytes at UnknownOpcode = unknown_note label bytes at
tree_note label bytes at TooDeep =
    joined (label ∷ codes ": the term at byte " ∷ decimal at
    ∷ codes " is at depth 65, and 64 is the limit" ∷ [])
tree_note label bytes at TooLarge =
    joined (label ∷ codes ": the data at byte " ∷ decimal at
    ∷ codes " has more than 65536 bytes or 65535 elements" ∷ [])
tree_note label bytes at ModuleCode = module_note label at (byte_at bytes at) (word_at bytes at)

-- How far a definition goes, by the letters of its row (ACPI 6.5, 20.2.5): its parts are read no
-- further than their ends, and a package is stepped over.
use Rattle.std.specs.Prelude.{ℕ, zero, suc, ◌+◌, List, [], ◌∷◌, length, Option, Some, None, Result, Ok, Err, nat_lt, if◌then◌else◌}
use Rattle.aml_lex.specs.declared.fault.LexFault.{LexFault}
use Rattle.aml_lex.specs.Reading.{package_end_at, name_string_at, string_data_at}
use Rattle.aml_lex.specs.Standing.{has_byte}
use Rattle.aml_operators.specs.declared.op.Op.{Op}
use Rattle.aml_operators.specs.declared.row.Piece.{Piece}
use Rattle.aml_operators.specs.declared.row.Piece.TheVariants as piece
use Rattle.aml_operators.specs.declared.row.Letter.{Letter}
use Rattle.aml_operators.specs.declared.row.Letter.TheVariants.{One, Sized, Package, Branch, Terms, Fields, Bytes}
use Rattle.aml_operators.specs.Table.{letters_of}
use Rattle.aml_operators.specs.Places.{size_of}
use Rattle.aml_tree.specs.OperatorAt.{op_there}

-- what follows a place, where there is one
abbrev pub and_then : {X Y : Type 0} → Option X → (X → Option Y) → Option Y
and_then None next = None
and_then (Some x) next = next x

-- what a lexical part's reader answers, but for its fault
abbrev pub read_or_none : {X : Type 0} → Result X LexFault → Option X
read_or_none (Ok x) = Some x
read_or_none (Err fault) = None

-- the place behind what was read
abbrev pub behind : {X : Type 0} → Result (X × ℕ) LexFault → Option ℕ
behind (Ok r) = Some r.1
behind (Err fault) = None

-- the place behind a name string (20.2.2)
unfoldable pub name_end : List ℕ → ℕ → Option ℕ
name_end bytes at = behind (name_string_at bytes at)

-- the place behind a text (20.2.3)
unfoldable pub text_end : List ℕ → ℕ → Option ℕ
text_end bytes at = behind (string_data_at bytes at)

-- a package's end, and the place behind its length (20.2.4)
unfoldable pub package_at : List ℕ → ℕ → Option (ℕ × ℕ)
package_at bytes at = read_or_none (package_end_at bytes at)

-- the place behind so many bytes
unfoldable pub bytes_end : ℕ → List ℕ → ℕ → Option ℕ
bytes_end count bytes at = if nat_lt (length bytes) (at + count) then None else Some (at + count)

-- a term below: in bytes, from a place on
module _ (below : List ℕ → ℕ → Option ℕ) where
  -- the place behind one part
  unfoldable pub piece_end : Piece → List ℕ → ℕ → Option ℕ
  piece_end (piece.Term s) bytes at = below bytes at
  piece_end piece.NameString bytes at = name_end bytes at
  piece_end (piece.Number size) bytes at = bytes_end (size_of size) bytes at
  piece_end piece.Text bytes at = text_end bytes at
  piece_end piece.Bits bytes at = None
  piece_end piece.Connection bytes at = None

  -- the place behind the parts that letters name, of which none goes to an end that no package
  -- gives
  unfoldable pub letters_end : List Letter → List ℕ → ℕ → Option ℕ
  letters_end [] bytes at = Some at
  letters_end (One p ∷ rest) bytes at = and_then (piece_end p bytes at) (letters_end rest bytes)
  letters_end (Package ∷ rest) bytes at = and_then (package_at bytes at) (λ p. Some p.0)
  letters_end (Sized l ∷ rest) bytes at = None
  letters_end (Branch ∷ rest) bytes at = None
  letters_end (Terms s ∷ rest) bytes at = None
  letters_end (Fields ∷ rest) bytes at = None
  letters_end (Bytes ∷ rest) bytes at = None

  -- where the definitions begin that stand behind these parts
  unfoldable pub list_at : List Letter → List ℕ → ℕ → Option ℕ
  list_at [] bytes at = None
  list_at (One p ∷ rest) bytes at = and_then (piece_end p bytes at) (list_at rest bytes)
  list_at (Terms s ∷ rest) bytes at = Some at
  list_at (Package ∷ rest) bytes at = None
  list_at (Sized l ∷ rest) bytes at = None
  list_at (Branch ∷ rest) bytes at = None
  list_at (Fields ∷ rest) bytes at = None
  list_at (Bytes ∷ rest) bytes at = None

  abbrev pub form_end : List ℕ → ℕ → Option (Op × ℕ) → Option ℕ
  form_end bytes at None = name_end bytes at
  form_end bytes at (Some (o, next)) = letters_end (letters_of o) bytes next

-- the place behind a term, an operator with its parts or else a name, with at most so many terms
-- one in another; a target that is none counts for no term
unfoldable pub term_end : ℕ → List ℕ → ℕ → Option ℕ
term_end zero bytes at = if has_byte 0x00 bytes at then Some (at + 1) else None
term_end (suc d) bytes at = form_end (term_end d) bytes at (op_there bytes at)

-- What the bytes of a term are (ACPI 6.5, 20.2.5): its opcode, and operands that meet its letters
-- end to end. The faulty one goes by the same cases: the parts before have trees, the next has the
-- fault.
use Rattle.std.specs.Prelude.{◌≡◌, ◌≤◌, ◌<◌, ◌⊎◌, ℕ, zero, suc, ◌+◌, ◌-◌, List, [], ◌∷◌, ◌++◌, length, take, Some, None, Ok, Err, slice_get, true, false}
use Rattle.aml_operators.specs.declared.op.Op.{Op}
use Rattle.aml_operators.specs.declared.op.Op.TheVariants as op
use Rattle.aml_operators.specs.declared.row.Code.{Code}
use Rattle.aml_operators.specs.declared.row.Spot.{Spot}
use Rattle.aml_operators.specs.declared.row.Spot.TheVariants as spot
use Rattle.aml_operators.specs.declared.row.Piece.{Piece}
use Rattle.aml_operators.specs.declared.row.Piece.TheVariants as piece
use Rattle.aml_operators.specs.declared.row.Letter.{Letter}
use Rattle.aml_operators.specs.declared.row.Letter.TheVariants.{One, Sized, Package, Branch, Terms, Fields, Bytes}
use Rattle.aml_operators.specs.Table.{letters_of}
use Rattle.aml_operators.specs.Places.{size_of}
use Rattle.aml_operators.specs.Fields.{item_of, pieces_of}
use Rattle.aml_operators.specs.Tree.{Tree, Node, none, trees, stop_of}
use Rattle.aml_lex.specs.NameStrings.{NameString}
use Rattle.aml_lex.specs.declared.fault.LexCause.TheVariants.{BadName}
use Rattle.aml_tree.specs.declared.fault.TreeCause.TheVariants.{Lexical, TooDeep, TooLarge}
use Rattle.aml_tree.specs.declared.fault.Refusal.{Refusal}
use Rattle.aml_tree.specs.Fault.{refusal, truncated}
use Rattle.aml_tree.specs.Leaf.{end_at, name_at, bits_at, text_at, little_endian_at}
use Rattle.aml_tree.specs.Opening.{Opening, NoTarget, PlainName, InvokedName, Operator}
use Rattle.aml_tree.specs.Begins.{Begins, FaultyBegin, HasNoTarget}
use Rattle.aml_operators.specs.Literal.{literal_of}
use Rattle.aml_tree.specs.Reading.{is_above, item_next}

-- parts without parts: what the lexical layer reads there
abbrev pub IsPackage : List ℕ → ℕ → ℕ → ℕ → Type 0
IsPackage bytes from stop next = end_at bytes from ≡ Ok (stop, next)

abbrev pub IsName : NameString → List ℕ → ℕ → ℕ → Type 0
IsName name bytes from stop = name_at bytes from ≡ Ok (name, stop)

-- the leaf of an operator at a place
abbrev pub IsLeaf : Op → ℕ → ℕ → Tree → Type 0
IsLeaf o from stop t = t ≡ Node o from stop none

-- a name alone
abbrev pub IsNameLeaf : List ℕ → ℕ → Tree → Type 0
IsNameLeaf bytes from t = (name : NameString) × (stop : ℕ) × IsName name bytes from stop
    × IsLeaf op.NameString from stop t

-- a term below: of the operator that asks for it, in such a place, in bytes, from a place on
module _ (arity : NameString → ℕ → ℕ) (Below : ℕ → Spot → List ℕ → ℕ → Tree → Type 0) where
  -- terms that fill the bytes between two places
  abbrev pub AreTerms : ℕ → Spot → List ℕ → ℕ → ℕ → List Tree → Type 0
  AreTerms own s bytes from stop [] = from ≡ stop
  AreTerms own s bytes from stop (t ∷ ts) =
      Below own s bytes from t × AreTerms own s bytes (stop_of t) stop ts

  abbrev pub IsConnection : ℕ → List ℕ → ℕ → Tree → Type 0
  IsConnection own bytes from t =
      ((slice_get bytes from ≡ Some 0x11) × Below own spot.Connection bytes from t)
      ⊎ ((slice_get bytes from ≡ Some 0x11 → ⊥) × IsNameLeaf bytes from t)

  -- one part of the operator at a place
  abbrev pub IsPiece : Piece → ℕ → List ℕ → ℕ → Tree → Type 0
  IsPiece (piece.Term s) own bytes from t = Below own s bytes from t
  IsPiece piece.NameString own bytes from t = IsNameLeaf bytes from t
  IsPiece (piece.Number size) own bytes from t =
      (n : ℕ) × (stop : ℕ) × (little_endian_at (size_of size) bytes from ≡ Ok (n, stop))
      × IsLeaf (op.Number n) from stop t
  IsPiece piece.Bits own bytes from t =
      (n : ℕ) × (stop : ℕ) × (bits_at bytes from ≡ Ok (n, stop)) × IsLeaf (op.Number n) from stop t
  IsPiece piece.Text own bytes from t = (text : List ℕ) × (stop : ℕ)
      × (text_at bytes from ≡ Ok (text, stop)) × IsLeaf op.AsciiCharList from stop t
  IsPiece piece.Connection own bytes from t = IsConnection own bytes from t

  -- the parts of an item, end to end
  abbrev pub ArePieces : List Piece → ℕ → List ℕ → ℕ → ℕ → List Tree → Type 0
  ArePieces [] own bytes from stop parts = (parts ≡ []) × (stop ≡ from)
  ArePieces (p ∷ rest) own bytes from stop parts = (t : Tree) × (ts : List Tree) × (parts ≡ t ∷ ts)
      × IsPiece p own bytes from t × ArePieces rest own bytes (stop_of t) stop ts

  -- an item of a field list
  abbrev pub IsItem : ℕ → List ℕ → ℕ → Tree → Type 0
  IsItem own bytes from t = (b : ℕ) × (o : Op) × (stop : ℕ) × (parts : List Tree)
      × (slice_get bytes from ≡ Some b) × (item_of b ≡ Some o)
      × ArePieces (pieces_of o) own bytes (item_next o from) stop parts
      × (t ≡ Node o from stop (trees parts))

  abbrev pub AreItems : ℕ → List ℕ → ℕ → ℕ → List Tree → Type 0
  AreItems own bytes from stop [] = from ≡ stop
  AreItems own bytes from stop (t ∷ ts) =
      IsItem own bytes from t × AreItems own bytes (stop_of t) stop ts

  -- the other block of an If, where one stands behind it
  abbrev pub IsElse : ℕ → List ℕ → ℕ → ℕ → List Tree → Type 0
  IsElse own bytes from stop [] = (slice_get bytes from ≡ Some 0xA1 → ⊥) × (stop ≡ from)
  IsElse own bytes from stop (t ∷ ts) = (slice_get bytes from ≡ Some 0xA1)
      × ((next : ℕ) × (inside : List Tree) × IsPackage bytes (from + 1) stop next
      × AreTerms own spot.Statement (take stop bytes) next stop inside
      × (t ≡ Node op.Else from stop (trees inside)) × (ts ≡ []))

  -- parts that meet letters end to end; what a package encloses is met in the bytes up to its end
  abbrev pub Meets : List Letter → ℕ → List ℕ → ℕ → ℕ → List Tree → Type 0
  Meets [] own bytes from stop parts = (parts ≡ []) × (stop ≡ from)
  Meets (One p ∷ rest) own bytes from stop parts = (t : Tree) × (ts : List Tree) × (parts ≡ t ∷ ts)
      × IsPiece p own bytes from t × Meets rest own bytes (stop_of t) stop ts
  Meets (Sized l ∷ rest) own bytes from stop parts =
      (t : Tree) × (ts : List Tree) × (parts ≡ t ∷ ts) × Below own spot.Size bytes from t
      × (is_above l (literal_of t) (length bytes - stop_of t) ≡ false)
      × Meets rest own bytes (stop_of t) stop ts
  Meets (Package ∷ rest) own bytes from stop parts = (e : ℕ) × (next : ℕ)
      × IsPackage bytes from e next × Meets rest own (take e bytes) next stop parts
  Meets (Branch ∷ rest) own bytes from stop parts = (e : ℕ) × (next : ℕ) × (mid : ℕ)
      × (inside : List Tree) × (tail : List Tree) × (parts ≡ inside ++ tail)
      × IsPackage bytes from e next × Meets rest own (take e bytes) next mid inside
      × IsElse own bytes mid stop tail
  Meets (Terms s ∷ rest) own bytes from stop parts =
      AreTerms own s bytes from stop parts × (stop ≡ length bytes)
  Meets (Fields ∷ rest) own bytes from stop parts =
      AreItems own bytes from stop parts × (stop ≡ length bytes)
  Meets (Bytes ∷ rest) own bytes from stop parts =
      (parts ≡ Node op.ByteList from (length bytes) none ∷ []) × (stop ≡ length bytes)

  -- what follows the beginning of a term
  abbrev pub Follows : Opening → List ℕ → ℕ → Tree → Type 0
  Follows NoTarget bytes from t = IsLeaf op.NullName from (from + 1) t
  Follows PlainName bytes from t = IsNameLeaf bytes from t
  Follows InvokedName bytes from t =
      (name : NameString) × (e : ℕ) × (stop : ℕ) × (args : List Tree) × IsName name bytes from e
      × (length args ≡ arity name from) × AreTerms from spot.Term bytes e stop args
      × (t ≡ Node op.Invocation from stop (trees (Node op.NameString from e none ∷ args)))
  Follows (Operator o next) bytes from t = (stop : ℕ) × (parts : List Tree)
      × Meets (letters_of o) from bytes next stop parts × (t ≡ Node o from stop (trees parts))

  module _ (FaultyBelow : ℕ → Spot → List ℕ → ℕ → Refusal → Type 0) where
    -- terms, and then a fault
    abbrev pub FaultyTerms : ℕ → Spot → List ℕ → ℕ → Refusal → Type 0
    FaultyTerms own s bytes from f = (at : ℕ) × (ts : List Tree) × AreTerms own s bytes from at ts
        × (at < length bytes) × FaultyBelow own s bytes at f

    abbrev pub FaultyConnection : ℕ → List ℕ → ℕ → Refusal → Type 0
    FaultyConnection own bytes from f =
        ((slice_get bytes from ≡ Some 0x11) × FaultyBelow own spot.Connection bytes from f)
        ⊎ ((slice_get bytes from ≡ Some 0x11 → ⊥) × (name_at bytes from ≡ Err f))

    abbrev pub FaultyPiece : Piece → ℕ → List ℕ → ℕ → Refusal → Type 0
    FaultyPiece (piece.Term s) own bytes from f = FaultyBelow own s bytes from f
    FaultyPiece piece.NameString own bytes from f = name_at bytes from ≡ Err f
    FaultyPiece (piece.Number size) own bytes from f =
        little_endian_at (size_of size) bytes from ≡ Err f
    FaultyPiece piece.Bits own bytes from f = bits_at bytes from ≡ Err f
    FaultyPiece piece.Text own bytes from f = text_at bytes from ≡ Err f
    FaultyPiece piece.Connection own bytes from f = FaultyConnection own bytes from f

    abbrev pub FaultyPieces : List Piece → ℕ → List ℕ → ℕ → Refusal → Type 0
    FaultyPieces [] own bytes from f = ⊥
    FaultyPieces (p ∷ rest) own bytes from f = FaultyPiece p own bytes from f
        ⊎ ((t : Tree) × IsPiece p own bytes from t × FaultyPieces rest own bytes (stop_of t) f)

    -- a byte that begins no item, or an item's fault
    abbrev pub FaultyItem : ℕ → List ℕ → ℕ → Refusal → Type 0
    FaultyItem own bytes from f = (b : ℕ) × (slice_get bytes from ≡ Some b)
        × (((item_of b ≡ None) × (f ≡ refusal (Lexical BadName) from)) ⊎ ((o : Op)
        × (item_of b ≡ Some o) × FaultyPieces (pieces_of o) own bytes (item_next o from) f))

    abbrev pub FaultyItems : ℕ → List ℕ → ℕ → Refusal → Type 0
    FaultyItems own bytes from f = (at : ℕ) × (ts : List Tree) × AreItems own bytes from at ts
        × (at < length bytes) × FaultyItem own bytes at f

    abbrev pub FaultyElse : ℕ → List ℕ → ℕ → Refusal → Type 0
    FaultyElse own bytes from f = (slice_get bytes from ≡ Some 0xA1)
        × ((end_at bytes (from + 1) ≡ Err f) ⊎ ((e : ℕ) × (next : ℕ)
        × IsPackage bytes (from + 1) e next × FaultyTerms own spot.Statement (take e bytes) next f))

    -- the parts before have trees, the next has the fault
    abbrev pub FaultyParts : List Letter → ℕ → List ℕ → ℕ → Refusal → Type 0
    FaultyParts [] own bytes from f = ⊥
    FaultyParts (One p ∷ rest) own bytes from f = FaultyPiece p own bytes from f
        ⊎ ((t : Tree) × IsPiece p own bytes from t × FaultyParts rest own bytes (stop_of t) f)
    FaultyParts (Sized l ∷ rest) own bytes from f = FaultyBelow own spot.Size bytes from f
        ⊎ ((t : Tree) × Below own spot.Size bytes from t
        × (((is_above l (literal_of t) (length bytes - stop_of t) ≡ true)
        × (f ≡ refusal TooLarge own))
        ⊎ ((is_above l (literal_of t) (length bytes - stop_of t) ≡ false)
        × FaultyParts rest own bytes (stop_of t) f)))
    FaultyParts (Package ∷ rest) own bytes from f = (end_at bytes from ≡ Err f)
        ⊎ ((e : ℕ) × (next : ℕ) × IsPackage bytes from e next
        × FaultyParts rest own (take e bytes) next f)
    FaultyParts (Branch ∷ rest) own bytes from f =
        (end_at bytes from ≡ Err f) ⊎ ((e : ℕ) × (next : ℕ) × IsPackage bytes from e next
        × (FaultyParts rest own (take e bytes) next f ⊎ ((mid : ℕ) × (inside : List Tree)
        × Meets rest own (take e bytes) next mid inside × FaultyElse own bytes mid f)))
    FaultyParts (Terms s ∷ rest) own bytes from f = FaultyTerms own s bytes from f
    FaultyParts (Fields ∷ rest) own bytes from f = FaultyItems own bytes from f
    FaultyParts (Bytes ∷ rest) own bytes from f = ⊥

    abbrev pub FaultyForm : Opening → List ℕ → ℕ → Refusal → Type 0
    FaultyForm NoTarget bytes from f = ⊥
    FaultyForm PlainName bytes from f = name_at bytes from ≡ Err f
    FaultyForm InvokedName bytes from f = (name_at bytes from ≡ Err f)
        ⊎ ((name : NameString) × (e : ℕ) × (at : ℕ) × (args : List Tree) × IsName name bytes from e
        × (length args < arity name from) × AreTerms from spot.Term bytes e at args
        × FaultyBelow from spot.Term bytes at f)
    FaultyForm (Operator o next) bytes from f = FaultyParts (letters_of o) from bytes next f

-- the bytes have this term from a place on, with at most so many terms one in another; a target
-- that is none counts for no term
abbrev pub IsTerm : Code → (NameString → ℕ → ℕ) → ℕ → ℕ → Spot → List ℕ → ℕ → Tree → Type 0
IsTerm code arity zero asker s bytes from t =
    HasNoTarget s bytes from × IsLeaf op.NullName from (from + 1) t
IsTerm code arity (suc d) asker s bytes from t =
    (o : Opening) × Begins code s bytes from o × Follows arity (IsTerm code arity d) o bytes from t

-- there is no term from this place on, and this is the first fault
abbrev pub Faulty : Code → (NameString → ℕ → ℕ) → ℕ → ℕ → Spot → List ℕ → ℕ → Refusal → Type 0
Faulty code arity zero asker s bytes from f =
    ((length bytes ≤ from) × (f ≡ truncated (length bytes)))
    ⊎ ((from < length bytes) × (HasNoTarget s bytes from → ⊥) × (f ≡ refusal TooDeep from))
Faulty code arity (suc d) asker s bytes from f =
    FaultyBegin code asker s bytes from f
    ⊎ ((o : Opening) × Begins code s bytes from o
    × FaultyForm arity (IsTerm code arity d) (Faulty code arity d) o bytes from f)

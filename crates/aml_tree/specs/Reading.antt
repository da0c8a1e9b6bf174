-- Reading terms from left to right by their operand letters, with the first fault that is met.
use Rattle.std.specs.Prelude.{◌==◌, ◌≡◌, ℕ, zero, suc, ◌+◌, ◌-◌, List, [], ◌∷◌, ◌++◌, length, take, Option, Some, None, Result, Ok, Err, nat_lt, ◌||◌, ◌&&◌, if◌then◌else◌, Bool, false}
use Rattle.aml_operators.specs.declared.op.Op.{Op}
use Rattle.aml_operators.specs.declared.op.Op.TheVariants as op
use Rattle.aml_operators.specs.declared.row.Code.{Code}
use Rattle.aml_operators.specs.declared.row.Spot.{Spot}
use Rattle.aml_operators.specs.declared.row.Spot.TheVariants as spot
use Rattle.aml_operators.specs.declared.row.Piece.{Piece}
use Rattle.aml_operators.specs.declared.row.Piece.TheVariants as piece
use Rattle.aml_operators.specs.declared.row.Limit.{Limit}
use Rattle.aml_operators.specs.declared.row.Limit.TheVariants as limit
use Rattle.aml_operators.specs.declared.row.Letter.{Letter}
use Rattle.aml_operators.specs.declared.row.Letter.TheVariants.{One, Sized, Package, Branch, Terms, Fields, Bytes}
use Rattle.aml_operators.specs.Table.{letters_of}
use Rattle.aml_operators.specs.Places.{size_of}
use Rattle.aml_operators.specs.Fields.{item_of, pieces_of}
use Rattle.aml_operators.specs.Literal.{literal_of}
use Rattle.aml_operators.specs.Tree.{Tree, Node, none, trees, stop_of}
use Rattle.aml_lex.specs.NameStrings.{NameString}
use Rattle.aml_lex.specs.Standing.{has_byte}
use Rattle.aml_lex.specs.declared.fault.LexCause.TheVariants.{BadName}
use Rattle.aml_tree.specs.declared.fault.TreeCause.TheVariants.{Lexical, TooDeep, TooLarge}
use Rattle.aml_tree.specs.declared.fault.TreeFault.{TreeFault}
use Rattle.aml_tree.specs.declared.fault.Refusal.{Refusal}
use Rattle.aml_tree.specs.Fault.{refusal, Fails, ◌>>=◌}
use Rattle.aml_tree.specs.Leaf.{byte_at, end_at, name_at, bits_at, text_at, little_endian_at}
use Rattle.aml_tree.specs.Opening.{Opening, NoTarget, PlainName, InvokedName, Operator, opening_at, may_be_none}

-- the place that the program returns and the parts that it leaves are a definition's, unless memory
-- ran out
abbrev pub Adds : Result ℕ TreeFault → List Tree → Result (List Tree × ℕ) Refusal → Type 0
Adds (Ok next) parts answer = answer ≡ Ok (parts, next)
Adds (Err fault) parts answer = Fails fault answer

-- a literal size above its limit; a buffer's length is the greater of its size and the bytes that
-- are left
abbrev pub is_above : Limit → Option ℕ → ℕ → Bool
is_above l None left = false
is_above limit.Buffer (Some n) left = nat_lt 65536 n || nat_lt 65536 left
is_above limit.Package (Some n) left = nat_lt 65535 n

-- an item's first part begins at the item, or behind the byte that says what it is
abbrev pub item_next : Op → ℕ → ℕ
item_next op.NamedField at = at
item_next o at = at + 1

-- a term below: of the operator that asks for it, in such a place, in bytes, from a place on
module _ (arity : NameString → ℕ → ℕ) (below : ℕ → Spot → List ℕ → ℕ → Result Tree Refusal) where
  -- terms up to the end of the bytes, behind those in front
  abbrev pub terms_until : ℕ → Spot → List ℕ → ℕ → List Tree → ℕ → Result (List Tree × ℕ) Refusal
  terms_until own s bytes zero front at = Ok (front, at)
  terms_until own s bytes (suc n) front at = if nat_lt at (length bytes) then (do
    t ← below own s bytes at
    terms_until own s bytes n (front ++ t ∷ []) (stop_of t)) else Ok (front, at)

  -- so many arguments
  abbrev pub terms_counted : ℕ → List ℕ → ℕ → List Tree → ℕ → Result (List Tree × ℕ) Refusal
  terms_counted own bytes zero front at = Ok (front, at)
  terms_counted own bytes (suc n) front at = do
    t ← below own spot.Term bytes at
    terms_counted own bytes n (front ++ t ∷ []) (stop_of t)

  -- what a field list connects to: a buffer, or the name of one
  unfoldable pub connection_at : ℕ → List ℕ → ℕ → Result Tree Refusal
  connection_at own bytes at =
      if has_byte 0x11 bytes at then below own spot.Connection bytes at else (do
        r ← name_at bytes at
        Ok (Node op.NameString at r.1 none))

  -- one part of the operator at a place
  unfoldable pub piece_at : Piece → ℕ → List ℕ → ℕ → Result Tree Refusal
  piece_at (piece.Term s) own bytes at = below own s bytes at
  piece_at piece.NameString own bytes at = do
    r ← name_at bytes at
    Ok (Node op.NameString at r.1 none)
  piece_at (piece.Number size) own bytes at = do
    r ← little_endian_at (size_of size) bytes at
    Ok (Node (op.Number r.0) at r.1 none)
  piece_at piece.Bits own bytes at = do
    r ← bits_at bytes at
    Ok (Node (op.Number r.0) at r.1 none)
  piece_at piece.Text own bytes at = do
    r ← text_at bytes at
    Ok (Node op.AsciiCharList at r.1 none)
  piece_at piece.Connection own bytes at = connection_at own bytes at

  -- the parts of an item of a field list
  unfoldable pub pieces_at : List Piece → ℕ → List ℕ → List Tree → ℕ →
      Result (List Tree × ℕ) Refusal
  pieces_at [] own bytes front at = Ok (front, at)
  pieces_at (p ∷ rest) own bytes front at = do
    t ← piece_at p own bytes at
    pieces_at rest own bytes (front ++ t ∷ []) (stop_of t)

  unfoldable pub item_of_kind : Option Op → ℕ → List ℕ → ℕ → Result Tree Refusal
  item_of_kind None own bytes at = Err (refusal (Lexical BadName) at)
  item_of_kind (Some o) own bytes at = do
    r ← pieces_at (pieces_of o) own bytes [] (item_next o at)
    Ok (Node o at r.1 (trees r.0))

  -- an item of a field list
  unfoldable pub item_at : ℕ → List ℕ → ℕ → Result Tree Refusal
  item_at own bytes at = do
    b ← byte_at bytes at
    item_of_kind (item_of b) own bytes at

  -- items up to the end of the bytes
  abbrev pub items_until : ℕ → List ℕ → ℕ → List Tree → ℕ → Result (List Tree × ℕ) Refusal
  items_until own bytes zero front at = Ok (front, at)
  items_until own bytes (suc n) front at = if nat_lt at (length bytes) then (do
    t ← item_at own bytes at
    items_until own bytes n (front ++ t ∷ []) (stop_of t)) else Ok (front, at)

  -- the other block of an If, where one stands behind it
  unfoldable pub else_at : ℕ → List Tree → List ℕ → ℕ → Result (List Tree × ℕ) Refusal
  else_at own front bytes at = if has_byte 0xA1 bytes at then (do
    p ← end_at bytes (at + 1)
    r ← terms_until own spot.Statement (take p.0 bytes) (length (take p.0 bytes)) [] p.1
    Ok (front ++ Node op.Else at p.0 (trees r.0) ∷ [], p.0)) else Ok (front, at)

  -- the parts that letters name, of the operator at a place
  unfoldable pub parts_at : List Letter → ℕ → List ℕ → List Tree → ℕ →
      Result (List Tree × ℕ) Refusal
  parts_at [] own bytes front at = Ok (front, at)
  parts_at (One p ∷ rest) own bytes front at = do
    t ← piece_at p own bytes at
    parts_at rest own bytes (front ++ t ∷ []) (stop_of t)
  parts_at (Sized l ∷ rest) own bytes front at = do
    t ← below own spot.Size bytes at
    if is_above l (literal_of t) (length bytes - stop_of t) then Err (refusal TooLarge own)
        else parts_at rest own bytes (front ++ t ∷ []) (stop_of t)
  parts_at (Package ∷ rest) own bytes front at = do
    p ← end_at bytes at
    parts_at rest own (take p.0 bytes) front p.1
  parts_at (Branch ∷ rest) own bytes front at = do
    p ← end_at bytes at
    r ← parts_at rest own (take p.0 bytes) front p.1
    else_at own r.0 bytes r.1
  parts_at (Terms s ∷ rest) own bytes front at = terms_until own s bytes (length bytes) front at
  parts_at (Fields ∷ rest) own bytes front at = items_until own bytes (length bytes) front at
  parts_at (Bytes ∷ rest) own bytes front at =
      Ok (front ++ Node op.ByteList at (length bytes) none ∷ [], length bytes)

  -- what follows the beginning
  unfoldable pub form_at : Opening → List ℕ → ℕ → Result Tree Refusal
  form_at NoTarget bytes at = Ok (Node op.NullName at (at + 1) none)
  form_at PlainName bytes at = do
    r ← name_at bytes at
    Ok (Node op.NameString at r.1 none)
  form_at InvokedName bytes at = do
    r ← name_at bytes at
    q ← terms_counted at bytes (arity r.0 at) (Node op.NameString at r.1 none ∷ []) r.1
    Ok (Node op.Invocation at q.1 (trees q.0))
  form_at (Operator o next) bytes at = do
    r ← parts_at (letters_of o) at bytes [] next
    Ok (Node o at r.1 (trees r.0))

-- where no term may stand any deeper, a target may still be none
unfoldable pub deepest_at : Spot → List ℕ → ℕ → Result Tree Refusal
deepest_at s bytes at = do
  b ← byte_at bytes at
  if may_be_none s && (b == 0) then Ok (Node op.NullName at (at + 1) none)
      else Err (refusal TooDeep at)

-- a term with at most so many terms one in another
unfoldable pub term_at : Code → (NameString → ℕ → ℕ) → ℕ → ℕ → Spot → List ℕ → ℕ →
    Result Tree Refusal
term_at code arity zero asker s bytes at = deepest_at s bytes at
term_at code arity (suc d) asker s bytes at = do
  o ← opening_at code asker s bytes at
  form_at arity (term_at code arity d) o bytes at

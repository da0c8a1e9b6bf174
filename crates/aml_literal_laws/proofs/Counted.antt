-- No package counts more elements than it may have, wherever it stands in a term.
use Rattle.std.proofs.Common.{◌≡◌, ℕ, zero, suc, ◌-◌, ◌≤◌, inl, inr, List, [], ◌∷◌, take, length, Option, Some, None, arith}
use Rattle.std.specs.Prelude.{true, false, unwrap_or}
use Rattle.std.proofs.lemmas.Bool.{ltb-false}
use Rattle.aml_operators.specs.declared.op.Op.{Op}
use Rattle.aml_operators.specs.declared.op.Op.TheVariants as op
use Rattle.aml_operators.specs.declared.row.Code.{Code}
use Rattle.aml_operators.specs.declared.row.Code.TheVariants as code
use Rattle.aml_operators.specs.declared.row.Limit.TheVariants as limit
use Rattle.aml_operators.specs.declared.row.Spot.{Spot}
use Rattle.aml_operators.specs.declared.row.Spot.TheVariants as spot
use Rattle.aml_operators.specs.declared.row.Piece.{Piece}
use Rattle.aml_operators.specs.declared.row.Piece.TheVariants as piece
use Rattle.aml_operators.specs.declared.row.Letter.{Letter}
use Rattle.aml_operators.specs.declared.row.Letter.TheVariants.{One, Sized, Package, Branch, Terms, Fields, Bytes}
use Rattle.aml_operators.specs.Table.{letters_of}
use Rattle.aml_operators.specs.Fields.{pieces_of}
use Rattle.aml_operators.specs.Literal.{literal_of}
use Rattle.aml_operators.specs.Shape.{is_item}
use Rattle.aml_operators.specs.Tree.{Tree, Trees, Node, none, more, trees, stop_of, joined}
use Rattle.aml_operators.proofs.Shapes.{trees_append, item_of_item}
use Rattle.aml_lex.specs.NameStrings.{NameString}
use Rattle.aml_lex.specs.declared.names.NameSeg.{NameSeg}
use Rattle.aml_tree.specs.Opening.{Opening, NoTarget, PlainName, InvokedName, Operator}
use Rattle.aml_tree.specs.Reading.{is_above, item_next}
use Rattle.aml_tree.specs.Grammar.{AreTerms, IsConnection, IsPiece, ArePieces, IsItem, AreItems, IsElse, Meets, Follows, IsNameLeaf, IsTerm}
use Rattle.aml_tree.specs.Body.{AreStatements, IsBody, IsModule, greatest_depth, module_start, no_arguments, owns_behind, with_owns}
use Rattle.aml_tree.specs.Data.{IsData}
use Rattle.aml_objects.specs.declared.object.Content.{Content}
use Rattle.aml_objects.specs.declared.object.Content.TheVariants as content
use Rattle.aml_namespace.specs.Made.{buffer_content, content_in, string_content}
use Rattle.aml_kinds.specs.Fits.{most_elements}
use Rattle.aml_judged.specs.Safe.{AreBytes}
use Rattle.aml_literal_laws.proofs.Bytes.{taken, byte_lt}

-- what is told of a value, by the number of its elements
abbrev pub IsShort : Content → Type 0
IsShort (content.Package n) = n ≤ most_elements
IsShort c = Unit {0}

abbrev mutual
  -- all that stands in a term
  pub IsCounted : Tree → Type 0
  IsCounted (Node o at stop parts) = IsShort (content_in o parts) × AreCounted parts

  pub AreCounted : Trees → Type 0
  AreCounted none = Unit {0}
  AreCounted (more t ts) = IsCounted t × AreCounted ts

counted_joined : (ts us : Trees) → AreCounted ts → AreCounted us → AreCounted (joined ts us)
counted_joined none us h k = k
counted_joined (more t ts) us h k = (h.0, counted_joined ts us h.1 k)

name_leaf_counted : (bytes : List ℕ) (at : ℕ) (t : Tree) → IsNameLeaf bytes at t → IsCounted t
name_leaf_counted bytes at t h = rw h.3 (tt, tt)

buffer_short : (parts : Trees) → IsShort (buffer_content parts)
buffer_short (more size (more initialiser none)) = tt
buffer_short parts = tt

string_short : (parts : Trees) → IsShort (string_content parts)
string_short (more text rest) = tt
string_short none = tt

item_short : (o : Op) (parts : Trees) → is_item o ≡ true → IsShort (content_in o parts)
item_short op.Buffer parts is = absurd cc
item_short op.String parts is = absurd cc
item_short op.Package parts is = absurd cc
item_short op.VarPackage parts is = absurd cc
item_short o parts is = tt

-- a count that is not above its limit; one that is no literal counts as 0
literal_short : (o : Option ℕ) (left : ℕ) → is_above limit.Package o left ≡ false → unwrap_or o 0 ≤ most_elements
literal_short None left e = omega arith
literal_short (Some n) left e = ltb-false 65535 n e

module _ (arity : NameString → ℕ → ℕ) (Below : ℕ → Spot → List ℕ → ℕ → Tree → Type 0)
    (counted : (own : ℕ) (s : Spot) (bytes : List ℕ) (at : ℕ) (t : Tree) → AreBytes bytes → Below own s bytes at t → IsCounted t) where
  are_counted : (own : ℕ) (s : Spot) (bytes : List ℕ) (at stop : ℕ) (ts : List Tree) → AreBytes bytes → AreTerms arity Below own s bytes at stop ts → AreCounted (trees ts)
  are_counted own s bytes at stop [] b h = tt
  are_counted own s bytes at stop (t ∷ ts) b h = (counted own s bytes at t b h.0, are_counted own s bytes (stop_of t) stop ts b h.1)

  connection_counted : (own : ℕ) (bytes : List ℕ) (at : ℕ) (t : Tree) → AreBytes bytes → IsConnection arity Below own bytes at t → IsCounted t
  connection_counted own bytes at t b (inl h) = counted own spot.Connection bytes at t b h.1
  connection_counted own bytes at t b (inr h) = name_leaf_counted bytes at t h.1

  piece_counted : (p : Piece) (own : ℕ) (bytes : List ℕ) (at : ℕ) (t : Tree) → AreBytes bytes → IsPiece arity Below p own bytes at t → IsCounted t
  piece_counted (piece.Term s) own bytes at t b h = counted own s bytes at t b h
  piece_counted piece.NameString own bytes at t b h = name_leaf_counted bytes at t h
  piece_counted (piece.Number size) own bytes at t b h = rw h.3 (tt, tt)
  piece_counted piece.Bits own bytes at t b h = rw h.3 (tt, tt)
  piece_counted piece.Text own bytes at t b h = rw h.3 (tt, tt)
  piece_counted piece.Connection own bytes at t b h = connection_counted own bytes at t b h

  pieces_counted : (ps : List Piece) (own : ℕ) (bytes : List ℕ) (at stop : ℕ) (ts : List Tree) → AreBytes bytes → ArePieces arity Below ps own bytes at stop ts → AreCounted (trees ts)
  pieces_counted [] own bytes at stop ts b h = rw h.0 tt
  pieces_counted (p ∷ rest) own bytes at stop ts b h = rw h.2 (piece_counted p own bytes at h.0 b h.3, pieces_counted rest own bytes (stop_of h.0) stop h.1 b h.4)

  item_counted : (own : ℕ) (bytes : List ℕ) (at : ℕ) (t : Tree) → AreBytes bytes → IsItem arity Below own bytes at t → IsCounted t
  item_counted own bytes at t b h =
      rw h.7 (item_short h.1 (trees h.3) (item_of_item h.0 h.1 h.5), pieces_counted (pieces_of h.1) own bytes (item_next h.1 at) h.2 h.3 b h.6)

  items_counted : (own : ℕ) (bytes : List ℕ) (at stop : ℕ) (ts : List Tree) → AreBytes bytes → AreItems arity Below own bytes at stop ts → AreCounted (trees ts)
  items_counted own bytes at stop [] b h = tt
  items_counted own bytes at stop (t ∷ ts) b h = (item_counted own bytes at t b h.0, items_counted own bytes (stop_of t) stop ts b h.1)

  else_counted : (own : ℕ) (bytes : List ℕ) (at stop : ℕ) (ts : List Tree) → AreBytes bytes → IsElse arity Below own bytes at stop ts → AreCounted (trees ts)
  else_counted own bytes at stop [] b h = tt
  else_counted own bytes at stop (t ∷ ts) b h =
      let inside = are_counted own spot.Statement (take stop bytes) h.1.0 stop h.1.1 (taken stop bytes b) h.1.3 in
      rw (h.1.4, h.1.5) ((tt, inside), tt)

  parts_counted : (ls : List Letter) (own : ℕ) (bytes : List ℕ) (at stop : ℕ) (ts : List Tree) → AreBytes bytes → Meets arity Below ls own bytes at stop ts → AreCounted (trees ts)
  parts_counted [] own bytes at stop ts b h = rw h.0 tt
  parts_counted (One p ∷ rest) own bytes at stop ts b h =
      rw h.2 (piece_counted p own bytes at h.0 b h.3, parts_counted rest own bytes (stop_of h.0) stop h.1 b h.4)
  parts_counted (Sized l ∷ rest) own bytes at stop ts b h =
      rw h.2 (counted own spot.Size bytes at h.0 b h.3, parts_counted rest own bytes (stop_of h.0) stop h.1 b h.5)
  parts_counted (Package ∷ rest) own bytes at stop ts b h = parts_counted rest own (take h.0 bytes) h.1 stop ts (taken h.0 bytes b) h.3
  parts_counted (Branch ∷ rest) own bytes at stop ts b h =
      let inside = parts_counted rest own (take h.0 bytes) h.1 h.2 h.3 (taken h.0 bytes b) h.7 in
      rw (h.5, trees_append h.3 h.4) (counted_joined (trees h.3) (trees h.4) inside (else_counted own bytes h.2 stop h.4 b h.8))
  parts_counted (Terms s ∷ rest) own bytes at stop ts b h = are_counted own s bytes at stop ts b h.0
  parts_counted (Fields ∷ rest) own bytes at stop ts b h = items_counted own bytes at stop ts b h.0
  parts_counted (Bytes ∷ rest) own bytes at stop ts b h = rw h.0 ((tt, tt), tt)

  -- the count of a package is one byte, or a term that is not above the limit
  operator_short : (o : Op) (own : ℕ) (bytes : List ℕ) (at stop : ℕ) (ts : List Tree) → AreBytes bytes → Meets arity Below (letters_of o) own bytes at stop ts → IsShort (content_in o (trees ts))
  operator_short op.Package own bytes at stop ts b h =
      let lt = byte_lt (take h.0 bytes) h.1 h.3.3.0 h.3.3.1 (taken h.0 bytes b) h.3.3.2 in
      rw (h.3.2, h.3.3.3) (omega (arith, lt))
  operator_short op.VarPackage own bytes at stop ts b h =
      rw h.3.2 (literal_short (literal_of h.3.0) (length (take h.0 bytes) - stop_of h.3.0) h.3.4)
  operator_short op.Buffer own bytes at stop ts b h = buffer_short (trees ts)
  operator_short op.String own bytes at stop ts b h = string_short (trees ts)
  operator_short o own bytes at stop ts b h = tt

  form_counted : (o : Opening) (bytes : List ℕ) (at : ℕ) (t : Tree) → AreBytes bytes → Follows arity Below o bytes at t → IsCounted t
  form_counted NoTarget bytes at t b h = rw h (tt, tt)
  form_counted PlainName bytes at t b h = name_leaf_counted bytes at t h
  form_counted InvokedName bytes at t b h =
      rw h.7 (tt, ((tt, tt), are_counted at spot.Term bytes h.1 h.2 h.3 b h.6))
  form_counted (Operator o next) bytes at t b h =
      rw h.3 (operator_short o at bytes next h.0 h.1 b h.2, parts_counted (letters_of o) at bytes next h.0 h.1 b h.2)

term_counted : (code : Code) (arity : NameString → ℕ → ℕ) (d asker : ℕ) (s : Spot) (bytes : List ℕ) (at : ℕ) (t : Tree) → AreBytes bytes → IsTerm code arity d asker s bytes at t → IsCounted t
term_counted code arity zero asker s bytes at t b h = rw h.1 (tt, tt)
term_counted code arity (suc d) asker s bytes at t b h =
    form_counted arity (IsTerm code arity d) (term_counted code arity d) h.0 bytes at t b h.2

statements_counted : (arity : NameString → ℕ → ℕ) (owns : List NameSeg) (bytes : List ℕ) (at : ℕ) (ts : List Tree) (stop : ℕ) (last : List NameSeg) → AreBytes bytes → AreStatements arity owns bytes at ts stop last → AreCounted (trees ts)
statements_counted arity owns bytes at [] stop last b h = tt
statements_counted arity owns bytes at (t ∷ ts) stop last b h =
    (term_counted code.Body (with_owns arity owns) greatest_depth at spot.Statement bytes at t b h.0, statements_counted arity (owns_behind owns bytes t) bytes (stop_of t) ts stop last b h.1)

-- what the grammar ties to bytes as a body
pub body_counted : (arity : NameString → ℕ → ℕ) (bytes : List ℕ) (at : ℕ) (ts : List Tree) → AreBytes bytes → IsBody arity bytes at ts → AreCounted (trees ts)
body_counted arity bytes at ts b h = statements_counted arity [] bytes at ts (length bytes) h.0 b h.1

-- as a module
pub module_counted : (bytes : List ℕ) (ts : List Tree) → AreBytes bytes → IsModule bytes ts → AreCounted (trees ts)
module_counted bytes ts b h =
    are_counted no_arguments (IsTerm code.Module no_arguments greatest_depth) (term_counted code.Module no_arguments greatest_depth) module_start spot.Statement bytes module_start (length bytes) ts b h.1

-- as data of a module
pub data_counted : (bytes : List ℕ) (at : ℕ) (t : Tree) → AreBytes bytes → IsData bytes at t → IsCounted t
data_counted bytes at t b h = term_counted code.Module no_arguments greatest_depth at spot.Data bytes at t b h

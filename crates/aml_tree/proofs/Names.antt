-- The names, texts and runs of bytes of a term stand where it has them.
use Rattle.std.specs.Prelude.{true}
use Rattle.std.proofs.Common.{◌≡◌, ℕ, zero, suc, ◌≤◌, ◌<◌, inl, inr, List, [], ◌∷◌, take, length, Result, Ok, Err, arith}
use Rattle.std.proofs.lemmas.List.{length-take-le, length-take}
use Rattle.aml_operators.specs.declared.op.Op.{Op}
use Rattle.aml_operators.specs.declared.op.Op.TheVariants as op
use Rattle.aml_operators.specs.declared.row.Code.{Code}
use Rattle.aml_operators.specs.declared.row.Code.TheVariants as code
use Rattle.aml_operators.specs.declared.row.Spot.{Spot}
use Rattle.aml_operators.specs.declared.row.Spot.TheVariants as spot
use Rattle.aml_operators.specs.declared.row.Piece.{Piece}
use Rattle.aml_operators.specs.declared.row.Piece.TheVariants as piece
use Rattle.aml_operators.specs.declared.row.Letter.{Letter}
use Rattle.aml_operators.specs.declared.row.Letter.TheVariants.{One, Sized, Package, Branch, Terms, Fields, Bytes}
use Rattle.aml_operators.specs.Table.{row, letters_of}
use Rattle.aml_operators.specs.Fields.{pieces_of}
use Rattle.aml_operators.specs.Shape.{is_item}
use Rattle.aml_operators.specs.Tree.{Tree, Trees, Node, none, more, trees, stop_of, joined}
use Rattle.aml_operators.proofs.Shapes.{trees_append, item_of_item}
use Rattle.aml_lex.specs.NameStrings.{NameString}
use Rattle.aml_lex.specs.declared.fault.LexFault.{LexFault}
use Rattle.aml_lex.specs.declared.names.NameSeg.{NameSeg}
use Rattle.aml_lex.specs.Reading.{name_string_at, string_data_at}
use Rattle.aml_lex.specs.Standing.{HasName, HasText}
use Rattle.aml_lex.proofs.Fronts.{name_in_all, text_in_all}
use Rattle.aml_tree.specs.Fault.{refused}
use Rattle.aml_tree.specs.Leaf.{name_at, text_at}
use Rattle.aml_tree.specs.Opening.{Opening, NoTarget, PlainName, InvokedName, Operator}
use Rattle.aml_tree.specs.Begins.{Begins}
use Rattle.aml_tree.specs.Reading.{item_next}
use Rattle.aml_tree.specs.Grammar.{AreTerms, IsConnection, IsPiece, ArePieces, IsItem, AreItems, IsElse, Meets, Follows, IsNameLeaf, IsTerm}
use Rattle.aml_tree.specs.Body.{AreStatements, with_owns, owns_behind, greatest_depth, no_arguments, module_start}
use Rattle.aml_tree.specs.Spelled.{IsSpelledAt, IsSpelled, AreSpelled}
use Rattle.aml_tree.specs.Laws.{ModuleIsSpelled, BodyIsSpelled}
use Rattle.aml_tree.proofs.Combining.{of_ok}
use Rattle.aml_tree.proofs.Leaves.{end_in}
use Rattle.aml_tree.proofs.Beginnings.{begins_in}
use Rattle.aml_tree.proofs.Bounds.{piece_in, term_in}

-- what is spelled in a front of the bytes is spelled in all of them
leaf_in_all : (bytes : List ℕ) (end : ℕ) (o : Op) (at stop : ℕ) → IsSpelledAt (take end bytes) o at stop → IsSpelledAt bytes o at stop
leaf_in_all bytes end op.NameString at stop h = (h.0, name_in_all bytes end at (h.0, stop) h.1)
leaf_in_all bytes end op.AsciiCharList at stop h = (h.0, text_in_all bytes end at (h.0, stop) h.1)
leaf_in_all bytes end op.ByteList at stop h = (h.0, omega (arith, h.1, length-take end bytes))
leaf_in_all bytes end o at stop h = tt

mutual
  pub spelled_in_all : (bytes : List ℕ) (end : ℕ) (t : Tree) → IsSpelled (take end bytes) t → IsSpelled bytes t
  spelled_in_all bytes end (Node o at stop parts) h = (leaf_in_all bytes end o at stop h.0, all_in_all bytes end parts h.1)

  pub all_in_all : (bytes : List ℕ) (end : ℕ) (ts : Trees) → AreSpelled (take end bytes) ts → AreSpelled bytes ts
  all_in_all bytes end none h = tt
  all_in_all bytes end (more t ts) h = (spelled_in_all bytes end t h.0, all_in_all bytes end ts h.1)

spelled_joined : (bytes : List ℕ) (ts us : Trees) → AreSpelled bytes ts → AreSpelled bytes us → AreSpelled bytes (joined ts us)
spelled_joined bytes none us h k = k
spelled_joined bytes (more t ts) us h k = (h.0, spelled_joined bytes ts us h.1 k)

refused_ok : {X : Type 0} (r : Result X LexFault) (x : X) → refused r ≡ Ok x → r ≡ Ok x
refused_ok (Ok y) x e = cc
refused_ok (Err f) x e = absurd cc

name_spelled : (bytes : List ℕ) (at stop : ℕ) (name : NameString) → name_at bytes at ≡ Ok (name, stop) → HasName bytes at stop
unfolding name_at
name_spelled bytes at stop name e = (name, refused_ok (name_string_at bytes at) (name, stop) e)

text_spelled : (bytes : List ℕ) (at stop : ℕ) (text : List ℕ) → text_at bytes at ≡ Ok (text, stop) → HasText bytes at stop
unfolding text_at
text_spelled bytes at stop text e = (text, refused_ok (string_data_at bytes at) (text, stop) e)

name_leaf_spelled : (bytes : List ℕ) (at : ℕ) (t : Tree) → IsNameLeaf bytes at t → IsSpelled bytes t
name_leaf_spelled bytes at t h = rw h.3 (name_spelled bytes at h.1 h.0 h.2, tt)

-- an operator that stands for no bytes of its own
operator_spelled : (bytes : List ℕ) (o : Op) (at stop : ℕ) → (row o).code < 0x10000 → IsSpelledAt bytes o at stop
operator_spelled bytes op.NameString at stop lt = absurd (omega arith)
operator_spelled bytes op.AsciiCharList at stop lt = absurd (omega arith)
operator_spelled bytes op.ByteList at stop lt = absurd (omega arith)
operator_spelled bytes o at stop lt = tt

item_spelled_at : (bytes : List ℕ) (o : Op) (at stop : ℕ) → is_item o ≡ true → IsSpelledAt bytes o at stop
item_spelled_at bytes op.NameString at stop is = absurd cc
item_spelled_at bytes op.AsciiCharList at stop is = absurd cc
item_spelled_at bytes op.ByteList at stop is = absurd cc
item_spelled_at bytes o at stop is = tt

module _ (arity : NameString → ℕ → ℕ) (Below : ℕ → Spot → List ℕ → ℕ → Tree → Type 0)
    (within : (own : ℕ) (s : Spot) (bytes : List ℕ) (at : ℕ) (t : Tree) → Below own s bytes at t → (at < stop_of t) × (stop_of t ≤ length bytes))
    (spelled : (own : ℕ) (s : Spot) (bytes : List ℕ) (at : ℕ) (t : Tree) → Below own s bytes at t → IsSpelled bytes t) where
  are_spelled : (own : ℕ) (s : Spot) (bytes : List ℕ) (at stop : ℕ) (ts : List Tree) → AreTerms arity Below own s bytes at stop ts → AreSpelled bytes (trees ts)
  are_spelled own s bytes at stop [] h = tt
  are_spelled own s bytes at stop (t ∷ ts) h = (spelled own s bytes at t h.0, are_spelled own s bytes (stop_of t) stop ts h.1)

  connection_spelled : (own : ℕ) (bytes : List ℕ) (at : ℕ) (t : Tree) → IsConnection arity Below own bytes at t → IsSpelled bytes t
  connection_spelled own bytes at t (inl h) = spelled own spot.Connection bytes at t h.1
  connection_spelled own bytes at t (inr h) = name_leaf_spelled bytes at t h.1

  piece_spelled : (p : Piece) (own : ℕ) (bytes : List ℕ) (at : ℕ) (t : Tree) → IsPiece arity Below p own bytes at t → IsSpelled bytes t
  piece_spelled (piece.Term s) own bytes at t h = spelled own s bytes at t h
  piece_spelled piece.NameString own bytes at t h = name_leaf_spelled bytes at t h
  piece_spelled (piece.Number size) own bytes at t h = rw h.3 (tt, tt)
  piece_spelled piece.Bits own bytes at t h = rw h.3 (tt, tt)
  piece_spelled piece.Text own bytes at t h = rw h.3 (text_spelled bytes at h.1 h.0 h.2, tt)
  piece_spelled piece.Connection own bytes at t h = connection_spelled own bytes at t h

  pieces_spelled : (ps : List Piece) (own : ℕ) (bytes : List ℕ) (at stop : ℕ) (ts : List Tree) → ArePieces arity Below ps own bytes at stop ts → AreSpelled bytes (trees ts)
  pieces_spelled [] own bytes at stop ts h = rw h.0 tt
  pieces_spelled (p ∷ rest) own bytes at stop ts h = rw h.2 (piece_spelled p own bytes at h.0 h.3, pieces_spelled rest own bytes (stop_of h.0) stop h.1 h.4)

  item_spelled : (own : ℕ) (bytes : List ℕ) (at : ℕ) (t : Tree) → IsItem arity Below own bytes at t → IsSpelled bytes t
  item_spelled own bytes at t h =
      rw h.7 (item_spelled_at bytes h.1 at h.2 (item_of_item h.0 h.1 h.5), pieces_spelled (pieces_of h.1) own bytes (item_next h.1 at) h.2 h.3 h.6)

  items_spelled : (own : ℕ) (bytes : List ℕ) (at stop : ℕ) (ts : List Tree) → AreItems arity Below own bytes at stop ts → AreSpelled bytes (trees ts)
  items_spelled own bytes at stop [] h = tt
  items_spelled own bytes at stop (t ∷ ts) h = (item_spelled own bytes at t h.0, items_spelled own bytes (stop_of t) stop ts h.1)

  else_spelled : (own : ℕ) (bytes : List ℕ) (at stop : ℕ) (ts : List Tree) → IsElse arity Below own bytes at stop ts → AreSpelled bytes (trees ts)
  else_spelled own bytes at stop [] h = tt
  else_spelled own bytes at stop (t ∷ ts) h =
      let inside = all_in_all bytes stop (trees h.1.1) (are_spelled own spot.Statement (take stop bytes) h.1.0 stop h.1.1 h.1.3) in
      rw (h.1.4, h.1.5) ((tt, inside), tt)

  parts_spelled : (ls : List Letter) (own : ℕ) (bytes : List ℕ) (at stop : ℕ) (ts : List Tree) → at ≤ length bytes → Meets arity Below ls own bytes at stop ts → AreSpelled bytes (trees ts)
  parts_spelled [] own bytes at stop ts le h = rw h.0 tt
  parts_spelled (One p ∷ rest) own bytes at stop ts le h =
      let w = piece_in arity Below within p own bytes at h.0 le h.3 in
      rw h.2 (piece_spelled p own bytes at h.0 h.3, parts_spelled rest own bytes (stop_of h.0) stop h.1 w.1 h.4)
  parts_spelled (Sized l ∷ rest) own bytes at stop ts le h =
      let w = within own spot.Size bytes at h.0 h.3 in
      rw h.2 (spelled own spot.Size bytes at h.0 h.3, parts_spelled rest own bytes (stop_of h.0) stop h.1 w.1 h.5)
  parts_spelled (Package ∷ rest) own bytes at stop ts le h =
      let w = of_ok _ _ _ _ (end_in bytes at le) h.2 in
      let l : length (take h.0 bytes) ≡ h.0 = length-take-le h.0 bytes w.2 in
      all_in_all bytes h.0 (trees ts) (parts_spelled rest own (take h.0 bytes) h.1 stop ts (omega (arith, l, w)) h.3)
  parts_spelled (Branch ∷ rest) own bytes at stop ts le h =
      let w = of_ok _ _ _ _ (end_in bytes at le) h.6 in
      let l : length (take h.0 bytes) ≡ h.0 = length-take-le h.0 bytes w.2 in
      let inside = all_in_all bytes h.0 (trees h.3) (parts_spelled rest own (take h.0 bytes) h.1 h.2 h.3 (omega (arith, l, w)) h.7) in
      rw (h.5, trees_append h.3 h.4) (spelled_joined bytes (trees h.3) (trees h.4) inside (else_spelled own bytes h.2 stop h.4 h.8))
  parts_spelled (Terms s ∷ rest) own bytes at stop ts le h = are_spelled own s bytes at stop ts h.0
  parts_spelled (Fields ∷ rest) own bytes at stop ts le h = items_spelled own bytes at stop ts h.0
  parts_spelled (Bytes ∷ rest) own bytes at stop ts le h = rw h.0 (((le, omega arith), tt), tt)

  form_spelled : (code : Code) (s : Spot) (o : Opening) (bytes : List ℕ) (at : ℕ) (t : Tree) → Begins code s bytes at o → Follows arity Below o bytes at t → IsSpelled bytes t
  form_spelled code s NoTarget bytes at t b h = rw h (tt, tt)
  form_spelled code s PlainName bytes at t b h = name_leaf_spelled bytes at t h
  form_spelled code s InvokedName bytes at t b h =
      rw h.7 (tt, ((name_spelled bytes at h.1 h.0 h.4, tt), are_spelled at spot.Term bytes h.1 h.2 h.3 h.6))
  form_spelled code s (Operator o next) bytes at t b h =
      let fits = begins_in code s bytes at (Operator o next) b in
      rw h.3 (operator_spelled bytes o at h.0 b.0, parts_spelled (letters_of o) at bytes next h.0 h.1 fits.1 h.2)

pub term_spelled : (code : Code) (arity : NameString → ℕ → ℕ) (d asker : ℕ) (s : Spot) (bytes : List ℕ) (at : ℕ) (t : Tree) → IsTerm code arity d asker s bytes at t → IsSpelled bytes t
term_spelled code arity zero asker s bytes at t h = rw h.1 (tt, tt)
term_spelled code arity (suc d) asker s bytes at t h =
    form_spelled arity (IsTerm code arity d) (term_in code arity d) (term_spelled code arity d) code s h.0 bytes at t h.1 h.2

-- the names of a module and of a body
pub module_spelled : ModuleIsSpelled
module_spelled bytes ts h = are_spelled no_arguments (IsTerm code.Module no_arguments greatest_depth) (term_in code.Module no_arguments greatest_depth) (term_spelled code.Module no_arguments greatest_depth) module_start spot.Statement bytes module_start (length bytes) ts h.1

statements_spelled : (arity : NameString → ℕ → ℕ) (owns : List NameSeg) (bytes : List ℕ) (at : ℕ) (ts : List Tree) (stop : ℕ) (last : List NameSeg) → AreStatements arity owns bytes at ts stop last → AreSpelled bytes (trees ts)
statements_spelled arity owns bytes at [] stop last h = tt
statements_spelled arity owns bytes at (t ∷ ts) stop last h =
    (term_spelled code.Body (with_owns arity owns) greatest_depth at spot.Statement bytes at t h.0, statements_spelled arity (owns_behind owns bytes t) bytes (stop_of t) ts stop last h.1)

pub body_spelled : BodyIsSpelled
body_spelled arity bytes at ts h = statements_spelled arity [] bytes at ts (length bytes) h.0 h.1

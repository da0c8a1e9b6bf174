-- A term with so many terms in one another at most is one where more may be, whoever asks for it.
use Rattle.std.proofs.Common.{ℕ, zero, suc, ◌≤◌, inl, inr, List, [], ◌∷◌, take, arith}
use Rattle.aml_operators.specs.declared.row.Code.{Code}
use Rattle.aml_operators.specs.declared.row.Spot.{Spot}
use Rattle.aml_operators.specs.declared.row.Spot.TheVariants as spot
use Rattle.aml_operators.specs.declared.row.Piece.{Piece}
use Rattle.aml_operators.specs.declared.row.Piece.TheVariants as piece
use Rattle.aml_operators.specs.declared.row.Letter.{Letter}
use Rattle.aml_operators.specs.declared.row.Letter.TheVariants.{One, Sized, Package, Branch, Terms, Fields, Bytes}
use Rattle.aml_operators.specs.Table.{letters_of}
use Rattle.aml_operators.specs.Fields.{pieces_of}
use Rattle.aml_operators.specs.Tree.{Tree, stop_of}
use Rattle.aml_lex.specs.NameStrings.{NameString}
use Rattle.aml_tree.specs.Opening.{Opening, NoTarget, PlainName, InvokedName, Operator}
use Rattle.aml_tree.specs.Reading.{item_next}
use Rattle.aml_tree.specs.Grammar.{AreTerms, IsConnection, IsPiece, ArePieces, IsItem, AreItems, IsElse, Meets, Follows, IsTerm}

module _ (arity : NameString → ℕ → ℕ) (Below Other : ℕ → Spot → List ℕ → ℕ → Tree → Type 0)
    (deeper : (own : ℕ) (s : Spot) (bytes : List ℕ) (at : ℕ) (t : Tree) → Below own s bytes at t → Other own s bytes at t) where
  terms_deeper : (own : ℕ) (s : Spot) (bytes : List ℕ) (at stop : ℕ) (ts : List Tree) → AreTerms arity Below own s bytes at stop ts → AreTerms arity Other own s bytes at stop ts
  terms_deeper own s bytes at stop [] h = h
  terms_deeper own s bytes at stop (t ∷ ts) h = (deeper own s bytes at t h.0, terms_deeper own s bytes (stop_of t) stop ts h.1)

  connection_deeper : (own : ℕ) (bytes : List ℕ) (at : ℕ) (t : Tree) → IsConnection arity Below own bytes at t → IsConnection arity Other own bytes at t
  connection_deeper own bytes at t (inl h) = inl (h.0, deeper own spot.Connection bytes at t h.1)
  connection_deeper own bytes at t (inr h) = inr h

  piece_deeper : (p : Piece) (own : ℕ) (bytes : List ℕ) (at : ℕ) (t : Tree) → IsPiece arity Below p own bytes at t → IsPiece arity Other p own bytes at t
  piece_deeper (piece.Term s) own bytes at t h = deeper own s bytes at t h
  piece_deeper piece.NameString own bytes at t h = h
  piece_deeper (piece.Number size) own bytes at t h = h
  piece_deeper piece.Bits own bytes at t h = h
  piece_deeper piece.Text own bytes at t h = h
  piece_deeper piece.Connection own bytes at t h = connection_deeper own bytes at t h

  pieces_deeper : (ps : List Piece) (own : ℕ) (bytes : List ℕ) (at stop : ℕ) (ts : List Tree) → ArePieces arity Below ps own bytes at stop ts → ArePieces arity Other ps own bytes at stop ts
  pieces_deeper [] own bytes at stop ts h = h
  pieces_deeper (p ∷ rest) own bytes at stop ts h =
      (h.0, h.1, h.2, piece_deeper p own bytes at h.0 h.3, pieces_deeper rest own bytes (stop_of h.0) stop h.1 h.4)

  item_deeper : (own : ℕ) (bytes : List ℕ) (at : ℕ) (t : Tree) → IsItem arity Below own bytes at t → IsItem arity Other own bytes at t
  item_deeper own bytes at t h =
      (h.0, h.1, h.2, h.3, h.4, h.5, pieces_deeper (pieces_of h.1) own bytes (item_next h.1 at) h.2 h.3 h.6, h.7)

  items_deeper : (own : ℕ) (bytes : List ℕ) (at stop : ℕ) (ts : List Tree) → AreItems arity Below own bytes at stop ts → AreItems arity Other own bytes at stop ts
  items_deeper own bytes at stop [] h = h
  items_deeper own bytes at stop (t ∷ ts) h = (item_deeper own bytes at t h.0, items_deeper own bytes (stop_of t) stop ts h.1)

  else_deeper : (own : ℕ) (bytes : List ℕ) (at stop : ℕ) (ts : List Tree) → IsElse arity Below own bytes at stop ts → IsElse arity Other own bytes at stop ts
  else_deeper own bytes at stop [] h = h
  else_deeper own bytes at stop (t ∷ ts) h =
      (h.0, (h.1.0, h.1.1, h.1.2, terms_deeper own spot.Statement (take stop bytes) h.1.0 stop h.1.1 h.1.3, h.1.4, h.1.5))

  parts_deeper : (ls : List Letter) (own : ℕ) (bytes : List ℕ) (at stop : ℕ) (ts : List Tree) → Meets arity Below ls own bytes at stop ts → Meets arity Other ls own bytes at stop ts
  parts_deeper [] own bytes at stop ts h = h
  parts_deeper (One p ∷ rest) own bytes at stop ts h =
      (h.0, h.1, h.2, piece_deeper p own bytes at h.0 h.3, parts_deeper rest own bytes (stop_of h.0) stop h.1 h.4)
  parts_deeper (Sized l ∷ rest) own bytes at stop ts h =
      (h.0, h.1, h.2, deeper own spot.Size bytes at h.0 h.3, h.4, parts_deeper rest own bytes (stop_of h.0) stop h.1 h.5)
  parts_deeper (Package ∷ rest) own bytes at stop ts h =
      (h.0, h.1, h.2, parts_deeper rest own (take h.0 bytes) h.1 stop ts h.3)
  parts_deeper (Branch ∷ rest) own bytes at stop ts h =
      (h.0, h.1, h.2, h.3, h.4, h.5, h.6, parts_deeper rest own (take h.0 bytes) h.1 h.2 h.3 h.7, else_deeper own bytes h.2 stop h.4 h.8)
  parts_deeper (Terms s ∷ rest) own bytes at stop ts h = (terms_deeper own s bytes at stop ts h.0, h.1)
  parts_deeper (Fields ∷ rest) own bytes at stop ts h = (items_deeper own bytes at stop ts h.0, h.1)
  parts_deeper (Bytes ∷ rest) own bytes at stop ts h = h

  form_deeper : (o : Opening) (bytes : List ℕ) (at : ℕ) (t : Tree) → Follows arity Below o bytes at t → Follows arity Other o bytes at t
  form_deeper NoTarget bytes at t h = h
  form_deeper PlainName bytes at t h = h
  form_deeper InvokedName bytes at t h =
      (h.0, h.1, h.2, h.3, h.4, h.5, terms_deeper at spot.Term bytes h.1 h.2 h.3 h.6, h.7)
  form_deeper (Operator o next) bytes at t h =
      (h.0, h.1, parts_deeper (letters_of o) at bytes next h.0 h.1 h.2, h.3)

pub term_deeper : (code : Code) (arity : NameString → ℕ → ℕ) (d more asker other : ℕ) (s : Spot) (bytes : List ℕ) (at : ℕ) (t : Tree) → d ≤ more → IsTerm code arity d asker s bytes at t → IsTerm code arity more other s bytes at t
term_deeper code arity zero zero asker other s bytes at t le h = h
term_deeper code arity zero (suc more) asker other s bytes at t le h = (NoTarget, h.0, h.1)
term_deeper code arity (suc d) zero asker other s bytes at t le h = absurd (omega (arith, le))
term_deeper code arity (suc d) (suc more) asker other s bytes at t le h =
    (h.0, h.1, form_deeper arity (IsTerm code arity d) (IsTerm code arity more) (λ own s bytes at t k. term_deeper code arity d more own own s bytes at t (omega (arith, le)) k) h.0 bytes at t h.2)

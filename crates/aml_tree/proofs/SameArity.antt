-- A term stays one where names take other numbers of terms, if they take the same within it.
use Rattle.std.proofs.Common.{◌≡◌, ℕ, zero, suc, ◌+◌, ◌≤◌, ◌<◌, inl, inr, List, [], ◌∷◌, take, length, arith, ◌∙◌, subst}
use Rattle.std.proofs.lemmas.List.{length-take-le}
use Rattle.aml_operators.specs.declared.op.Op.{Op}
use Rattle.aml_operators.specs.declared.op.Op.TheVariants as op
use Rattle.aml_operators.specs.declared.row.Code.{Code}
use Rattle.aml_operators.specs.declared.row.Spot.{Spot}
use Rattle.aml_operators.specs.declared.row.Spot.TheVariants as spot
use Rattle.aml_operators.specs.declared.row.Piece.{Piece}
use Rattle.aml_operators.specs.declared.row.Piece.TheVariants as piece
use Rattle.aml_operators.specs.declared.row.Letter.{Letter}
use Rattle.aml_operators.specs.declared.row.Letter.TheVariants.{One, Sized, Package, Branch, Terms, Fields, Bytes}
use Rattle.aml_operators.specs.Table.{letters_of}
use Rattle.aml_operators.specs.Fields.{pieces_of}
use Rattle.aml_operators.specs.Tree.{Tree, stop_of}
use Rattle.aml_lex.specs.NameStrings.{NameString}
use Rattle.aml_tree.specs.Opening.{Opening, NoTarget, PlainName, InvokedName, Operator}
use Rattle.aml_tree.specs.Reading.{item_next}
use Rattle.aml_tree.specs.Grammar.{AreTerms, IsConnection, IsPiece, ArePieces, IsItem, AreItems, IsElse, Meets, Follows, IsTerm}
use Rattle.aml_tree.specs.OperatorAt.{AgreeWithin}
use Rattle.aml_tree.proofs.Combining.{of_ok}
use Rattle.aml_tree.proofs.Leaves.{end_in, name_in}
use Rattle.aml_tree.proofs.Beginnings.{Fits, begins_in}
use Rattle.std.proofs.lemmas.Option.{slice_get_within}
use Rattle.aml_tree.proofs.Bounds.{piece_in, pieces_in, item_in, are_in, items_in, else_in, parts_in, starts_in, term_in, onward}

-- an item's parts stand at it or behind it
from_item : (o : Op) (at : ℕ) → at ≤ item_next o at
from_item op.NamedField at = omega arith
from_item o at = omega arith

module _ (a b : NameString → ℕ → ℕ) where
  narrower : (lo hi low high : ℕ) → AgreeWithin a b lo hi → lo ≤ low → high ≤ hi → AgreeWithin a b low high
  narrower lo hi low high agree above below name at from to = agree name at (omega (arith, above, from)) (omega (arith, below, to))

  module _ (Below Other : ℕ → Spot → List ℕ → ℕ → Tree → Type 0)
      (within : (own : ℕ) (s : Spot) (bytes : List ℕ) (at : ℕ) (t : Tree) → Below own s bytes at t → (at < stop_of t) × (stop_of t ≤ length bytes))
      (other : (own : ℕ) (s : Spot) (bytes : List ℕ) (at : ℕ) (t : Tree) → AgreeWithin a b at (stop_of t) → Below own s bytes at t → Other own s bytes at t) where
    connection_too : (own : ℕ) (bytes : List ℕ) (at : ℕ) (t : Tree) → AgreeWithin a b at (stop_of t) → IsConnection a Below own bytes at t → IsConnection b Other own bytes at t
    connection_too own bytes at t g (inl h) = inl (h.0, other own spot.Connection bytes at t g h.1)
    connection_too own bytes at t g (inr h) = inr h

    piece_too : (p : Piece) (own : ℕ) (bytes : List ℕ) (at : ℕ) (t : Tree) → AgreeWithin a b at (stop_of t) → IsPiece a Below p own bytes at t → IsPiece b Other p own bytes at t
    piece_too (piece.Term s) own bytes at t g h = other own s bytes at t g h
    piece_too piece.NameString own bytes at t g h = h
    piece_too (piece.Number v) own bytes at t g h = h
    piece_too piece.Bits own bytes at t g h = h
    piece_too piece.Text own bytes at t g h = h
    piece_too piece.Connection own bytes at t g h = connection_too own bytes at t g h

    pieces_too : (ps : List Piece) (own : ℕ) (bytes : List ℕ) (at stop : ℕ) (ts : List Tree) → at ≤ length bytes → AgreeWithin a b at stop → ArePieces a Below ps own bytes at stop ts → ArePieces b Other ps own bytes at stop ts
    pieces_too [] own bytes at stop ts le g h = h
    pieces_too (p ∷ rest) own bytes at stop ts le g h =
        let w = piece_in a Below within p own bytes at h.0 le h.3 in
        let r = pieces_in a Below within rest own bytes (stop_of h.0) stop h.1 w.1 h.4 in (
          h.0,
          h.1,
          h.2,
          piece_too p own bytes at h.0 (narrower at stop at (stop_of h.0) g (omega arith) (omega (arith, r))) h.3,
          pieces_too rest own bytes (stop_of h.0) stop h.1 w.1 (narrower at stop (stop_of h.0) stop g (omega (arith, w)) (omega arith)) h.4,
        )

    item_too : (own : ℕ) (bytes : List ℕ) (at : ℕ) (t : Tree) → AgreeWithin a b at (stop_of t) → IsItem a Below own bytes at t → IsItem b Other own bytes at t
    item_too own bytes at t g h =
        let lt = slice_get_within bytes at h.0 h.4 in
        let on = onward h.1 at in
        let k : AgreeWithin a b at h.2 = subst (λ x. AgreeWithin a b at (stop_of x)) h.7 g in (
          h.0,
          h.1,
          h.2,
          h.3,
          h.4,
          h.5,
          pieces_too (pieces_of h.1) own bytes (item_next h.1 at) h.2 h.3 (omega (arith, lt, on)) (narrower at h.2 (item_next h.1 at) h.2 k (from_item h.1 at) (omega arith)) h.6,
          h.7,
        )

    terms_too : (own : ℕ) (s : Spot) (bytes : List ℕ) (at stop : ℕ) (ts : List Tree) → at ≤ length bytes → AgreeWithin a b at stop → AreTerms a Below own s bytes at stop ts → AreTerms b Other own s bytes at stop ts
    terms_too own s bytes at stop [] le g h = h
    terms_too own s bytes at stop (t ∷ ts) le g h =
        let w = within own s bytes at t h.0 in
        let r = are_in a Below within own s bytes (stop_of t) stop ts w.1 h.1 in (
          other own s bytes at t (narrower at stop at (stop_of t) g (omega arith) (omega (arith, r))) h.0,
          terms_too own s bytes (stop_of t) stop ts w.1 (narrower at stop (stop_of t) stop g (omega (arith, w)) (omega arith)) h.1,
        )

    items_too : (own : ℕ) (bytes : List ℕ) (at stop : ℕ) (ts : List Tree) → at ≤ length bytes → AgreeWithin a b at stop → AreItems a Below own bytes at stop ts → AreItems b Other own bytes at stop ts
    items_too own bytes at stop [] le g h = h
    items_too own bytes at stop (t ∷ ts) le g h =
        let w = item_in a Below within own bytes at t h.0 in
        let r = items_in a Below within own bytes (stop_of t) stop ts w.1 h.1 in (
          item_too own bytes at t (narrower at stop at (stop_of t) g (omega arith) (omega (arith, r))) h.0,
          items_too own bytes (stop_of t) stop ts w.1 (narrower at stop (stop_of t) stop g (omega (arith, w)) (omega arith)) h.1,
        )

    else_too : (own : ℕ) (bytes : List ℕ) (at stop : ℕ) (ts : List Tree) → at ≤ length bytes → AgreeWithin a b at stop → IsElse a Below own bytes at stop ts → IsElse b Other own bytes at stop ts
    else_too own bytes at stop [] le g h = h
    else_too own bytes at stop (t ∷ ts) le g h =
        let lt = slice_get_within bytes at 0xA1 h.0 in
        let w = of_ok _ _ _ _ (end_in bytes (at + 1) (omega (arith, lt))) h.1.2 in
        let l : length (take stop bytes) ≡ stop = length-take-le stop bytes w.2 in (
          h.0,
          (
            h.1.0,
            h.1.1,
            h.1.2,
            terms_too own spot.Statement (take stop bytes) h.1.0 stop h.1.1 (omega (arith, l, w)) (narrower at stop h.1.0 stop g (omega (arith, w)) (omega arith)) h.1.3,
            h.1.4,
            h.1.5,
          ),
        )

    parts_too : (ls : List Letter) (own : ℕ) (bytes : List ℕ) (at stop : ℕ) (ts : List Tree) → at ≤ length bytes → AgreeWithin a b at stop → Meets a Below ls own bytes at stop ts → Meets b Other ls own bytes at stop ts
    parts_too [] own bytes at stop ts le g h = h
    parts_too (One p ∷ rest) own bytes at stop ts le g h =
        let w = piece_in a Below within p own bytes at h.0 le h.3 in
        let r = parts_in a Below within rest own bytes (stop_of h.0) stop h.1 w.1 h.4 in (
          h.0,
          h.1,
          h.2,
          piece_too p own bytes at h.0 (narrower at stop at (stop_of h.0) g (omega arith) (omega (arith, r))) h.3,
          parts_too rest own bytes (stop_of h.0) stop h.1 w.1 (narrower at stop (stop_of h.0) stop g (omega (arith, w)) (omega arith)) h.4,
        )
    parts_too (Sized l ∷ rest) own bytes at stop ts le g h =
        let w = within own spot.Size bytes at h.0 h.3 in
        let r = parts_in a Below within rest own bytes (stop_of h.0) stop h.1 w.1 h.5 in (
          h.0,
          h.1,
          h.2,
          other own spot.Size bytes at h.0 (narrower at stop at (stop_of h.0) g (omega arith) (omega (arith, r))) h.3,
          h.4,
          parts_too rest own bytes (stop_of h.0) stop h.1 w.1 (narrower at stop (stop_of h.0) stop g (omega (arith, w)) (omega arith)) h.5,
        )
    parts_too (Package ∷ rest) own bytes at stop ts le g h =
        let w = of_ok _ _ _ _ (end_in bytes at le) h.2 in
        let l : length (take h.0 bytes) ≡ h.0 = length-take-le h.0 bytes w.2 in
        (h.0, h.1, h.2, parts_too rest own (take h.0 bytes) h.1 stop ts (omega (arith, l, w)) (narrower at stop h.1 stop g (omega (arith, w)) (omega arith)) h.3)
    parts_too (Branch ∷ rest) own bytes at stop ts le g h =
        let w = of_ok _ _ _ _ (end_in bytes at le) h.6 in
        let l : length (take h.0 bytes) ≡ h.0 = length-take-le h.0 bytes w.2 in
        let r = parts_in a Below within rest own (take h.0 bytes) h.1 h.2 h.3 (omega (arith, l, w)) h.7 in
        let m : h.2 ≤ length bytes = omega (arith, r, l, w) in
        let e = else_in a Below within own bytes h.2 stop h.4 m h.8 in (
          h.0,
          h.1,
          h.2,
          h.3,
          h.4,
          h.5,
          h.6,
          parts_too rest own (take h.0 bytes) h.1 h.2 h.3 (omega (arith, l, w)) (narrower at stop h.1 h.2 g (omega (arith, w)) (omega (arith, e))) h.7,
          else_too own bytes h.2 stop h.4 m (narrower at stop h.2 stop g (omega (arith, w, r)) (omega arith)) h.8,
        )
    parts_too (Terms s ∷ rest) own bytes at stop ts le g h = (terms_too own s bytes at stop ts le g h.0, h.1)
    parts_too (Fields ∷ rest) own bytes at stop ts le g h = (items_too own bytes at stop ts le g h.0, h.1)
    parts_too (Bytes ∷ rest) own bytes at stop ts le g h = h

    form_too : (o : Opening) (bytes : List ℕ) (at : ℕ) (t : Tree) → at < length bytes → Fits bytes at o → at < stop_of t → AgreeWithin a b at (stop_of t) → Follows a Below o bytes at t → Follows b Other o bytes at t
    form_too NoTarget bytes at t lt fits more g h = h
    form_too PlainName bytes at t lt fits more g h = h
    form_too InvokedName bytes at t lt fits more g h =
        let w = of_ok _ _ _ _ (name_in bytes at (omega arith)) h.4 in
        let k : AgreeWithin a b at h.2 = subst (λ x. AgreeWithin a b at (stop_of x)) h.7 g in (
          h.0,
          h.1,
          h.2,
          h.3,
          h.4,
          h.5 ∙ g h.0 at (omega arith) more,
          terms_too at spot.Term bytes h.1 h.2 h.3 w.1 (narrower at h.2 h.1 h.2 k (omega (arith, w)) (omega arith)) h.6,
          h.7,
        )
    form_too (Operator o next) bytes at t lt fits more g h =
        let k : AgreeWithin a b at h.0 = subst (λ x. AgreeWithin a b at (stop_of x)) h.3 g in
        (h.0, h.1, parts_too (letters_of o) at bytes next h.0 h.1 fits.1 (narrower at h.0 next h.0 k (omega (arith, fits)) (omega arith)) h.2, h.3)

  pub term_too : (code : Code) (d asker : ℕ) (s : Spot) (bytes : List ℕ) (at : ℕ) (t : Tree) → AgreeWithin a b at (stop_of t) → IsTerm code a d asker s bytes at t → IsTerm code b d asker s bytes at t
  term_too code zero asker s bytes at t g h = h
  term_too code (suc d) asker s bytes at t g h =
      let fits = begins_in code s bytes at h.0 h.1 in
      let w = term_in code a (suc d) asker s bytes at t h in
      (h.0, h.1, form_too (IsTerm code a d) (IsTerm code b d) (term_in code a d) (λ own s bytes at t g h. term_too code d own s bytes at t g h) h.0 bytes at t (starts_in bytes at h.0 fits) fits w.0 g h.2)

-- Terms and their parts lie within the bytes, and each goes on.
use Rattle.std.proofs.Common.{◌≡◌, ℕ, zero, suc, ◌+◌, ◌≤◌, ◌<◌, inl, inr, List, [], ◌∷◌, take, length, arith}
use Rattle.std.proofs.lemmas.List.{length-take-le}
use Rattle.std.proofs.lemmas.Option.{slice_get_within}
use Rattle.aml_operators.specs.declared.op.Op.{Op}
use Rattle.aml_operators.specs.declared.op.Op.TheVariants as op
use Rattle.aml_operators.specs.declared.row.Code.{Code}
use Rattle.aml_operators.specs.declared.row.Spot.{Spot}
use Rattle.aml_operators.specs.declared.row.Spot.TheVariants as spot
use Rattle.aml_operators.specs.declared.row.Piece.{Piece}
use Rattle.aml_operators.specs.declared.row.Piece.TheVariants as piece
use Rattle.aml_operators.specs.declared.row.Letter.{Letter}
use Rattle.aml_operators.specs.declared.row.Letter.TheVariants.{One, Sized, Package, Branch, Terms, Fields, Bytes}
use Rattle.aml_operators.specs.Table.{letters_of}
use Rattle.aml_operators.specs.Fields.{pieces_of}
use Rattle.aml_operators.specs.Tree.{Tree, stop_of}
use Rattle.aml_lex.specs.NameStrings.{NameString}
use Rattle.aml_tree.specs.Opening.{Opening, NoTarget, PlainName, InvokedName, Operator}
use Rattle.aml_tree.proofs.Combining.{of_ok}
use Rattle.aml_tree.proofs.Leaves.{end_in, name_in, number_in, bits_in, text_in}
use Rattle.aml_tree.proofs.Beginnings.{Fits, begins_in}
use Rattle.aml_tree.specs.Reading.{item_next}
use Rattle.aml_tree.specs.Grammar.{AreTerms, IsConnection, IsPiece, ArePieces, IsItem, AreItems, IsElse, Meets, Follows, IsTerm, IsNameLeaf}

name_leaf_in : (bytes : List ℕ) (at : ℕ) (t : Tree) → at ≤ length bytes → IsNameLeaf bytes at t → (at < stop_of t) × (stop_of t ≤ length bytes)
name_leaf_in bytes at t le h = let w = of_ok _ _ _ _ (name_in bytes at le) h.2 in rw h.3 w

-- an item's parts go on from the item

pub onward : (o : Op) (at : ℕ) → (at < item_next o at + length (pieces_of o)) × (item_next o at ≤ at + 1)
onward op.NamedField at = (omega arith, omega arith)
onward o at = (omega arith, omega arith)

module _ (arity : NameString → ℕ → ℕ) (Below : ℕ → Spot → List ℕ → ℕ → Tree → Type 0)
    (within : (own : ℕ) (s : Spot) (bytes : List ℕ) (at : ℕ) (t : Tree) → Below own s bytes at t → (at < stop_of t) × (stop_of t ≤ length bytes)) where
  connection_in : (own : ℕ) (bytes : List ℕ) (at : ℕ) (t : Tree) → at ≤ length bytes → IsConnection arity Below own bytes at t → (at < stop_of t) × (stop_of t ≤ length bytes)
  connection_in own bytes at t le (inl h) = within own spot.Connection bytes at t h.1
  connection_in own bytes at t le (inr h) = name_leaf_in bytes at t le h.1

  pub piece_in : (p : Piece) (own : ℕ) (bytes : List ℕ) (at : ℕ) (t : Tree) → at ≤ length bytes → IsPiece arity Below p own bytes at t → (at < stop_of t) × (stop_of t ≤ length bytes)
  piece_in (piece.Term s) own bytes at t le h = within own s bytes at t h
  piece_in piece.NameString own bytes at t le h = name_leaf_in bytes at t le h
  piece_in (piece.Number v) own bytes at t le h = let w = of_ok _ _ _ _ (number_in v bytes at) h.2 in rw h.3 w
  piece_in piece.Bits own bytes at t le h = let w = of_ok _ _ _ _ (bits_in bytes at le) h.2 in rw h.3 w
  piece_in piece.Text own bytes at t le h = let w = of_ok _ _ _ _ (text_in bytes at le) h.2 in rw h.3 w
  piece_in piece.Connection own bytes at t le h = connection_in own bytes at t le h

  pub pieces_in : (ps : List Piece) (own : ℕ) (bytes : List ℕ) (at stop : ℕ) (ts : List Tree) → at ≤ length bytes → ArePieces arity Below ps own bytes at stop ts → (at + length ps ≤ stop) × (stop ≤ length bytes)
  pieces_in [] own bytes at stop ts le h = (omega (arith, h.1), omega (arith, h.1))
  pieces_in (p ∷ rest) own bytes at stop ts le h =
      let w = piece_in p own bytes at h.0 le h.3 in
      let r = pieces_in rest own bytes (stop_of h.0) stop h.1 w.1 h.4 in (omega (arith, w, r), r.1)

  pub item_in : (own : ℕ) (bytes : List ℕ) (at : ℕ) (t : Tree) → IsItem arity Below own bytes at t → (at < stop_of t) × (stop_of t ≤ length bytes)
  item_in own bytes at t h =
      let lt = slice_get_within bytes at h.0 h.4 in
      let on = onward h.1 at in
      let r = pieces_in (pieces_of h.1) own bytes (item_next h.1 at) h.2 h.3 (omega (arith, lt, on)) h.6 in
      rw h.7 (omega (arith, on, r), r.1)

  pub are_in : (own : ℕ) (s : Spot) (bytes : List ℕ) (at stop : ℕ) (ts : List Tree) → at ≤ length bytes → AreTerms arity Below own s bytes at stop ts → (at ≤ stop) × (stop ≤ length bytes)
  are_in own s bytes at stop [] le h = (omega (arith, h), omega (arith, h))
  are_in own s bytes at stop (t ∷ ts) le h = let w = within own s bytes at t h.0 in let r = are_in own s bytes (stop_of t) stop ts w.1 h.1 in (omega (arith, w, r), r.1)

  pub items_in : (own : ℕ) (bytes : List ℕ) (at stop : ℕ) (ts : List Tree) → at ≤ length bytes → AreItems arity Below own bytes at stop ts → (at ≤ stop) × (stop ≤ length bytes)
  items_in own bytes at stop [] le h = (omega (arith, h), omega (arith, h))
  items_in own bytes at stop (t ∷ ts) le h = let w = item_in own bytes at t h.0 in let r = items_in own bytes (stop_of t) stop ts w.1 h.1 in (omega (arith, w, r), r.1)

  pub else_in : (own : ℕ) (bytes : List ℕ) (at stop : ℕ) (ts : List Tree) → at ≤ length bytes → IsElse arity Below own bytes at stop ts → (at ≤ stop) × (stop ≤ length bytes)
  else_in own bytes at stop [] le h = (omega (arith, h.1), omega (arith, h.1))
  else_in own bytes at stop (t ∷ ts) le h =
      let lt = slice_get_within bytes at 0xA1 h.0 in
      let w = of_ok _ _ _ _ (end_in bytes (at + 1) (omega (arith, lt))) h.1.2 in (omega (arith, w), w.2)

  pub parts_in : (ls : List Letter) (own : ℕ) (bytes : List ℕ) (at stop : ℕ) (ts : List Tree) → at ≤ length bytes → Meets arity Below ls own bytes at stop ts → (at ≤ stop) × (stop ≤ length bytes)
  parts_in [] own bytes at stop ts le h = (omega (arith, h.1), omega (arith, h.1))
  parts_in (One p ∷ rest) own bytes at stop ts le h =
      let w = piece_in p own bytes at h.0 le h.3 in
      let r = parts_in rest own bytes (stop_of h.0) stop h.1 w.1 h.4 in (omega (arith, w, r), r.1)
  parts_in (Sized l ∷ rest) own bytes at stop ts le h =
      let w = within own spot.Size bytes at h.0 h.3 in
      let r = parts_in rest own bytes (stop_of h.0) stop h.1 w.1 h.5 in (omega (arith, w, r), r.1)
  parts_in (Package ∷ rest) own bytes at stop ts le h =
      let w = of_ok _ _ _ _ (end_in bytes at le) h.2 in
      let l : length (take h.0 bytes) ≡ h.0 = length-take-le h.0 bytes w.2 in
      let r = parts_in rest own (take h.0 bytes) h.1 stop ts (omega (arith, l, w)) h.3 in (omega (arith, w, r), omega (arith, w, r, l))
  parts_in (Branch ∷ rest) own bytes at stop ts le h =
      let w = of_ok _ _ _ _ (end_in bytes at le) h.6 in
      let l : length (take h.0 bytes) ≡ h.0 = length-take-le h.0 bytes w.2 in
      let r = parts_in rest own (take h.0 bytes) h.1 h.2 h.3 (omega (arith, l, w)) h.7 in
      let e = else_in own bytes h.2 stop h.4 (omega (arith, w, r, l)) h.8 in (omega (arith, w, r, e), e.1)
  parts_in (Terms s ∷ rest) own bytes at stop ts le h = are_in own s bytes at stop ts le h.0
  parts_in (Fields ∷ rest) own bytes at stop ts le h = items_in own bytes at stop ts le h.0
  parts_in (Bytes ∷ rest) own bytes at stop ts le h = (omega (arith, h.1), omega (arith, h.1))

  pub form_in : (o : Opening) (bytes : List ℕ) (at : ℕ) (t : Tree) → at < length bytes → Fits bytes at o → Follows arity Below o bytes at t → (at < stop_of t) × (stop_of t ≤ length bytes)
  form_in NoTarget bytes at t lt fits h = rw h (omega arith, omega arith)
  form_in PlainName bytes at t lt fits h = name_leaf_in bytes at t (omega arith) h
  form_in InvokedName bytes at t lt fits h =
      let w = of_ok _ _ _ _ (name_in bytes at (omega arith)) h.4 in
      let r = are_in at spot.Term bytes h.1 h.2 h.3 w.1 h.6 in rw h.7 (omega (arith, w, r), r.1)
  form_in (Operator o next) bytes at t lt fits h =
      let r = parts_in (letters_of o) at bytes next h.0 h.1 fits.1 h.2 in rw h.3 (omega (arith, r, fits), r.1)

pub starts_in : (bytes : List ℕ) (at : ℕ) (o : Opening) → Fits bytes at o → at < length bytes
starts_in bytes at NoTarget h = h
starts_in bytes at PlainName h = h
starts_in bytes at InvokedName h = h
starts_in bytes at (Operator o next) h = omega (arith, h)

pub term_in : (code : Code) (arity : NameString → ℕ → ℕ) (d asker : ℕ) (s : Spot) (bytes : List ℕ) (at : ℕ) (t : Tree) → IsTerm code arity d asker s bytes at t → (at < stop_of t) × (stop_of t ≤ length bytes)
term_in code arity zero asker s bytes at t h = let w = slice_get_within bytes at 0 h.0.1 in rw h.1 (omega arith, omega (arith, w))
term_in code arity (suc d) asker s bytes at t h =
    let fits = begins_in code s bytes at h.0 h.1 in
    form_in arity (IsTerm code arity d) (term_in code arity d) h.0 bytes at t (starts_in bytes at h.0 fits) fits h.2

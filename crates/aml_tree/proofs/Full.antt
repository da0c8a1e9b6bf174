-- What is a term is read.
use Rattle.std.proofs.Common.{◌≡◌, ℕ, zero, suc, ◌+◌, ◌≤◌, ◌<◌, inl, inr, List, [], ◌∷◌, ◌++◌, take, length, Option, Some, None, Result, Ok, refl, sym, ap, arith, append_assoc}
use Rattle.std.specs.Prelude.{nat_lt, slice_get, Bool, true, false}
use Rattle.std.proofs.lemmas.Bool.{lt-ltb, ltb-true, eqb-true}
use Rattle.std.proofs.lemmas.List.{append-nil, length-take-le}
use Rattle.std.proofs.lemmas.Option.{slice_get_within}
use Rattle.aml_operators.specs.declared.op.Op.TheVariants as op
use Rattle.aml_operators.specs.declared.row.Code.{Code}
use Rattle.aml_operators.specs.declared.row.Spot.{Spot}
use Rattle.aml_operators.specs.declared.row.Spot.TheVariants as spot
use Rattle.aml_operators.specs.declared.row.Piece.{Piece}
use Rattle.aml_operators.specs.declared.row.Piece.TheVariants as piece
use Rattle.aml_operators.specs.declared.row.Letter.{Letter}
use Rattle.aml_operators.specs.declared.row.Letter.TheVariants.{One, Sized, Package, Branch, Terms, Fields, Bytes}
use Rattle.aml_operators.specs.Table.{letters_of}
use Rattle.aml_operators.specs.Fields.{pieces_of}
use Rattle.aml_operators.specs.Tree.{Tree, Node, none, stop_of}
use Rattle.aml_lex.specs.NameStrings.{NameString}
use Rattle.aml_tree.specs.declared.fault.Refusal.{Refusal}
use Rattle.aml_tree.specs.Fault.{◌>>=◌}
use Rattle.aml_tree.specs.Leaf.{byte_at, name_at}
use Rattle.aml_tree.specs.Opening.{Opening, NoTarget, PlainName, InvokedName, Operator}
use Rattle.aml_tree.specs.Begins.{HasNoTarget}
use Rattle.aml_tree.proofs.Combining.{of_ok}
use Rattle.aml_tree.proofs.Leaves.{end_in}
use Rattle.aml_tree.proofs.Beginnings.{opening_full}
use Rattle.aml_lex.specs.Standing.{is_byte}
use Rattle.aml_tree.specs.Reading.{item_next, terms_until, terms_counted, connection_at, piece_at, pieces_at, item_of_kind, item_at, items_until, else_at, parts_at, form_at, deepest_at, term_at}
use Rattle.aml_tree.specs.Grammar.{AreTerms, IsConnection, IsPiece, ArePieces, IsItem, AreItems, IsElse, Meets, Follows, IsNameLeaf, IsTerm}
use Rattle.aml_tree.proofs.Bounds.{item_in, term_in}

pub not_below : (a b : ℕ) → b ≤ a → (t : Bool) → nat_lt a b ≡ t → t ≡ false
not_below a b le true e = let lt : a < b = ltb-true _ _ e in absurd (omega arith)
not_below a b le false e = refl

pub other_byte : (b : ℕ) (o : Option ℕ) → (o ≡ Some b → ⊥) → (v : Bool) → is_byte b o ≡ v → v ≡ false
other_byte b o ne false e = refl
other_byte b None ne true e = absurd cc
other_byte b (Some c) ne true e = absurd (ne (ap Some (eqb-true _ _ e)))

name_leaf_full : (bytes : List ℕ) (at : ℕ) (t : Tree) → IsNameLeaf bytes at t → (name_at bytes at >>= λ r. Ok (Node op.NameString at r.1 none)) ≡ Ok t
name_leaf_full bytes at t h = rw (h.2, h.3)

module _ (arity : NameString → ℕ → ℕ) (below : ℕ → Spot → List ℕ → ℕ → Result Tree Refusal) (Below : ℕ → Spot → List ℕ → ℕ → Tree → Type 0)
    (full : (own : ℕ) (s : Spot) (bytes : List ℕ) (at : ℕ) (t : Tree) → Below own s bytes at t → below own s bytes at ≡ Ok t)
    (within : (own : ℕ) (s : Spot) (bytes : List ℕ) (at : ℕ) (t : Tree) → Below own s bytes at t → (at < stop_of t) × (stop_of t ≤ length bytes)) where
  pub until_full : (own : ℕ) (s : Spot) (bytes : List ℕ) (n : ℕ) (front : List Tree) (at stop : ℕ) (ts : List Tree) → AreTerms arity Below own s bytes at stop ts → stop ≡ length bytes → length bytes ≤ at + n → terms_until arity below own s bytes n front at ≡ Ok (front ++ ts, stop)
  until_full own s bytes zero front at stop [] h e le = rw (append-nil front, h)
  until_full own s bytes zero front at stop (t ∷ ts) h e le = let w = within own s bytes at t h.0 in absurd (omega (arith, w))
  until_full own s bytes (suc n) front at stop [] h e le =
      let test : nat_lt at (length bytes) ≡ false = not_below at (length bytes) (omega (arith, h)) (nat_lt at (length bytes)) refl in
      rw (test, append-nil front, h)
  until_full own s bytes (suc n) front at stop (t ∷ ts) h e le =
      let w = within own s bytes at t h.0 in
      let test : nat_lt at (length bytes) ≡ true = lt-ltb at (length bytes) (omega (arith, w)) in
      rw (test, full own s bytes at t h.0, until_full own s bytes n (front ++ t ∷ []) (stop_of t) stop ts h.1 e (omega (arith, w)), append_assoc front (t ∷ []) ts)

  pub counted_full : (own : ℕ) (bytes : List ℕ) (front : List Tree) (at stop : ℕ) (ts : List Tree) → AreTerms arity Below own spot.Term bytes at stop ts → terms_counted arity below own bytes (length ts) front at ≡ Ok (front ++ ts, stop)
  counted_full own bytes front at stop [] h = rw (append-nil front, h)
  counted_full own bytes front at stop (t ∷ ts) h = rw (full own spot.Term bytes at t h.0, counted_full own bytes (front ++ t ∷ []) (stop_of t) stop ts h.1, append_assoc front (t ∷ []) ts)

  pub connection_full : (own : ℕ) (bytes : List ℕ) (at : ℕ) (t : Tree) → IsConnection arity Below own bytes at t → connection_at arity below own bytes at ≡ Ok t
  unfolding connection_at
  connection_full own bytes at t (inl h) = rw (h.0, full own spot.Connection bytes at t h.1)
  connection_full own bytes at t (inr h) =
      let test : is_byte 0x11 (slice_get bytes at) ≡ false = other_byte 0x11 (slice_get bytes at) h.0 (is_byte 0x11 (slice_get bytes at)) refl in
      rw test (name_leaf_full bytes at t h.1)

  pub piece_full : (p : Piece) (own : ℕ) (bytes : List ℕ) (at : ℕ) (t : Tree) → IsPiece arity Below p own bytes at t → piece_at arity below p own bytes at ≡ Ok t
  unfolding piece_at
  piece_full (piece.Term s) own bytes at t h = full own s bytes at t h
  piece_full piece.NameString own bytes at t h = name_leaf_full bytes at t h
  piece_full (piece.Number size) own bytes at t h = rw (h.2, h.3)
  piece_full piece.Bits own bytes at t h = rw (h.2, h.3)
  piece_full piece.Text own bytes at t h = rw (h.2, h.3)
  piece_full piece.Connection own bytes at t h = connection_full own bytes at t h

  pub pieces_full : (ps : List Piece) (own : ℕ) (bytes : List ℕ) (front : List Tree) (at stop : ℕ) (ts : List Tree) → ArePieces arity Below ps own bytes at stop ts → pieces_at arity below ps own bytes front at ≡ Ok (front ++ ts, stop)
  unfolding pieces_at
  pieces_full [] own bytes front at stop ts h = rw (h.0, h.1, append-nil front)
  pieces_full (p ∷ rest) own bytes front at stop ts h = rw (piece_full p own bytes at h.0 h.3, pieces_full rest own bytes (front ++ h.0 ∷ []) (stop_of h.0) stop h.1 h.4, append_assoc front (h.0 ∷ []) h.1, h.2)

  pub item_full : (own : ℕ) (bytes : List ℕ) (at : ℕ) (t : Tree) → IsItem arity Below own bytes at t → item_at arity below own bytes at ≡ Ok t
  unfolding item_at item_of_kind byte_at
  item_full own bytes at t h = rw (h.4, h.5, pieces_full (pieces_of h.1) own bytes [] (item_next h.1 at) h.2 h.3 h.6, h.7)

  pub items_full : (own : ℕ) (bytes : List ℕ) (n : ℕ) (front : List Tree) (at stop : ℕ) (ts : List Tree) → AreItems arity Below own bytes at stop ts → stop ≡ length bytes → length bytes ≤ at + n → items_until arity below own bytes n front at ≡ Ok (front ++ ts, stop)
  items_full own bytes zero front at stop [] h e le = rw (append-nil front, h)
  items_full own bytes zero front at stop (t ∷ ts) h e le = let w = item_in arity Below within own bytes at t h.0 in absurd (omega (arith, w))
  items_full own bytes (suc n) front at stop [] h e le =
      let test : nat_lt at (length bytes) ≡ false = not_below at (length bytes) (omega (arith, h)) (nat_lt at (length bytes)) refl in
      rw (test, append-nil front, h)
  items_full own bytes (suc n) front at stop (t ∷ ts) h e le =
      let w = item_in arity Below within own bytes at t h.0 in
      let test : nat_lt at (length bytes) ≡ true = lt-ltb at (length bytes) (omega (arith, w)) in
      rw (test, item_full own bytes at t h.0, items_full own bytes n (front ++ t ∷ []) (stop_of t) stop ts h.1 e (omega (arith, w)), append_assoc front (t ∷ []) ts)

  pub else_full : (own : ℕ) (front : List Tree) (bytes : List ℕ) (at stop : ℕ) (ts : List Tree) → IsElse arity Below own bytes at stop ts → else_at arity below own front bytes at ≡ Ok (front ++ ts, stop)
  unfolding else_at
  else_full own front bytes at stop [] h =
      let test : is_byte 0xA1 (slice_get bytes at) ≡ false = other_byte 0xA1 (slice_get bytes at) h.0 (is_byte 0xA1 (slice_get bytes at)) refl in
      rw (test, append-nil front, h.1)
  else_full own front bytes at stop (t ∷ ts) h =
      let lt = slice_get_within bytes at 0xA1 h.0 in
      let w = of_ok _ _ _ _ (end_in bytes (at + 1) (omega (arith, lt))) h.1.2 in
      let l : length (take stop bytes) ≡ stop = length-take-le stop bytes w.2 in
      let all = until_full own spot.Statement (take stop bytes) (length (take stop bytes)) [] h.1.0 stop h.1.1 h.1.3 (sym l) (omega arith) in
      rw (h.0, h.1.2, all, h.1.4, h.1.5)

  pub parts_full : (ls : List Letter) (own : ℕ) (bytes : List ℕ) (front : List Tree) (at stop : ℕ) (ts : List Tree) → Meets arity Below ls own bytes at stop ts → parts_at arity below ls own bytes front at ≡ Ok (front ++ ts, stop)
  unfolding parts_at
  parts_full [] own bytes front at stop ts h = rw (h.0, h.1, append-nil front)
  parts_full (One p ∷ rest) own bytes front at stop ts h = rw (piece_full p own bytes at h.0 h.3, parts_full rest own bytes (front ++ h.0 ∷ []) (stop_of h.0) stop h.1 h.4, append_assoc front (h.0 ∷ []) h.1, h.2)
  parts_full (Sized l ∷ rest) own bytes front at stop ts h = rw (full own spot.Size bytes at h.0 h.3, h.4, parts_full rest own bytes (front ++ h.0 ∷ []) (stop_of h.0) stop h.1 h.5, append_assoc front (h.0 ∷ []) h.1, h.2)
  parts_full (Package ∷ rest) own bytes front at stop ts h = rw (h.2, parts_full rest own (take h.0 bytes) front h.1 stop ts h.3)
  parts_full (Branch ∷ rest) own bytes front at stop ts h = rw (h.6, parts_full rest own (take h.0 bytes) front h.1 h.2 h.3 h.7, else_full own (front ++ h.3) bytes h.2 stop h.4 h.8, append_assoc front h.3 h.4, h.5)
  parts_full (Terms s ∷ rest) own bytes front at stop ts h = until_full own s bytes (length bytes) front at stop ts h.0 h.1 (omega arith)
  parts_full (Fields ∷ rest) own bytes front at stop ts h = items_full own bytes (length bytes) front at stop ts h.0 h.1 (omega arith)
  parts_full (Bytes ∷ rest) own bytes front at stop ts h = rw (h.0, h.1)

  pub form_full : (o : Opening) (bytes : List ℕ) (at : ℕ) (t : Tree) → Follows arity Below o bytes at t → form_at arity below o bytes at ≡ Ok t
  unfolding form_at
  form_full NoTarget bytes at t h = rw h
  form_full PlainName bytes at t h = name_leaf_full bytes at t h
  form_full InvokedName bytes at t h = rw (h.4, ← h.5, counted_full at bytes (Node op.NameString at h.1 none ∷ []) h.1 h.2 h.3 h.6, h.7)
  form_full (Operator o next) bytes at t h = rw (parts_full (letters_of o) at bytes [] next h.0 h.1 h.2, h.3)

deepest_full : (s : Spot) (bytes : List ℕ) (at : ℕ) (t : Tree) → HasNoTarget s bytes at → t ≡ Node op.NullName at (at + 1) none → deepest_at s bytes at ≡ Ok t
unfolding deepest_at byte_at
deepest_full s bytes at t h e = rw (h.1, h.0, e)

pub term_full : (code : Code) (arity : NameString → ℕ → ℕ) (d asker : ℕ) (s : Spot) (bytes : List ℕ) (at : ℕ) (t : Tree) → IsTerm code arity d asker s bytes at t → term_at code arity d asker s bytes at ≡ Ok t
unfolding term_at
term_full code arity zero asker s bytes at t h = deepest_full s bytes at t h.0 h.1
term_full code arity (suc d) asker s bytes at t h =
    rw (opening_full code asker s bytes at h.0 h.1, form_full arity (term_at code arity d) (IsTerm code arity d) (term_full code arity d) (term_in code arity d) h.0 bytes at t h.2)

-- bytes have at most one term from a place on
pub one_term : (code : Code) (arity : NameString → ℕ → ℕ) (d asker : ℕ) (s : Spot) (bytes : List ℕ) (at : ℕ) (t u : Tree) → IsTerm code arity d asker s bytes at t → IsTerm code arity d asker s bytes at u → t ≡ u
one_term code arity d asker s bytes at t u a b = let x = term_full code arity d asker s bytes at t a in let y = term_full code arity d asker s bytes at u b in cc (x, y)

-- What is read meets its letters, or is faulty by the same cases.
use Rattle.std.proofs.Common.{◌≡◌, ℕ, zero, suc, ◌+◌, ◌-◌, ◌≤◌, ◌<◌, inl, inr, List, [], ◌∷◌, ◌++◌, take, length, Option, Some, None, Result, Ok, Err, refl, sym, ap, ◌∙◌, subst, arith, append_assoc}
use Rattle.std.specs.Prelude.{nat_lt, slice_get, true, false}
use Rattle.std.proofs.lemmas.Bool.{ltb-false, ltb-true, eqb-true}
use Rattle.std.proofs.lemmas.Bool.Decides.{nat_tests}
use Rattle.std.proofs.lemmas.List.{append-nil, length-take-le}
use Rattle.std.proofs.lemmas.Option.{slice_get_within}
use Rattle.aml_operators.specs.declared.op.Op.{Op}
use Rattle.aml_operators.specs.declared.op.Op.TheVariants as op
use Rattle.aml_operators.specs.declared.row.Spot.{Spot}
use Rattle.aml_operators.specs.declared.row.Spot.TheVariants as spot
use Rattle.aml_operators.specs.declared.row.Piece.{Piece}
use Rattle.aml_operators.specs.declared.row.Piece.TheVariants as piece
use Rattle.aml_operators.specs.declared.row.Letter.{Letter}
use Rattle.aml_operators.specs.declared.row.Letter.TheVariants.{One, Sized, Package, Branch, Terms, Fields, Bytes}
use Rattle.aml_operators.specs.Table.{letters_of}
use Rattle.aml_operators.specs.Places.{size_of}
use Rattle.aml_operators.specs.Fields.{item_of, pieces_of}
use Rattle.aml_operators.specs.Tree.{Tree, Node, none, trees, stop_of}
use Rattle.aml_lex.specs.NameStrings.{NameString}
use Rattle.aml_tree.specs.declared.fault.Refusal.{Refusal}
use Rattle.aml_tree.specs.Fault.{◌>>=◌}
use Rattle.aml_tree.specs.Leaf.{byte_at, end_at, name_at, bits_at, text_at, little_endian_at}
use Rattle.aml_tree.specs.Opening.{Opening, NoTarget, PlainName, InvokedName, Operator}
use Rattle.aml_tree.specs.Answers.{Answers}
use Rattle.aml_tree.proofs.Combining.{then_answers, and_answers, weaker, by_test, of_ok}
use Rattle.aml_tree.proofs.Leaves.{Ended, byte_is, end_in}
use Rattle.aml_tree.proofs.Beginnings.{Fits}
use Rattle.aml_operators.specs.Literal.{literal_of}
use Rattle.aml_lex.specs.Standing.{is_byte}
use Rattle.aml_tree.specs.Reading.{item_next, is_above, terms_until, terms_counted, connection_at, piece_at, pieces_at, item_of_kind, item_at, items_until, else_at, parts_at, form_at}
use Rattle.aml_tree.specs.Grammar.{AreTerms, IsConnection, IsPiece, ArePieces, IsItem, AreItems, IsElse, Meets, Follows, IsNameLeaf, FaultyTerms, FaultyConnection, FaultyPiece, FaultyPieces, FaultyItem, FaultyItems, FaultyElse, FaultyParts, FaultyForm}
use Rattle.aml_tree.proofs.Bounds.{piece_in, item_in}

-- the byte that is asked for, or another, or none
byte_there : (b : ℕ) (o : Option ℕ) → is_byte b o ≡ true → o ≡ Some b
byte_there b None e = absurd cc
byte_there b (Some c) e = ap Some (eqb-true _ _ e)

not_there : (b : ℕ) (o : Option ℕ) → is_byte b o ≡ false → o ≡ Some b → ⊥
not_there b o e q = let h : is_byte b (Some b) ≡ false = rw q at e in same_byte b h
  where
    same_byte : (b : ℕ) → is_byte b (Some b) ≡ false → ⊥
    same_byte b h = grind (arith, nat_tests)

name_leaf_right : (bytes : List ℕ) (at : ℕ) → Answers (name_at bytes at >>= λ r. Ok (Node op.NameString at r.1 none)) (IsNameLeaf bytes at) (λ f. name_at bytes at ≡ Err f)
name_leaf_right bytes at = then_answers (name_at bytes at) _ _ _ (λ r q. (r.0, r.1, q, refl)) (λ f q. q)

module _ (arity : NameString → ℕ → ℕ) (below : ℕ → Spot → List ℕ → ℕ → Result Tree Refusal) (Below : ℕ → Spot → List ℕ → ℕ → Tree → Type 0) (Bad : ℕ → Spot → List ℕ → ℕ → Refusal → Type 0)
    (right : (own : ℕ) (s : Spot) (bytes : List ℕ) (at : ℕ) → Answers (below own s bytes at) (Below own s bytes at) (Bad own s bytes at))
    (within : (own : ℕ) (s : Spot) (bytes : List ℕ) (at : ℕ) (t : Tree) → Below own s bytes at t → (at < stop_of t) × (stop_of t ≤ length bytes)) where
  -- the terms that came behind those in front
  abbrev pub Until : ℕ → Spot → List ℕ → List Tree → ℕ → List Tree × ℕ → Type 0
  Until own s bytes front at r = (ts : List Tree) × (r.0 ≡ front ++ ts) × AreTerms arity Below own s bytes at r.1 ts × (r.1 ≡ length bytes)

  pub until_right : (own : ℕ) (s : Spot) (bytes : List ℕ) (n : ℕ) (front : List Tree) (at : ℕ) → length bytes ≤ at + n → at ≤ length bytes → Answers (terms_until arity below own s bytes n front at) (Until own s bytes front at) (FaultyTerms arity Below Bad own s bytes at)
  until_right own s bytes zero front at le ge = ([], sym (append-nil front), refl, omega arith)
  until_right own s bytes (suc n) front at le ge = by_test (nat_lt at (length bytes)) _ _ (Until own s bytes front at) (FaultyTerms arity Below Bad own s bytes at)
      (λ q. let lt : at < length bytes = ltb-true _ _ q in
      and_answers (below own s bytes at) (Below own s bytes at) (Bad own s bytes at) _ (Until own s bytes front at) (FaultyTerms arity Below Bad own s bytes at) (right own s bytes at)
      (λ t b. let w = within own s bytes at t b in
      weaker _ (Until own s bytes (front ++ t ∷ []) (stop_of t)) (FaultyTerms arity Below Bad own s bytes (stop_of t)) (Until own s bytes front at) (FaultyTerms arity Below Bad own s bytes at) (until_right own s bytes n (front ++ t ∷ []) (stop_of t) (omega (arith, w)) w.1)
      (λ r h. (t ∷ h.0, h.1 ∙ append_assoc front (t ∷ []) h.0, (b, h.2), h.3))
      (λ f h. (h.0, t ∷ h.1, (b, h.2), h.3, h.4)))
      (λ f b. (at, [], refl, lt, b)))
      (λ q. let over : length bytes ≤ at = ltb-false _ _ q in ([], sym (append-nil front), refl, omega arith))

  abbrev Counted : ℕ → List ℕ → ℕ → List Tree → ℕ → List Tree × ℕ → Type 0
  Counted own bytes n front at r = (ts : List Tree) × (r.0 ≡ front ++ ts) × (length ts ≡ n) × AreTerms arity Below own spot.Term bytes at r.1 ts

  abbrev Short : ℕ → List ℕ → ℕ → ℕ → Refusal → Type 0
  Short own bytes n at f = (to : ℕ) × (ts : List Tree) × (length ts < n) × AreTerms arity Below own spot.Term bytes at to ts × Bad own spot.Term bytes to f

  counted_right : (own : ℕ) (bytes : List ℕ) (n : ℕ) (front : List Tree) (at : ℕ) → Answers (terms_counted arity below own bytes n front at) (Counted own bytes n front at) (Short own bytes n at)
  counted_right own bytes zero front at = ([], sym (append-nil front), refl, refl)
  counted_right own bytes (suc n) front at = and_answers (below own spot.Term bytes at) (Below own spot.Term bytes at) (Bad own spot.Term bytes at) _ (Counted own bytes (suc n) front at) (Short own bytes (suc n) at) (right own spot.Term bytes at)
      (λ t b. weaker _ (Counted own bytes n (front ++ t ∷ []) (stop_of t)) (Short own bytes n (stop_of t)) (Counted own bytes (suc n) front at) (Short own bytes (suc n) at) (counted_right own bytes n (front ++ t ∷ []) (stop_of t))
      (λ r h. (t ∷ h.0, h.1 ∙ append_assoc front (t ∷ []) h.0, ap suc h.2, (b, h.3)))
      (λ f h. (h.0, t ∷ h.1, omega (arith, h.2), (b, h.3), h.4)))
      (λ f b. (at, [], omega arith, refl, b))

  connection_right : (own : ℕ) (bytes : List ℕ) (at : ℕ) → Answers (connection_at arity below own bytes at) (IsConnection arity Below own bytes at) (FaultyConnection arity Below Bad own bytes at)
  unfolding connection_at
  connection_right own bytes at = by_test (is_byte 0x11 (slice_get bytes at)) _ _ (IsConnection arity Below own bytes at) (FaultyConnection arity Below Bad own bytes at)
      (λ q. let is = byte_there 0x11 (slice_get bytes at) q in
      weaker _ (Below own spot.Connection bytes at) (Bad own spot.Connection bytes at) (IsConnection arity Below own bytes at) (FaultyConnection arity Below Bad own bytes at) (right own spot.Connection bytes at) (λ t b. inl (is, b)) (λ f b. inl (is, b)))
      (λ q. let other = not_there 0x11 (slice_get bytes at) q in
      weaker _ (IsNameLeaf bytes at) (λ f. name_at bytes at ≡ Err f) (IsConnection arity Below own bytes at) (FaultyConnection arity Below Bad own bytes at) (name_leaf_right bytes at) (λ t h. inr (other, h)) (λ f h. inr (other, h)))

  piece_right : (p : Piece) (own : ℕ) (bytes : List ℕ) (at : ℕ) → Answers (piece_at arity below p own bytes at) (IsPiece arity Below p own bytes at) (FaultyPiece arity Below Bad p own bytes at)
  unfolding piece_at
  piece_right (piece.Term s) own bytes at = right own s bytes at
  piece_right piece.NameString own bytes at = name_leaf_right bytes at
  piece_right (piece.Number size) own bytes at = then_answers (little_endian_at (size_of size) bytes at) _ _ _ (λ r q. (r.0, r.1, q, refl)) (λ f q. q)
  piece_right piece.Bits own bytes at = then_answers (bits_at bytes at) _ _ _ (λ r q. (r.0, r.1, q, refl)) (λ f q. q)
  piece_right piece.Text own bytes at = then_answers (text_at bytes at) _ _ _ (λ r q. (r.0, r.1, q, refl)) (λ f q. q)
  piece_right piece.Connection own bytes at = connection_right own bytes at

  abbrev Pieces : List Piece → ℕ → List ℕ → List Tree → ℕ → List Tree × ℕ → Type 0
  Pieces ps own bytes front at r = (ts : List Tree) × (r.0 ≡ front ++ ts) × ArePieces arity Below ps own bytes at r.1 ts

  pieces_right : (ps : List Piece) (own : ℕ) (bytes : List ℕ) (front : List Tree) (at : ℕ) → Answers (pieces_at arity below ps own bytes front at) (Pieces ps own bytes front at) (FaultyPieces arity Below Bad ps own bytes at)
  unfolding pieces_at
  pieces_right [] own bytes front at = ([], sym (append-nil front), (refl, refl))
  pieces_right (p ∷ rest) own bytes front at =
      and_answers (piece_at arity below p own bytes at) (IsPiece arity Below p own bytes at) (FaultyPiece arity Below Bad p own bytes at) _ (Pieces (p ∷ rest) own bytes front at) (FaultyPieces arity Below Bad (p ∷ rest) own bytes at) (piece_right p own bytes at)
      (λ t b. weaker _ (Pieces rest own bytes (front ++ t ∷ []) (stop_of t)) (FaultyPieces arity Below Bad rest own bytes (stop_of t)) (Pieces (p ∷ rest) own bytes front at) (FaultyPieces arity Below Bad (p ∷ rest) own bytes at) (pieces_right rest own bytes (front ++ t ∷ []) (stop_of t))
      (λ r h. (t ∷ h.0, h.1 ∙ append_assoc front (t ∷ []) h.0, (t, h.0, refl, b, h.2)))
      (λ f h. inr (t, b, h)))
      (λ f b. inl b)

  abbrev Items : ℕ → List ℕ → List Tree → ℕ → List Tree × ℕ → Type 0
  Items own bytes front at r = (ts : List Tree) × (r.0 ≡ front ++ ts) × AreItems arity Below own bytes at r.1 ts × (r.1 ≡ length bytes)

  -- a byte that is there, and what is wrong behind it
  kind_right : (k : Option Op) (own : ℕ) (bytes : List ℕ) (at b : ℕ) → slice_get bytes at ≡ Some b → item_of b ≡ k → Answers (item_of_kind arity below k own bytes at) (IsItem arity Below own bytes at) (FaultyItem arity Below Bad own bytes at)
  unfolding item_of_kind
  kind_right None own bytes at b there e = (b, there, inl (e, refl))
  kind_right (Some o) own bytes at b there e =
      and_answers _ (Pieces (pieces_of o) own bytes [] (item_next o at)) (FaultyPieces arity Below Bad (pieces_of o) own bytes (item_next o at)) _ (IsItem arity Below own bytes at) (FaultyItem arity Below Bad own bytes at) (pieces_right (pieces_of o) own bytes [] (item_next o at))
      (λ r h. (b, o, r.1, h.0, there, e, h.2, ap (λ (x : List Tree). Node o at r.1 (trees x)) h.1))
      (λ f h. (b, there, inr (o, e, h)))

  item_right : (own : ℕ) (bytes : List ℕ) (at : ℕ) → at < length bytes → Answers (item_at arity below own bytes at) (IsItem arity Below own bytes at) (FaultyItem arity Below Bad own bytes at)
  unfolding item_at
  item_right own bytes at lt = and_answers (byte_at bytes at) (λ b. slice_get bytes at ≡ Some b) (Ended bytes at) _ (IsItem arity Below own bytes at) (FaultyItem arity Below Bad own bytes at) (byte_is bytes at)
      (λ b there. kind_right (item_of b) own bytes at b there refl)
      (λ f h. absurd (omega (arith, h.0)))

  items_right : (own : ℕ) (bytes : List ℕ) (n : ℕ) (front : List Tree) (at : ℕ) → length bytes ≤ at + n → at ≤ length bytes → Answers (items_until arity below own bytes n front at) (Items own bytes front at) (FaultyItems arity Below Bad own bytes at)
  items_right own bytes zero front at le ge = ([], sym (append-nil front), refl, omega arith)
  items_right own bytes (suc n) front at le ge = by_test (nat_lt at (length bytes)) _ _ (Items own bytes front at) (FaultyItems arity Below Bad own bytes at)
      (λ q. let lt : at < length bytes = ltb-true _ _ q in
      and_answers (item_at arity below own bytes at) (IsItem arity Below own bytes at) (FaultyItem arity Below Bad own bytes at) _ (Items own bytes front at) (FaultyItems arity Below Bad own bytes at) (item_right own bytes at lt)
      (λ t b. let w = item_in arity Below within own bytes at t b in
      weaker _ (Items own bytes (front ++ t ∷ []) (stop_of t)) (FaultyItems arity Below Bad own bytes (stop_of t)) (Items own bytes front at) (FaultyItems arity Below Bad own bytes at) (items_right own bytes n (front ++ t ∷ []) (stop_of t) (omega (arith, w)) w.1)
      (λ r h. (t ∷ h.0, h.1 ∙ append_assoc front (t ∷ []) h.0, (b, h.2), h.3))
      (λ f h. (h.0, t ∷ h.1, (b, h.2), h.3, h.4)))
      (λ f b. (at, [], refl, lt, b)))
      (λ q. let over : length bytes ≤ at = ltb-false _ _ q in ([], sym (append-nil front), refl, omega arith))

  abbrev Elses : ℕ → List ℕ → List Tree → ℕ → List Tree × ℕ → Type 0
  Elses own bytes front at r = (ts : List Tree) × (r.0 ≡ front ++ ts) × IsElse arity Below own bytes at r.1 ts

  else_right : (own : ℕ) (front : List Tree) (bytes : List ℕ) (at : ℕ) → Answers (else_at arity below own front bytes at) (Elses own bytes front at) (FaultyElse arity Below Bad own bytes at)
  unfolding else_at
  else_right own front bytes at = by_test (is_byte 0xA1 (slice_get bytes at)) _ _ (Elses own bytes front at) (FaultyElse arity Below Bad own bytes at)
      (λ q. let is = byte_there 0xA1 (slice_get bytes at) q in
      let lt = slice_get_within bytes at 0xA1 is in
      then_answers (end_at bytes (at + 1)) _ (Elses own bytes front at) (FaultyElse arity Below Bad own bytes at)
      (λ p e. let w = of_ok _ _ _ _ (end_in bytes (at + 1) (omega (arith, lt))) e in
      let l : length (take p.0 bytes) ≡ p.0 = length-take-le p.0 bytes w.2 in
      and_answers _ (Until own spot.Statement (take p.0 bytes) [] p.1) (FaultyTerms arity Below Bad own spot.Statement (take p.0 bytes) p.1) _ (Elses own bytes front at) (FaultyElse arity Below Bad own bytes at) (until_right own spot.Statement (take p.0 bytes) (length (take p.0 bytes)) [] p.1 (omega arith) (omega (arith, l, w)))
      (λ r h. let stops : r.1 ≡ p.0 = h.3 ∙ l in
      let inside : AreTerms arity Below own spot.Statement (take p.0 bytes) p.1 r.1 r.0 = rw h.1 h.2 in
      let filled : AreTerms arity Below own spot.Statement (take p.0 bytes) p.1 p.0 r.0 = subst (λ (x : ℕ). AreTerms arity Below own spot.Statement (take p.0 bytes) p.1 x r.0) stops inside in
      (Node op.Else at p.0 (trees r.0) ∷ [], refl, (is, (p.1, r.0, e, filled, refl, refl))))
      (λ f h. (is, inr (p.0, p.1, e, h))))
      (λ f e. (is, inl e)))
      (λ q. ([], sym (append-nil front), (not_there 0xA1 (slice_get bytes at) q, refl)))

  abbrev Parts : List Letter → ℕ → List ℕ → List Tree → ℕ → List Tree × ℕ → Type 0
  Parts ls own bytes front at r = (ts : List Tree) × (r.0 ≡ front ++ ts) × Meets arity Below ls own bytes at r.1 ts

  parts_right : (ls : List Letter) (own : ℕ) (bytes : List ℕ) (front : List Tree) (at : ℕ) → at ≤ length bytes → Answers (parts_at arity below ls own bytes front at) (Parts ls own bytes front at) (FaultyParts arity Below Bad ls own bytes at)
  unfolding parts_at
  parts_right [] own bytes front at le = ([], sym (append-nil front), (refl, refl))
  parts_right (One p ∷ rest) own bytes front at le =
      and_answers (piece_at arity below p own bytes at) (IsPiece arity Below p own bytes at) (FaultyPiece arity Below Bad p own bytes at) _ (Parts (One p ∷ rest) own bytes front at) (FaultyParts arity Below Bad (One p ∷ rest) own bytes at) (piece_right p own bytes at)
      (λ t b. weaker _ (Parts rest own bytes (front ++ t ∷ []) (stop_of t)) (FaultyParts arity Below Bad rest own bytes (stop_of t)) (Parts (One p ∷ rest) own bytes front at) (FaultyParts arity Below Bad (One p ∷ rest) own bytes at) (parts_right rest own bytes (front ++ t ∷ []) (stop_of t) (piece_in arity Below within p own bytes at t le b).1)
      (λ r h. (t ∷ h.0, h.1 ∙ append_assoc front (t ∷ []) h.0, (t, h.0, refl, b, h.2)))
      (λ f h. inr (t, b, h)))
      (λ f b. inl b)
  parts_right (Sized l ∷ rest) own bytes front at le =
      and_answers (below own spot.Size bytes at) (Below own spot.Size bytes at) (Bad own spot.Size bytes at) _ (Parts (Sized l ∷ rest) own bytes front at) (FaultyParts arity Below Bad (Sized l ∷ rest) own bytes at) (right own spot.Size bytes at)
      (λ t b. by_test (is_above l (literal_of t) (length bytes - stop_of t)) _ _ (Parts (Sized l ∷ rest) own bytes front at) (FaultyParts arity Below Bad (Sized l ∷ rest) own bytes at)
      (λ q. inr (t, b, inl (q, refl)))
      (λ q. weaker _ (Parts rest own bytes (front ++ t ∷ []) (stop_of t)) (FaultyParts arity Below Bad rest own bytes (stop_of t)) (Parts (Sized l ∷ rest) own bytes front at) (FaultyParts arity Below Bad (Sized l ∷ rest) own bytes at) (parts_right rest own bytes (front ++ t ∷ []) (stop_of t) (within own spot.Size bytes at t b).1)
      (λ r h. (t ∷ h.0, h.1 ∙ append_assoc front (t ∷ []) h.0, (t, h.0, refl, b, q, h.2)))
      (λ f h. inr (t, b, inr (q, h)))))
      (λ f b. inl b)
  parts_right (Package ∷ rest) own bytes front at le =
      then_answers (end_at bytes at) _ (Parts (Package ∷ rest) own bytes front at) (FaultyParts arity Below Bad (Package ∷ rest) own bytes at)
      (λ p e. let w = of_ok _ _ _ _ (end_in bytes at le) e in
      let l : length (take p.0 bytes) ≡ p.0 = length-take-le p.0 bytes w.2 in
      weaker _ (Parts rest own (take p.0 bytes) front p.1) (FaultyParts arity Below Bad rest own (take p.0 bytes) p.1) (Parts (Package ∷ rest) own bytes front at) (FaultyParts arity Below Bad (Package ∷ rest) own bytes at) (parts_right rest own (take p.0 bytes) front p.1 (omega (arith, l, w)))
      (λ r h. (h.0, h.1, (p.0, p.1, e, h.2)))
      (λ f h. inr (p.0, p.1, e, h)))
      (λ f e. inl e)
  parts_right (Branch ∷ rest) own bytes front at le =
      then_answers (end_at bytes at) _ (Parts (Branch ∷ rest) own bytes front at) (FaultyParts arity Below Bad (Branch ∷ rest) own bytes at)
      (λ p e. let w = of_ok _ _ _ _ (end_in bytes at le) e in
      let l : length (take p.0 bytes) ≡ p.0 = length-take-le p.0 bytes w.2 in
      and_answers _ (Parts rest own (take p.0 bytes) front p.1) (FaultyParts arity Below Bad rest own (take p.0 bytes) p.1) _ (Parts (Branch ∷ rest) own bytes front at) (FaultyParts arity Below Bad (Branch ∷ rest) own bytes at) (parts_right rest own (take p.0 bytes) front p.1 (omega (arith, l, w)))
      (λ r h. weaker _ (Elses own bytes r.0 r.1) (FaultyElse arity Below Bad own bytes r.1) (Parts (Branch ∷ rest) own bytes front at) (FaultyParts arity Below Bad (Branch ∷ rest) own bytes at) (else_right own r.0 bytes r.1)
      (λ q k. (h.0 ++ k.0, k.1 ∙ ap (λ (x : List Tree). x ++ k.0) h.1 ∙ append_assoc front h.0 k.0, (p.0, p.1, r.1, h.0, k.0, refl, e, h.2, k.2)))
      (λ f k. inr (p.0, p.1, e, inr (r.1, h.0, h.2, k))))
      (λ f h. inr (p.0, p.1, e, inl h)))
      (λ f e. inl e)
  parts_right (Terms s ∷ rest) own bytes front at le = weaker _ (Until own s bytes front at) (FaultyTerms arity Below Bad own s bytes at) (Parts (Terms s ∷ rest) own bytes front at) (FaultyTerms arity Below Bad own s bytes at) (until_right own s bytes (length bytes) front at (omega arith) le) (λ r h. (h.0, h.1, (h.2, h.3))) (λ f h. h)
  parts_right (Fields ∷ rest) own bytes front at le = weaker _ (Items own bytes front at) (FaultyItems arity Below Bad own bytes at) (Parts (Fields ∷ rest) own bytes front at) (FaultyItems arity Below Bad own bytes at) (items_right own bytes (length bytes) front at (omega arith) le) (λ r h. (h.0, h.1, (h.2, h.3))) (λ f h. h)
  parts_right (Bytes ∷ rest) own bytes front at le = (Node op.ByteList at (length bytes) none ∷ [], refl, (refl, refl))

  pub form_right : (o : Opening) (bytes : List ℕ) (at : ℕ) → Fits bytes at o → Answers (form_at arity below o bytes at) (Follows arity Below o bytes at) (FaultyForm arity Below Bad o bytes at)
  unfolding form_at
  form_right NoTarget bytes at fits = refl
  form_right PlainName bytes at fits = name_leaf_right bytes at
  form_right InvokedName bytes at fits =
      then_answers (name_at bytes at) _ (Follows arity Below InvokedName bytes at) (FaultyForm arity Below Bad InvokedName bytes at)
      (λ p q. let n = arity p.0 at in
      and_answers _ (Counted at bytes n (Node op.NameString at p.1 none ∷ []) p.1) (Short at bytes n p.1) _ (Follows arity Below InvokedName bytes at) (FaultyForm arity Below Bad InvokedName bytes at) (counted_right at bytes n (Node op.NameString at p.1 none ∷ []) p.1)
      (λ r h. (p.0, p.1, r.1, h.0, q, h.2, h.3, ap (λ (x : List Tree). Node op.Invocation at r.1 (trees x)) h.1))
      (λ f h. inr (p.0, p.1, h.0, h.1, q, h.2, h.3, h.4)))
      (λ f q. inl q)
  form_right (Operator o next) bytes at fits =
      and_answers _ (Parts (letters_of o) at bytes [] next) (FaultyParts arity Below Bad (letters_of o) at bytes next) _ (Follows arity Below (Operator o next) bytes at) (FaultyForm arity Below Bad (Operator o next) bytes at) (parts_right (letters_of o) at bytes [] next fits.1)
      (λ r h. (r.1, h.0, h.2, ap (λ (x : List Tree). Node o at r.1 (trees x)) h.1))
      (λ f h. h)

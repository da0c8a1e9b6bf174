-- The data of a module's Names stands in its table, in the bytes up to its end.
use Rattle.std.proofs.Common.{◌≡◌, ℕ, zero, suc, ◌+◌, ◌<◌, ◌≤◌, inl, inr, List, [], ◌∷◌, take, length, sym, ap, subst, arith, ◌∙◌}
use Rattle.std.specs.Prelude.{true, min}
use Rattle.std.proofs.lemmas.List.{length-take, take-take, take_all}
use Rattle.aml_operators.specs.declared.op.Op.{Op}
use Rattle.aml_operators.specs.declared.op.Op.TheVariants as op
use Rattle.aml_operators.specs.declared.row.Code.TheVariants as code
use Rattle.aml_operators.specs.declared.row.Spot.{Spot}
use Rattle.aml_operators.specs.declared.row.Spot.TheVariants as spot
use Rattle.aml_operators.specs.declared.row.Piece.{Piece}
use Rattle.aml_operators.specs.declared.row.Piece.TheVariants as piece
use Rattle.aml_operators.specs.declared.row.Letter.{Letter}
use Rattle.aml_operators.specs.declared.row.Letter.TheVariants.{One, Sized, Package, Branch, Terms, Fields, Bytes}
use Rattle.aml_operators.specs.Table.{letters_of}
use Rattle.aml_operators.specs.Fields.{pieces_of}
use Rattle.aml_operators.specs.Shape.{is_item}
use Rattle.aml_operators.specs.Tree.{Tree, Trees, Node, none, more, trees, stop_of, joined}
use Rattle.aml_operators.proofs.Shapes.{trees_append, item_of_item}
use Rattle.aml_tree.specs.Opening.{Opening, NoTarget, PlainName, InvokedName, Operator}
use Rattle.aml_tree.specs.Reading.{item_next}
use Rattle.aml_tree.specs.Grammar.{AreTerms, IsConnection, IsPiece, ArePieces, IsItem, AreItems, IsElse, Meets, Follows, IsNameLeaf, IsTerm}
use Rattle.aml_tree.specs.Body.{IsModule, greatest_depth, module_start, no_arguments}
use Rattle.aml_tree.specs.Data.{IsData}
use Rattle.aml_tree.proofs.Bounds.{term_in}
use Rattle.aml_namespace.specs.Made.{at_of}
use Rattle.aml_literal_laws.proofs.Deeper.{term_deeper}
use Rattle.aml_literal_laws.proofs.Fronts.{data_cut, package_within}

-- data that is read from its place on in the bytes up to its end
abbrev pub StandsAt : List ℕ → Tree → Type 0
StandsAt bytes t = IsData (take (stop_of t) bytes) (at_of t) t × (at_of t < stop_of t) × (stop_of t ≤ length bytes)

-- the data of a Name does
abbrev pub PlacedBy : List ℕ → Op → Trees → Type 0
PlacedBy bytes op.Name (more name (more t none)) = StandsAt bytes t
PlacedBy bytes o parts = Unit {0}

abbrev mutual
  pub IsPlaced : List ℕ → Tree → Type 0
  IsPlaced bytes (Node o at stop parts) = PlacedBy bytes o parts × ArePlaced bytes parts

  pub ArePlaced : List ℕ → Trees → Type 0
  ArePlaced bytes none = Unit {0}
  ArePlaced bytes (more t ts) = IsPlaced bytes t × ArePlaced bytes ts

module _ (bytes : List ℕ) where
  -- the bytes up to a place
  abbrev IsFront : List ℕ → Type 0
  IsFront c = (e : ℕ) × (c ≡ take e bytes)

  shorter : (c : List ℕ) (n : ℕ) → IsFront c → n ≤ length c → take n c ≡ take n bytes
  shorter c n (e, is) le =
      let size : length (take e bytes) ≡ min e (length bytes) = length-take e bytes in
      let many : length c ≡ length (take e bytes) = ap length is in
      ap (take n) is ∙ take-take n e bytes (omega (arith, le, size, many))

  front_of : (c : List ℕ) (n : ℕ) → IsFront c → n ≤ length c → IsFront (take n c)
  front_of c n f le = (n, shorter c n f le)

  placed_joined : (ts us : Trees) → ArePlaced bytes ts → ArePlaced bytes us → ArePlaced bytes (joined ts us)
  placed_joined none us h k = k
  placed_joined (more t ts) us h k = (h.0, placed_joined ts us h.1 k)

  name_leaf_placed : (c : List ℕ) (at : ℕ) (t : Tree) → IsNameLeaf c at t → IsPlaced bytes t
  name_leaf_placed c at t h = rw h.3 (tt, tt)

  item_placed_by : (o : Op) (parts : Trees) → is_item o ≡ true → PlacedBy bytes o parts
  item_placed_by op.Name parts is = absurd cc
  item_placed_by o parts is = tt

  module _ (Below : ℕ → Spot → List ℕ → ℕ → Tree → Type 0)
      (placed : (own : ℕ) (s : Spot) (c : List ℕ) (at : ℕ) (t : Tree) → IsFront c → Below own s c at t → IsPlaced bytes t)
      (stands : (own : ℕ) (c : List ℕ) (at : ℕ) (t : Tree) → IsFront c → Below own spot.Data c at t → StandsAt bytes t) where
    are_placed : (own : ℕ) (s : Spot) (c : List ℕ) (at stop : ℕ) (ts : List Tree) → IsFront c → AreTerms no_arguments Below own s c at stop ts → ArePlaced bytes (trees ts)
    are_placed own s c at stop [] f h = tt
    are_placed own s c at stop (t ∷ ts) f h = (placed own s c at t f h.0, are_placed own s c (stop_of t) stop ts f h.1)

    connection_placed : (own : ℕ) (c : List ℕ) (at : ℕ) (t : Tree) → IsFront c → IsConnection no_arguments Below own c at t → IsPlaced bytes t
    connection_placed own c at t f (inl h) = placed own spot.Connection c at t f h.1
    connection_placed own c at t f (inr h) = name_leaf_placed c at t h.1

    piece_placed : (p : Piece) (own : ℕ) (c : List ℕ) (at : ℕ) (t : Tree) → IsFront c → IsPiece no_arguments Below p own c at t → IsPlaced bytes t
    piece_placed (piece.Term s) own c at t f h = placed own s c at t f h
    piece_placed piece.NameString own c at t f h = name_leaf_placed c at t h
    piece_placed (piece.Number size) own c at t f h = rw h.3 (tt, tt)
    piece_placed piece.Bits own c at t f h = rw h.3 (tt, tt)
    piece_placed piece.Text own c at t f h = rw h.3 (tt, tt)
    piece_placed piece.Connection own c at t f h = connection_placed own c at t f h

    pieces_placed : (ps : List Piece) (own : ℕ) (c : List ℕ) (at stop : ℕ) (ts : List Tree) → IsFront c → ArePieces no_arguments Below ps own c at stop ts → ArePlaced bytes (trees ts)
    pieces_placed [] own c at stop ts f h = rw h.0 tt
    pieces_placed (p ∷ rest) own c at stop ts f h = rw h.2 (piece_placed p own c at h.0 f h.3, pieces_placed rest own c (stop_of h.0) stop h.1 f h.4)

    item_placed : (own : ℕ) (c : List ℕ) (at : ℕ) (t : Tree) → IsFront c → IsItem no_arguments Below own c at t → IsPlaced bytes t
    item_placed own c at t f h =
        rw h.7 (item_placed_by h.1 (trees h.3) (item_of_item h.0 h.1 h.5), pieces_placed (pieces_of h.1) own c (item_next h.1 at) h.2 h.3 f h.6)

    items_placed : (own : ℕ) (c : List ℕ) (at stop : ℕ) (ts : List Tree) → IsFront c → AreItems no_arguments Below own c at stop ts → ArePlaced bytes (trees ts)
    items_placed own c at stop [] f h = tt
    items_placed own c at stop (t ∷ ts) f h = (item_placed own c at t f h.0, items_placed own c (stop_of t) stop ts f h.1)

    else_placed : (own : ℕ) (c : List ℕ) (at stop : ℕ) (ts : List Tree) → IsFront c → IsElse no_arguments Below own c at stop ts → ArePlaced bytes (trees ts)
    else_placed own c at stop [] f h = tt
    else_placed own c at stop (t ∷ ts) f h =
        let within = package_within c (at + 1) stop h.1.0 h.1.2 in
        let inside = are_placed own spot.Statement (take stop c) h.1.0 stop h.1.1 (front_of c stop f within) h.1.3 in
        rw (h.1.4, h.1.5) ((tt, inside), tt)

    parts_placed : (ls : List Letter) (own : ℕ) (c : List ℕ) (at stop : ℕ) (ts : List Tree) → IsFront c → Meets no_arguments Below ls own c at stop ts → ArePlaced bytes (trees ts)
    parts_placed [] own c at stop ts f h = rw h.0 tt
    parts_placed (One p ∷ rest) own c at stop ts f h =
        rw h.2 (piece_placed p own c at h.0 f h.3, parts_placed rest own c (stop_of h.0) stop h.1 f h.4)
    parts_placed (Sized l ∷ rest) own c at stop ts f h =
        rw h.2 (placed own spot.Size c at h.0 f h.3, parts_placed rest own c (stop_of h.0) stop h.1 f h.5)
    parts_placed (Package ∷ rest) own c at stop ts f h = parts_placed rest own (take h.0 c) h.1 stop ts (front_of c h.0 f (package_within c at h.0 h.1 h.2)) h.3
    parts_placed (Branch ∷ rest) own c at stop ts f h =
        let inside = parts_placed rest own (take h.0 c) h.1 h.2 h.3 (front_of c h.0 f (package_within c at h.0 h.1 h.6)) h.7 in
        rw (h.5, trees_append h.3 h.4) (placed_joined (trees h.3) (trees h.4) inside (else_placed own c h.2 stop h.4 f h.8))
    parts_placed (Terms s ∷ rest) own c at stop ts f h = are_placed own s c at stop ts f h.0
    parts_placed (Fields ∷ rest) own c at stop ts f h = items_placed own c at stop ts f h.0
    parts_placed (Bytes ∷ rest) own c at stop ts f h = rw h.0 ((tt, tt), tt)

    operator_placed : (o : Op) (own : ℕ) (c : List ℕ) (at stop : ℕ) (ts : List Tree) → IsFront c → Meets no_arguments Below (letters_of o) own c at stop ts → PlacedBy bytes o (trees ts)
    operator_placed op.Name own c at stop ts f h = rw (h.2, h.4.2, h.4.4.0) (stands own c (stop_of h.0) h.4.0 f h.4.3)
    operator_placed o own c at stop ts f h = tt

    form_placed : (o : Opening) (c : List ℕ) (at : ℕ) (t : Tree) → IsFront c → Follows no_arguments Below o c at t → IsPlaced bytes t
    form_placed NoTarget c at t f h = rw h (tt, tt)
    form_placed PlainName c at t f h = name_leaf_placed c at t h
    form_placed InvokedName c at t f h = rw h.7 (tt, ((tt, tt), are_placed at spot.Term c h.1 h.2 h.3 f h.6))
    form_placed (Operator o next) c at t f h =
        rw h.3 (operator_placed o at c next h.0 h.1 f h.2, parts_placed (letters_of o) at c next h.0 h.1 f h.2)

  -- a term has its own place
  starts_form : (d : ℕ) (o : Opening) (c : List ℕ) (at : ℕ) (t : Tree) → Follows no_arguments (IsTerm code.Module no_arguments d) o c at t → at_of t ≡ at
  starts_form d NoTarget c at t h = ap at_of h
  starts_form d PlainName c at t h = ap at_of h.3
  starts_form d InvokedName c at t h = ap at_of h.7
  starts_form d (Operator o next) c at t h = ap at_of h.3

  starts : (d asker : ℕ) (s : Spot) (c : List ℕ) (at : ℕ) (t : Tree) → IsTerm code.Module no_arguments d asker s c at t → at_of t ≡ at
  starts zero asker s c at t h = ap at_of h.1
  starts (suc d) asker s c at t h = starts_form d h.0 c at t h.2

  data_stands : (d own : ℕ) (c : List ℕ) (at : ℕ) (t : Tree) → d ≤ greatest_depth → IsFront c → IsTerm code.Module no_arguments d own spot.Data c at t → StandsAt bytes t
  data_stands d own c at t le f h =
      let within = term_in code.Module no_arguments d own spot.Data c at t h in
      let begins : at_of t ≡ at = starts d own spot.Data c at t h in
      let same : take (stop_of t) c ≡ take (stop_of t) bytes = shorter c (stop_of t) f within.1 in
      let front = data_cut d own c (stop_of t) at t within.0 (omega arith) h in
      let deep : IsData (take (stop_of t) c) at t = term_deeper code.Module no_arguments d greatest_depth own at spot.Data (take (stop_of t) c) at t le front in
      let whole : length (take (stop_of t) c) ≡ length (take (stop_of t) bytes) = ap length same in
      let few : length (take (stop_of t) c) ≡ min (stop_of t) (length c) = length-take (stop_of t) c in
      let many : length (take (stop_of t) bytes) ≡ min (stop_of t) (length bytes) = length-take (stop_of t) bytes in
      (subst (λ x. IsData (take (stop_of t) bytes) x t) (sym begins) (subst (λ l. IsData l at t) same deep), omega (arith, begins, within), omega (arith, within, whole, few, many))

  term_placed : (d asker : ℕ) (s : Spot) (c : List ℕ) (at : ℕ) (t : Tree) → d ≤ greatest_depth → IsFront c → IsTerm code.Module no_arguments d asker s c at t → IsPlaced bytes t
  term_placed zero asker s c at t le f h = rw h.1 (tt, tt)
  term_placed (suc d) asker s c at t le f h =
      form_placed (IsTerm code.Module no_arguments d) (λ own s c at t f k. term_placed d own s c at t (omega (arith, le)) f k) (λ own c at t f k. data_stands d own c at t (omega (arith, le)) f k) h.0 c at t f h.2

  -- so does the data of each Name of a module
  pub module_placed : (ts : List Tree) → IsModule bytes ts → ArePlaced bytes (trees ts)
  module_placed ts h =
      are_placed (IsTerm code.Module no_arguments greatest_depth) (λ own s c at t f k. term_placed greatest_depth own s c at t (omega arith) f k) (λ own c at t f k. data_stands greatest_depth own c at t (omega arith) f k)
      module_start spot.Statement bytes module_start (length bytes) ts (length bytes, sym (take_all (length bytes) bytes (omega arith))) h.1

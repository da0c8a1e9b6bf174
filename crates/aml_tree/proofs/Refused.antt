-- What is wrong is told, and so bytes have at most one fault.
use Rattle.std.proofs.Common.{◌≡◌, ℕ, zero, suc, ◌+◌, ◌≤◌, ◌<◌, inl, inr, List, [], ◌∷◌, ◌++◌, take, length, get_or, Some, Result, Ok, Err, refl, arith}
use Rattle.std.specs.Prelude.{nat_lt, slice_get, true, false}
use Rattle.std.proofs.lemmas.Bool.{lt-ltb}
use Rattle.std.proofs.lemmas.Option.{slice_get_past, slice_get-get_or}
use Rattle.aml_operators.specs.declared.op.Op.TheVariants as op
use Rattle.aml_operators.specs.declared.row.Code.{Code}
use Rattle.aml_operators.specs.declared.row.Code.TheVariants as code
use Rattle.aml_operators.specs.declared.row.Spot.{Spot}
use Rattle.aml_operators.specs.declared.row.Spot.TheVariants as spot
use Rattle.aml_operators.specs.declared.row.Piece.{Piece}
use Rattle.aml_operators.specs.declared.row.Piece.TheVariants as piece
use Rattle.aml_operators.specs.declared.row.Letter.{Letter}
use Rattle.aml_operators.specs.declared.row.Letter.TheVariants.{One, Sized, Package, Branch, Terms, Fields, Bytes}
use Rattle.aml_operators.specs.Table.{letters_of}
use Rattle.aml_operators.specs.Fields.{pieces_of}
use Rattle.aml_operators.specs.Tree.{Tree, Node, none, stop_of}
use Rattle.aml_lex.specs.NameStrings.{NameString}
use Rattle.aml_lex.specs.declared.names.NameSeg.{NameSeg}
use Rattle.aml_tree.specs.declared.fault.Refusal.{Refusal}
use Rattle.aml_tree.specs.Leaf.{byte_at}
use Rattle.aml_tree.specs.Opening.{Opening, NoTarget, PlainName, InvokedName, Operator}
use Rattle.aml_lex.specs.Standing.{is_byte}
use Rattle.aml_tree.specs.Reading.{item_next, terms_until, terms_counted, connection_at, piece_at, pieces_at, item_of_kind, item_at, items_until, else_at, parts_at, form_at, deepest_at, term_at}
use Rattle.aml_tree.specs.Grammar.{AreTerms, AreItems, FaultyTerms, FaultyConnection, FaultyPiece, FaultyPieces, FaultyItem, FaultyElse, FaultyParts, FaultyForm, IsTerm, Faulty}
use Rattle.aml_tree.specs.Body.{with_owns, owns_behind, greatest_depth, no_arguments, module_start, AreStatements, FaultyModule, body_until, module_at}
use Rattle.aml_tree.specs.Laws.{OneModuleFault, OneBodyFault}
use Rattle.aml_tree.proofs.Beginnings.{opening_full}
use Rattle.aml_tree.proofs.RefusedBeginnings.{told_absent, opening_fails}
use Rattle.aml_tree.proofs.Bounds.{item_in, term_in}
use Rattle.aml_tree.proofs.Full.{not_below, other_byte, piece_full, item_full, parts_full, term_full}

module _ (arity : NameString → ℕ → ℕ) (below : ℕ → Spot → List ℕ → ℕ → Result Tree Refusal) (Below : ℕ → Spot → List ℕ → ℕ → Tree → Type 0) (Bad : ℕ → Spot → List ℕ → ℕ → Refusal → Type 0)
    (full : (own : ℕ) (s : Spot) (bytes : List ℕ) (at : ℕ) (t : Tree) → Below own s bytes at t → below own s bytes at ≡ Ok t)
    (fails : (own : ℕ) (s : Spot) (bytes : List ℕ) (at : ℕ) (f : Refusal) → Bad own s bytes at f → below own s bytes at ≡ Err f)
    (within : (own : ℕ) (s : Spot) (bytes : List ℕ) (at : ℕ) (t : Tree) → Below own s bytes at t → (at < stop_of t) × (stop_of t ≤ length bytes)) where
  pub until_fails : (own : ℕ) (s : Spot) (bytes : List ℕ) (n : ℕ) (front : List Tree) (at stop : ℕ) (ts : List Tree) (f : Refusal) → AreTerms arity Below own s bytes at stop ts → stop < length bytes → Bad own s bytes stop f → length bytes ≤ at + n → terms_until arity below own s bytes n front at ≡ Err f
  until_fails own s bytes zero front at stop [] f h lt bad le = absurd (omega arith)
  until_fails own s bytes zero front at stop (t ∷ ts) f h lt bad le = let w = within own s bytes at t h.0 in absurd (omega (arith, w))
  until_fails own s bytes (suc n) front at stop [] f h lt bad le =
      let test : nat_lt stop (length bytes) ≡ true = lt-ltb stop (length bytes) lt in
      rw (h, test, fails own s bytes stop f bad)
  until_fails own s bytes (suc n) front at stop (t ∷ ts) f h lt bad le =
      let w = within own s bytes at t h.0 in
      let test : nat_lt at (length bytes) ≡ true = lt-ltb at (length bytes) (omega (arith, w)) in
      rw (test, full own s bytes at t h.0, until_fails own s bytes n (front ++ t ∷ []) (stop_of t) stop ts f h.1 lt bad (omega (arith, w)))

  counted_fails : (own : ℕ) (bytes : List ℕ) (n : ℕ) (front : List Tree) (at stop : ℕ) (ts : List Tree) (f : Refusal) → length ts < n → AreTerms arity Below own spot.Term bytes at stop ts → Bad own spot.Term bytes stop f → terms_counted arity below own bytes n front at ≡ Err f
  counted_fails own bytes zero front at stop ts f lt h bad = absurd (omega arith)
  counted_fails own bytes (suc n) front at stop [] f lt h bad = rw (h, fails own spot.Term bytes stop f bad)
  counted_fails own bytes (suc n) front at stop (t ∷ ts) f lt h bad =
      rw (full own spot.Term bytes at t h.0, counted_fails own bytes n (front ++ t ∷ []) (stop_of t) stop ts f (omega arith) h.1 bad)

  connection_fails : (own : ℕ) (bytes : List ℕ) (at : ℕ) (f : Refusal) → FaultyConnection arity Below Bad own bytes at f → connection_at arity below own bytes at ≡ Err f
  unfolding connection_at
  connection_fails own bytes at f (inl h) = rw (h.0, fails own spot.Connection bytes at f h.1)
  connection_fails own bytes at f (inr h) =
      let test : is_byte 0x11 (slice_get bytes at) ≡ false = other_byte 0x11 (slice_get bytes at) h.0 (is_byte 0x11 (slice_get bytes at)) refl in
      rw (test, h.1)

  piece_fails : (p : Piece) (own : ℕ) (bytes : List ℕ) (at : ℕ) (f : Refusal) → FaultyPiece arity Below Bad p own bytes at f → piece_at arity below p own bytes at ≡ Err f
  unfolding piece_at
  piece_fails (piece.Term s) own bytes at f h = fails own s bytes at f h
  piece_fails piece.NameString own bytes at f h = rw h
  piece_fails (piece.Number size) own bytes at f h = rw h
  piece_fails piece.Bits own bytes at f h = rw h
  piece_fails piece.Text own bytes at f h = rw h
  piece_fails piece.Connection own bytes at f h = connection_fails own bytes at f h

  pieces_fails : (ps : List Piece) (own : ℕ) (bytes : List ℕ) (front : List Tree) (at : ℕ) (f : Refusal) → FaultyPieces arity Below Bad ps own bytes at f → pieces_at arity below ps own bytes front at ≡ Err f
  unfolding pieces_at
  pieces_fails [] own bytes front at f h = absurd h
  pieces_fails (p ∷ rest) own bytes front at f (inl h) = rw (piece_fails p own bytes at f h)
  pieces_fails (p ∷ rest) own bytes front at f (inr h) =
      rw (piece_full arity below Below full within p own bytes at h.0 h.1, pieces_fails rest own bytes (front ++ h.0 ∷ []) (stop_of h.0) f h.2)

  item_fails : (own : ℕ) (bytes : List ℕ) (at : ℕ) (f : Refusal) → FaultyItem arity Below Bad own bytes at f → item_at arity below own bytes at ≡ Err f
  unfolding item_at item_of_kind byte_at
  item_fails own bytes at f h = elim h.2 [
    | inl x ↦ rw (h.1, x.0, x.1)
    | inr x ↦ rw (h.1, x.1, pieces_fails (pieces_of x.0) own bytes [] (item_next x.0 at) f x.2)
  ]

  items_fails : (own : ℕ) (bytes : List ℕ) (n : ℕ) (front : List Tree) (at stop : ℕ) (ts : List Tree) (f : Refusal) → AreItems arity Below own bytes at stop ts → stop < length bytes → FaultyItem arity Below Bad own bytes stop f → length bytes ≤ at + n → items_until arity below own bytes n front at ≡ Err f
  items_fails own bytes zero front at stop [] f h lt bad le = absurd (omega arith)
  items_fails own bytes zero front at stop (t ∷ ts) f h lt bad le = let w = item_in arity Below within own bytes at t h.0 in absurd (omega (arith, w))
  items_fails own bytes (suc n) front at stop [] f h lt bad le =
      let test : nat_lt stop (length bytes) ≡ true = lt-ltb stop (length bytes) lt in
      rw (h, test, item_fails own bytes stop f bad)
  items_fails own bytes (suc n) front at stop (t ∷ ts) f h lt bad le =
      let w = item_in arity Below within own bytes at t h.0 in
      let test : nat_lt at (length bytes) ≡ true = lt-ltb at (length bytes) (omega (arith, w)) in
      rw (test, item_full arity below Below full within own bytes at t h.0, items_fails own bytes n (front ++ t ∷ []) (stop_of t) stop ts f h.1 lt bad (omega (arith, w)))

  all_fail : (own : ℕ) (s : Spot) (bytes : List ℕ) (front : List Tree) (at : ℕ) (f : Refusal) → FaultyTerms arity Below Bad own s bytes at f → terms_until arity below own s bytes (length bytes) front at ≡ Err f
  all_fail own s bytes front at f h = until_fails own s bytes (length bytes) front at h.0 h.1 f h.2 h.3 h.4 (omega arith)

  else_fails : (own : ℕ) (front : List Tree) (bytes : List ℕ) (at : ℕ) (f : Refusal) → FaultyElse arity Below Bad own bytes at f → else_at arity below own front bytes at ≡ Err f
  unfolding else_at
  else_fails own front bytes at f h = elim h.1 [
    | inl x ↦ rw (h.0, x)
    | inr x ↦ rw (h.0, x.2, all_fail own spot.Statement (take x.0 bytes) [] x.1 f x.3)
  ]

  parts_fails : (ls : List Letter) (own : ℕ) (bytes : List ℕ) (front : List Tree) (at : ℕ) (f : Refusal) → FaultyParts arity Below Bad ls own bytes at f → parts_at arity below ls own bytes front at ≡ Err f
  unfolding parts_at
  parts_fails [] own bytes front at f h = absurd h
  parts_fails (One p ∷ rest) own bytes front at f (inl h) = rw (piece_fails p own bytes at f h)
  parts_fails (One p ∷ rest) own bytes front at f (inr h) =
      rw (piece_full arity below Below full within p own bytes at h.0 h.1, parts_fails rest own bytes (front ++ h.0 ∷ []) (stop_of h.0) f h.2)
  parts_fails (Sized l ∷ rest) own bytes front at f (inl h) = rw (fails own spot.Size bytes at f h)
  parts_fails (Sized l ∷ rest) own bytes front at f (inr h) = elim h.2 [
    | inl x ↦ rw (full own spot.Size bytes at h.0 h.1, x.0, x.1)
    | inr x ↦ rw (full own spot.Size bytes at h.0 h.1, x.0, parts_fails rest own bytes (front ++ h.0 ∷ []) (stop_of h.0) f x.1)
  ]
  parts_fails (Package ∷ rest) own bytes front at f (inl h) = rw h
  parts_fails (Package ∷ rest) own bytes front at f (inr h) = rw (h.2, parts_fails rest own (take h.0 bytes) front h.1 f h.3)
  parts_fails (Branch ∷ rest) own bytes front at f (inl h) = rw h
  parts_fails (Branch ∷ rest) own bytes front at f (inr h) = elim h.3 [
    | inl x ↦ rw (h.2, parts_fails rest own (take h.0 bytes) front h.1 f x)
    | inr x ↦ rw (h.2, parts_full arity below Below full within rest own (take h.0 bytes) front h.1 x.0 x.1 x.2, else_fails own (front ++ x.1) bytes x.0 f x.3)
  ]
  parts_fails (Terms s ∷ rest) own bytes front at f h = all_fail own s bytes front at f h
  parts_fails (Fields ∷ rest) own bytes front at f h = items_fails own bytes (length bytes) front at h.0 h.1 f h.2 h.3 h.4 (omega arith)
  parts_fails (Bytes ∷ rest) own bytes front at f h = absurd h

  form_fails : (o : Opening) (bytes : List ℕ) (at : ℕ) (f : Refusal) → FaultyForm arity Below Bad o bytes at f → form_at arity below o bytes at ≡ Err f
  unfolding form_at
  form_fails NoTarget bytes at f h = absurd h
  form_fails PlainName bytes at f h = rw h
  form_fails InvokedName bytes at f (inl h) = rw h
  form_fails InvokedName bytes at f (inr h) =
      rw (h.4, counted_fails at bytes (arity h.0 at) (Node op.NameString at h.1 none ∷ []) h.1 h.2 h.3 f h.5 h.6 h.7)
  form_fails (Operator o next) bytes at f h = rw (parts_fails (letters_of o) at bytes [] next f h)

deepest_fails : (code : Code) (arity : NameString → ℕ → ℕ) (asker : ℕ) (s : Spot) (bytes : List ℕ) (at : ℕ) (f : Refusal) → Faulty code arity zero asker s bytes at f → deepest_at s bytes at ≡ Err f
unfolding deepest_at byte_at
deepest_fails code arity asker s bytes at f (inl h) = rw (slice_get_past bytes at h.0, h.1)
deepest_fails code arity asker s bytes at f (inr h) =
    let there : slice_get bytes at ≡ Some (get_or bytes at 0) = slice_get-get_or bytes at 0 h.0 in
    rw (there, told_absent s bytes at (get_or bytes at 0) there h.1, h.2)

pub term_fails : (code : Code) (arity : NameString → ℕ → ℕ) (d asker : ℕ) (s : Spot) (bytes : List ℕ) (at : ℕ) (f : Refusal) → Faulty code arity d asker s bytes at f → term_at code arity d asker s bytes at ≡ Err f
unfolding term_at
term_fails code arity zero asker s bytes at f h = deepest_fails code arity asker s bytes at f h
term_fails code arity (suc d) asker s bytes at f (inl h) = rw (opening_fails code asker s bytes at f h)
term_fails code arity (suc d) asker s bytes at f (inr h) =
    rw (opening_full code asker s bytes at h.0 h.1, form_fails arity (term_at code arity d) (IsTerm code arity d) (Faulty code arity d) (term_full code arity d) (term_fails code arity d) (term_in code arity d) h.0 bytes at f h.2)

module_fails : (bytes : List ℕ) (f : Refusal) → FaultyModule bytes f → module_at bytes ≡ Err f
module_fails bytes f (inl h) =
    let test : nat_lt (length bytes) module_start ≡ true = lt-ltb (length bytes) module_start h.0 in rw (test, h.1)
module_fails bytes f (inr h) =
    let test : nat_lt (length bytes) module_start ≡ false = not_below (length bytes) module_start h.0 (nat_lt (length bytes) module_start) refl in
    let x = h.1 in
    rw (test, until_fails no_arguments (term_at code.Module no_arguments greatest_depth) (IsTerm code.Module no_arguments greatest_depth) (Faulty code.Module no_arguments greatest_depth) (term_full code.Module no_arguments greatest_depth) (term_fails code.Module no_arguments greatest_depth) (term_in code.Module no_arguments greatest_depth) module_start spot.Statement bytes (length bytes) [] module_start x.0 x.1 f x.2 x.3 x.4 (omega arith))

body_fails : (arity : NameString → ℕ → ℕ) (bytes : List ℕ) (n : ℕ) (owns : List NameSeg) (front : List Tree) (at stop : ℕ) (ts : List Tree) (last : List NameSeg) (f : Refusal) → AreStatements arity owns bytes at ts stop last → stop < length bytes → Faulty code.Body (with_owns arity last) greatest_depth stop spot.Statement bytes stop f → length bytes ≤ at + n → body_until arity bytes n owns front at ≡ Err f
body_fails arity bytes zero owns front at stop [] last f h lt bad le = absurd (omega (arith, h.0))
body_fails arity bytes zero owns front at stop (t ∷ ts) last f h lt bad le =
    let w = term_in code.Body (with_owns arity owns) greatest_depth at spot.Statement bytes at t h.0 in absurd (omega (arith, w))
body_fails arity bytes (suc n) owns front at stop [] last f h lt bad le =
    let test : nat_lt stop (length bytes) ≡ true = lt-ltb stop (length bytes) lt in
    rw (h.0, ← h.1, test, term_fails code.Body (with_owns arity last) greatest_depth stop spot.Statement bytes stop f bad)
body_fails arity bytes (suc n) owns front at stop (t ∷ ts) last f h lt bad le =
    let w = term_in code.Body (with_owns arity owns) greatest_depth at spot.Statement bytes at t h.0 in
    let test : nat_lt at (length bytes) ≡ true = lt-ltb at (length bytes) (omega (arith, w)) in
    rw (test, term_full code.Body (with_owns arity owns) greatest_depth at spot.Statement bytes at t h.0, body_fails arity bytes n (owns_behind owns bytes t) (front ++ t ∷ []) (stop_of t) stop ts last f h.1 lt bad (omega (arith, w)))

-- a table has one fault at most, and so have bytes as a body from a place on
pub one_module_fault : OneModuleFault
one_module_fault bytes f g a b = let x = module_fails bytes f a in let y = module_fails bytes g b in cc (x, y)

pub one_body_fault : OneBodyFault
one_body_fault arity bytes at f g a b =
    let x = body_fails arity bytes (length bytes) [] [] at a.0 a.1 a.2 f a.3 a.4 a.5 (omega arith) in
    let y = body_fails arity bytes (length bytes) [] [] at b.0 b.1 b.2 g b.3 b.4 b.5 (omega arith) in cc (x, y)

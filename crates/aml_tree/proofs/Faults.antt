-- A fault stands within the bytes or at their end.
use Rattle.std.proofs.Common.{◌≡◌, ℕ, zero, suc, ◌+◌, ◌≤◌, ◌<◌, inl, inr, List, [], ◌∷◌, take, length, Result, Ok, Err, refl, arith}
use Rattle.std.specs.Prelude.{nat_lt}
use Rattle.std.proofs.lemmas.List.{length-take-le}
use Rattle.std.proofs.lemmas.Option.{slice_get_within}
use Rattle.aml_operators.specs.declared.row.Code.{Code}
use Rattle.aml_operators.specs.declared.row.Spot.{Spot}
use Rattle.aml_operators.specs.declared.row.Spot.TheVariants as spot
use Rattle.aml_operators.specs.declared.row.Piece.{Piece}
use Rattle.aml_operators.specs.declared.row.Piece.TheVariants as piece
use Rattle.aml_operators.specs.declared.row.Letter.{Letter}
use Rattle.aml_operators.specs.declared.row.Letter.TheVariants.{One, Sized, Package, Branch, Terms, Fields, Bytes}
use Rattle.aml_operators.specs.Table.{letters_of, row}
use Rattle.aml_operators.specs.Places.{size_of}
use Rattle.aml_operators.specs.Fields.{pieces_of}
use Rattle.aml_operators.specs.Tree.{Tree, stop_of}
use Rattle.aml_lex.specs.NameStrings.{NameString}
use Rattle.aml_lex.specs.Reading.{package_end_at, pkg_length_at, name_string_at, string_data_at}
use Rattle.aml_lex.specs.declared.fault.LexFault.{LexFault}
use Rattle.aml_lex.proofs.Laws.{package_end_fault, pkg_length_fault, name_string_fault, string_data_fault}
use Rattle.aml_tree.specs.declared.fault.Refusal.{Refusal}
use Rattle.aml_tree.specs.Fault.{lexical, refused}
use Rattle.aml_tree.specs.Leaf.{end_at, name_at, bits_at, text_at, little_endian_at}
use Rattle.aml_tree.specs.Opening.{Opening, NoTarget, PlainName, InvokedName, Operator, asking}
use Rattle.aml_tree.specs.Begins.{FaultyBegin, NoByte, NoSecondByte, NameUnknown, NameOutside, NoOperator, OperatorUnknown, OperatorOutside}
use Rattle.aml_tree.specs.Reading.{item_next}
use Rattle.aml_tree.specs.Grammar.{FaultyTerms, FaultyConnection, FaultyPiece, FaultyPieces, FaultyItem, FaultyItems, FaultyElse, FaultyParts, FaultyForm, IsTerm, Faulty}
use Rattle.aml_tree.specs.Body.{no_arguments, with_owns, greatest_depth, module_start}
use Rattle.aml_tree.specs.Laws.{ModuleFaultsWithin, BodyFaultsWithin}
use Rattle.aml_operators.specs.declared.row.Code.TheVariants as code
use Rattle.aml_tree.proofs.Combining.{by_test, of_ok, of_err}
use Rattle.aml_tree.proofs.Leaves.{end_in}
use Rattle.aml_tree.proofs.Beginnings.{Fits, opcode_in, begins_in}
use Rattle.aml_tree.proofs.Bounds.{piece_in, parts_in, starts_in, term_in}

-- parts without parts
refused_at : {X : Type 0} (r : Result X LexFault) (end : ℕ) (f : Refusal) → ((g : LexFault) → r ≡ Err g → g.at ≤ end) → refused r ≡ Err f → f.at ≤ end
refused_at (Ok x) end f h e = absurd cc
refused_at (Err g) end f h e = let same : lexical g ≡ f = cc in rw (← same) (h g refl)

end_fault : (bytes : List ℕ) (at : ℕ) (f : Refusal) → end_at bytes at ≡ Err f → f.at ≤ length bytes
unfolding end_at
end_fault bytes at f e = refused_at (package_end_at bytes at) (length bytes) f (λ g q. package_end_fault bytes at g q) e

name_fault : (bytes : List ℕ) (at : ℕ) (f : Refusal) → name_at bytes at ≡ Err f → f.at ≤ length bytes
unfolding name_at
name_fault bytes at f e = refused_at (name_string_at bytes at) (length bytes) f (λ g q. name_string_fault bytes at g q) e

bits_fault : (bytes : List ℕ) (at : ℕ) (f : Refusal) → bits_at bytes at ≡ Err f → f.at ≤ length bytes
unfolding bits_at
bits_fault bytes at f e = refused_at (pkg_length_at bytes at) (length bytes) f (λ g q. pkg_length_fault bytes at g q) e

text_fault : (bytes : List ℕ) (at : ℕ) (f : Refusal) → text_at bytes at ≡ Err f → f.at ≤ length bytes
unfolding text_at
text_fault bytes at f e = refused_at (string_data_at bytes at) (length bytes) f (λ g q. string_data_fault bytes at g q) e

number_fault : (count : ℕ) (bytes : List ℕ) (at : ℕ) (f : Refusal) → little_endian_at count bytes at ≡ Err f → f.at ≤ length bytes
unfolding little_endian_at
number_fault count bytes at f e =
    of_err (little_endian_at count bytes at) (λ r. Unit {0}) (λ g. g.at ≤ length bytes) f
    (by_test (nat_lt (length bytes) (at + count)) _ _ (λ r. Unit {0}) (λ g. g.at ≤ length bytes) (λ q. omega arith) (λ q. tt)) e

-- a beginning
asking_in : (s : Spot) (asker at end : ℕ) → asker ≤ end → at < end → asking s asker at ≤ end
asking_in spot.Statement asker at end le lt = omega arith
asking_in s asker at end le lt = le

begin_fault : (code : Code) (asker : ℕ) (s : Spot) (bytes : List ℕ) (at : ℕ) (f : Refusal) → asker ≤ length bytes → FaultyBegin code asker s bytes at f → f.at ≤ length bytes
begin_fault code asker s bytes at _ le (NoByte h) = omega arith
begin_fault code asker s bytes at _ le (NoSecondByte h past) = omega arith
begin_fault code asker s bytes at _ le (NameUnknown h e) = let w = slice_get_within bytes at h.0 h.1 in omega (arith, w)
begin_fault code asker s bytes at _ le (NameOutside h e) = asking_in s asker at (length bytes) le (slice_get_within bytes at h.0 h.1)
begin_fault code asker s bytes at _ le (NoOperator opcode next h unknown absent) = let w = opcode_in opcode bytes at next h in omega (arith, w)
begin_fault code asker s bytes at _ le (OperatorUnknown op next h e absent) = let w = opcode_in (row op).code bytes at next h in omega (arith, w)
begin_fault code asker s bytes at _ le (OperatorOutside op next h e absent) =
    let w = opcode_in (row op).code bytes at next h in asking_in s asker at (length bytes) le (omega (arith, w))

module _ (arity : NameString → ℕ → ℕ) (Below : ℕ → Spot → List ℕ → ℕ → Tree → Type 0) (Bad : ℕ → Spot → List ℕ → ℕ → Refusal → Type 0)
    (within : (own : ℕ) (s : Spot) (bytes : List ℕ) (at : ℕ) (t : Tree) → Below own s bytes at t → (at < stop_of t) × (stop_of t ≤ length bytes))
    (bad_in : (own : ℕ) (s : Spot) (bytes : List ℕ) (at : ℕ) (f : Refusal) → own ≤ length bytes → Bad own s bytes at f → f.at ≤ length bytes) where
  terms_fault : (own : ℕ) (s : Spot) (bytes : List ℕ) (at : ℕ) (f : Refusal) → own ≤ length bytes → FaultyTerms arity Below Bad own s bytes at f → f.at ≤ length bytes
  terms_fault own s bytes at f le h = bad_in own s bytes h.0 f le h.4

  connection_fault : (own : ℕ) (bytes : List ℕ) (at : ℕ) (f : Refusal) → own ≤ length bytes → FaultyConnection arity Below Bad own bytes at f → f.at ≤ length bytes
  connection_fault own bytes at f le (inl h) = bad_in own spot.Connection bytes at f le h.1
  connection_fault own bytes at f le (inr h) = name_fault bytes at f h.1

  piece_fault : (p : Piece) (own : ℕ) (bytes : List ℕ) (at : ℕ) (f : Refusal) → own ≤ length bytes → FaultyPiece arity Below Bad p own bytes at f → f.at ≤ length bytes
  piece_fault (piece.Term s) own bytes at f le h = bad_in own s bytes at f le h
  piece_fault piece.NameString own bytes at f le h = name_fault bytes at f h
  piece_fault (piece.Number size) own bytes at f le h = number_fault (size_of size) bytes at f h
  piece_fault piece.Bits own bytes at f le h = bits_fault bytes at f h
  piece_fault piece.Text own bytes at f le h = text_fault bytes at f h
  piece_fault piece.Connection own bytes at f le h = connection_fault own bytes at f le h

  pieces_fault : (ps : List Piece) (own : ℕ) (bytes : List ℕ) (at : ℕ) (f : Refusal) → own ≤ length bytes → FaultyPieces arity Below Bad ps own bytes at f → f.at ≤ length bytes
  pieces_fault [] own bytes at f le h = absurd h
  pieces_fault (p ∷ rest) own bytes at f le (inl h) = piece_fault p own bytes at f le h
  pieces_fault (p ∷ rest) own bytes at f le (inr h) = pieces_fault rest own bytes (stop_of h.0) f le h.2

  item_fault : (own : ℕ) (bytes : List ℕ) (at : ℕ) (f : Refusal) → own ≤ length bytes → FaultyItem arity Below Bad own bytes at f → f.at ≤ length bytes
  item_fault own bytes at f le h =
      let w = slice_get_within bytes at h.0 h.1 in
      elim h.2 [
        | inl x ↦ rw x.1 (omega (arith, w))
        | inr x ↦ pieces_fault (pieces_of x.0) own bytes (item_next x.0 at) f le x.2
      ]

  items_fault : (own : ℕ) (bytes : List ℕ) (at : ℕ) (f : Refusal) → own ≤ length bytes → FaultyItems arity Below Bad own bytes at f → f.at ≤ length bytes
  items_fault own bytes at f le h = item_fault own bytes h.0 f le h.4

  else_fault : (own : ℕ) (bytes : List ℕ) (at : ℕ) (f : Refusal) → own ≤ at → FaultyElse arity Below Bad own bytes at f → f.at ≤ length bytes
  else_fault own bytes at f le h =
      let lt = slice_get_within bytes at 0xA1 h.0 in
      elim h.1 [
        | inl e ↦ end_fault bytes (at + 1) f e
        | inr x ↦ (let w = of_ok _ _ _ _ (end_in bytes (at + 1) (omega (arith, lt))) x.2 in
            let l : length (take x.0 bytes) ≡ x.0 = length-take-le x.0 bytes w.2 in
            let r = terms_fault own spot.Statement (take x.0 bytes) x.1 f (omega (arith, l, w)) x.3 in omega (arith, l, w, r))
      ]

  parts_fault : (ls : List Letter) (own : ℕ) (bytes : List ℕ) (at : ℕ) (f : Refusal) → own ≤ at → at ≤ length bytes → FaultyParts arity Below Bad ls own bytes at f → f.at ≤ length bytes
  parts_fault [] own bytes at f low le h = absurd h
  parts_fault (One p ∷ rest) own bytes at f low le (inl h) = piece_fault p own bytes at f (omega arith) h
  parts_fault (One p ∷ rest) own bytes at f low le (inr h) =
      let w = piece_in arity Below within p own bytes at h.0 le h.1 in
      parts_fault rest own bytes (stop_of h.0) f (omega (arith, w)) w.1 h.2
  parts_fault (Sized l ∷ rest) own bytes at f low le (inl h) = bad_in own spot.Size bytes at f (omega arith) h
  parts_fault (Sized l ∷ rest) own bytes at f low le (inr h) =
      let w = within own spot.Size bytes at h.0 h.1 in
      elim h.2 [
        | inl x ↦ rw x.1 (omega arith)
        | inr x ↦ parts_fault rest own bytes (stop_of h.0) f (omega (arith, w)) w.1 x.1
      ]
  parts_fault (Package ∷ rest) own bytes at f low le (inl e) = end_fault bytes at f e
  parts_fault (Package ∷ rest) own bytes at f low le (inr h) =
      let w = of_ok _ _ _ _ (end_in bytes at le) h.2 in
      let l : length (take h.0 bytes) ≡ h.0 = length-take-le h.0 bytes w.2 in
      let r = parts_fault rest own (take h.0 bytes) h.1 f (omega (arith, w)) (omega (arith, l, w)) h.3 in omega (arith, l, w, r)
  parts_fault (Branch ∷ rest) own bytes at f low le (inl e) = end_fault bytes at f e
  parts_fault (Branch ∷ rest) own bytes at f low le (inr h) =
      let w = of_ok _ _ _ _ (end_in bytes at le) h.2 in
      let l : length (take h.0 bytes) ≡ h.0 = length-take-le h.0 bytes w.2 in
      elim h.3 [
        | inl x ↦ (let r = parts_fault rest own (take h.0 bytes) h.1 f (omega (arith, w)) (omega (arith, l, w)) x in omega (arith, l, w, r))
        | inr x ↦ (let r = parts_in arity Below within rest own (take h.0 bytes) h.1 x.0 x.1 (omega (arith, l, w)) x.2 in
            else_fault own bytes x.0 f (omega (arith, w, r)) x.3)
      ]
  parts_fault (Terms s ∷ rest) own bytes at f low le h = terms_fault own s bytes at f (omega arith) h
  parts_fault (Fields ∷ rest) own bytes at f low le h = items_fault own bytes at f (omega arith) h
  parts_fault (Bytes ∷ rest) own bytes at f low le h = absurd h

  pub form_fault : (o : Opening) (bytes : List ℕ) (at : ℕ) (f : Refusal) → at < length bytes → Fits bytes at o → FaultyForm arity Below Bad o bytes at f → f.at ≤ length bytes
  form_fault NoTarget bytes at f lt fits h = absurd h
  form_fault PlainName bytes at f lt fits h = name_fault bytes at f h
  form_fault InvokedName bytes at f lt fits (inl h) = name_fault bytes at f h
  form_fault InvokedName bytes at f lt fits (inr h) = bad_in at spot.Term bytes h.2 f (omega arith) h.7
  form_fault (Operator o next) bytes at f lt fits h = parts_fault (letters_of o) at bytes next f (omega (arith, fits)) fits.1 h

pub term_fault : (code : Code) (arity : NameString → ℕ → ℕ) (d asker : ℕ) (s : Spot) (bytes : List ℕ) (at : ℕ) (f : Refusal) → asker ≤ length bytes → Faulty code arity d asker s bytes at f → f.at ≤ length bytes
term_fault code arity zero asker s bytes at f le (inl h) = rw h.1 (omega arith)
term_fault code arity zero asker s bytes at f le (inr h) = rw h.2 (omega (arith, h.0))
term_fault code arity (suc d) asker s bytes at f le (inl h) = begin_fault code asker s bytes at f le h
term_fault code arity (suc d) asker s bytes at f le (inr h) =
    let fits = begins_in code s bytes at h.0 h.1 in
    form_fault arity (IsTerm code arity d) (Faulty code arity d) (term_in code arity d) (term_fault code arity d) h.0 bytes at f (starts_in bytes at h.0 fits) fits h.2

pub module_fault : ModuleFaultsWithin
module_fault bytes f (inl h) = rw h.1 (omega arith)
module_fault bytes f (inr h) = term_fault code.Module no_arguments greatest_depth module_start spot.Statement bytes h.1.0 f h.0 h.1.4

pub body_fault : BodyFaultsWithin
body_fault arity bytes at f h = term_fault code.Body (with_owns arity h.2) greatest_depth h.0 spot.Statement bytes h.0 f (omega (arith, h.4)) h.5

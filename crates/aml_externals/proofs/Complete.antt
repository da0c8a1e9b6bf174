-- What is a term by the grammar is walked to its end.
use Rattle.std.proofs.Common.{◌≡◌, ◌≤◌, ◌<◌, ℕ, zero, suc, ◌+◌, inl, inr, List, [], ◌∷◌, length, take, refl, sym, ap, ◌∙◌, arith}
use Rattle.std.specs.Prelude.{◌⊎◌, Bool, true, false, nat_lt, ◌==◌, ◌&&◌, Option, Some, None, Result, Ok, Err, slice_get, if◌then◌else◌}
use Rattle.std.proofs.lemmas.Bool.{and_parts, cases_lt, lt-ltb, eqb-true}
use Rattle.std.proofs.lemmas.List.{length-take-le}
use Rattle.aml_lex.specs.declared.fault.LexFault.{LexFault}
use Rattle.aml_lex.specs.NameStrings.{NameString}
use Rattle.aml_lex.specs.Reading.{name_string_at, string_data_at, package_end_at}
use Rattle.aml_operators.specs.declared.op.Op.{Op}
use Rattle.aml_operators.specs.declared.op.Op.TheVariants as op
use Rattle.aml_operators.specs.declared.row.Class.TheVariants as class
use Rattle.aml_operators.specs.declared.row.Code.TheVariants as code
use Rattle.aml_operators.specs.declared.row.Spot.{Spot}
use Rattle.aml_operators.specs.declared.row.Spot.TheVariants as spot
use Rattle.aml_operators.specs.declared.row.Ruling.TheVariants as ruled
use Rattle.aml_operators.specs.declared.row.Piece.{Piece}
use Rattle.aml_operators.specs.declared.row.Piece.TheVariants as piece
use Rattle.aml_operators.specs.declared.row.Letter.{Letter}
use Rattle.aml_operators.specs.declared.row.Letter.TheVariants.{One, Sized, Package, Branch, Terms, Fields, Bytes}
use Rattle.aml_operators.specs.Table.{row, op_of, class_of, letters_of}
use Rattle.aml_operators.specs.Places.{ruling, size_of}
use Rattle.aml_operators.specs.Tree.{Tree, stop_of}
use Rattle.aml_operators.proofs.Rows.{op_of_has, op_of_finds}
use Rattle.aml_tree.specs.declared.fault.Refusal.{Refusal}
use Rattle.aml_tree.specs.Fault.{refused, truncated}
use Rattle.aml_tree.specs.Leaf.{end_at, name_at, text_at, little_endian_at}
use Rattle.aml_tree.specs.Opening.{Opening, NoTarget, PlainName, InvokedName, Operator, is_name_lead}
use Rattle.aml_tree.specs.Begins.{Begins, HasOpcode, HasNameLead}
use Rattle.aml_tree.specs.Grammar.{AreTerms, IsPiece, Meets, Follows, IsTerm}
use Rattle.aml_tree.specs.Body.{no_arguments}
use Rattle.aml_tree.proofs.Beginnings.{not_same}
use Rattle.aml_externals.specs.Extents.{name_end, text_end, package_at, bytes_end, piece_end, letters_end, list_at, form_end, term_end}
use Rattle.aml_externals.specs.Reached.{AreBefore}
use Rattle.aml_externals.proofs.Seen.{bytes_there, package_is, package_past}
use Rattle.aml_tree.specs.OperatorAt.{op_there}

-- what the lexical layer reads as a part ends where the part does
refused_is : {X : Type 0} (o : Result X LexFault) (x : X) → refused o ≡ Ok x → o ≡ Ok x
refused_is (Ok v) x e = let same : v ≡ x = cc in rw same refl
refused_is (Err f) x e = absurd cc

pub name_full : (bytes : List ℕ) (at : ℕ) (r : NameString × ℕ) → name_at bytes at ≡ Ok r → name_end bytes at ≡ Some r.1
unfolding name_at name_end
name_full bytes at r e = let is = refused_is (name_string_at bytes at) r e in rw is refl

text_full : (bytes : List ℕ) (at : ℕ) (r : List ℕ × ℕ) → text_at bytes at ≡ Ok r → text_end bytes at ≡ Some r.1
unfolding text_at text_end
text_full bytes at r e = let is = refused_is (string_data_at bytes at) r e in rw is refl

pub package_full : (bytes : List ℕ) (at : ℕ) (r : ℕ × ℕ) → end_at bytes at ≡ Ok r → package_at bytes at ≡ Some r
unfolding end_at
package_full bytes at r e = package_is bytes at r (refused_is (package_end_at bytes at) r e)

number_by : (bytes : List ℕ) (at count v : ℕ) (f : Refusal) (r : ℕ × ℕ) (t : Bool) → nat_lt (length bytes) (at + count) ≡ t → (if t then Err f else Ok (v, at + count)) ≡ Ok r → (at + count ≤ length bytes) × (r.1 ≡ at + count)
number_by bytes at count v f r true is e = absurd cc
number_by bytes at count v f r false is e =
    let same : ◌≡◌ {A = ℕ × ℕ} (v, at + count) r = cc in
    (elim (cases_lt (length bytes) (at + count)) [ inl lt ↦ (let t : nat_lt (length bytes) (at + count) ≡ true = lt-ltb (length bytes) (at + count) lt in absurd cc) | inr le ↦ le ], sym (ap (λ (p : ℕ × ℕ). p.1) same))

number_full : (bytes : List ℕ) (at count : ℕ) (r : ℕ × ℕ) → little_endian_at count bytes at ≡ Ok r → bytes_end count bytes at ≡ Some r.1
unfolding little_endian_at
number_full bytes at count r e =
    let w = number_by bytes at count _ (truncated (length bytes)) r (nat_lt (length bytes) (at + count)) refl e in
    bytes_there count bytes at w.0 ∙ ap (λ (n : ℕ). Some n) (sym w.1)

-- no opcode is the first byte of a name
no_lead : (o : Op) → is_name_lead (row o).code ≡ false
no_lead op.Zero = refl
no_lead o = refl

lead_found : (b : ℕ) (found : Option Op) → op_of b ≡ found → is_name_lead b ≡ true → found ≡ None
lead_found b None e lead = refl
lead_found b (Some o) e lead =
    let same : (row o).code ≡ b = op_of_has b o e in
    let no : is_name_lead b ≡ false = ap (λ (c : ℕ). is_name_lead c) (sym same) ∙ no_lead o in
    absurd cc

lead_short : (b : ℕ) (t : Bool) → (b == 0x5B) ≡ t → is_name_lead b ≡ true → t ≡ false
lead_short b false e lead = refl
lead_short b true e lead = let same : b ≡ 0x5B = eqb-true b 0x5B e in let no : is_name_lead 0x5B ≡ true = rw same at lead in absurd cc

pub name_is_none : (bytes : List ℕ) (at : ℕ) → HasNameLead bytes at → op_there bytes at ≡ None
name_is_none bytes at h =
    let short : (h.0 == 0x5B) ≡ false = lead_short h.0 (h.0 == 0x5B) refl h.2 in
    let found : op_of h.0 ≡ None = lead_found h.0 (op_of h.0) refl h.2 in
    rw (h.1, short, found) refl

pub operator_full : (bytes : List ℕ) (at : ℕ) (o : Op) (next : ℕ) → (row o).code < 0x10000 → HasOpcode (row o).code bytes at next → op_there bytes at ≡ Some (o, next)
operator_full bytes at o next lt (inl k) =
    let short = not_same (row o).code 0x5B k.2 in
    let found = op_of_finds o lt in
    rw (k.0, short, found, k.3) refl
operator_full bytes at o next lt (inr k) =
    let found : op_of (0x5B00 + k.0) ≡ Some o = rw k.3 at (op_of_finds o lt) in
    rw (k.1, k.2, found, k.4) refl

-- parts that a walk comes over
abbrev pub is_walked_piece : Piece → Bool
is_walked_piece piece.Bits = false
is_walked_piece piece.Connection = false
is_walked_piece p = true

-- letters behind a package's length that go to its end
abbrev pub go_to_end : List Letter → Bool
go_to_end (One p ∷ rest) = is_walked_piece p && go_to_end rest
go_to_end (Sized l ∷ rest) = go_to_end rest
go_to_end (Terms s ∷ rest) = true
go_to_end (Fields ∷ rest) = true
go_to_end (Bytes ∷ rest) = true
go_to_end (Package ∷ rest) = false
go_to_end (Branch ∷ rest) = false
go_to_end [] = false

abbrev pub are_walked : List Letter → Bool
are_walked [] = true
are_walked (One p ∷ rest) = is_walked_piece p && are_walked rest
are_walked (Package ∷ rest) = go_to_end rest
are_walked (Sized l ∷ rest) = false
are_walked (Branch ∷ rest) = false
are_walked (Terms s ∷ rest) = false
are_walked (Fields ∷ rest) = false
are_walked (Bytes ∷ rest) = false

-- an If alone is not walked
walked_or_if : (o : Op) → (are_walked (letters_of o) ≡ true) ⊎ (o ≡ op.If)
walked_or_if op.If = inr refl
walked_or_if o = inl refl

no_statement : (s : Spot) → ruling code.Module s class.Statement ≡ ruled.Fine → ⊥
no_statement spot.Statement e = absurd cc
no_statement spot.Term e = absurd cc
no_statement spot.Size e = absurd cc
no_statement spot.Source e = absurd cc
no_statement spot.Data e = absurd cc
no_statement spot.Element e = absurd cc
no_statement spot.Target e = absurd cc
no_statement spot.SuperName e = absurd cc
no_statement spot.SimpleName e = absurd cc
no_statement spot.Connection e = absurd cc

pub walked : (s : Spot) (o : Op) → ruling code.Module s (class_of o) ≡ ruled.Fine → are_walked (letters_of o) ≡ true
walked s o fine = elim (walked_or_if o) [ inl e ↦ e | inr same ↦ absurd (no_statement s (rw same at fine)) ]

-- a target that is none is a byte
zero_end : (d : ℕ) (bytes : List ℕ) (at : ℕ) → letters_end (term_end d) (letters_of op.Zero) bytes (at + 1) ≡ Some (at + 1)
unfolding letters_end
zero_end d bytes at = refl

-- no name has arguments
no_more : (Below : ℕ → Spot → List ℕ → ℕ → Tree → Type 0) (own : ℕ) (bytes : List ℕ) (from stop : ℕ) (args : List Tree) → length args ≡ 0 → AreTerms no_arguments Below own spot.Term bytes from stop args → from ≡ stop
no_more Below own bytes from stop [] e h = h
no_more Below own bytes from stop (t ∷ ts) e h = absurd (omega arith)

module _ (d : ℕ) (Below : ℕ → Spot → List ℕ → ℕ → Tree → Type 0) (ends : (own : ℕ) (s : Spot) (bytes : List ℕ) (at : ℕ) (t : Tree) → Below own s bytes at t → term_end d bytes at ≡ Some (stop_of t)) where
  piece_full : (p : Piece) (own : ℕ) (bytes : List ℕ) (at : ℕ) (t : Tree) → is_walked_piece p ≡ true → IsPiece no_arguments Below p own bytes at t → piece_end (term_end d) p bytes at ≡ Some (stop_of t)
  unfolding piece_end
  piece_full (piece.Term s) own bytes at t is h = ends own s bytes at t h
  piece_full piece.NameString own bytes at t is h = name_full bytes at (h.0, h.1) h.2 ∙ ap (λ (u : Tree). Some (stop_of u)) (sym h.3)
  piece_full (piece.Number size) own bytes at t is h = number_full bytes at (size_of size) (h.0, h.1) h.2 ∙ ap (λ (u : Tree). Some (stop_of u)) (sym h.3)
  piece_full piece.Text own bytes at t is h = text_full bytes at (h.0, h.1) h.2 ∙ ap (λ (u : Tree). Some (stop_of u)) (sym h.3)
  piece_full piece.Bits own bytes at t is h = absurd cc
  piece_full piece.Connection own bytes at t is h = absurd cc

  to_end : (ls : List Letter) (own : ℕ) (bytes : List ℕ) (at stop : ℕ) (parts : List Tree) → go_to_end ls ≡ true → Meets no_arguments Below ls own bytes at stop parts → stop ≡ length bytes
  to_end [] own bytes at stop parts is h = absurd cc
  to_end (One p ∷ rest) own bytes at stop parts is h = let w = and_parts (is_walked_piece p) (go_to_end rest) is in to_end rest own bytes (stop_of h.0) stop h.1 w.1 h.4
  to_end (Sized l ∷ rest) own bytes at stop parts is h = to_end rest own bytes (stop_of h.0) stop h.1 is h.5
  to_end (Terms s ∷ rest) own bytes at stop parts is h = h.1
  to_end (Fields ∷ rest) own bytes at stop parts is h = h.1
  to_end (Bytes ∷ rest) own bytes at stop parts is h = h.1
  to_end (Package ∷ rest) own bytes at stop parts is h = absurd cc
  to_end (Branch ∷ rest) own bytes at stop parts is h = absurd cc

  -- a package's parts go to its end
  pub package_stop : (rest : List Letter) (own : ℕ) (bytes : List ℕ) (at stop e next : ℕ) (parts : List Tree) → go_to_end rest ≡ true → end_at bytes at ≡ Ok (e, next) → Meets no_arguments Below rest own (take e bytes) next stop parts → stop ≡ e
  package_stop rest own bytes at stop e next parts is p h =
      let w = package_past bytes at (e, next) (package_full bytes at (e, next) p) in
      to_end rest own (take e bytes) next stop parts is h ∙ length-take-le e bytes w.2

  pub letters_full : (ls : List Letter) (own : ℕ) (bytes : List ℕ) (at stop : ℕ) (parts : List Tree) → are_walked ls ≡ true → Meets no_arguments Below ls own bytes at stop parts → letters_end (term_end d) ls bytes at ≡ Some stop
  unfolding letters_end
  letters_full [] own bytes at stop parts is h = ap (λ (n : ℕ). Some n) (sym h.1)
  letters_full (One p ∷ rest) own bytes at stop parts is h =
      let w = and_parts (is_walked_piece p) (are_walked rest) is in
      let first = piece_full p own bytes at h.0 w.0 h.3 in
      rw first (letters_full rest own bytes (stop_of h.0) stop h.1 w.1 h.4)
  letters_full (Package ∷ rest) own bytes at stop parts is h =
      let first = package_full bytes at (h.0, h.1) h.2 in
      let e : stop ≡ h.0 = package_stop rest own bytes at stop h.0 h.1 parts is h.2 h.3 in
      rw (first, e) refl
  letters_full (Sized l ∷ rest) own bytes at stop parts is h = absurd cc
  letters_full (Branch ∷ rest) own bytes at stop parts is h = absurd cc
  letters_full (Terms s ∷ rest) own bytes at stop parts is h = absurd cc
  letters_full (Fields ∷ rest) own bytes at stop parts is h = absurd cc
  letters_full (Bytes ∷ rest) own bytes at stop parts is h = absurd cc

  form_full : (s : Spot) (o : Opening) (bytes : List ℕ) (at : ℕ) (t : Tree) → Begins code.Module s bytes at o → Follows no_arguments Below o bytes at t → form_end (term_end d) bytes at (op_there bytes at) ≡ Some (stop_of t)
  form_full s NoTarget bytes at t b h =
      let is = operator_full bytes at op.Zero (at + 1) (omega arith) (inl (b.1, refl, (λ e. absurd (omega (arith, e))), refl)) in
      rw is (zero_end d bytes at ∙ ap (λ (u : Tree). Some (stop_of u)) (sym h))
  form_full s PlainName bytes at t b h =
      let is = name_is_none bytes at b.1 in
      rw is (name_full bytes at (h.0, h.1) h.2 ∙ ap (λ (u : Tree). Some (stop_of u)) (sym h.3))
  form_full s InvokedName bytes at t b h =
      let is = name_is_none bytes at b.1 in
      rw is (name_full bytes at (h.0, h.1) h.4 ∙ ap (λ (n : ℕ). Some n) (no_more Below at bytes h.1 h.2 h.3 h.5 h.6) ∙ ap (λ (u : Tree). Some (stop_of u)) (sym h.7))
  form_full s (Operator o next) bytes at t b h =
      let is = operator_full bytes at o next b.0 b.1 in
      rw is (letters_full (letters_of o) at bytes next h.0 h.1 (walked s o b.2) h.2 ∙ ap (λ (u : Tree). Some (stop_of u)) (sym h.3))

pub term_full : (d asker : ℕ) (s : Spot) (bytes : List ℕ) (at : ℕ) (t : Tree) → IsTerm code.Module no_arguments d asker s bytes at t → term_end d bytes at ≡ Some (stop_of t)
unfolding term_end
term_full zero asker s bytes at t h = let here : slice_get bytes at ≡ Some 0 = h.0.1 in rw here (ap (λ (u : Tree). Some (stop_of u)) (sym h.1))
term_full (suc d) asker s bytes at t h = form_full d (IsTerm code.Module no_arguments d) (term_full d) s h.0 bytes at t h.1 h.2

-- the parts before a list are walked
pub before_full : (d : ℕ) (ls : List Letter) (bytes : List ℕ) (at from : ℕ) → go_to_end ls ≡ true → AreBefore d ls bytes at from → list_at (term_end d) ls bytes at ≡ Some from
unfolding list_at
before_full d [] bytes at from is h = absurd h
before_full d (One p ∷ rest) bytes at from is h =
    let w = and_parts (is_walked_piece p) (go_to_end rest) is in
    let first = piece_full d (IsTerm code.Module no_arguments d) (term_full d) p at bytes at h.0 w.0 h.1 in
    rw first (before_full d rest bytes (stop_of h.0) from w.1 h.2)
before_full d (Terms s ∷ rest) bytes at from is h = ap (λ (n : ℕ). Some n) h
before_full d (Sized l ∷ rest) bytes at from is h = absurd h
before_full d (Fields ∷ rest) bytes at from is h = absurd h
before_full d (Bytes ∷ rest) bytes at from is h = absurd h
before_full d (Package ∷ rest) bytes at from is h = absurd h
before_full d (Branch ∷ rest) bytes at from is h = absurd h

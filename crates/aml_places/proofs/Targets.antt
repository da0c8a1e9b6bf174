-- What stands where a target or an Else may.
use Rattle.std.proofs.Common.{◌≡◌, ℕ, ◌+◌, ◌≤◌, List, [], ◌∷◌, length, Option, Some, None, Result, Ok, Err, IsOk, refl, sym, ap, ◌∙◌, arith}
use Rattle.std.specs.Prelude.{IfOk, slice_get, true, false}
use Rattle.std.proofs.lemmas.Bool.Decides.{nat_tests}
use Rattle.std.proofs.lemmas.Option.{slice_get_within}
use Rattle.aml_lex.specs.NameStrings.{NameString}
use Rattle.aml_lex.specs.Reading.{name_string_at, package_end_at}
use Rattle.aml_lex.specs.declared.fault.LexFault.{LexFault}
use Rattle.aml_operators.specs.declared.op.Op.TheVariants as op
use Rattle.aml_operators.specs.declared.op.Op.TheVariants.{Zero}
use Rattle.aml_operators.specs.declared.row.Spot.TheVariants as spot
use Rattle.aml_operators.specs.Tree.{Tree, Node, none}
use Rattle.aml_tree.specs.OperatorAt.{op_there}
use Rattle.aml_places.specs.Forms.{ElseThere, Form, LiesSome}
use Rattle.aml_places.specs.Lies.{LieElse, LiesTarget, is_else_byte}
use Rattle.aml_places.proofs.Inversion.{alone, end_read, no_target}

read_ok : {X F : Type 0} (r : Result X F) (x : X) → r ≡ Ok x → IsOk r
read_ok r x e = rw e refl

read_place : {V : Type 0} (r : Result (V × ℕ) LexFault) (v : V) (n m : ℕ) → r ≡ Ok (v, n) → IfOk r (λ x. x.1 ≡ m) → n ≡ m
read_place r v n m e h = rw e at h

module _ (bytes : List ℕ) (at : ℕ) where
  pub null_form : (next : ℕ) → op_there bytes at ≡ Some (Zero, next) → (count : NameString → ℕ → ℕ) (t : Tree) → LiesTarget count bytes at t → Form count op.NullName bytes at (at + 1) t
  null_form next e count t h = record { stop = at + 1; parts = []; lie = (0, (refl, refl)); is = no_target count bytes at next e t h }

  pub name_there : op_there bytes at ≡ None → LiesSome spot.Target bytes at → IsOk (name_string_at bytes at)
  name_there e h = let f = alone h.count bytes at spot.Target refl e h.tree h.lies in read_ok _ _ f.spelt

  pub name_form : (stop : ℕ) → op_there bytes at ≡ None → IfOk (name_string_at bytes at) (λ r. r.1 ≡ stop) → (count : NameString → ℕ → ℕ) (t : Tree) → LiesTarget count bytes at t → Form count op.NameString bytes at stop t
  name_form stop e read count t h =
      let f = alone count bytes at spot.Target refl e t h in
      let same : f.next ≡ stop = read_place (name_string_at bytes at) f.name f.next stop f.spelt read in
      record { stop = stop; parts = []; lie = (0, (refl, refl)); is = f.is ∙ ap (λ n. Node op.NameString at n none) same }

  -- a byte that is there
  else_byte : (found : Option ℕ) → is_else_byte found ≡ true → found ≡ Some 0xA1
  else_byte None e = absurd cc
  else_byte (Some b) e = ap Some (grind (arith, nat_tests))

  pub else_fits : is_else_byte (slice_get bytes at) ≡ true → at + 1 ≤ length bytes
  else_fits e = let w = slice_get_within bytes at 0xA1 (else_byte (slice_get bytes at) e) in omega (arith, w)

  else_ends : (count : NameString → ℕ → ℕ) (stop : ℕ) (parts : List Tree) → is_else_byte (slice_get bytes at) ≡ true → LieElse count bytes at stop parts → (next : ℕ) × (package_end_at bytes (at + 1) ≡ Ok (stop, next))
  else_ends count stop [] e h = absurd (h.2.0 (else_byte (slice_get bytes at) e))
  else_ends count stop (t ∷ ts) e h = (h.2.1.0, end_read bytes (at + 1) (stop, h.2.1.0) h.2.1.2)

  pub else_package : is_else_byte (slice_get bytes at) ≡ true → ElseThere bytes at → IsOk (package_end_at bytes (at + 1))
  else_package e h = let f = else_ends h.count h.stop h.parts e h.lie in read_ok _ _ f.1

  abbrev end_of : Result (ℕ × ℕ) LexFault → ℕ
  end_of (Ok r) = r.0
  end_of (Err f) = 0

  pub else_stops : (r : ℕ × ℕ) → is_else_byte (slice_get bytes at) ≡ true → package_end_at bytes (at + 1) ≡ Ok r → (count : NameString → ℕ → ℕ) (stop : ℕ) (parts : List Tree) → LieElse count bytes at stop parts → r.0 ≡ stop
  else_stops r e read count stop parts h = let f = else_ends count stop parts e h in ap end_of (sym read ∙ f.1)

  no_else : is_else_byte (slice_get bytes at) ≡ false → slice_get bytes at ≡ Some 0xA1 → ⊥
  no_else e is = let wrong : is_else_byte (Some 0xA1) ≡ false = sym (ap is_else_byte is) ∙ e in cc

  pub no_else_stops : is_else_byte (slice_get bytes at) ≡ false → (count : NameString → ℕ → ℕ) (stop : ℕ) (parts : List Tree) → LieElse count bytes at stop parts → at ≡ stop
  no_else_stops e count stop [] h = sym h.2.1
  no_else_stops e count stop (t ∷ ts) h = absurd (no_else e h.2.0)

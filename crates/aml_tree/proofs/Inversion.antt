-- The operator at a place decides which tree may stand there: one lemma over the table for every operator.
use Rattle.std.proofs.Common.{◌≡◌, ◌≢◌, ℕ, zero, suc, ◌+◌, ◌<◌, inl, inr, List, Option, Some, None, refl, sym, ap, ◌∙◌, subst, arith}
use Rattle.std.specs.Prelude.{slice_get, true, false}
use Rattle.aml_lex.specs.NameStrings.{NameString}
use Rattle.aml_operators.specs.declared.op.Op.{Op}
use Rattle.aml_operators.specs.declared.op.Op.TheVariants.{Zero}
use Rattle.aml_operators.specs.declared.row.Code.TheVariants as code
use Rattle.aml_operators.specs.declared.row.Ruling.TheVariants as ruled
use Rattle.aml_operators.specs.declared.row.Spot.{Spot}
use Rattle.aml_operators.specs.declared.row.Spot.TheVariants as spot
use Rattle.aml_operators.specs.Places.{naming, ruling}
use Rattle.aml_operators.specs.Table.{row, op_of, class_of}
use Rattle.aml_operators.specs.Tree.{Tree}
use Rattle.aml_operators.proofs.Rows.{op_of_has, op_of_finds}
use Rattle.aml_tree.specs.Begins.{Begins, HasOpcode}
use Rattle.aml_tree.specs.Grammar.{IsTerm, Follows}
use Rattle.aml_tree.specs.Opening.{Opening, NoTarget, PlainName, InvokedName, Operator, is_name_lead}
use Rattle.aml_tree.specs.OperatorAt.{BeginsAs, name_in, op_there, operator_in}
use Rattle.aml_tree.proofs.Beginnings.{not_same}

-- no opcode begins as a name does
no_lead : (o : Op) → is_name_lead (row o).code ≡ false
no_lead Zero = refl
no_lead o = refl

none_leads : (b : ℕ) (o : Option Op) → op_of b ≡ o → is_name_lead b ≡ true → o ≡ None
none_leads b None e h = refl
none_leads b (Some o) e h = let n : is_name_lead b ≡ false = rw (op_of_has b o e) at (no_lead o) in absurd cc

wide_lead : (b : ℕ) → is_name_lead b ≡ true → b ≢ 0x5B
wide_lead b h e = let n : is_name_lead b ≡ false = rw e refl in absurd cc

-- what stands where a term begins so
abbrev pub op_of_opening : ℕ → Opening → Option (Op × ℕ)
op_of_opening at NoTarget = Some (Zero, at + 1)
op_of_opening at PlainName = None
op_of_opening at InvokedName = None
op_of_opening at (Operator o next) = Some (o, next)

name_found : (bytes : List ℕ) (at b : ℕ) → slice_get bytes at ≡ Some b → is_name_lead b ≡ true → op_there bytes at ≡ None
name_found bytes at b e h = rw (e, not_same b 0x5B (wide_lead b h), none_leads b (op_of b) refl h) refl

opcode_found : (o : Op) (bytes : List ℕ) (at next : ℕ) → (row o).code < 0x10000 → HasOpcode (row o).code bytes at next → op_there bytes at ≡ Some (o, next)
opcode_found o bytes at next lt (inl k) = rw (k.0, not_same (row o).code 0x5B k.2, op_of_finds o lt, k.3) refl
opcode_found o bytes at next lt (inr k) = rw (k.1, k.2, ← k.3, op_of_finds o lt, k.4) refl

found : (s : Spot) (bytes : List ℕ) (at : ℕ) (o : Opening) → Begins code.Body s bytes at o → op_there bytes at ≡ op_of_opening at o
found s bytes at NoTarget h = rw (h.1, op_of_finds Zero (omega arith)) refl
found s bytes at PlainName h = name_found bytes at h.1.0 h.1.1 h.1.2
found s bytes at InvokedName h = name_found bytes at h.1.0 h.1.1 h.1.2
found s bytes at (Operator o next) h = opcode_found o bytes at next h.0 h.1

-- what begins so begins as the operator at its place says
abbrev pub opening_by : Spot → Option (Op × ℕ) → Opening
opening_by s None = name_in (naming code.Body s)
opening_by s (Some p) = operator_in s p.0 p.1

-- Zero has no place among targets
in_target : (o : Op) (next : ℕ) → ruling code.Body spot.Target (class_of o) ≡ ruled.Fine → operator_in spot.Target o next ≡ Operator o next
in_target Zero next h = absurd cc
in_target o next h = refl

in_place : (s : Spot) (o : Op) (next : ℕ) → ruling code.Body s (class_of o) ≡ ruled.Fine → operator_in s o next ≡ Operator o next
in_place spot.Target o next h = in_target o next h
in_place s o next h = refl

begins_by : (s : Spot) (bytes : List ℕ) (at : ℕ) (o : Opening) → Begins code.Body s bytes at o → opening_by s (op_of_opening at o) ≡ o
begins_by s bytes at NoTarget h = rw h.0 refl
begins_by s bytes at PlainName h = rw h.0 refl
begins_by s bytes at InvokedName h = rw h.0 refl
begins_by s bytes at (Operator o next) h = in_place s o next h.2

-- the opening is the one that the operator at the place says
opened : (arity : NameString → ℕ → ℕ) (d : ℕ) (s : Spot) (bytes : List ℕ) (at : ℕ) (t : Tree) (o : Opening) (p : Option (Op × ℕ)) → op_there bytes at ≡ p → Begins code.Body s bytes at o → Follows arity (IsTerm code.Body arity d) o bytes at t → BeginsAs (opening_by s p) arity bytes at t
opened arity d s bytes at t o p e b h =
    let q : o ≡ opening_by s p = sym (begins_by s bytes at o b) ∙ ap (opening_by s) (sym (found s bytes at o b) ∙ e) in
    (d, subst (λ x. Follows arity (IsTerm code.Body arity d) x bytes at t) q h)

term_begins : (arity : NameString → ℕ → ℕ) (d asker : ℕ) (s : Spot) (bytes : List ℕ) (at : ℕ) (t : Tree) (p : Option (Op × ℕ)) → op_there bytes at ≡ p → IsTerm code.Body arity d asker s bytes at t → BeginsAs (opening_by s p) arity bytes at t
term_begins arity zero asker s bytes at t p e h = opened arity zero s bytes at t NoTarget p e h.0 h.1
term_begins arity (suc d) asker s bytes at t p e h = opened arity d s bytes at t h.0 p e h.1 h.2

pub operators : (arity : NameString → ℕ → ℕ) (d asker : ℕ) (s : Spot) (bytes : List ℕ) (at : ℕ) (t : Tree) (o : Op) (next : ℕ) → op_there bytes at ≡ Some (o, next) → IsTerm code.Body arity d asker s bytes at t → BeginsAs (operator_in s o next) arity bytes at t
operators arity d asker s bytes at t o next e h = term_begins arity d asker s bytes at t (Some (o, next)) e h

pub names : (arity : NameString → ℕ → ℕ) (d asker : ℕ) (s : Spot) (bytes : List ℕ) (at : ℕ) (t : Tree) → op_there bytes at ≡ None → IsTerm code.Body arity d asker s bytes at t → BeginsAs (name_in (naming code.Body s)) arity bytes at t
names arity d asker s bytes at t e h = term_begins arity d asker s bytes at t None e h

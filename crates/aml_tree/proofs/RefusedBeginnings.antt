-- What is wrong where no term begins is what is told.
use Rattle.std.proofs.Common.{◌≡◌, ℕ, ◌+◌, ◌≤◌, ◌<◌, inl, inr, List, Option, Some, None, Err, refl, ap, ◌∙◌, arith, rules}
use Rattle.std.specs.Prelude.{◌==◌, ◌&&◌, ◌⊎◌, slice_get, nat_lt, Bool, true, false}
use Rattle.std.proofs.lemmas.Bool.{ltb-true, ltb-false}
use Rattle.std.proofs.lemmas.Option.{slice_get_past}
use Rattle.aml_operators.specs.declared.op.Op.{Op}
use Rattle.aml_operators.specs.declared.op.Op.TheVariants.{Zero}
use Rattle.aml_operators.specs.declared.row.Class.TheVariants as class
use Rattle.aml_operators.specs.declared.row.Code.{Code}
use Rattle.aml_operators.specs.declared.row.Spot.{Spot}
use Rattle.aml_operators.specs.declared.row.Ruling.TheVariants as ruled
use Rattle.aml_operators.specs.Table.{row, op_of, class_of, rows, rows_from_deref, rows_from_lnot, rows_from_sleep}
use Rattle.aml_operators.specs.Places.{ruling}
use Rattle.aml_operators.proofs.Rows.{op_of_has, op_of_finds}
use Rattle.aml_tree.specs.declared.fault.TreeCause.TheVariants.{UnknownOpcode, ModuleCode}
use Rattle.aml_tree.specs.declared.fault.Refusal.{Refusal}
use Rattle.aml_tree.specs.Fault.{refusal}
use Rattle.aml_tree.specs.Leaf.{byte_at}
use Rattle.aml_tree.specs.Opening.{may_be_none, asking, row_opening, opening_at}
use Rattle.aml_tree.specs.Begins.{HasOpcode, HasNoTarget, FaultyBegin, NoByte, NoSecondByte, NameUnknown, NameOutside, NoOperator, OperatorUnknown, OperatorOutside}
use Rattle.aml_tree.proofs.Beginnings.{coded, targets, lead_not_none, wide_not_none, not_same}

-- no target that is none
none_absent : (s : Spot) (bytes : List ℕ) (at b : ℕ) → slice_get bytes at ≡ Some b → (HasNoTarget s bytes at → ⊥) → (v : Bool) → (may_be_none s && (b == 0)) ≡ v → v ≡ false
none_absent s bytes at b h absent false e = refl
none_absent s bytes at b h absent true e = let t = targets s b e in absurd (absent (t.0, h ∙ ap Some t.1))

pub told_absent : (s : Spot) (bytes : List ℕ) (at b : ℕ) → slice_get bytes at ≡ Some b → (HasNoTarget s bytes at → ⊥) → (may_be_none s && (b == 0)) ≡ false
told_absent s bytes at b h absent = none_absent s bytes at b h absent (may_be_none s && (b == 0)) refl

-- what has no row stands above all opcodes
part_code : (op : Op) → 0x10000 ≤ (row op).code → (row op).code ≡ 0x10000
part_code Zero le = absurd (omega arith)
part_code op le = omega arith

part_class : (op : Op) → 0x10000 ≤ (row op).code → class_of op ≡ class.Part
part_class Zero le = absurd (omega arith)
part_class op le = first_of (cc, grind arith)

none_above : op_of 0x10000 ≡ None
unfolding op_of rows rows_from_deref rows_from_lnot rows_from_sleep
none_above = refl

-- an operator is found at its opcode, or is a part
found_or_part : (op : Op) (v : Bool) → nat_lt (row op).code 0x10000 ≡ v → (op_of (row op).code ≡ Some op) ⊎ ((op_of (row op).code ≡ None) × (class_of op ≡ class.Part))
found_or_part op true e = inl (op_of_finds op (ltb-true _ _ e))
found_or_part op false e = let above : 0x10000 ≤ (row op).code = ltb-false _ _ e in inr (rw (part_code op above) none_above, part_class op above)

none_found : (c : ℕ) → ((op : Op) → (row op).code ≡ c → (row op).code < 0x10000 → ⊥) → (o : Option Op) → op_of c ≡ o → o ≡ None
none_found c unknown None e = refl
none_found c unknown (Some op) e = absurd (unknown op (op_of_has c op e) (coded op c e))

-- by its opcode alone
opened : (code : Code) (asker : ℕ) (s : Spot) (bytes : List ℕ) (at c next : ℕ) → HasOpcode c bytes at next → (HasNoTarget s bytes at → ⊥) → opening_at code asker s bytes at ≡ row_opening code s (op_of c) (asking s asker at) at next
unfolding opening_at byte_at
opened code asker s bytes at c next (inl k) absent = rw (k.0, told_absent s bytes at c k.0 absent, k.1, not_same c 0x5B k.2, k.3)
opened code asker s bytes at c next (inr k) absent = rw (k.1, wide_not_none s, k.2, ← k.3, k.4)

part_unknown : (code : Code) (s : Spot) → ruling code s class.Part ≡ ruled.Outside → ⊥
part_unknown k s e = first_of (cc, search rules)

unknown_row : (code : Code) (s : Spot) (op : Op) (told at next : ℕ) → ruling code s (class_of op) ≡ ruled.Unknown → row_opening code s (op_of (row op).code) told at next ≡ Err (refusal UnknownOpcode at)
unknown_row code s op told at next e = elim (found_or_part op (nat_lt (row op).code 0x10000) refl) [
  | inl found ↦ rw (found, e)
  | inr part ↦ rw part.0
]

outside_row : (code : Code) (s : Spot) (op : Op) (told at next : ℕ) → ruling code s (class_of op) ≡ ruled.Outside → row_opening code s (op_of (row op).code) told at next ≡ Err (refusal ModuleCode told)
outside_row code s op told at next e = elim (found_or_part op (nat_lt (row op).code 0x10000) refl) [
  | inl found ↦ rw (found, e)
  | inr part ↦ absurd (part_unknown code s (rw part.1 at e))
]

pub opening_fails : (code : Code) (asker : ℕ) (s : Spot) (bytes : List ℕ) (at : ℕ) (f : Refusal) → FaultyBegin code asker s bytes at f → opening_at code asker s bytes at ≡ Err f
unfolding opening_at byte_at
opening_fails code asker s bytes at _ (NoByte le) = rw (slice_get_past bytes at le)
opening_fails code asker s bytes at _ (NoSecondByte h le) = rw (h, wide_not_none s, slice_get_past bytes (at + 1) le)
opening_fails code asker s bytes at _ (NameUnknown h e) = rw (h.1, lead_not_none s h.0 h.2, h.2, e)
opening_fails code asker s bytes at _ (NameOutside h e) = rw (h.1, lead_not_none s h.0 h.2, h.2, e)
opening_fails code asker s bytes at _ (NoOperator opcode next h unknown absent) =
    opened code asker s bytes at opcode next h absent ∙ rw (none_found opcode unknown (op_of opcode) refl)
opening_fails code asker s bytes at _ (OperatorUnknown op next h e absent) = opened code asker s bytes at (row op).code next h absent ∙ unknown_row code s op (asking s asker at) at next e
opening_fails code asker s bytes at _ (OperatorOutside op next h e absent) = opened code asker s bytes at (row op).code next h absent ∙ outside_row code s op (asking s asker at) at next e

-- How a term begins, as a relation: by the table, the place, and the bytes of opcodes and names
-- (ACPI 6.5, 20.2.2 and 20.3).
use Rattle.std.specs.Prelude.{◌≡◌, ◌≢◌, ◌<◌, ◌≤◌, ◌⊎◌, ℕ, ◌+◌, List, length, Some, slice_get, true, false}
use Rattle.aml_operators.specs.declared.op.Op.{Op}
use Rattle.aml_operators.specs.declared.row.Code.{Code}
use Rattle.aml_operators.specs.declared.row.Spot.{Spot}
use Rattle.aml_operators.specs.declared.row.Spot.TheVariants as spot
use Rattle.aml_operators.specs.declared.row.Ruling.TheVariants as ruled
use Rattle.aml_operators.specs.declared.row.Naming.TheVariants as named
use Rattle.aml_operators.specs.Table.{row, class_of}
use Rattle.aml_operators.specs.Places.{ruling, naming}
use Rattle.aml_tree.specs.declared.fault.TreeCause.TheVariants.{UnknownOpcode, ModuleCode}
use Rattle.aml_tree.specs.declared.fault.Refusal.{Refusal}
use Rattle.aml_tree.specs.Fault.{refusal, truncated}
use Rattle.aml_tree.specs.Opening.{Opening, NoTarget, PlainName, InvokedName, Operator, is_name_lead, asking}

-- an opcode of one byte or of two, and the place behind it
abbrev pub HasOpcode : ℕ → List ℕ → ℕ → ℕ → Type 0
HasOpcode code bytes from next =
    ((slice_get bytes from ≡ Some code) × (is_name_lead code ≡ false) × (code ≢ 0x5B)
    × (next ≡ from + 1))
    ⊎ ((second : ℕ) × (slice_get bytes from ≡ Some 0x5B)
    × (slice_get bytes (from + 1) ≡ Some second) × (code ≡ 0x5B00 + second) × (next ≡ from + 2))

-- a name string begins here
abbrev pub HasNameLead : List ℕ → ℕ → Type 0
HasNameLead bytes from = (b : ℕ) × (slice_get bytes from ≡ Some b) × (is_name_lead b ≡ true)

-- a target place holds none
abbrev pub HasNoTarget : Spot → List ℕ → ℕ → Type 0
HasNoTarget s bytes from = (s ≡ spot.Target) × (slice_get bytes from ≡ Some 0)

abbrev pub Begins : Code → Spot → List ℕ → ℕ → Opening → Type 0
Begins code s bytes from NoTarget = HasNoTarget s bytes from
Begins code s bytes from PlainName = (naming code s ≡ named.Plain) × HasNameLead bytes from
Begins code s bytes from InvokedName = (naming code s ≡ named.Invoked) × HasNameLead bytes from
Begins code s bytes from (Operator op next) =
    ((row op).code < 0x10000) × HasOpcode (row op).code bytes from next
    × (ruling code s (class_of op) ≡ ruled.Fine)

-- no term begins here, and why
pub data FaultyBegin (code : Code) (asker : ℕ) (s : Spot) (bytes : List ℕ)
    (from : ℕ) : Refusal → Type 0 where
  -- the bytes end before it, or behind the first byte of an opcode of two
  NoByte : length bytes ≤ from → FaultyBegin code asker s bytes from (truncated (length bytes))
  NoSecondByte : slice_get bytes from ≡ Some 0x5B → length bytes ≤ from + 1 →
      FaultyBegin code asker s bytes from (truncated (length bytes))
  -- no name may stand here
  NameUnknown : HasNameLead bytes from → naming code s ≡ named.Unknown →
      FaultyBegin code asker s bytes from (refusal UnknownOpcode from)
  NameOutside : HasNameLead bytes from → naming code s ≡ named.Outside →
      FaultyBegin code asker s bytes from (refusal ModuleCode (asking s asker from))
  -- no operator has this opcode
  NoOperator : (opcode next : ℕ) → HasOpcode opcode bytes from next →
      ((op : Op) → (row op).code ≡ opcode → (row op).code < 0x10000 → ⊥) →
      (HasNoTarget s bytes from → ⊥) →
      FaultyBegin code asker s bytes from (refusal UnknownOpcode from)
  -- the operator of this opcode may not stand here
  OperatorUnknown : (op : Op) (next : ℕ) → HasOpcode (row op).code bytes from next →
      ruling code s (class_of op) ≡ ruled.Unknown → (HasNoTarget s bytes from → ⊥) →
      FaultyBegin code asker s bytes from (refusal UnknownOpcode from)
  OperatorOutside : (op : Op) (next : ℕ) → HasOpcode (row op).code bytes from next →
      ruling code s (class_of op) ≡ ruled.Outside → (HasNoTarget s bytes from → ⊥) →
      FaultyBegin code asker s bytes from (refusal ModuleCode (asking s asker from))

-- What the first bytes of a term and the place where it stands decide.
use Rattle.std.specs.Prelude.{ℕ, ◌+◌, ◌==◌, ◌&&◌, ◌||◌, List, Option, Some, None, Result, Ok, Err, if◌then◌else◌, Bool, true, false}
use Rattle.aml_operators.specs.declared.op.Op.{Op}
use Rattle.aml_operators.specs.declared.row.Code.{Code}
use Rattle.aml_operators.specs.declared.row.Spot.{Spot}
use Rattle.aml_operators.specs.declared.row.Spot.TheVariants as spot
use Rattle.aml_operators.specs.declared.row.Ruling.{Ruling}
use Rattle.aml_operators.specs.declared.row.Ruling.TheVariants as ruled
use Rattle.aml_operators.specs.declared.row.Naming.{Naming}
use Rattle.aml_operators.specs.declared.row.Naming.TheVariants as named
use Rattle.aml_operators.specs.Table.{class_of, op_of}
use Rattle.aml_operators.specs.Places.{ruling, naming}
use Rattle.aml_lex.specs.Characters.{is_lead_name_char}
use Rattle.aml_tree.specs.declared.fault.TreeCause.TheVariants.{UnknownOpcode, ModuleCode}
use Rattle.aml_tree.specs.declared.fault.Refusal.{Refusal}
use Rattle.aml_tree.specs.Fault.{refusal, ◌>>=◌}
use Rattle.aml_tree.specs.Leaf.{byte_at}

-- how a term begins
pub data Opening : Type 0 where
  -- a target that is none
  NoTarget : Opening
  -- a name that stands alone
  PlainName : Opening
  -- a name with as many terms as it takes
  InvokedName : Opening
  -- an operator, and the place behind its opcode
  Operator : (op : Op) (next : ℕ) → Opening

-- a name string begins with this byte (20.2.2); the null name stands for no term
abbrev pub is_name_lead : ℕ → Bool
is_name_lead b = is_lead_name_char b || (b == 0x5C) || (b == 0x5E) || (b == 0x2E) || (b == 0x2F)

-- only a target may be none
abbrev pub may_be_none : Spot → Bool
may_be_none spot.Target = true
may_be_none s = false

-- where a module's fault is told: at a statement itself, else at the operator that asks for
-- something else
abbrev pub asking : Spot → ℕ → ℕ → ℕ
asking spot.Statement asker at = at
asking s asker at = asker

abbrev pub name_opening : Naming → ℕ → ℕ → Result Opening Refusal
name_opening named.Invoked told at = Ok InvokedName
name_opening named.Plain told at = Ok PlainName
name_opening named.Unknown told at = Err (refusal UnknownOpcode at)
name_opening named.Outside told at = Err (refusal ModuleCode told)

abbrev pub ruled_opening : Ruling → Op → ℕ → ℕ → ℕ → Result Opening Refusal
ruled_opening ruled.Fine op told at next = Ok (Operator op next)
ruled_opening ruled.Unknown op told at next = Err (refusal UnknownOpcode at)
ruled_opening ruled.Outside op told at next = Err (refusal ModuleCode told)

abbrev pub row_opening : Code → Spot → Option Op → ℕ → ℕ → ℕ → Result Opening Refusal
row_opening code s None told at next = Err (refusal UnknownOpcode at)
row_opening code s (Some op) told at next =
    ruled_opening (ruling code s (class_of op)) op told at next

-- where the first byte is b
abbrev pub coded_opening : Code → ℕ → Spot → List ℕ → ℕ → ℕ → Result Opening Refusal
coded_opening code asker s bytes at b =
    if is_name_lead b then name_opening (naming code s) (asking s asker at) at
    else (if b == 0x5B then (do
      c ← byte_at bytes (at + 1)
      row_opening code s (op_of (0x5B00 + c)) (asking s asker at) at (at + 2))
    else row_opening code s (op_of b) (asking s asker at) at (at + 1))

-- the beginning of a term of such a code, asked for by an operator, in such a place
unfoldable pub opening_at : Code → ℕ → Spot → List ℕ → ℕ → Result Opening Refusal
opening_at code asker s bytes at = do
  b ← byte_at bytes at
  if may_be_none s && (b == 0) then Ok NoTarget else coded_opening code asker s bytes at b

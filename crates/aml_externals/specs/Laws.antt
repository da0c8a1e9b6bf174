-- Laws of opening: which bytes change, and what is then there.
use Rattle.std.specs.Prelude.{◌≡◌, ◌≢◌, ◌≤◌, ◌<◌, ℕ, suc, ◌+◌, ◌*◌, List, [], ◌∷◌, ◌++◌, length, drop, sum, Some, None, slice_index, slice_set, if◌then◌else◌, true, false}
use Rattle.aml_externals.specs.Opened.{kept, opened}
use Rattle.acpi_tables.specs.Header.{IsTable}
use Rattle.aml_operators.specs.declared.op.Op.TheVariants as op
use Rattle.aml_operators.specs.declared.row.Code.TheVariants as code
use Rattle.aml_operators.specs.declared.row.Spot.TheVariants as spot
use Rattle.aml_operators.specs.Tree.{Tree, Node, none, trees}
use Rattle.aml_tree.specs.Grammar.{IsTerm}
use Rattle.aml_tree.specs.Body.{module_start, no_arguments}
use Rattle.aml_externals.specs.DeadIfs.{dead_end}
use Rattle.aml_externals.specs.Table.{greatest_lists, table_opened, dead_at}
use Rattle.aml_externals.specs.Reached.{AreDefinitions, ComesTo}

-- a table keeps its length, and but for the checksum just the first byte of each dead If changes,
-- from an If's opcode to a Scope's
abbrev pub OpcodesAloneChange : Type 0
OpcodesAloneChange =
    (bytes : List ℕ) (at : ℕ) → module_start ≤ length bytes → at ≢ 9 → at < length bytes →
    slice_index (table_opened bytes).0 at ≡
    (if dead_at bytes at then 0x10 else slice_index bytes at)

abbrev pub LengthStays : Type 0
LengthStays = (bytes : List ℕ) → length (table_opened bytes).0 ≡ length bytes

abbrev pub TheyWereIfs : Type 0
TheyWereIfs = (bytes : List ℕ) (at : ℕ) → dead_at bytes at ≡ true → at < length bytes →
    slice_index bytes at ≡ 0xA0

-- what was a table of its length and its sum is still one
abbrev pub TablesStay : Type 0
TablesStay = (bytes : List ℕ) → IsTable bytes → IsTable (table_opened bytes).0

-- a table without dead Ifs stays as it is
abbrev pub OthersStay : Type 0
OthersStay = (bytes : List ℕ) → slice_index bytes 9 < 256 →
    ((at : ℕ) → at < length bytes → dead_at bytes at ≡ false) → table_opened bytes ≡ kept bytes

-- in a list each Scope's opcode is 90 below that of the If, and so many there are
abbrev pub EachIsCounted : Type 0
EachIsCounted = (depth : ℕ) (bytes : List ℕ) →
    sum (opened depth bytes).0 + 0x90 * (opened depth bytes).1 ≡ sum bytes

-- once opened, a table stays as it is
abbrev pub AgainNothingChanges : Type 0
AgainNothingChanges =
    (bytes : List ℕ) → table_opened (table_opened bytes).0 ≡ kept (table_opened bytes).0

-- and at no place of it begins a dead If
abbrev pub NoneIsFoundAgain : Type 0
NoneIsFoundAgain =
    (bytes : List ℕ) (at : ℕ) → at < length bytes → dead_at (table_opened bytes).0 at ≡ false

-- an External
abbrev pub IsExternal : Tree → Type 0
IsExternal (Node o at stop parts) = o ≡ op.External

abbrev pub AllExternal : List Tree → Type 0
AllExternal [] = Unit {0}
AllExternal (t ∷ ts) = IsExternal t × AllExternal ts

-- behind any bytes, and before any others: the block of a dead If holds Externals alone, by the
-- grammar, and is a Scope of no name that has just these as its definitions, at the same places,
-- once its opcode is a Scope's
abbrev pub DeadIfsAreScopes : Type 0
DeadIfsAreScopes = (front block behind more : List ℕ) (asker depth : ℕ) →
    dead_end (block ++ behind) ≡ Some (length block)
    → (at : ℕ) × (externals : List Tree) × AllExternal externals × (0 < length externals)
    × AreDefinitions (suc depth) (front ++ block) (at + 1) (length front + length block) externals
    × IsTerm code.Module no_arguments (suc (suc depth)) asker spot.Statement
    (front ++ (slice_set block 0 0x10 ++ more)) (length front)
    (Node op.Scope (length front) (length front + length block)
    (trees (Node op.NameString at (at + 1) none ∷ externals)))

-- in a table that is opened no dead If stands where the grammar comes to before the module's first
-- fault
abbrev pub NoneIsLeft : Type 0
NoneIsLeft = (bytes list : List ℕ) (at : ℕ) →
    ComesTo greatest_lists (table_opened bytes).0 module_start list at →
    dead_end (drop at list) ≡ None

-- The data of a Name: a literal, a string, a buffer or a package (ACPI 6.5, 20.2.5.1).
use Rattle.std.specs.Prelude.{ℕ, List, Result, Ok, Err}
use Rattle.aml_operators.specs.declared.row.Code.TheVariants as code
use Rattle.aml_operators.specs.declared.row.Spot.TheVariants as spot
use Rattle.aml_operators.specs.declared.term.Term.{Term}
use Rattle.aml_operators.specs.Tree.{Tree, view}
use Rattle.aml_tree.specs.declared.fault.Refusal.{Refusal}
use Rattle.aml_tree.specs.declared.fault.TreeFault.{TreeFault}
use Rattle.aml_tree.specs.declared.fault.TreeFault.TheVariants.{NoMemory, Refused}
use Rattle.aml_tree.specs.Body.{greatest_depth, no_arguments}
use Rattle.aml_tree.specs.Grammar.{IsTerm, Faulty}
use Rattle.aml_tree.specs.Reading.{term_at}

-- the data of a module's Name, as it stands from a place on
abbrev pub IsData : List ℕ → ℕ → Tree → Type 0
IsData bytes at t = IsTerm code.Module no_arguments greatest_depth at spot.Data bytes at t

abbrev pub FaultyData : List ℕ → ℕ → Refusal → Type 0
FaultyData bytes at f = Faulty code.Module no_arguments greatest_depth at spot.Data bytes at f

-- the answer of a reader of data
abbrev pub ReadsData : List ℕ → ℕ → Result Tree TreeFault → Type 0
ReadsData bytes at (Ok t) = IsData bytes at t
ReadsData bytes at (Err NoMemory) = Unit {0}
ReadsData bytes at (Err (Refused f)) = FaultyData bytes at f × ((t : Tree) → IsData bytes at t → ⊥)

-- reading data from left to right
abbrev pub data_at : List ℕ → ℕ → Result Tree Refusal
data_at bytes at = term_at code.Module no_arguments greatest_depth at spot.Data bytes at

-- the tree of the term that a reader answers
abbrev pub tree_read : Result Term TreeFault → Result Tree TreeFault
tree_read (Ok term) = Ok (view term)
tree_read (Err fault) = Err fault

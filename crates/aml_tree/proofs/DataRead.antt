-- The data of a Name is read as it stands.
use Rattle.std.proofs.Common.{ℕ, List, Result, Ok, Err}
use Rattle.aml_operators.specs.declared.row.Code.TheVariants as code
use Rattle.aml_operators.specs.declared.row.Spot.TheVariants as spot
use Rattle.aml_operators.specs.declared.term.Term.{Term}
use Rattle.aml_operators.specs.Tree.{view}
use Rattle.aml_tree.specs.declared.fault.TreeFault.{TreeFault}
use Rattle.aml_tree.specs.declared.fault.TreeFault.TheVariants.{NoMemory, Refused}
use Rattle.aml_tree.specs.Body.{greatest_depth, no_arguments}
use Rattle.aml_tree.specs.Fault.{ReadsAs}
use Rattle.aml_tree.specs.Data.{IsData, FaultyData, ReadsData, data_at, tree_read}
use Rattle.aml_tree.proofs.Combining.{of_ok, of_err}
use Rattle.aml_tree.proofs.RightTerms.{term_right}
use Rattle.aml_tree.proofs.Full.{term_full}

pub data_reads : (bytes : List ℕ) (at : ℕ) (result : Result Term TreeFault) → ReadsAs view result (data_at bytes at) → ReadsData bytes at (tree_read result)
data_reads bytes at (Ok term) e =
    of_ok (data_at bytes at) (IsData bytes at) (FaultyData bytes at) (view term) (term_right code.Module no_arguments greatest_depth at spot.Data bytes at) e
data_reads bytes at (Err NoMemory) e = tt
data_reads bytes at (Err (Refused f)) e = (
  of_err (data_at bytes at) (IsData bytes at) (FaultyData bytes at) f (term_right code.Module no_arguments greatest_depth at spot.Data bytes at) e,
  λ t h. let x = term_full code.Module no_arguments greatest_depth at spot.Data bytes at t h in cc (x, e),
)

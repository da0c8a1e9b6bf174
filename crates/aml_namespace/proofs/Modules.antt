-- The terms of a module.
use Rattle.std.proofs.Common.{List, ℕ, map}
use Rattle.aml_operators.specs.declared.row.Code.TheVariants as code
use Rattle.aml_operators.specs.declared.term.Term.{Term}
use Rattle.aml_operators.specs.Shape.{AreShaped}
use Rattle.aml_operators.specs.Tree.{view, views}
use Rattle.aml_tree.specs.Body.{IsModule}
use Rattle.aml_tree.proofs.Shaped.{module_shaped}

-- have their shape
pub module_terms : (bytes : List ℕ) (ts : List Term) → IsModule bytes (map view ts) → AreShaped code.Module (views ts)
module_terms bytes ts h = (module_shaped bytes (map view ts) h).1

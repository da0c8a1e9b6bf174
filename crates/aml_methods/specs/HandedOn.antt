-- Statements of methods' bodies that are handed on.
use Rattle.std.specs.Prelude.{◌≡◌, ℕ, List, map, Option, Some, None, slice_get, unwrap_or, Vec}
use Rattle.std.specs.declared.alloc.Global.{Global}
use Rattle.aml_bodies.specs.Methods.{AreStatementsOf}
use Rattle.aml_namespace.specs.Load.{Shown}
use Rattle.aml_operators.specs.declared.term.Term.{Term}
use Rattle.aml_operators.specs.Tree.{view}

-- the statements under a number, if any are there
abbrev pub tree_at : List (Option (Vec Term Global)) → ℕ → Option (Vec Term Global)
tree_at trees k = unwrap_or (slice_get trees k) None

-- those under a number are the statements of its method's body
pub record AreTrees (ns : Shown) (trees : List (Option (Vec Term Global))) : Type 0 where
  pub are : (k : ℕ) (body : Vec Term Global) → tree_at trees k ≡ Some body →
      AreStatementsOf ns k (map view body.items)

-- Terms whose literals of data hold no more than those of a table may: integers of the width,
-- bytes, and packages that have not too many elements.
use Rattle.std.specs.Prelude.{ℕ}
use Rattle.aml_operators.specs.declared.op.Op.{Op}
use Rattle.aml_operators.specs.Tree.{Tree, Trees, Node, none, more}
use Rattle.aml_values.specs.Values.{Value}
use Rattle.aml_meaning.specs.declared.action.Action.{Action}
use Rattle.aml_meaning.specs.declared.action.Action.TheVariants.{Data}
use Rattle.aml_meaning.specs.Actions.{action}
use Rattle.aml_judged.specs.Safe.{IsWord}

-- by what each literal of data holds, by its operator and its parts
module _ (width : ℕ) (literal : Op → Trees → Value) where
  abbrev pub IsSmallBy : Action → Trees → Type 0
  IsSmallBy (Data o) parts = IsWord width (literal o parts)
  IsSmallBy a parts = Unit {0}

  abbrev mutual
    -- each literal of data that stands in a term, at any depth
    pub IsSmall : Tree → Type 0
    IsSmall (Node o at stop parts) = IsSmallBy (action o) parts × AllSmall parts

    pub AllSmall : Trees → Type 0
    AllSmall none = Unit {0}
    AllSmall (more t ts) = IsSmall t × AllSmall ts

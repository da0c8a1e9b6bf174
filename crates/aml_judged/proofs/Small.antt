-- Where each literal that there may be is small, those of all terms are.
use Rattle.std.proofs.Common.{ℕ}
use Rattle.aml_operators.specs.declared.op.Op.{Op}
use Rattle.aml_operators.specs.Tree.{Tree, Trees, Node, none, more}
use Rattle.aml_values.specs.Values.{Value}
use Rattle.aml_meaning.specs.declared.action.Action.{Action}
use Rattle.aml_meaning.specs.declared.action.Action.TheVariants.{Data}
use Rattle.aml_meaning.specs.Actions.{action}
use Rattle.aml_judged.specs.Safe.{IsWord}
use Rattle.aml_judged.specs.Small.{IsSmallBy, IsSmall, AllSmall}

module _ (width : ℕ) (literal : Op → Trees → Value) (words : (o : Op) (parts : Trees) → IsWord width (literal o parts)) where
  small_by : (a : Action) (parts : Trees) → IsSmallBy width literal a parts
  small_by (Data o) parts = words o parts
  small_by a parts = tt

  mutual
    is_small : (t : Tree) → IsSmall width literal t
    is_small (Node o at stop parts) = (small_by (action o) parts, all_small parts)

    pub all_small : (ts : Trees) → AllSmall width literal ts
    all_small none = tt
    all_small (more t ts) = (is_small t, all_small ts)

-- The statements of one body more are handed on.
use Rattle.std.proofs.Common.{◌≡◌, ℕ, List, map, set, Option, Some, None, sym, subst, ◌∙◌}
use Rattle.std.proofs.lemmas.Option.{same_Some}
use Rattle.std.specs.Prelude.{Vec}
use Rattle.std.specs.declared.alloc.Global.{Global}
use Rattle.aml_bodies.specs.Methods.{AreStatementsOf}
use Rattle.aml_namespace.specs.Load.{Shown}
use Rattle.aml_operators.specs.declared.term.Term.{Term}
use Rattle.aml_operators.specs.Tree.{view}
use Rattle.aml_methods.proofs.ByNumber.{not_both, put_is, put_other}
use Rattle.aml_methods.proofs.Places.{by_same}
use Rattle.aml_methods.specs.HandedOn.{AreTrees, tree_at}

-- where none is there, all are right
pub no_trees : (ns : Shown) (ts : List (Option (Vec Term Global))) → ((k : ℕ) → tree_at ts k ≡ None) → AreTrees ns ts
no_trees ns ts none = record { are = λ k body e. absurd (not_both (tree_at ts k) body e (none k)) }

module _ (ns : Shown) (ts : List (Option (Vec Term Global))) (k : ℕ) (body : Vec Term Global) (read : AreStatementsOf ns k (map view body.items)) where
  tree_here : (x : Vec Term Global) → tree_at (set ts k (Some body)) k ≡ Some x → AreStatementsOf ns k (map view x.items)
  tree_here x e = subst (λ (b : Vec Term Global). AreStatementsOf ns k (map view b.items)) (same_Some body x (put_is ts k (Some body) x e)) read

  pub one_tree : AreTrees ns ts → AreTrees ns (set ts k (Some body))
  one_tree are = record {
    are = λ i x e. by_same _ i k
        (λ same. subst (λ n. tree_at (set ts k (Some body)) n ≡ Some x → AreStatementsOf ns n (map view x.items)) (sym same) (tree_here x) e)
        (λ other. are.are i x (sym (put_other None ts k (Some body) i other) ∙ e));
  }

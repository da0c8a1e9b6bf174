-- What is found of the methods of a namespace, as they are judged.
use Rattle.std.proofs.Common.{◌≡◌, ℕ, List, [], ◌∷◌, Option, Some, None, Err, refl, ap, ◌∙◌}
use Rattle.aml_calls.specs.Calls.{calls_of}
use Rattle.aml_judged.specs.Verdicts.{called_from, calls_by, Judging}
use Rattle.aml_meaning.specs.Methods.{callee_in, callee_of, listed}
use Rattle.aml_meaning.specs.Within.{Methods}
use Rattle.aml_namespace.specs.declared.link.Link.{Link}
use Rattle.aml_objects.specs.declared.object.Method.{Method}
use Rattle.aml_namespace.specs.Load.{Shown}
use Rattle.aml_namespace.specs.Names.{body_bytes, IsBodyOf, link_with_owns, method_at, ReadsBodyOf}
use Rattle.aml_operators.specs.Tree.{Tree, Trees, trees}
use Rattle.aml_own_names.specs.OwnNames.{own_names}
use Rattle.aml_tree.specs.declared.fault.Refusal.{Refusal}
use Rattle.aml_tree.specs.declared.fault.TreeFault.TheVariants.{Refused}
use Rattle.aml_methods.specs.Judgings.{IsJudging, Told}

pub listed_trees : (ts : List Tree) → listed (trees ts) ≡ ts
listed_trees [] = refl
listed_trees (t ∷ ts) = ap (λ us. t ∷ us) (listed_trees ts)

-- what names mean in a body with its own names
abbrev pub links_in : Shown → ℕ → Method → List Tree → ℕ → Link
links_in ns k m ts = link_with_owns ns.entries k (body_bytes ns m) (own_names (body_bytes ns m) ts)

module _ (ns : Shown) (told : Told) (all : Judging) (J : IsJudging ns told all) where
  callee_is : (k : ℕ) → all.methods.callee k ≡ callee_in ns k (method_at ns k) (J.bodies k)
  callee_is k = ap (λ (methods : Methods). methods.callee k) J.methods

  -- with the one that it is
  callee_at : (k : ℕ) (o : Option Method) (body : Option Trees) → method_at ns k ≡ o → J.bodies k ≡ body
      → all.methods.callee k ≡ callee_in ns k o body
  callee_at k o body is has =
      callee_is k
      ∙ ap (λ (x : Option Method). callee_in ns k x (J.bodies k)) is
      ∙ ap (λ (x : Option Trees). callee_in ns k o x) has

  -- a method whose body has a tree is called with it
  pub callee_there : (k : ℕ) (m : Method) (ts : List Tree) → method_at ns k ≡ Some m → IsBodyOf ns k m ts
      → all.methods.callee k ≡ Some (callee_of ns k m (trees ts))
  callee_there k m ts is body = callee_at k (Some m) (Some (trees ts)) is (J.are.all k m is ts body)

  -- where no method has the number, none is called
  pub no_callee : (k : ℕ) → method_at ns k ≡ None → all.methods.callee k ≡ None
  no_callee k is = callee_at k None (J.bodies k) is refl

  no_trees : (k : ℕ) (m : Method) (body : Option Trees) → method_at ns k ≡ Some m
      → ((ts : List Tree) → IsBodyOf ns k m ts → ⊥) → J.bodies k ≡ body → body ≡ None
  no_trees k m None is none has = refl
  no_trees k m (Some body) is none has = let b = J.are.only k m is body has in absurd (none b.0 b.1)

  -- nor where its body has no tree
  pub no_tree : (k : ℕ) (m : Method) → method_at ns k ≡ Some m → ((ts : List Tree) → IsBodyOf ns k m ts → ⊥)
      → all.methods.callee k ≡ None
  no_tree k m is none = callee_at k (Some m) None is (no_trees k m (J.bodies k) is none refl)

  -- as a reader says that refuses it
  pub unread : (k : ℕ) (m : Method) (f : Refusal) → method_at ns k ≡ Some m → ReadsBodyOf ns k m (Err (Refused f))
      → all.methods.callee k ≡ None
  unread k m f is refused = no_tree k m is refused.1

  -- what it calls is what its statements call
  pub calls_there : (k : ℕ) (m : Method) (ts : List Tree) → method_at ns k ≡ Some m → IsBodyOf ns k m ts
      → called_from all k ≡ calls_of (links_in ns k m ts) (trees ts)
  calls_there k m ts is body =
      ap calls_by (callee_there k m ts is body)
      ∙ ap (λ (us : List Tree). calls_of (links_in ns k m us) (trees ts)) (listed_trees ts)

  pub calls_nothing : (k : ℕ) → all.methods.callee k ≡ None → called_from all k ≡ []
  calls_nothing k none = ap calls_by none

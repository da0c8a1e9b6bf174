-- Statements that are handed on are those of their methods' bodies.
use Rattle.std.proofs.Common.{◌≡◌, ℕ, List, [], ◌∷◌, map, Option, Some, refl, sym, ap, subst, ◌∙◌}
use Rattle.std.proofs.lemmas.Option.{same_Some}
use Rattle.std.specs.Prelude.{Vec}
use Rattle.std.specs.declared.alloc.Global.{Global}
use Rattle.aml_bodies.proofs.Around.{around_there}
use Rattle.aml_meaning.specs.Methods.{listed}
use Rattle.aml_methods.specs.HandedOn.{AreTrees, tree_at}
use Rattle.aml_objects.specs.declared.object.Method.{Method}
use Rattle.aml_namespace.specs.Load.{Shown}
use Rattle.aml_namespace.specs.Names.{IsBodyOf, method_at}
use Rattle.aml_operators.specs.declared.term.Term.{Term}
use Rattle.aml_operators.specs.Tree.{Tree, trees, view}
use Rattle.aml_verify.specs.Keeping.{AreHanded}

listed_back : (ts : List Tree) → listed (trees ts) ≡ ts
listed_back [] = refl
listed_back (t ∷ ts) = ap (λ (us : List Tree). t ∷ us) (listed_back ts)

same_trees : (ts us : List Tree) → trees ts ≡ trees us → ts ≡ us
same_trees ts us e = sym (listed_back ts) ∙ ap listed e ∙ listed_back us

pub are_handed : (ns : Shown) (on : List (Option (Vec Term Global))) → AreTrees ns on → AreHanded ns on
are_handed ns on are = record { are = λ k body e m is bodies told. told.all k m is (map view body.items) ((are.are k body e).are m is) }

pub handed_statements : (ns : Shown) (on : List (Option (Vec Term Global))) (k : ℕ) (m : Method) (body : Vec Term Global) → AreHanded ns on → tree_at on k ≡ Some body → method_at ns k ≡ Some m → IsBodyOf ns k m (map view body.items)
handed_statements ns on k m body are e is =
    let around = around_there ns in
    let said = are.are k body e m is around.bodies around.are in
    let read = around.are.only k m is (trees (map view body.items)) said in
    let same = same_Some (trees read.0) (trees (map view body.items)) (sym (around.are.all k m is read.0 read.1) ∙ said) in
    subst (λ (ts : List Tree). IsBodyOf ns k m ts) (same_trees read.0 (map view body.items) same) read.1

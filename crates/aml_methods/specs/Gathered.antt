-- What methods call, and what is kept of their bodies, as it is gathered from these.
use Rattle.std.specs.Prelude.{◌≡◌, ℕ, List, [], ◌∷◌, Option, Some, None, IsSome, true}
use Rattle.aml_bodies.specs.Kept.{IsKept}
use Rattle.aml_bodies.specs.declared.keeping.Kept.{Kept}
use Rattle.aml_calls.specs.Chains.{is_among}
use Rattle.aml_calls.specs.Pairs.{calls_in, named, Pair}
use Rattle.aml_judged.specs.Verdicts.{called_from, Judging}
use Rattle.aml_namespace.specs.declared.link.Link.{Link}
use Rattle.aml_objects.specs.declared.object.Method.{Method}
use Rattle.aml_namespace.specs.Load.{Shown}
use Rattle.aml_namespace.specs.Names.{IsBodyOf, link_with_owns, method_at}
use Rattle.aml_namespace.specs.Shows.{shown}
use Rattle.aml_operators.specs.Tree.{Tree}
use Rattle.aml_own_names.specs.OwnNamesSeen.{owns_seen}
use Rattle.aml_paths.specs.declared.scope.ObjectId.{ObjectId}
use Rattle.aml_methods.specs.Judgings.{IsJudging, Told}
use Rattle.aml_methods.specs.declared.named.Named.{Named}

-- what the names of a body mean
abbrev pub links_of : Named → ℕ → Link
links_of n =
    link_with_owns (shown n.namespace.now).entries n.method.0 n.bytes.now (owns_seen n.owns.now)

-- a method's number, if there is one
abbrev pub if_any : Option ObjectId → List ℕ
if_any (Some id) = id.0 ∷ []
if_any None = []

-- the methods that the method with a number calls, however its arguments are told
abbrev pub IsCalledFrom : Shown → ℕ → List ℕ → Type 0
IsCalledFrom ns k callees =
    (told : Told) (all : Judging) → IsJudging ns told all → callees ≡ called_from all k

-- what is kept of the body of the method with a number, where that has a tree
pub record IsFoundOf (ns : Shown) (k : ℕ) (found : Option Kept) : Type 0 where
  pub is : (one : Kept) → found ≡ Some one → IsKept ns k one
  pub all : (m : Method) → method_at ns k ≡ Some m → (ts : List Tree) → IsBodyOf ns k m ts →
      IsSome found

-- each method has a pair, with those that it calls
pub record AreCalls (ns : Shown) (pairs : List Pair) : Type 0 where
  pub each : (k : ℕ) → IsCalledFrom ns k (calls_in pairs k)
  pub all : (k : ℕ) (m : Method) → method_at ns k ≡ Some m → is_among k (named pairs) ≡ true

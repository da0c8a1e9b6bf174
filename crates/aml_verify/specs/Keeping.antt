-- What is kept of the bodies that a verifier read, and which methods it marks as those that
-- evaluate integers alone.
use Rattle.std.specs.Prelude.{◌≡◌, ℕ, Bool, List, length, map, take, Option, Some, None, Vec}
use Rattle.std.specs.Option.{option_map}
use Rattle.std.specs.declared.alloc.Global.{Global}
use Rattle.aml_bodies.specs.Kept.{kept_at}
use Rattle.aml_bodies.specs.Links.{AreLinks}
use Rattle.aml_bodies.specs.declared.keeping.Kept.{Kept}
use Rattle.aml_calls.specs.Chains.{is_among}
use Rattle.aml_integers.specs.Known.{marked}
use Rattle.aml_integers.specs.Laws.{AreDecided}
use Rattle.aml_judged.specs.Integers.{AreIntegerOnly}
use Rattle.aml_judged.specs.Judged.{Accepted}
use Rattle.aml_judged.specs.Verdicts.{AreAccepted, Judging}
use Rattle.aml_meaning.specs.Methods.{AreBodies}
use Rattle.aml_methods.specs.HandedOn.{tree_at}
use Rattle.aml_methods.specs.Judgings.{IsJudging, Told}
use Rattle.aml_namespace.specs.declared.link.Link.{Link}
use Rattle.aml_objects.specs.declared.object.Method.{Method}
use Rattle.aml_namespace.specs.Load.{Shown}
use Rattle.aml_namespace.specs.Names.{IsBodyOf, body_bytes, link_with_owns, method_at}
use Rattle.aml_operators.specs.declared.term.Term.{Term}
use Rattle.aml_operators.specs.Tree.{Tree, Trees, trees, view}
use Rattle.aml_own_names.specs.OwnNames.{own_names}
use Rattle.aml_own_names.specs.OwnNamesSeen.{owns_seen}

-- what the names of each body mean that is kept
abbrev pub AreMeant : Shown → List (Option Kept) → Type 0
AreMeant ns kept = (k : ℕ) (one : Kept) → kept_at kept k ≡ Some one → (m : Method) →
    method_at ns k ≡ Some m →
    AreLinks (link_with_owns ns.entries k (body_bytes ns m) (owns_seen one.owns)) one.links

-- those methods that are judged are marked as is decided of them, others are not marked
pub record MarksSoFar (ns : Shown) (told : Told) (order : List ℕ) (judged : ℕ)
    (only : List Bool) : Type 0 where
  pub room : length only ≡ length ns.entries
  pub are : (all : Judging) → IsJudging ns told all → (known : ℕ → Option Accepted) →
      AreAccepted all known →
      AreDecided all known (λ k. is_among k (take judged order)) (marked only)

-- marked are those methods that evaluate integers alone
abbrev pub AreMarked : Shown → Told → List Bool → Type 0
AreMarked ns told only =
    (all : Judging) → IsJudging ns told all → (known : ℕ → Option Accepted) →
    AreAccepted all known →
    AreIntegerOnly all known (marked only)

-- the table of a method, the place there of its body's first byte, and the table's bytes up to the
-- body's end
abbrev pub place_of : Shown → Method → ℕ × ℕ × List ℕ
place_of ns m = (m.table, m.body.at, body_bytes ns m)

-- the same of the method with a number, where it is accepted
abbrev pub body_of : Shown → ℕ → Option Accepted → Option (ℕ × ℕ × List ℕ)
body_of ns k None = None
body_of ns k (Some a) = option_map (place_of ns) (method_at ns k)

-- what a name at a place means in the body of the method with a number, its own names among it
abbrev pub Means : Shown → ℕ → ℕ → Link → Type 0
Means ns k at l = (m : Method) → method_at ns k ≡ Some m → (ts : List Tree) → IsBodyOf ns k m ts →
    l ≡ link_with_owns ns.entries k (body_bytes ns m) (own_names (body_bytes ns m) ts) at

-- the statements that are handed on under a number are those of its method's body, by whatever
-- tells what these are
pub record AreHanded (ns : Shown) (trees_on : List (Option (Vec Term Global))) : Type 0 where
  pub are : (k : ℕ) (body : Vec Term Global) → tree_at trees_on k ≡ Some body → (m : Method) →
      method_at ns k ≡ Some m →
      (bodies : ℕ → Option Trees) → AreBodies ns bodies →
      bodies k ≡ Some (trees (map view body.items))

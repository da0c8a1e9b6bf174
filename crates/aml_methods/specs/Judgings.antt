-- The methods of a namespace, as they are judged.
use Rattle.std.specs.Prelude.{◌≡◌, ◌≤◌, ℕ, List, map, take, slice_get, Option, Some, true, false}
use Rattle.aml_calls.specs.Chains.{is_among, is_short, TellsReach}
use Rattle.aml_components.specs.Components.{are_together}
use Rattle.aml_components.specs.declared.components.Components.{Components}
use Rattle.aml_components.specs.Heights.{is_short_in}
use Rattle.aml_components.specs.declared.heights.Heights.{Heights}
use Rattle.aml_contents.specs.FirstContents.{first_kinds}
use Rattle.aml_judged.specs.Verdicts.{called_from, Judging, TellsChains}
use Rattle.aml_kinds.specs.Kinds.{Kind}
use Rattle.aml_meaning.specs.Methods.{AreBodies, methods_of}
use Rattle.aml_objects.specs.declared.object.Method.{Method}
use Rattle.aml_namespace.specs.Load.{Shown}
use Rattle.aml_namespace.specs.Names.{method_at}
use Rattle.aml_operators.specs.Tree.{Trees}
use Rattle.aml_path_text.specs.Paths.{path_of}
use Rattle.aml_paths.specs.Printed.{path_text}
use Rattle.aml_signatures.specs.ArgumentKinds.{argument_kinds, kind_of_argument}
use Rattle.aml_signatures.specs.declared.argument_kind.ArgumentKind.{ArgumentKind}

-- what signatures tell of the methods with printed paths
abbrev pub Told : Type 0
Told = List ℕ → Option (List ArgumentKind)

-- the kinds of the arguments of the method with a number
abbrev pub arguments_of : Shown → Told → ℕ → Method → List Kind
arguments_of ns told k m = map (kind_of_argument ns.width)
    (argument_kinds told (path_text (path_of ns.entries k)) m.args ns.width)

-- a namespace's methods, with arguments of these kinds, data names of the kinds of what they hold
-- first, and chains of calls that are told rightly
pub record IsJudging (ns : Shown) (told : Told) (all : Judging) : Type 0 where
  pub bodies : ℕ → Option Trees
  pub are : AreBodies ns bodies
  pub methods : all.methods ≡ methods_of ns bodies
  pub kinds : all.kinds ≡ first_kinds ns
  pub args : (k : ℕ) (m : Method) → method_at ns k ≡ Some m →
      all.args k ≡ arguments_of ns told k m
  pub chains : TellsChains all

-- what each method calls stands before it in an order, or begins too long a chain
abbrev pub IsReady : Judging → List ℕ → Type 0
IsReady all order =
    (i k j : ℕ) → slice_get order i ≡ Some k → is_among j (called_from all k) ≡ true →
    is_among j (take i order) ≡ false → is_short (called_from all) 64 j ≡ false

-- how long chains of calls are, which methods reach those that call them, and such an order
pub record TellsCalls (all : Judging) (heights : Heights) (components : Components)
    (order : List ℕ) : Type 0 where
  pub short : (d k : ℕ) → d ≤ 64 → is_short_in heights d k ≡ is_short (called_from all) d k
  pub reach : (k j : ℕ) → is_among j (called_from all k) ≡ true →
      TellsReach (called_from all) j k (are_together components j k)
  pub ready : IsReady all order

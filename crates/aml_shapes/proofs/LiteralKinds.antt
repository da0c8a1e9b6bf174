-- The kind that a literal's term tells is that of what it holds.
use Rattle.std.proofs.Common.{◌≡◌, ◌∙◌, ℕ, zero, suc, List, length, Option, refl, sym, ap}
use Rattle.aml_operators.specs.declared.op.Op.{Op}
use Rattle.aml_operators.specs.declared.op.Op.TheVariants as op
use Rattle.aml_operators.specs.Tree.{Tree, Trees, Node, none, more}
use Rattle.aml_objects.specs.declared.object.Content.{Content}
use Rattle.aml_objects.specs.declared.object.Content.TheVariants as content
use Rattle.aml_paths.specs.declared.scope.ObjectId.{ObjectId}
use Rattle.aml_paths.specs.declared.scope.Scope.{Scope}
use Rattle.aml_paths.specs.declared.scope.Scope.TheVariants.{At}
use Rattle.aml_objects.specs.declared.width.Width.{Width}
use Rattle.aml_namespace.specs.Bodies.{bytes_of}
use Rattle.aml_namespace.specs.Load.{Shown}
use Rattle.aml_namespace.specs.Made.{content_in}
use Rattle.aml_values.specs.Values as value
use Rattle.aml_values.specs.Values.{Elements, Value}
use Rattle.aml_kinds.specs.Kinds.{BufOf, StrOf, PkgOf, Shape, with, ValueOf, Anything}
use Rattle.aml_contents.specs.DataKinds.{counted_places, kind_told, place_told, shape_behind, shape_in, tree_place}
use Rattle.aml_contents.specs.FirstContents.{bytes_in, counted, element_by, element_in, elements_behind, elements_in, named, number_of, value_of, value_told}
use Rattle.aml_contents.specs.FirstKinds.{kind_by, place_by, shape_by}
use Rattle.aml_contents.proofs.FirstNames.{length-filled}
use Rattle.aml_known.specs.declared.known.Known.{Known}
use Rattle.aml_known.specs.Views.{kind_of}
use Rattle.aml_shapes.specs.Literals.{IsLiteral, literal_kind}
use Rattle.aml_shapes.specs.Numbers.{IsKnown, numbered}

-- so many elements have so many places
elements_counted : (size : ℕ) (es : Elements) → shape_by (counted size es) ≡ counted_places size (shape_by es)
elements_counted zero es = refl
elements_counted (suc n) value.none = ap (with Anything) (elements_counted n value.none)
elements_counted (suc n) (value.more e es) = ap (with (place_by e)) (elements_counted n es)

told_kind : (width : Width) (told : Content) (number : ℕ) (bytes : List ℕ) (es : Elements) → kind_by (value_told width told number bytes es) ≡ kind_told width told number (shape_by es)
told_kind width content.Integer number bytes es = refl
told_kind width (content.Buffer size) number bytes es = ap BufOf (length-filled size bytes)
told_kind width (content.String size) number bytes es = ap StrOf (length-filled size bytes)
told_kind width (content.Package size) number bytes es = ap PkgOf (elements_counted size es)

-- an element that is a name or a value
told_place : (width : Width) (o : Op) (parts : Trees) (s : Shape) (named : Option ObjectId) (v : Value) → kind_by v ≡ kind_told width (content_in o parts) (number_of o parts) s → place_by (element_by o named v) ≡ place_told width o parts s
told_place width op.NameString parts s named v e = refl
told_place width o parts s named v e = ap ValueOf e

module _ (ns : Shown) (table : ℕ) (scope : Scope) where
  mutual
    place_of : (t : Tree) → place_by (element_in ns table scope t) ≡ tree_place ns.width t
    place_of (Node o at stop parts) =
        told_place ns.width o parts (shape_behind ns.width parts) (named ns table scope at) (value_of ns table scope (content_in o parts) o parts)
        (told_kind ns.width (content_in o parts) (number_of o parts) (bytes_in (bytes_of ns.tables table) o parts) (elements_behind ns table scope parts) ∙ ap (kind_told ns.width (content_in o parts) (number_of o parts)) (places_behind parts))

    places_of : (ts : Trees) → shape_by (elements_in ns table scope ts) ≡ shape_in ns.width ts
    places_of none = refl
    places_of (more t ts) =
        ap (λ e. with e (shape_by (elements_in ns table scope ts))) (place_of t) ∙ ap (with (tree_place ns.width t)) (places_of ts)

    places_behind : (parts : Trees) → shape_by (elements_behind ns table scope parts) ≡ shape_behind ns.width parts
    places_behind none = refl
    places_behind (more size ts) = places_of ts

  value_kind : (o : Op) (parts : Trees) → kind_by (value_of ns table scope (content_in o parts) o parts) ≡ literal_kind ns.width o parts
  value_kind o parts =
      told_kind ns.width (content_in o parts) (number_of o parts) (bytes_in (bytes_of ns.tables table) o parts) (elements_behind ns table scope parts)
      ∙ ap (kind_told ns.width (content_in o parts) (number_of o parts)) (places_behind parts)

pub literal_is : (shapes : List Shape) (width : Width) (o : Op) (parts : Trees) (k : Known) → IsKnown (length shapes) k → kind_of (numbered shapes) k ≡ literal_kind width o parts → IsLiteral shapes width o parts k
literal_is shapes width o parts k known is = record {
  known = known;
  kind = λ ns table method same. is ∙ ap (λ w. literal_kind w o parts) (sym same) ∙ sym (value_kind ns table (At (record { 0 = method })) o parts);
}

-- The kinds that are told by the terms of data are those of its values.
use Rattle.std.proofs.Common.{◌≡◌, ◌∙◌, ℕ, zero, suc, List, [], Option, Some, None, refl, ap}
use Rattle.aml_operators.specs.declared.op.Op.{Op}
use Rattle.aml_operators.specs.declared.op.Op.TheVariants as op
use Rattle.aml_operators.specs.Tree.{Tree, Trees, Node, none, more}
use Rattle.aml_objects.specs.declared.object.Content.{Content}
use Rattle.aml_objects.specs.declared.object.Content.TheVariants as content
use Rattle.aml_objects.specs.declared.object.Object.{Object}
use Rattle.aml_objects.specs.declared.object.Object.TheVariants as object
use Rattle.aml_paths.specs.declared.scope.ObjectId.{ObjectId}
use Rattle.aml_paths.specs.declared.scope.Scope.{Scope}
use Rattle.aml_paths.specs.declared.scope.Scope.TheVariants.{Root}
use Rattle.aml_objects.specs.declared.object.Source.{Source}
use Rattle.aml_objects.specs.declared.object.Source.TheVariants as source
use Rattle.aml_objects.specs.declared.width.Width.{Width}
use Rattle.aml_namespace.specs.Bodies.{bytes_of}
use Rattle.aml_namespace.specs.Load.{Shown}
use Rattle.aml_namespace.specs.Made.{content_in}
use Rattle.aml_values.specs.Values as value
use Rattle.aml_values.specs.Values.{Elements, Value}
use Rattle.aml_kinds.specs.Kinds.{Kind, IntUpTo, BufOf, StrOf, PkgOf, Shape, with, ValueOf, Anything}
use Rattle.aml_contents.specs.DataKinds.{counted_places, data_shape, kind_told, name_kind_told, object_kind, place_told, shape_behind, shape_in, source_shape, tree_place}
use Rattle.aml_contents.specs.FirstContents.{bytes_in, counted, data_in, element_by, element_in, elements_behind, elements_in, first_content, named, number_of, package_elements, value_from, value_in, value_told}
use Rattle.aml_contents.specs.FirstKinds.{first_kind, greatest_of, kind_by, name_kind, place_by, shape_by}
use Rattle.aml_contents.proofs.FirstNames.{length-filled}

-- so many elements have so many places
places_counted : (size : ℕ) (es : Elements) → shape_by (counted size es) ≡ counted_places size (shape_by es)
places_counted zero es = refl
places_counted (suc n) value.none = ap (with Anything) (places_counted n value.none)
places_counted (suc n) (value.more e es) = ap (with (place_by e)) (places_counted n es)

-- a value of which it is told what it is
told_kind : (width : Width) (told : Content) (number : ℕ) (bytes : List ℕ) (es : Elements) → kind_by (value_told width told number bytes es) ≡ kind_told width told number (shape_by es)
told_kind width content.Integer number bytes es = refl
told_kind width (content.Buffer size) number bytes es = ap BufOf (length-filled size bytes)
told_kind width (content.String size) number bytes es = ap StrOf (length-filled size bytes)
told_kind width (content.Package size) number bytes es = ap PkgOf (places_counted size es)

-- an element that is a name or a value
told_place : (width : Width) (o : Op) (parts : Trees) (s : Shape) (named : Option ObjectId) (v : Value) → kind_by v ≡ kind_told width (content_in o parts) (number_of o parts) s → place_by (element_by o named v) ≡ place_told width o parts s
told_place width op.NameString parts s named v e = refl
told_place width o parts s named v e = ap ValueOf e

module _ (ns : Shown) (table : ℕ) (scope : Scope) where
  mutual
    place_of : (t : Tree) → place_by (element_in ns table scope t) ≡ tree_place ns.width t
    place_of (Node o at stop parts) =
        told_place ns.width o parts (shape_behind ns.width parts) (named ns table scope at) (value_told ns.width (content_in o parts) (number_of o parts) (bytes_in (bytes_of ns.tables table) o parts) (elements_behind ns table scope parts))
        (told_kind ns.width (content_in o parts) (number_of o parts) (bytes_in (bytes_of ns.tables table) o parts) (elements_behind ns table scope parts) ∙ ap (kind_told ns.width (content_in o parts) (number_of o parts)) (shape_of_package parts))

    places_of : (ts : Trees) → shape_by (elements_in ns table scope ts) ≡ shape_in ns.width ts
    places_of none = refl
    places_of (more t ts) =
        ap (λ e. with e (shape_by (elements_in ns table scope ts))) (place_of t) ∙ ap (with (tree_place ns.width t)) (places_of ts)

    -- the elements of a package behind their number
    shape_of_package : (parts : Trees) → shape_by (elements_behind ns table scope parts) ≡ shape_behind ns.width parts
    shape_of_package none = refl
    shape_of_package (more size ts) = places_of ts

  shape_of_data : (o : Op) (at stop : ℕ) (parts : Trees) → shape_by (package_elements ns table scope o parts) ≡ data_shape ns.width (Node o at stop parts)
  shape_of_data op.Package at stop parts = shape_of_package parts
  shape_of_data op.VarPackage at stop parts = shape_of_package parts
  shape_of_data o at stop parts = refl

  abbrev data_kind : Content → Shape → Kind
  data_kind content.Integer s = IntUpTo (greatest_of ns.width)
  data_kind (content.Buffer size) s = BufOf size
  data_kind (content.String size) s = StrOf size
  data_kind (content.Package size) s = PkgOf (counted_places size s)

  -- the kind of a name with a value first of which it is told what it is
  told_name : (told : Content) (number : ℕ) (bytes : List ℕ) (es : Elements) → name_kind (greatest_of ns.width) (value_told ns.width told number bytes es) ≡ data_kind told (shape_by es)
  told_name content.Integer number bytes es = refl
  told_name (content.Buffer size) number bytes es = ap BufOf (length-filled size bytes)
  told_name (content.String size) number bytes es = ap StrOf (length-filled size bytes)
  told_name (content.Package size) number bytes es = ap PkgOf (places_counted size es)

  kind_from : (told : Content) (from : Source) → data_kind told (source_shape ns from) ≡ name_kind_told ns told from
  kind_from content.Integer from = refl
  kind_from (content.Buffer size) from = refl
  kind_from (content.String size) from = refl
  kind_from (content.Package size) from = refl

  name_in : (told : Content) (t : Tree) → name_kind (greatest_of ns.width) (value_in ns table scope told t) ≡ data_kind told (data_shape ns.width t)
  name_in told (Node o at stop parts) =
      told_name told (number_of o parts) (bytes_in (bytes_of ns.tables table) o parts) (package_elements ns table scope o parts) ∙ ap (data_kind told) (shape_of_data o at stop parts)

-- the kind of a name is told by where its first content comes from
name_from : (ns : Shown) (told : Content) (from : Source) → name_kind (greatest_of ns.width) (value_from ns told from) ≡ name_kind_told ns told from
name_from ns told source.Revision = told_name ns 0 Root told 2 [] value.none ∙ kind_from ns 0 Root told source.Revision
name_from ns told source.OsName = told_name ns 0 Root told 0 ns.os value.none ∙ kind_from ns 0 Root told source.OsName
name_from ns told (source.Term table span scope) =
    name_in ns table scope told (data_in (bytes_of ns.tables table) span) ∙ kind_from ns table scope told (source.Term table span scope)

pub object_told : (ns : Shown) (o : Option Object) → first_kind (greatest_of ns.width) (first_content ns o) ≡ object_kind ns o
object_told ns (Some (object.Data d)) = ap Some (name_from ns d.content d.source)
object_told ns (Some o) = refl
object_told ns None = refl

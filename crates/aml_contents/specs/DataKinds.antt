-- The kinds of what data holds, by its term alone: how a name is judged without its first content
-- being made.
use Rattle.std.specs.Prelude.{◌%◌, ◌^◌, ◌&&◌, ℕ, zero, suc, List, Option, Some, None, Result, Ok, Err, Bool, true, false}
use Rattle.aml_operators.specs.declared.op.Op.{Op}
use Rattle.aml_operators.specs.declared.op.Op.TheVariants as op
use Rattle.aml_operators.specs.Tree.{Tree, Trees, Node, none, more, trees, stop_of}
use Rattle.aml_tree.specs.declared.fault.Refusal.{Refusal}
use Rattle.aml_tree.specs.declared.head.Head.{Head}
use Rattle.aml_tree.specs.declared.head.Head.TheVariants as head
use Rattle.aml_objects.specs.declared.object.Content.{Content}
use Rattle.aml_objects.specs.declared.object.Content.TheVariants as content
use Rattle.aml_objects.specs.declared.object.Object.{Object}
use Rattle.aml_objects.specs.declared.object.Object.TheVariants as object
use Rattle.aml_objects.specs.declared.object.Source.{Source}
use Rattle.aml_objects.specs.declared.object.Source.TheVariants as source
use Rattle.aml_objects.specs.declared.width.Width.{Width}
use Rattle.aml_namespace.specs.Bodies.{bytes_of}
use Rattle.aml_namespace.specs.Load.{Shown}
use Rattle.aml_namespace.specs.Made.{content_in}
use Rattle.aml_objects.specs.Widths.{bits_of}
use Rattle.aml_kinds.specs.Kinds.{Kind, IntUpTo, BufOf, StrOf, PkgOf, Shape, bare, with, ElementKind, ValueOf, AnyName, Anything}
use Rattle.aml_kinds.specs.SameKinds.{same_element_kind, same_shape}
use Rattle.aml_contents.specs.FirstContents.{data_in, number_of}
use Rattle.aml_contents.specs.FirstKinds.{greatest_of}

-- so many places: the first of these, and unset ones behind them
abbrev pub counted_places : ℕ → Shape → Shape
counted_places zero s = bare
counted_places (suc n) bare = with Anything (counted_places n bare)
counted_places (suc n) (with e s) = with e (counted_places n s)

-- the kind of a value of which it is told what it is, made of a number or of elements of a shape
abbrev pub kind_told : Width → Content → ℕ → Shape → Kind
kind_told width content.Integer number s = IntUpTo (number % 2 ^ bits_of width)
kind_told width (content.Buffer size) number s = BufOf size
kind_told width (content.String size) number s = StrOf size
kind_told width (content.Package size) number s = PkgOf (counted_places size s)

-- the kind of an element: a name, or a value
abbrev pub place_told : Width → Op → Trees → Shape → ElementKind
place_told width op.NameString parts s = AnyName
place_told width o parts s = ValueOf (kind_told width (content_in o parts) (number_of o parts) s)

abbrev mutual
  pub tree_place : Width → Tree → ElementKind
  tree_place width (Node o at stop parts) = place_told width o parts (shape_behind width parts)

  pub shape_in : Width → Trees → Shape
  shape_in width none = bare
  shape_in width (more t ts) = with (tree_place width t) (shape_in width ts)

  -- the shape of a package, behind the number of its elements
  pub shape_behind : Width → Trees → Shape
  shape_behind width none = bare
  shape_behind width (more size ts) = shape_in width ts

-- the shape of data; only a package has elements
abbrev pub data_shape : Width → Tree → Shape
data_shape width (Node op.Package at stop parts) = shape_behind width parts
data_shape width (Node op.VarPackage at stop parts) = shape_behind width parts
data_shape width t = bare

-- the shape of what a name's first content comes from
abbrev pub source_shape : Shown → Source → Shape
source_shape ns (source.Term table span scope) =
    data_shape ns.width (data_in (bytes_of ns.tables table) span)
source_shape ns from = bare

-- the kind of a name of whose first content it is told what it is
abbrev pub name_kind_told : Shown → Content → Source → Kind
name_kind_told ns content.Integer from = IntUpTo (greatest_of ns.width)
name_kind_told ns (content.Buffer size) from = BufOf size
name_kind_told ns (content.String size) from = StrOf size
name_kind_told ns (content.Package size) from = PkgOf (counted_places size (source_shape ns from))

-- the kind of an object's content, if it is a data name
abbrev pub object_kind : Shown → Option Object → Option Kind
object_kind ns (Some (object.Data d)) = Some (name_kind_told ns d.content d.source)
object_kind ns o = None

-- the kind of an element that is no package, by how it begins
abbrev pub leaf_place : Width → Head → ElementKind
leaf_place width head.Name = AnyName
leaf_place width (head.Integer number) = ValueOf (IntUpTo (number % 2 ^ bits_of width))
leaf_place width (head.Buffer size) = ValueOf (BufOf size)
leaf_place width (head.String size) = ValueOf (StrOf size)
leaf_place width (head.Package count start) = Anything

-- what is seen of an answer, if it is no fault
abbrev pub seen : {X Y : Type 0} → (X → Y) → Result X Refusal → Option Y
seen f (Ok x) = Some (f x)
seen f (Err fault) = None

-- where an element ends, and whether it is of this kind
abbrev pub element_compared : Width → ElementKind → Tree → ℕ × Bool
element_compared width k t = (stop_of t, same_element_kind k (tree_place width t))

-- where the elements of a package end behind their number, and whether so many of them have this
-- shape
abbrev pub elements_compared : Width → ℕ → Shape → List Tree × ℕ → ℕ × Bool
elements_compared width count s r =
    (r.1, same_shape s (counted_places count (shape_behind width (trees r.0))))

-- the place with a number; an unset one where there is none
abbrev pub place_at : Shape → ℕ → ElementKind
place_at bare i = Anything
place_at (with e s) zero = e
place_at (with e s) (suc i) = place_at s i

-- whether the places from a number on are unset
abbrev pub unset_from : Shape → ℕ → Bool
unset_from bare i = true
unset_from (with e s) zero = same_element_kind e Anything && unset_from s zero
unset_from (with e s) (suc i) = unset_from s i

-- the shape that an element has to have, where it has to be a package
abbrev pub wanted_shape : ElementKind → Shape
wanted_shape (ValueOf (PkgOf s)) = s
wanted_shape k = bare

abbrev pub wants_package : ElementKind → Bool
wants_package (ValueOf (PkgOf s)) = true
wants_package k = false

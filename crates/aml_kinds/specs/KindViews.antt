-- Kinds of the program as kinds.
use Rattle.std.specs.Prelude.{List, map}
use Rattle.aml_kinds.specs.declared.kind.Kind as program
use Rattle.aml_kinds.specs.declared.kind.Kind.TheVariants as kind
use Rattle.aml_kinds.specs.declared.kind.ElementKind as program_element
use Rattle.aml_kinds.specs.declared.kind.ElementKind.TheVariants as held
use Rattle.aml_kinds.specs.Kinds.{Kind, IntUpTo, BufOf, StrOf, PkgOf, AnyPkg, Mixed, Shape, ElementKind, ValueOf, AnyName, Anything, shaped}

-- the kind that a program's kind is
abbrev pub kind_of : program.Kind → Kind
kind_of (kind.Int most) = IntUpTo most
kind_of (kind.Buf size) = BufOf size
kind_of (kind.Str size) = StrOf size
kind_of (kind.Pkg shape) = PkgOf shape
kind_of kind.AnyPkg = AnyPkg
kind_of kind.Mixed = Mixed

-- the kind of element that the program's is
abbrev pub element_kind : program_element.ElementKind → ElementKind
element_kind (held.Value k) = ValueOf (kind_of k)
element_kind held.Name = AnyName
element_kind held.Unset = Anything

-- the shape of a list of them
abbrev pub shape_of : List program_element.ElementKind → Shape
shape_of es = shaped (map element_kind es)

-- A shape is deeper than those that stand in it.
use Rattle.std.specs.Prelude.{suc, ◌≤◌, List, [], ◌∷◌, max}
use Rattle.std.proofs.Common.{lit≤, zero-le}
use Rattle.std.proofs.Math.Nat.{max-le}
use denote.Param.Weighed.{most}
use Rattle.aml_values.specs.Falls.{one_deeper, beside}
use Rattle.aml_kinds.specs.declared.kind.Kind as program
use Rattle.aml_kinds.specs.declared.kind.Kind.TheVariants as kind
use Rattle.aml_kinds.specs.declared.kind.ElementKind as program_element
use Rattle.aml_kinds.specs.declared.kind.ElementKind.TheVariants as held
use Rattle.aml_kinds.specs.declared.shape.Shape.TheDeep.{deep-ElementKind, deep-Kind}
use Rattle.aml_kinds.specs.Kinds.{kind_depth, element_kind_depth, shape_depth, inner_depth}
use Rattle.aml_kinds.specs.KindViews.{kind_of, element_kind, shape_of}

kind_falls : (k : program.Kind) → deep-Kind k ≤ suc (kind_depth (kind_of k))
kind_falls (kind.Int greatest) = lit≤ tt
kind_falls (kind.Buf size) = lit≤ tt
kind_falls (kind.Str size) = lit≤ tt
kind_falls (kind.Pkg shape) = one_deeper (suc (inner_depth shape))
kind_falls kind.AnyPkg = lit≤ tt
kind_falls kind.Mixed = lit≤ tt

element_falls : (e : program_element.ElementKind) →
    deep-ElementKind e ≤ suc (element_kind_depth (element_kind e))
element_falls (held.Value k) = max-le (kind_falls k) zero-le
element_falls held.Name = lit≤ tt
element_falls held.Unset = lit≤ tt

-- no element is as deep as the shape
pub most_le-shape_depth : (es : List program_element.ElementKind) →
    max (most deep-ElementKind es) 0 ≤ shape_depth (shape_of es)
most_le-shape_depth [] = lit≤ tt
most_le-shape_depth (e ∷ es) =
    beside (deep-ElementKind e) (most deep-ElementKind es) (element_kind_depth (element_kind e))
    (inner_depth (shape_of es)) (element_falls e) (most_le-shape_depth es)

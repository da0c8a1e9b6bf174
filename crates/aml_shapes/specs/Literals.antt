-- The kinds of literals of data.
use Rattle.std.specs.Prelude.{◌≡◌, ℕ, List, length}
use Rattle.aml_operators.specs.declared.op.Op.{Op}
use Rattle.aml_operators.specs.Tree.{Trees}
use Rattle.aml_objects.specs.declared.width.Width.{Width}
use Rattle.aml_namespace.specs.Load.{Shown}
use Rattle.aml_namespace.specs.Made.{content_in}
use Rattle.aml_kinds.specs.Kinds.{Kind, Shape}
use Rattle.aml_contents.specs.BodyData.{body_data}
use Rattle.aml_contents.specs.DataKinds.{kind_told, shape_behind}
use Rattle.aml_contents.specs.FirstContents.{number_of}
use Rattle.aml_contents.specs.FirstKinds.{kind_by}
use Rattle.aml_known.specs.declared.known.Known.{Known}
use Rattle.aml_known.specs.Views.{kind_of}
use Rattle.aml_shapes.specs.Numbers.{IsKnown, numbered}

-- the kind of a literal, by its operator and its parts
abbrev pub literal_kind : Width → Op → Trees → Kind
literal_kind width o parts =
    kind_told width (content_in o parts) (number_of o parts) (shape_behind width parts)

-- what is known of a literal: the kind of what it holds, in whatever body it stands
pub record IsLiteral (shapes : List Shape) (width : Width) (o : Op) (parts : Trees)
    (k : Known) : Type 0 where
  pub known : IsKnown (length shapes) k
  pub kind : (ns : Shown) (table method : ℕ) → ns.width ≡ width →
      kind_of (numbered shapes) k ≡ kind_by (body_data ns table method o parts)

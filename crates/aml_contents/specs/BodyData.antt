-- What literals of data in a method's body hold (ACPI 6.5, 19.6, Buffer, Package and String).
use Rattle.std.specs.Prelude.{ℕ, Bool, false, Option, Some, None, if◌then◌else◌}
use Rattle.std.specs.Option.{is_none, option_or}
use Rattle.aml_operators.specs.declared.op.Op.{Op}
use Rattle.aml_operators.specs.declared.op.Op.TheVariants as op
use Rattle.aml_operators.specs.Literal.{literal_of}
use Rattle.aml_operators.specs.Tree.{Trees, Node, none, more}
use Rattle.aml_paths.specs.declared.scope.Scope.TheVariants.{At}
use Rattle.aml_namespace.specs.Load.{Shown}
use Rattle.aml_namespace.specs.Made.{content_in}
use Rattle.aml_values.specs.Values.{Value}
use Rattle.aml_contents.specs.FirstContents.{value_of}

-- the value of a literal in the body of the method with a number, in a table: what it is told to be
-- as data of a table is, and its names are looked up from the method, where they never mean an own
-- name (own)
abbrev pub body_data : Shown → ℕ → ℕ → Op → Trees → Value
body_data ns table method o parts =
    value_of ns table (At (record { 0 = method })) (content_in o parts) o parts

-- whether the first of some parts is no integer literal
abbrev pub begins_computed : Trees → Bool
begins_computed none = false
begins_computed (more size rest) = is_none (literal_of size)

-- whether a buffer's size is computed, or a package's count where that is a term
abbrev pub is_computed : Op → Trees → Bool
is_computed op.Buffer parts = begins_computed parts
is_computed op.VarPackage parts = begins_computed parts
is_computed o parts = false

-- where a term begins whose own size is computed, else what its parts tell
abbrev pub computed_or : Op → ℕ → Trees → Option ℕ → Option ℕ
computed_or o at parts inside = if is_computed o parts then Some at else inside

-- where in some terms the first buffer or package of computed size begins, in the order of the
-- bytes
abbrev pub first_computed : Trees → Option ℕ
first_computed none = None
first_computed (more (Node o at stop parts) ts) =
    option_or (computed_or o at parts (first_computed parts)) (first_computed ts)

-- and where in a literal; also in an element that a count drops
abbrev pub computed_size : Op → ℕ → Trees → Option ℕ
computed_size o at parts = computed_or o at parts (first_computed parts)

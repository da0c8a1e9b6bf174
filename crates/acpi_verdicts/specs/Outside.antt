-- What is wanted of an operator or a form that has no meaning, in words.
use Rattle.std.specs.Prelude.{ℕ, List, [], ◌++◌, Option, Some, None, codes}
use Rattle.aml_meaning.specs.Actions.{action}
use Rattle.aml_meaning.specs.Definitions.{definition}
use Rattle.aml_meaning.specs.declared.action.Action.{Action}
use Rattle.aml_meaning.specs.declared.action.Action.TheVariants as does
use Rattle.aml_meaning.specs.declared.definition.Definition.{Definition}
use Rattle.aml_meaning.specs.declared.definition.Definition.TheVariants as makes
use Rattle.aml_operators.specs.declared.op.Op.{Op}
use Rattle.aml_place_text.specs.Place.{standing_text}
use Rattle.aml_tree.specs.OperatorAt.{op_there}

-- the form that is wanted of an operator, by the kind of its meaning
abbrev pub wanted_form : Action → List ℕ
wanted_form (does.Data op) = codes ": wanted an integer literal as its size"
wanted_form does.Index =
    codes ": wanted it in a DerefOf, or of a name as a target, and without a target of its own"
wanted_form does.Dereference = codes ": wanted it as a value alone, with an Index in it"
wanted_form does.Debug = codes ": wanted it as a target"
wanted_form does.CondRefOf = codes ": wanted a name in it and no target"
wanted_form does.Store =
    codes ": wanted a local, an argument or Debug as its target where its value is used"
wanted_form does.Break = codes ": wanted a While round it"
wanted_form does.Continue = codes ": wanted a While round it"
wanted_form does.Acquire = codes ": wanted another mutex than _GL_"
wanted_form does.Release = codes ": wanted another mutex than _GL_"
wanted_form other = []

-- what stands as the source of a field of a buffer, and what is wanted of such a field
abbrev pub source_text : List ℕ → ℕ → List ℕ
source_text bytes at =
    codes ": found as its source"
    ++ (standing_text bytes at ++ codes ", wanted a data name, with integer literals behind it")

-- what is wanted of what an operator makes, or else of its form
abbrev pub made_or_form : List ℕ → ℕ → Definition → Action → List ℕ
made_or_form bytes behind (makes.Field size) a = source_text bytes behind
made_or_form bytes behind makes.CountedField a = source_text bytes behind
made_or_form bytes behind makes.Name a = wanted_form a
made_or_form bytes behind makes.Nothing a = wanted_form a

-- the same of an operator and the place behind it, if one stands there
abbrev pub operator_text : List ℕ → Option (Op × ℕ) → List ℕ
operator_text bytes (Some p) = made_or_form bytes p.1 (definition p.0) (action p.0)
operator_text bytes None = []

abbrev pub outside_text : List ℕ → ℕ → List ℕ
outside_text bytes at = operator_text bytes (op_there bytes at)

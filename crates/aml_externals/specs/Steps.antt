-- What stands first in a list of a module's definitions.
use Rattle.std.specs.Prelude.{ℕ, List, ◌∷◌, take, Option, Some, None}
use Rattle.aml_operators.specs.declared.op.Op.{Op}
use Rattle.aml_operators.specs.declared.row.Class.{Class}
use Rattle.aml_operators.specs.declared.row.Class.TheVariants as class
use Rattle.aml_operators.specs.declared.row.Letter.{Letter}
use Rattle.aml_operators.specs.declared.row.Letter.TheVariants.{Package}
use Rattle.aml_operators.specs.Table.{class_of, letters_of}
use Rattle.aml_externals.specs.declared.step.Step.{Step}
use Rattle.aml_externals.specs.declared.step.Step.TheVariants.{Dead, Enter, Over, Stop}
use Rattle.aml_externals.specs.Extents.{package_at, term_end, letters_end, list_at}
use Rattle.aml_externals.specs.DeadIfs.{dead_end}
use Rattle.aml_tree.specs.OperatorAt.{op_there}

abbrev pub over : Option ℕ → Step
over None = Stop
over (Some size) = Over size

-- a definition's list is entered where it has one
abbrev pub enter : ℕ → Option ℕ → Step
enter size None = Over size
enter size (Some from) = Enter from size

abbrev pub package_step : ℕ → List Letter → List ℕ → Option (ℕ × ℕ) → Step
package_step d rest bytes None = Stop
package_step d rest bytes (Some (stop, next)) =
    enter stop (list_at (term_end d) rest (take stop bytes) next)

-- a definition with these letters, whose parts stand from a place on
abbrev pub letters_step : ℕ → List Letter → List ℕ → ℕ → Step
letters_step d (Package ∷ rest) bytes at = package_step d rest bytes (package_at bytes at)
letters_step d letters bytes at = over (letters_end (term_end d) letters bytes at)

abbrev pub class_step : Class → ℕ → List Letter → List ℕ → ℕ → Step
class_step class.Definition d letters bytes at = letters_step d letters bytes at
class_step c d letters bytes at = Stop

abbrev pub operator_step : ℕ → List ℕ → Option (Op × ℕ) → Step
operator_step d bytes None = Stop
operator_step d bytes (Some (o, next)) = class_step (class_of o) d (letters_of o) bytes next

abbrev pub step_behind : ℕ → List ℕ → Option ℕ → Step
step_behind d bytes (Some size) = Dead size
step_behind d bytes None = operator_step d bytes (op_there bytes 0)

-- what the bytes of a list begin with: a dead If; a definition that holds a list; another
-- definition; or what is none, at which the list is left as it stands. In a definition stand at
-- most so many terms one in another.
unfoldable pub step_of : ℕ → List ℕ → Step
step_of d bytes = step_behind d bytes (dead_end bytes)

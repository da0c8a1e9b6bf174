-- The program's openings.
use Rattle.std.specs.Prelude.{◌≡◌, ◌≤◌, ◌<◌, ℕ}
use Rattle.aml_tree.specs.declared.opening.Opening.{Opening}
use Rattle.aml_tree.specs.declared.opening.Opening.TheVariants as program
use Rattle.aml_tree.specs.Opening as definition
use Rattle.aml_tree.specs.Opening.{NoTarget, PlainName, InvokedName, Operator}

abbrev pub opening_of : Opening → definition.Opening
opening_of program.NoTarget = NoTarget
opening_of program.PlainName = PlainName
opening_of program.InvokedName = InvokedName
opening_of (program.Operator op next) = Operator op next

-- an operator's parts begin at this place
abbrev pub IsNext : ℕ → Opening → Type 0
IsNext n (program.Operator op next) = next ≡ n
IsNext n o = Unit {0}

-- an operator's parts begin behind its own place and within the bytes
abbrev pub IsWithin : ℕ → ℕ → Opening → Type 0
IsWithin at end (program.Operator op next) = (at < next) × (next ≤ end)
IsWithin at end o = Unit {0}

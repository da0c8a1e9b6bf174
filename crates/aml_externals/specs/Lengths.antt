-- Steps that stay within a list.
use Rattle.std.specs.Prelude.{ℕ, ◌<◌, ◌≤◌}
use Rattle.aml_externals.specs.declared.step.Step.{Step}
use Rattle.aml_externals.specs.declared.step.Step.TheVariants.{Dead, Enter, Over, Stop}

-- a step goes on, and no further than the end; a list that is entered stands within it
abbrev pub IsAhead : ℕ → Step → Type 0
IsAhead end (Dead size) = (0 < size) × (size ≤ end)
IsAhead end (Enter from size) = (0 < size) × (size ≤ end) × (from ≤ size)
IsAhead end (Over size) = (0 < size) × (size ≤ end)
IsAhead end Stop = Unit {0}

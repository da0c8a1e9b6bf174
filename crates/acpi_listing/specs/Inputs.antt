-- What a command reads before it begins, as a step of it.
use Rattle.acpi_sources.specs.Files.{Answers}
use Rattle.acpi_sources.specs.Inputs.{OpensInputs}
use Rattle.acpi_sources.specs.declared.inputs.InputNames.{InputNames}
use Rattle.acpi_sources.specs.declared.inputs.Inputs.{Inputs}
use Rattle.acpi_listing.specs.Steps.{Step, Quietly}

-- the tables are read
abbrev pub ReadsInputs : {F : Type 0} → Answers F → InputNames → Step F Inputs
ReadsInputs answers names = Quietly (λ old r new. OpensInputs answers old names r new)

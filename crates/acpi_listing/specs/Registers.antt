-- The registers over which a method is evaluated: those that the text of a file sets, or zeros.
use Rattle.std.specs.Prelude.{◌≡◌, ◌⊎◌, ℕ, List, Option, Some, None, Result, Ok, Err}
use Rattle.aml_regions.specs.Bytes.{SameBytes}
use Rattle.aml_regions.specs.Registers.{contents}
use Rattle.aml_regions.specs.Text.{FailsToSet, TextSets}
use Rattle.aml_regions.specs.declared.fault.RegistersFault.{RegistersFault}
use Rattle.aml_registers.specs.declared.registers.Registers.{Registers}
use Rattle.acpi_sources.specs.Faults.{registers_fault}
use Rattle.acpi_sources.specs.Files.{Answers, Opens}
use Rattle.acpi_listing.specs.Steps.{Step, Quietly}
use Rattle.acpi_sources.specs.declared.fault.Fault.{Fault}

-- the registers that a text sets, others being 0
abbrev pub SetsRegisters : List ℕ → Result Registers Fault → Type 0
SetsRegisters text (Ok registers) = TextSets text (contents registers.file)
SetsRegisters text (Err f) = (e : RegistersFault) × FailsToSet text e × (f ≡ registers_fault e)

-- the registers of the file of a name; without one all are 0
abbrev pub OpensRegisters : {F : Type 0} → Answers F → F → Option (List ℕ) →
    Result Registers Fault → F → Type 0
OpensRegisters answers old None (Ok registers) new =
    SameBytes (λ _ _. 0) (contents registers.file) × (new ≡ old)
OpensRegisters answers old None (Err f) new = ⊥
OpensRegisters answers old (Some name) (Ok registers) new =
    (text : List ℕ) × Opens answers old name (Ok text) new × SetsRegisters text (Ok registers)
OpensRegisters answers old (Some name) (Err f) new =
    Opens answers old name (Err f) new ⊎
    ((text : List ℕ) × Opens answers old name (Ok text) new × SetsRegisters text (Err f))

-- the same as a step of a command
abbrev pub ReadsRegisters : {F : Type 0} → Answers F → Option (List ℕ) → Step F Registers
ReadsRegisters answers name = Quietly (λ old r new. OpensRegisters answers old name r new)

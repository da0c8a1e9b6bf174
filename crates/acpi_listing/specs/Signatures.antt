-- The kinds of methods' arguments: those that the text of a file tells, or nothing.
use Rattle.std.specs.Prelude.{◌≡◌, ◌⊎◌, ℕ, List, Option, Some, None, Result, Ok, Err}
use Rattle.aml_signatures.specs.Signed.{kinds_told}
use Rattle.aml_signatures.specs.Text.{FailsToSign, TextSigns}
use Rattle.aml_signatures.specs.declared.fault.SignatureFault.{SignatureFault}
use Rattle.aml_signatures.specs.declared.signatures.Signatures.{Signatures}
use Rattle.acpi_sources.specs.Faults.{signatures_fault}
use Rattle.acpi_sources.specs.Files.{Answers, Opens}
use Rattle.acpi_listing.specs.Steps.{Step, Quietly}
use Rattle.acpi_sources.specs.declared.fault.Fault.{Fault}

-- the kinds that a text tells
abbrev pub TellsKinds : List ℕ → Result Signatures Fault → Type 0
TellsKinds text (Ok signatures) = TextSigns text (kinds_told signatures)
TellsKinds text (Err f) = (e : SignatureFault) × FailsToSign text e × (f ≡ signatures_fault e)

-- the kinds that the text of the file of a name tells; without one nothing is told of any method
abbrev pub OpensSignatures : {F : Type 0} → Answers F → F → Option (List ℕ) →
    Result Signatures Fault → F → Type 0
OpensSignatures answers old None (Ok signatures) new =
    ((path : List ℕ) → kinds_told signatures path ≡ None) × (new ≡ old)
OpensSignatures answers old None (Err f) new = ⊥
OpensSignatures answers old (Some name) (Ok signatures) new =
    (text : List ℕ) × Opens answers old name (Ok text) new × TellsKinds text (Ok signatures)
OpensSignatures answers old (Some name) (Err f) new =
    Opens answers old name (Err f) new ⊎
    ((text : List ℕ) × Opens answers old name (Ok text) new × TellsKinds text (Err f))

-- the same as a step of a command
abbrev pub ReadsSignatures : {F : Type 0} → Answers F → Option (List ℕ) → Step F Signatures
ReadsSignatures answers name = Quietly (λ old r new. OpensSignatures answers old name r new)

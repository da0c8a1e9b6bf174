-- What is wrong with a text, as it is printed: a number and a name.
use Rattle.std.specs.Prelude.{ℕ, List, codes}
use Rattle.aml_signatures.specs.declared.fault.SignatureFault.{SignatureFault}
use Rattle.aml_signatures.specs.declared.fault.SignatureFault.TheVariants.{NoMemory, BadKinds}

abbrev pub signature_fault_text : SignatureFault → List ℕ
signature_fault_text NoMemory = codes "E524 NoMemory"
signature_fault_text (BadKinds line) = codes "E501 BadKinds"

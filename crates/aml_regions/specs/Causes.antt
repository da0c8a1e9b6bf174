-- The number and name of what is wrong with a register file's text.
use Rattle.std.specs.Prelude.{ℕ, List, codes}
use Rattle.aml_regions.specs.declared.fault.RegistersFault.{RegistersFault}
use Rattle.aml_regions.specs.declared.fault.RegistersFault.TheVariants.{NoMemory, BadRegs}

abbrev pub registers_fault_text : RegistersFault → List ℕ
registers_fault_text NoMemory = codes "E524 NoMemory"
registers_fault_text (BadRegs line) = codes "E511 BadRegs"

-- What is told where standard input has no words.
use Rattle.std.specs.Prelude.{ℕ, List, codes}
use Rattle.acpi_sources.specs.declared.fault.FaultCause.{FaultCause}
use Rattle.acpi_sources.specs.declared.fault.FaultCause.TheVariants as cause

-- why there are none, by what is wrong with the first line
abbrev pub start_note : FaultCause → List ℕ
start_note cause.CommandLine = codes "the first line of standard input is no UTF-8"
start_note cause.NoMemory = codes "no memory for the words"
start_note _ =
    codes "no words, nor a first line of standard input, of 16777216 bytes at most, that has them: see acpicheck --help"

-- A register file as others see it.
use Rattle.std.specs.Prelude.{ℕ}
use Rattle.aml_regions.specs.Bytes.{byte_of}
use Rattle.aml_regions.specs.declared.registers.RegisterFile.{RegisterFile}

-- its bytes, by space and address
abbrev pub contents : RegisterFile → ℕ → ℕ → ℕ
contents file = byte_of file.bytes

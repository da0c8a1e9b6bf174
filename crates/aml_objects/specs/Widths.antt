-- How wide integers are (ACPI 6.5, 19.6, DefinitionBlock), and how many bits fields of buffers
-- have.
use Rattle.std.specs.Prelude.{◌%◌, ◌^◌, ℕ, nat_lt, if◌then◌else◌}
use Rattle.aml_objects.specs.declared.object.CreatedFieldSize.{CreatedFieldSize}
use Rattle.aml_objects.specs.declared.object.CreatedFieldSize.TheVariants as size
use Rattle.aml_objects.specs.declared.width.Width.{Width}
use Rattle.aml_objects.specs.declared.width.Width.TheVariants.{Bits32, Bits64}

-- the number of bits
abbrev pub bits_of : Width → ℕ
bits_of Bits32 = 32
bits_of Bits64 = 64

-- below revision 2 integers have 32 bits
abbrev pub width_by : ℕ → Width
width_by revision = if nat_lt revision 2 then Bits32 else Bits64

-- how many bits a field of a buffer has, where integers have so many: a CreateField's number is an
-- integer
abbrev pub size_bits : ℕ → CreatedFieldSize → ℕ
size_bits width size.Bit = 1
size_bits width size.Byte = 8
size_bits width size.Word = 16
size_bits width size.DWord = 32
size_bits width size.QWord = 64
size_bits width (size.Bits n) = n % 2 ^ width

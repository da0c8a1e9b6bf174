-- The bits of fields, one by one (ACPI 6.5, 5.5.2.4 and 19.6, Field).
use Rattle.std.specs.Prelude.{◌≡◌, ℕ, ◌+◌, ◌-◌, ◌*◌, ◌/◌, ◌%◌, ◌^◌, ◌<◌, ◌≤◌, ◌==◌, ◌||◌, Bool, true, false, nat_le, nat_lt, if◌then◌else◌, List, slice_index}
use Rattle.std.specs.Int.{bit_at}
use Rattle.aml_regions.specs.Bits.{number}
use Rattle.aml_regions.specs.declared.access.Access.{Access}
use Rattle.aml_regions.specs.declared.field.AnyField.{AnyField}
use Rattle.aml_regions.specs.declared.field.AnyField.TheVariants.{Plain, Banked, Indexed}
use Rattle.aml_regions.specs.declared.field.BankedField.{BankedField}
use Rattle.aml_regions.specs.declared.field.FieldLayout.{FieldLayout}
use Rattle.aml_regions.specs.declared.field.IndexedField.{IndexedField}
use Rattle.aml_regions.specs.declared.field.RegionField.{RegionField}
use Rattle.aml_regions.specs.declared.field.UnitWidth.{UnitWidth}
use Rattle.aml_regions.specs.declared.field.UnitWidth.TheVariants.{Byte, Word, DWord, QWord}

-- how many bits a unit has
abbrev pub bits_of : UnitWidth → ℕ
bits_of Byte = 8
bits_of Word = 16
bits_of DWord = 32
bits_of QWord = 64

-- the first unit that a field touches, the unit behind the last, and how many they are
unfoldable pub first : FieldLayout → ℕ
first f = f.at / bits_of f.width

unfoldable pub end : FieldLayout → ℕ
end f = (f.at + f.bits - 1) / bits_of f.width + 1

unfoldable pub count : FieldLayout → ℕ
count f = end f - first f

-- the byte at which a unit begins
abbrev pub unit_place : FieldLayout → ℕ → ℕ
unit_place f u = u * (bits_of f.width / 8)

-- bit i of a field is bit (at + i) mod a of what unit (at + i) div a answers, a being the width
unfoldable pub field_bit : FieldLayout → List ℕ → ℕ → ℕ
field_bit f answers i = bit_at (slice_index answers ((f.at + i) / bits_of f.width - first f))
    ((f.at + i) % bits_of f.width)

-- a field's bits as a number
abbrev pub integer_of : FieldLayout → List ℕ → ℕ
integer_of f answers = number f.bits (field_bit f answers)

-- whether bit p of the units is the field's
abbrev pub has : FieldLayout → ℕ → Bool
has f p = if nat_le f.at p then nat_lt p (f.at + f.bits) else false

-- what unit u is given: the field's bits there, and in the others those of another number
unfoldable pub mixed : FieldLayout → (ℕ → ℕ) → ℕ → ℕ → ℕ
mixed f bit u other =
    number (bits_of f.width) (λ j. if has f (u * bits_of f.width + j)
    then bit (u * bits_of f.width + j - f.at) else bit_at other j)

-- whether a unit is wholly the field's
abbrev pub covers : FieldLayout → ℕ → Bool
covers f u = if nat_le f.at (u * bits_of f.width)
    then nat_le (u * bits_of f.width + bits_of f.width) (f.at + f.bits) else false

-- a field has a bit, at most 2,048 of them, and its last one lies below 2 ^ 64
pub record IsLaidOut (f : FieldLayout) : Type 0 where
  pub some : 0 < f.bits
  pub most : f.bits ≤ 2048
  pub bits : f.at + f.bits < 2 ^ 64

-- a region's unit, by its number
unfoldable pub access : RegionField → ℕ → Access
access r u = record
    { space = r.space; address = r.place + unit_place r.layout u; width = bits_of r.layout.width }

-- the spaces whose regions can be accessed: memory, I/O, PCI configuration, the embedded controller
-- and CMOS
abbrev pub is_known_space : ℕ → Bool
is_known_space space = nat_le space 3 || (space == 5)

-- a field's units lie in its region, each as a whole, and the region lies below 2 ^ 64
pub record IsSound (r : RegionField) : Type 0 where
  pub space : is_known_space r.space ≡ true
  pub layout : IsLaidOut r.layout
  pub units : unit_place r.layout (end r.layout) ≤ r.length
  pub region : r.place + r.length ≤ 2 ^ 64

-- a field behind a bank field: both are sound
pub record IsSoundBanked (b : BankedField) : Type 0 where
  pub field : IsSound b.field
  pub bank : IsSound b.bank

-- a field behind an index field and a data field: both are sound, and the data field is just as
-- wide as a unit
pub record IsSoundIndexed (x : IndexedField) : Type 0 where
  pub layout : IsLaidOut x.layout
  pub index_field : IsSound x.index_field
  pub data_field : IsSound x.data_field
  pub wide : x.data_field.layout.bits ≡ bits_of x.layout.width

-- a field that can be read and written, however its units are reached
abbrev pub IsSoundField : AnyField → Type 0
IsSoundField (Plain r) = IsSound r
IsSoundField (Banked b) = IsSoundBanked b
IsSoundField (Indexed x) = IsSoundIndexed x

-- where its bits stand in its units
abbrev pub layout_of : AnyField → FieldLayout
layout_of (Plain r) = r.layout
layout_of (Banked b) = b.field.layout
layout_of (Indexed x) = x.layout

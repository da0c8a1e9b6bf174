-- Bits that are gathered, a run of them behind another.
use Rattle.std.specs.Prelude.{◌≡◌, ℕ, ◌+◌, ◌<◌, Bool, true, false, Result, Ok, Err}
use Rattle.aml_regions.specs.Bits.{number}
use Rattle.aml_regions.specs.Fields.{field_bit}
use Rattle.aml_paths.specs.declared.memory.NoMemory.{NoMemory}
use Rattle.aml_meaning.specs.Fields.{UnitPlan, read_all_units}
use Rattle.aml_meaning.specs.Parts.{M}
use Rattle.aml_meaning.specs.Runs as runs

-- zeros and ones
abbrev pub AreBits : (ℕ → ℕ) → Type 0
AreBits bit = (i : ℕ) → bit i < 2

-- a value that the first so many bits of some make
abbrev pub HasBits : {V : Type 0} → (ℕ → (ℕ → ℕ) → V) → ℕ → V → Type 0
HasBits made done value = (bit : ℕ → ℕ) × AreBits bit × (value ≡ made done bit)

-- bits that go on behind the first so many of others with a run of their own
pub record GoesOn (before bit : ℕ → ℕ) (done take part : ℕ) : Type 0 where
  pub before_are : AreBits before
  pub are : AreBits bit
  pub same : (i : ℕ) → i < done → bit i ≡ before i
  pub run : part ≡ number take (λ i. bit (done + i))

-- all units are read, and then the field's bits make something
abbrev pub bits_read : {V : Type 0} → UnitPlan → (ℕ → (ℕ → ℕ) → V) → M V
bits_read p made =
    read_all_units p.layout p.read (λ answers. made p.layout.bits (field_bit p.layout answers))

-- an answer whose value was gathered
abbrev pub told_gathered : {V : Type 0} → Result Bool NoMemory → V → Result V runs.Halt
told_gathered (Ok true) value = Ok value
told_gathered (Ok false) value = Err runs.OutOfSteps
told_gathered (Err e) value = Err runs.NoMemory

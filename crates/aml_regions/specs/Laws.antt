-- Laws of bytes and their numbers.
use Rattle.std.specs.Prelude.{◌≡◌, ◌<◌, ◌^◌, ℕ}
use Rattle.aml_regions.specs.Bytes.{unit_of, with_unit}
use Rattle.aml_regions.specs.Worlds.{IsUnit}
use Rattle.aml_regions.specs.declared.access.Access.{Access}

-- a unit's value is the one that it was given
abbrev pub ReadsWhatWasWritten : Type 0
ReadsWhatWasWritten =
    (bytes : ℕ → ℕ → ℕ) (access : Access) (value : ℕ) → IsUnit access → value < 2 ^ access.width
    → unit_of (with_unit bytes access value) access ≡ value

-- A table whose dead Ifs are made Scopes of no name, which hold the same Externals at the same
-- places.
use Rattle.std.specs.Prelude.{ℕ, zero, suc, ◌+◌, ◌-◌, ◌==◌, Bool, false, List, ◌++◌, length, take, drop, nat_lt, slice_set, if◌then◌else◌}
use Rattle.aml_externals.specs.declared.step.Step.{Step}
use Rattle.aml_externals.specs.declared.step.Step.TheVariants.{Dead, Enter, Over, Stop}
use Rattle.aml_externals.specs.Steps.{step_of}

-- bytes, and how many Ifs were opened in them
abbrev pub Opened : Type 0
Opened = List ℕ × ℕ

-- bytes that stay
abbrev pub kept : List ℕ → Opened
kept bytes = (bytes, 0)

-- one behind the other
abbrev pub joined : Opened → Opened → Opened
joined first second = (first.0 ++ second.0, first.1 + second.1)

-- the first byte is a Scope's opcode: what was the test Zero is now its name, the null name (ACPI
-- 6.5, 20.2.2)
abbrev pub as_scope : List ℕ → Opened
as_scope bytes = (slice_set bytes 0 0x10, 1)

-- the lists within a list's definitions, opened
module _ (below : List ℕ → Opened) where
  -- a definition stays up to its list
  abbrev pub entered : ℕ → List ℕ → Opened
  entered from bytes = joined (kept (take from bytes)) (below (drop from bytes))

  abbrev pub opened_by : (List ℕ → Opened) → List ℕ → Step → Opened
  opened_by rest bytes (Dead size) = joined (as_scope (take size bytes)) (rest (drop size bytes))
  opened_by rest bytes (Enter from size) =
      joined (entered from (take size bytes)) (rest (drop size bytes))
  opened_by rest bytes (Over size) = joined (kept (take size bytes)) (rest (drop size bytes))
  opened_by rest bytes Stop = kept bytes

  -- a list of at most so many definitions
  abbrev pub opened_until : ℕ → ℕ → List ℕ → Opened
  opened_until d zero bytes = kept bytes
  opened_until d (suc n) bytes = opened_by (opened_until d n) bytes (step_of d bytes)

-- a list of definitions, in which at most so many stand one in another
unfoldable pub opened : ℕ → List ℕ → Opened
opened zero bytes = kept bytes
opened (suc d) bytes = opened_until (opened d) (suc d) (length bytes) bytes

-- whether such an If begins at a place of a list
module _ (below : List ℕ → ℕ → Bool) where
  abbrev pub dead_inside : ℕ → List ℕ → ℕ → Bool
  dead_inside from bytes at = if nat_lt at from then false else below (drop from bytes) (at - from)

  abbrev pub dead_by : (List ℕ → ℕ → Bool) → List ℕ → ℕ → Step → Bool
  dead_by rest bytes at (Dead size) =
      if nat_lt at size then at == 0 else rest (drop size bytes) (at - size)
  dead_by rest bytes at (Enter from size) =
      if nat_lt at size then dead_inside from (take size bytes) at
      else rest (drop size bytes) (at - size)
  dead_by rest bytes at (Over size) =
      if nat_lt at size then false else rest (drop size bytes) (at - size)
  dead_by rest bytes at Stop = false

  abbrev pub dead_until : ℕ → ℕ → List ℕ → ℕ → Bool
  dead_until d zero bytes at = false
  dead_until d (suc n) bytes at = dead_by (dead_until d n) bytes at (step_of d bytes)

unfoldable pub dead_in : ℕ → List ℕ → ℕ → Bool
dead_in zero bytes at = false
dead_in (suc d) bytes at = dead_until (dead_in d) (suc d) (length bytes) bytes at

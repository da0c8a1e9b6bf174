-- What Acquire and Release do, of an operand that stands at a place and has an action.
use Rattle.std.specs.Prelude.{ℕ, Option, None}
use Rattle.aml_values.specs.Values.{Value, Int}
use Rattle.aml_meaning.specs.declared.action.Action.{Action}
use Rattle.aml_meaning.specs.Meaning.{Setting, mutex, yields}
use Rattle.aml_meaning.specs.Mutexes.{acquire, release}
use Rattle.aml_meaning.specs.Parts.{M, ◌>>=◌, give}

-- the mutex that an operand of Acquire is, taken by the operator at a place
abbrev pub acquired : Setting → ℕ → Action → ℕ → M (Option Value)
acquired here at action from = do
  m ← mutex here at action from
  _ ← acquire here.table at m
  yields here (Int 0)

-- the mutex that an operand of Release is, released
abbrev pub released : Setting → ℕ → Action → ℕ → M (Option Value)
released here at action from = do
  m ← mutex here at action from
  _ ← release here.table at m
  give None

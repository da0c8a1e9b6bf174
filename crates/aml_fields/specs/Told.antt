-- What an answer with a value tells.
use Rattle.std.specs.Prelude.{Option, Some, None, Result, Ok, Err}
use Rattle.aml_values.specs.declared.value.Value as code
use Rattle.aml_values.specs.Values.{Value}
use Rattle.aml_values.specs.Views.{view}
use Rattle.aml_paths.specs.declared.memory.NoMemory.{NoMemory}
use Rattle.aml_meaning.specs.Runs as runs

-- an answer that may have met its limit
abbrev pub told_value : Result (Option code.Value) NoMemory → Result Value runs.Halt
told_value (Ok (Some v)) = Ok (view v)
told_value (Ok None) = Err runs.OutOfSteps
told_value (Err e) = Err runs.NoMemory

use Rattle.std.proofs.Common.{take}
use Rattle.aml_calls.specs.Pairs.{numbers}
use Rattle.aml_calls.proofs.Places.{HasRoom}
use Rattle.aml_calls.proofs.calls.room_for_all.Given as goal

-- there is room for the methods so far
abbrev pub invariant-methods : goal.invariant-methods
invariant-methods l = HasRoom l.room l.more (numbers (take l.method-index l.methods))

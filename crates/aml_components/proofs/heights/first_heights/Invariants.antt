use Rattle.std.proofs.Common.{take}
use Rattle.aml_calls.specs.Pairs.{numbers}
use Rattle.aml_components.specs.Heights.{BeginsWith}
use Rattle.aml_components.proofs.heights.first_heights.Given as goal

abbrev pub invariant-endless : goal.invariant-endless
invariant-endless l = BeginsWith (numbers (take l.method-index l.endless)) l.room l.heights.items

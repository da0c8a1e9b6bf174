use Rattle.std.proofs.Common.{◌≡◌, ℕ, map, take}
use Rattle.aml_kinds.specs.Kinds.{Shape}
use Rattle.aml_known.specs.Views.{kinds_of}
use Rattle.aml_signatures.specs.ArgumentKinds.{kind_of_argument}
use Rattle.aml_methods.proofs.argument_kinds.all_known.Given as goal

-- the kinds so far are known
abbrev pub invariant-loop-kind : goal.invariant-loop-kind
invariant-loop-kind l = (shapes : ℕ → Shape) → kinds_of shapes l.args.items ≡ map (kind_of_argument l.width) (take l.kind-index l.kinds)

use Rattle.std.proofs.Common.{◌≡◌, vec_len, map}
use Rattle.aml_signatures.specs.ArgumentKinds.{cut_to, filled}
use Rattle.aml_signatures.proofs.signatures.completed.Given as goal

-- as many kinds as have been looked at
abbrev pub invariant-loop-i : goal.invariant-loop-i
invariant-loop-i l = (l.kinds.items ≡ map (cut_to l.width) (filled l.i l.named)) × (vec_len l.kinds ≡ l.i)

use Rattle.std.proofs.Common.{◌≡◌}
use Rattle.aml_contents.specs.Held.{content_kinds}
use Rattle.aml_plain_tests.proofs.sleeps.changed.Given as goal

-- each name holds a content of the kind that it held
abbrev pub invariant-loop-number : goal.invariant-loop-number
invariant-loop-number l = content_kinds l.made ≡ content_kinds l.names

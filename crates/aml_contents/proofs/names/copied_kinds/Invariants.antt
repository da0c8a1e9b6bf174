use Rattle.std.proofs.Common.{◌≡◌, take}
use Rattle.aml_contents.specs.ContentViews.{content_kinds_of}
use Rattle.aml_contents.proofs.names.copied_kinds.Given as goal

-- the kinds so far are copied
abbrev pub invariant-loop-each : goal.invariant-loop-each
invariant-loop-each l = content_kinds_of l.made.items ≡ content_kinds_of (take l.each-index l.kinds)

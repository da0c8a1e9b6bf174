use Rattle.std.proofs.Common.{◌≡◌, take}
use Rattle.aml_contents.specs.ContentViews.{contents_of}
use Rattle.aml_contents.proofs.names.copied_contents.Given as goal

-- the contents so far are copied
abbrev pub invariant-loop-each : goal.invariant-loop-each
invariant-loop-each l = contents_of l.made.items ≡ contents_of (take l.each-index l.contents)

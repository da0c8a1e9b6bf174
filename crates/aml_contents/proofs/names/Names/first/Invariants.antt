use Rattle.std.proofs.Common.{◌≡◌, take}
use Rattle.aml_namespace.specs.Shows.{shown}
use Rattle.aml_contents.specs.Held.{contents, content_kinds}
use Rattle.aml_contents.proofs.FirstNames.{contents_in, kinds_in}
use Rattle.aml_contents.proofs.names.Names.first.Given as goal

-- the names so far hold what they hold first
abbrev pub invariant-loop-i : goal.invariant-loop-i
invariant-loop-i l = record {
  held : contents l.names ≡ contents_in (shown l.namespace) (take l.i (shown l.namespace).entries);
  kinds : content_kinds l.names ≡ kinds_in (shown l.namespace) (take l.i (shown l.namespace).entries);
}

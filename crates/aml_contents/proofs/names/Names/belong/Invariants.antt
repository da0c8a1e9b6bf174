use Rattle.std.proofs.Common.{◌≡◌, ◌<◌, ℕ, length, true}
use Rattle.aml_namespace.specs.Shows.{shown}
use Rattle.aml_contents.specs.Held.{content_kinds}
use Rattle.aml_contents.proofs.BelongLaws.{is_kind_there}
use Rattle.aml_contents.proofs.names.Names.belong.Given as goal

-- the names so far are the namespace's
abbrev pub invariant-loop-i : goal.invariant-loop-i
invariant-loop-i l = record {
  as_many : length (content_kinds l.self) ≡ length (shown l.namespace).entries;
  belong : (k : ℕ) → k < l.i → is_kind_there (shown l.namespace) (shown l.namespace).entries (content_kinds l.self) k ≡ true;
}

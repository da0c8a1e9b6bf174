use Rattle.std.proofs.Common.{◌≡◌, drop}
use Rattle.std.specs.List.{list_any}
use Rattle.std.specs.Str.{bytes_eq}
use Rattle.aml_namespace.specs.Names.{is_interface}
use Rattle.aml_namespace.specs.Shows.{bytes_in, shown}
use Rattle.aml_namespace.proofs.namespace.Namespace.has_interface.Given as goal

-- none of the texts so far is this one, so that all hangs on those that are left
abbrev pub invariant-loop-known : goal.invariant-loop-known
invariant-loop-known l =
    is_interface (shown l.self) l.text ≡ list_any (λ known. bytes_eq known l.text) (bytes_in (drop l.known-index l.known-items))

use Rattle.aml_namespace.specs.Names.{link_with_owns}
use Rattle.aml_namespace.specs.Shows.{shown}
use Rattle.aml_own_names.specs.OwnNamesSeen.{owns_seen}
use Rattle.aml_methods.proofs.named.Named.link.Goals as goal

pub returns-in-Some : goal.returns-in-Some
returns-in-Some c = let names = c.args.self.now in
    c.in-Some.ensures (link_with_owns (shown names.namespace.now).entries names.method.0 names.bytes.now (owns_seen names.owns.now)) names.meant

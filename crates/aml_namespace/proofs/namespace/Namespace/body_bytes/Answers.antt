use Rattle.std.proofs.Common.{sym, ◌∙◌}
use Rattle.aml_namespace.specs.Shows.{shown}
use Rattle.aml_namespace.proofs.BodyPlaces.{body_lies}
use Rattle.aml_namespace.proofs.namespace.Namespace.body_bytes.Goals as goal

pub table-requires : goal.table-requires
table-requires c =
    let ns = shown c.args.self.now in
    let lies = body_lies ns.tables ns.entries c.args.id.0 c.unwrap-method.result c.args.self.now.bodies (sym c.method.ensures ∙ c.unwrap-method.ensures) in lies.0

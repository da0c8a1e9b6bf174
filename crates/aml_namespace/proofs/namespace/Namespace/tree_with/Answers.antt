use Rattle.std.proofs.Common.{sym, ◌∙◌}
use Rattle.aml_namespace.specs.Shows.{shown}
use Rattle.aml_namespace.proofs.BodyPlaces.{body_lies}
use Rattle.std.proofs.lemmas.Option.{same_Some}
use Rattle.aml_namespace.proofs.namespace.Namespace.tree_with.Goals as goal

pub table-requires : goal.table-requires
table-requires c =
    let ns = shown c.args.self.now in
    let lies = body_lies ns.tables ns.entries c.args.id.0 c.unwrap-method.result c.args.self.now.bodies (sym c.method.ensures ∙ c.unwrap-method.ensures) in lies.0

pub returns : goal.returns
returns c = λ m is.
    let same = same_Some m c.unwrap-method.result (sym is ∙ sym c.method.ensures ∙ c.unwrap-method.ensures) in
    rw (same, ← c.table.ensures) c.read_body.ensures

use Rattle.std.proofs.Common.{◌-◌, ◌∙◌, List, ℕ, max, ap}
use Rattle.aml_lex.specs.Standing.{bytes_between}
use Rattle.aml_namespace.specs.Shows.{shown}
use Rattle.aml_contents.specs.FirstContents.{filled}
use Rattle.aml_literals.proofs.Parts.{buffer_is, buffer_opens, buffer_value}
use Rattle.aml_literals.proofs.data.buffer.Goals as goal

pub package-stop-requires : goal.package-stop-requires
package-stop-requires c = buffer_opens c.args.bytes.now c.args.at c.requires

pub literal_at-size-requires : goal.literal_at-size-requires
literal_at-size-requires c =
    (buffer_is c.args.bytes.now c.args.at c.package-stop.result c.package-stop.ensures.is c.package-stop.ensures.within c.requires).size

pub returns-clause-value : goal.returns-clause-value
returns-clause-value c = λ d.
    let r = c.package-stop.result in
    let n = c.literal_at-size.result.0 in
    let start = c.literal_at-size.result.1 in
    let items = c.bytes_between-initialiser.ensures ∙ ap (λ (bytes : List ℕ). bytes_between bytes start r.0) c.table_bytes.ensures in
    buffer_value (shown c.args.namespace.now) c.args.site.table c.args.site.method.0 c.args.bytes.now c.args.at r c.package-stop.ensures.is c.package-stop.ensures.within n start c.in_ok-items.items c.literal_at-size.ensures.number c.literal_at-size.ensures.place
    (c.in_ok-items.ensures ∙ ap (λ (size : ℕ). filled size c.bytes_between-initialiser.result.now) c.max.ensures ∙ ap (filled (max n (r.0 - start))) items) d

pub returns-clause-place : goal.returns-clause-place
returns-clause-place c = λ d.
    (buffer_is c.args.bytes.now c.args.at c.package-stop.result c.package-stop.ensures.is c.package-stop.ensures.within d).stop

use Rattle.std.proofs.Common.{◌≡◌, ◌-◌, ◌++◌, ◌∙◌, map, length, take, ap}
use Rattle.std.specs.Prelude.{replicate}
use Rattle.std.proofs.lemmas.Result.{IfOk-weaker}
use Rattle.aml_operators.specs.Tree.{views}
use Rattle.aml_namespace.specs.Shows.{shown}
use Rattle.aml_values.specs.Values.{Unset}
use Rattle.aml_values.specs.Views.{element, elements_of}
use Rattle.aml_contents.specs.FirstContents.{counted, elements_behind}
use Rattle.aml_contents.proofs.FirstValues.{counted_behind}
use Rattle.aml_contents.proofs.first_data.+first_data.Goals as goal

pub elements_behind-returns : goal.elements_behind-returns
elements_behind-returns t c =
    let ns = shown c.args.namespace.now in
    let elements = c.in_ok-elements.elements.items in
    let is = c.first_terms-kept.ensures ∙ ap (take c.args.size) c.behind_first-terms.ensures.parts in
    IfOk-weaker c.with_unset.result (λ es. map element es.items ≡ map element elements ++ replicate (c.args.size - length elements) Unset)
    (λ es. elements_of es.items ≡ counted c.args.size (elements_behind ns c.args.site.table c.args.site.scope (views c.args.parts.now)))
    (λ es all. counted_behind ns c.args.site.table c.args.site.scope c.args.size c.args.parts.now c.first_terms-kept.result.now elements es.items is c.in_ok-elements.ensures all)
    c.with_unset.ensures

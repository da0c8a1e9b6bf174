use Rattle.std.proofs.Common.{◌≡◌, ◌-◌, ◌++◌, ◌∙◌, ℕ, List, ◌∷◌, [], map, length, ap, append_assoc, arith}
use Rattle.std.specs.Prelude.{replicate}
use Rattle.std.proofs.lemmas.List.{map_push}
use Rattle.aml_values.specs.Values.{Element, Unset}
use Rattle.aml_values.specs.Views.{element}
use Rattle.aml_values.specs.declared.value.Element.TheVariants as held
use Rattle.aml_contents.proofs.FirstValues.{unset_more}
use Rattle.aml_contents.proofs.first_data.with_unset.Goals as goal

pub unset-preserved : goal.unset-preserved
unset-preserved c =
    let given = map element c.args.elements.items in
    let one_more = ap (map element) c.in_ok-push.ensures.items ∙ map_push element c.unset.made.items held.Unset
    ∙ ap (λ (es : List Element). es ++ Unset ∷ []) c.unset.invariant.made
    ∙ append_assoc given (replicate (c.unset.counter - length c.args.elements.items) Unset) (Unset ∷ [])
    ∙ ap (λ (es : List Element). given ++ es) (unset_more c.unset.counter (length c.args.elements.items) c.unset.invariant.past) in
    record { past = omega arith; within = omega arith; made = one_more }

pub returns : goal.returns
returns c =
    let left : c.unset.counter - length c.args.elements.items ≡ c.args.size - length c.args.elements.items = omega arith in
    c.unset.invariant.made ∙ ap (λ (n : ℕ). map element c.args.elements.items ++ replicate n Unset) left

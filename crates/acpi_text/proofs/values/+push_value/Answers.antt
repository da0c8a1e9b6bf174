use Rattle.std.proofs.Common.{◌++◌, ◌≤◌, get_or, ap, ◌∙◌, sym, subst, append_assoc, append-nil, arith, codes}
use Rattle.aml_path_text.proofs.PathLemmas.{added}
use Rattle.acpi_text.proofs.ValueLemmas.{first_element, next_element}
use Rattle.aml_values.proofs.Depths.{element_le}
use Rattle.acpi_text.specs.Values.{element_text, element_texts}
use Rattle.aml_values.specs.Values.{element_depth, greatest_depth}
use Rattle.aml_values.specs.Views.{element, elements_of}
use Rattle.aml_values.specs.declared.value.Element as program
use Rattle.aml_namespace.specs.Shows.{shown}
use Rattle.acpi_text.proofs.values.+push_value.Goals as goal
use Rattle.acpi_text.proofs.values.+push_value.Goals.{push_elements-then-i-gt0+in_ok-extend_from_slice, push_elements-else-i-gt0}

pub push_elements-loop-i-init : goal.push_elements-loop-i-init
unfolding element_texts
push_elements-loop-i-init t c = sym (append-nil c.args.text.now.items)

pub push_elements-push_element-requires : goal.push_elements-push_element-requires
push_elements-push_element-requires t c =
    let es = c.args.elements.now in
    let each = c.index-elements-i.result in
    let below = element_le es c.loop-i.i each c.loop-i-test.true in
    let deep = subst (λ (e : program.Element). element_depth (element e) ≤ greatest_depth (elements_of es)) (sym c.index-elements-i.is) below in
    omega (arith, deep)

pub push_elements-loop-i-preserved : goal.push_elements-loop-i-preserved
push_elements-loop-i-preserved t c =
    let entries = (shown c.args.namespace.now).entries in
    let es = c.args.elements.now in
    let i = c.loop-i.i in
    let each = c.index-elements-i.result in
    let text = λ (e : program.Element). element_text entries (element e) in
    let piece = ap text c.index-elements-i.is in
    let behind = c.in_ok-push_element.ensures ∙ ap (λ p. c.if-i-gt0.text.items ++ p) piece in
    elim c.if-i-gt0.branch [
      | push_elements-then-i-gt0+in_ok-extend_from_slice w ↦ (
          let before = rw w.text-is at behind in
          added _ _ c.loop-i.text.items (codes ", " ++ text (get_or es i each)) _ _
          (before ∙ ap (λ line. line ++ text (get_or es i each)) w.in_ok-extend_from_slice.ensures.items
          ∙ append_assoc c.loop-i.text.items (codes ", ") (text (get_or es i each)))
          c.loop-i.invariant (next_element entries es i each c.loop-i-test.true w.if-i-gt0.true)
          )
      | push_elements-else-i-gt0 w ↦ (
          let before = rw w.text-is at behind in
          added _ _ c.loop-i.text.items (text (get_or es i each)) _ _ before
          c.loop-i.invariant (first_element entries es i each c.loop-i-test.true w.if-i-gt0.false)
          )
    ]

-- The interrupts of a mask, one by one.
use Rattle.std.proofs.Common.{◌≡◌, refl, ap, sym, ◌∙◌, ℕ, ◌+◌, ◌<◌, List, [], ◌∷◌, ◌++◌, true, false, inl, inr, append-nil, append_assoc}
use Rattle.std.specs.List.{filter}
use Rattle.std.proofs.lemmas.Bool.{cases_Bool}
use Rattle.acpi_resources.specs.Interrupts.{has_irq, irqs}
use Rattle.acpi_resources.proofs.Linked.{irqs_from, not_this_irq, this_irq}

-- an interrupt, if it is there, and those behind it
pub next_irq : (mask irq : ℕ) → irq < 16 → irqs_from mask irq ≡ filter (has_irq mask) (irq ∷ []) ++ irqs_from mask (irq + 1)
next_irq mask irq l =
    elim (cases_Bool (has_irq mask irq)) [
      | inl e ↦ this_irq mask irq l e ∙ sym (rw e refl)
      | inr e ↦ not_this_irq mask irq l e ∙ sym (rw e refl)
    ]

-- what was found with one more in front of what is left
pub irq_found : (mask irq : ℕ) (old : List ℕ) → irq < 16 → old ++ irqs_from mask irq ≡ irqs mask
    → (old ++ filter (has_irq mask) (irq ∷ [])) ++ irqs_from mask (irq + 1) ≡ irqs mask
irq_found mask irq old l done =
    append_assoc old (filter (has_irq mask) (irq ∷ [])) (irqs_from mask (irq + 1)) ∙ ap (λ (left : List ℕ). old ++ left) (sym (next_irq mask irq l)) ∙ done

-- all was found where none is left
pub irqs_found : (mask : ℕ) (numbers left : List ℕ) → left ≡ [] → numbers ++ left ≡ irqs mask → numbers ≡ irqs mask
irqs_found mask numbers left none done = sym (append-nil numbers) ∙ ap (λ (more : List ℕ). numbers ++ more) (sym none) ∙ done

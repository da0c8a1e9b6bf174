-- Laws of lines that are told one after the other.
use Rattle.std.proofs.Common.{◌≡◌, ◌-◌, ℕ, zero, suc, List, [], ◌++◌, Some, refl, ap, ◌∙◌, append_assoc, arith}
use Rattle.std.specs.Prelude.{codes}
use Rattle.std.specs.Option.{option_map_or}
use Rattle.acpi_verdicts.specs.Explained.{chain_text, next_of, reason_text}
use Rattle.aml_paths.specs.declared.scope.ObjectId.{ObjectId}
use Rattle.aml_verify.specs.declared.checked.Checked.{Checked}

-- what was told, where three texts were added one behind the other
pub three_behind : (a b c d first second third : List ℕ) → b ≡ a ++ first → c ≡ b ++ second → d ≡ c ++ third
    → d ≡ a ++ (first ++ (second ++ third))
three_behind a b c d first second third e f g =
    g ∙ ap (λ t. t ++ third) (f ∙ ap (λ t. t ++ second) e)
    ∙ append_assoc (a ++ first) second third
    ∙ append_assoc a first (second ++ third)

-- the lines of a method that is refused for one that it calls go on with those of that one
pub chain_on : (most : ℕ) (names : List (List ℕ)) (checked : Checked) (id callee : ObjectId) → (most ≡ 0 → ⊥)
    → Some callee ≡ next_of checked id
    → reason_text names checked id ++ (codes "  " ++ chain_text (most - 1) names checked callee) ≡ chain_text most names checked id
chain_on zero names checked id callee some next = absurd (some refl)
chain_on (suc most) names checked id callee some next =
    let less : suc most - 1 ≡ most = omega arith in
    ap (λ k. reason_text names checked id ++ (codes "  " ++ chain_text k names checked callee)) less
    ∙ ap (λ n. reason_text names checked id
    ++ option_map_or (λ (called : ObjectId). codes "  " ++ chain_text most names checked called) n []) next

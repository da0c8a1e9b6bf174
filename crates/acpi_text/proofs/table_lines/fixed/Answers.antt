use Rattle.std.proofs.Common.{◌≡◌, ◌∙◌, ℕ, List, [], ◌∷◌, ap, codes}
use Rattle.std.proofs.lemmas.Result.{IfOk-weaker}
use Rattle.acpi_text.specs.Tables.{decimal_or_absent, field_lines, fixed_lines, hex_or_absent, yes_or_absent}
use Rattle.acpi_text.proofs.table_lines.fixed.Goals as goal

-- the lines of a FADT's fields, of these texts
abbrev lines_of : List ℕ → List ℕ → List ℕ → List ℕ → List ℕ → List ℕ → List ℕ
lines_of dsdt profile sci flags reduced x_dsdt = field_lines (
    (codes "dsdt", dsdt) ∷ (codes "profile", profile) ∷ (codes "sci", sci)
    ∷ (codes "flags", flags) ∷ (codes "hardware-reduced", reduced) ∷ (codes "x_dsdt", x_dsdt) ∷ [])

same_lines : (a b c d e f k l m n o p : List ℕ) → a ≡ k → b ≡ l → c ≡ m → d ≡ n → e ≡ o → f ≡ p → lines_of a b c d e f ≡ lines_of k l m n o p
same_lines a b c d e f k l m n o p ak bl cm dn eo fp = cc

pub returns : goal.returns
unfolding fixed_lines
returns c =
    let same = same_lines _ _ _ _ _ _ _ _ _ _ _ _
    (c.in_ok-hex_field.ensures ∙ ap hex_or_absent c.wide_u32.ensures)
    (c.in_ok-decimal_field.ensures ∙ ap decimal_or_absent c.wide_u8.ensures)
    (c.in_ok-decimal_field-2.ensures ∙ ap decimal_or_absent c.wide_u16.ensures)
    (c.in_ok-hex_field-2.ensures ∙ ap hex_or_absent c.wide_u32-2.ensures)
    (c.in_ok-from_str.ensures.ok ∙ c.yes_field-reduced.ensures ∙ ap yes_or_absent c.hardware_reduced.ensures)
    c.in_ok-hex_field-3.ensures in
    IfOk-weaker c.lines_of_fields.result _ _ (λ lines is. is ∙ same) c.lines_of_fields.ensures

use Rattle.std.proofs.Common.{◌≡◌, ◌∙◌, ℕ, List, [], ◌∷◌, ap, codes, decimal}
use Rattle.std.specs.Prelude.{◌++◌}
use Rattle.std.proofs.lemmas.Result.{IfOk-weaker}
use Rattle.acpi_text.specs.Tables.{header_line, words}
use Rattle.acpi_text.proofs.table_lines.header.Goals as goal

-- a header's line of these texts
abbrev line_of : List ℕ → List ℕ → List ℕ → List ℕ → List ℕ → List ℕ → List ℕ
line_of signature length revision oem_id oem_table_id oem_revision = words (
    (codes "table ", signature) ∷ (codes " length ", length) ∷ (codes " revision ", revision)
    ∷ (codes " oem \"", oem_id) ∷ (codes "\" \"", oem_table_id) ∷ (codes "\" 0x", oem_revision) ∷ []) ++ codes "\n"

same_line : (a b c d e f k l m n o p : List ℕ) → a ≡ k → b ≡ l → c ≡ m → d ≡ n → e ≡ o → f ≡ p → line_of a b c d e f ≡ line_of k l m n o p
same_line a b c d e f k l m n o p ak bl cm dn eo fp = cc

pub returns : goal.returns
unfolding header_line
returns c =
    let same = same_line _ _ _ _ _ _ _ _ _ _ _ _
    c.in_ok-escaped_text.ensures
    (c.in_ok-decimal_text.ensures ∙ ap decimal c.from.ensures)
    (c.in_ok-decimal_text-2.ensures ∙ ap decimal c.from-2.ensures)
    c.in_ok-escaped_text-2.ensures
    c.in_ok-escaped_text-3.ensures
    c.in_ok-hex_text.ensures in
    IfOk-weaker c.line_of_words.result _ _ (λ line is. is ∙ same) c.line_of_words.ensures

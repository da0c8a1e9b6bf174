-- Decimal digits.
use Rattle.std.proofs.Common.{◌≡◌, ℕ, ◌<◌, List, [], ◌∷◌, ◌++◌, Option, Some, None, ap, subst, sym, ◌∙◌, arith, zero, suc, get_or, length, drop}
use Rattle.std.specs.Prelude.{MatchOption}
use Rattle.std.specs.Str.{IsUtf8}
use Rattle.std.specs.Str.Parse.{AllDigits}
use Rattle.std.specs.Char.{digit_value}
use Rattle.std.proofs.lemmas.Bool.Decides.{nat_tests}
use Rattle.std.proofs.lemmas.Str.{IsUtf8-from_ascii}
use Rattle.std.proofs.Math.Seq.{drop-append_seam}
use Rattle.aml_signatures.specs.Text.{IsDecimal, IsNumberBehind}

digit_small : (c : ℕ) → digit_value c < 10 → c < 128
digit_small c h = grind (arith, nat_tests, h)

digits_small : (digits : List ℕ) → AllDigits 10 digits → (i : ℕ) → get_or digits i 0 < 128
digits_small [] h i = omega arith
digits_small (c ∷ digits) h zero = digit_small c h.0
digits_small (c ∷ digits) h (suc i) = digits_small digits h.1 i

-- they are text
pub digits_utf8 : (digits : List ℕ) → AllDigits 10 digits → IsUtf8 digits
digits_utf8 digits h = IsUtf8-from_ascii digits (digits_small digits h)

-- what stands behind a beginning is what its digits spell
pub behind : (beginning word digits : List ℕ) (r : Option ℕ) → word ≡ beginning ++ digits
    → MatchOption r ((n : ℕ) → IsDecimal digits n → ⊥) (λ n. IsDecimal digits n)
    → MatchOption r ((n : ℕ) → IsNumberBehind beginning word n → ⊥) (λ n. IsNumberBehind beginning word n)
behind beginning word digits (Some n) is h = (digits, is, h)
behind beginning word digits None is h = λ n (others, same, decimal).
    let e : others ≡ digits = sym (drop-append_seam beginning others) ∙ (ap (drop (length beginning)) (sym same ∙ is) ∙ drop-append_seam beginning digits) in
    h n (subst (λ l. IsDecimal l n) e decimal)

-- The parts of bytes between separators.
use Rattle.std.proofs.Common.{◌≡◌, ℕ, ◌<◌, List, [], ◌∷◌, ◌++◌, refl, ap, true, false, Bool, arith, length, zero, suc, get_or}
use Rattle.std.specs.Prelude.{◌==◌, not, if◌then◌else◌}
use Rattle.std.specs.Str.{IsUtf8}
use Rattle.std.specs.Str.Parse.{AllDigits}
use Rattle.std.specs.Char.{digit_value}
use Rattle.std.proofs.lemmas.Bool.Decides.{nat_tests}
use Rattle.std.proofs.lemmas.Str.{IsUtf8-from_ascii}
use Rattle.aml_regions.specs.Text.{Lacks, begun_with, parts_at}

apart : (b : Bool) → not b ≡ true → b ≡ false
apart false h = refl
apart true h = absurd (cc)

-- up to a separator there is one part
pub parts_more : (separator : ℕ) (first rest : List ℕ) → Lacks separator first → parts_at separator (first ++ (separator ∷ rest)) ≡ first ∷ parts_at separator rest
parts_more separator [] rest h = let e : (separator == separator) ≡ true = grind (arith, nat_tests) in rw e refl
parts_more separator (b ∷ first) rest h =
    rw (apart (b == separator) (h 0 0 (omega arith))) (ap (begun_with b) (parts_more separator first rest (λ k d l. h (suc k) d (omega (arith, l)))))

-- without one there is one part
pub parts_one : (separator : ℕ) (bytes : List ℕ) → Lacks separator bytes → parts_at separator bytes ≡ bytes ∷ []
parts_one separator [] h = refl
parts_one separator (b ∷ bytes) h =
    rw (apart (b == separator) (h 0 0 (omega arith))) (ap (begun_with b) (parts_one separator bytes (λ k d l. h (suc k) d (omega (arith, l)))))

begun_some : (b : ℕ) (parts : List (List ℕ)) → 0 < length (begun_with b parts)
begun_some b [] = omega arith
begun_some b (part ∷ more) = omega arith

split_some : (b : Bool) (c : ℕ) (parts : List (List ℕ)) → 0 < length (if b then [] ∷ parts else begun_with c parts)
split_some true c parts = omega arith
split_some false c parts = begun_some c parts

-- there is a part
pub parts_some : (separator : ℕ) (bytes : List ℕ) → 0 < length (parts_at separator bytes)
parts_some separator [] = omega arith
parts_some separator (b ∷ bytes) = split_some (b == separator) b (parts_at separator bytes)

digit_small : (c : ℕ) → digit_value c < 16 → c < 128
digit_small c h = grind (arith, nat_tests, h)

digits_small : (word : List ℕ) → AllDigits 16 word → (i : ℕ) → get_or word i 0 < 128
digits_small [] h i = omega arith
digits_small (c ∷ word) h zero = digit_small c h.0
digits_small (c ∷ word) h (suc i) = digits_small word h.1 i

-- hex digits are text
pub digits_utf8 : (word : List ℕ) → AllDigits 16 word → IsUtf8 word
digits_utf8 word h = IsUtf8-from_ascii word (digits_small word h)

-- What lines tell, one after the other.
use Rattle.std.proofs.Common.{◌≡◌, ℕ, suc, ◌+◌, ◌<◌, ◌≤◌, List, [], ◌∷◌, ◌++◌, Option, refl, sym, ap, arith, cond, drop, eqb, get_or, take, ◌∙◌, Some, inl, inr, length}
use Rattle.std.proofs.Math.Seq.{drop-cons}
use Rattle.std.proofs.lemmas.List.{take-append-drop}
use Rattle.std.proofs.lemmas.List.Splits.{length-slice_split}
use Rattle.std.proofs.lemmas.List.Sums.{count_by-le-length}
use Rattle.std.specs.Str.{bytes_eq}
use Rattle.aml_signatures.specs.Text.{FailsToSign, LineFails, LineSigns, LinesSign, lines_of, nothing_told}
use Rattle.aml_signatures.specs.declared.argument_kind.ArgumentKind.{ArgumentKind}
use Rattle.aml_signatures.specs.declared.fault.SignatureFault.{SignatureFault}
use Rattle.aml_signatures.specs.declared.fault.SignatureFault.TheVariants.{NoMemory, BadKinds}

module _ (line : List ℕ) where
  signs_after : (old between new : List ℕ → Option (List ArgumentKind)) → LinesSign [] old between → LineSigns line between new → LineSigns line old new
  signs_after old between new same (inl (nothing, kept)) = inl (nothing, λ path. kept path ∙ same path)
  signs_after old between new same (inr (counts, words)) =
      inr (counts, (words.0, words.1, sym (same words.0.path) ∙ words.2, λ path. words.3 path ∙ ap (cond (bytes_eq words.0.path path) (Some words.0.kinds)) (same path)))

  -- one line more
  pub lines_more : (before : List (List ℕ)) (old between new : List ℕ → Option (List ArgumentKind)) → LinesSign before old between → LineSigns line between new
      → LinesSign (before ++ (line ∷ [])) old new
  lines_more [] old between new same signs = (new, signs_after old between new same signs, λ path. refl)
  lines_more (first ∷ before) old between new (behind, is, rest) signs = (behind, is, lines_more before behind between new rest signs)

-- a line that fails is the first bad one
pub first_bad : (text line : List ℕ) (before behind : List (List ℕ)) (told : List ℕ → Option (List ArgumentKind)) (number : ℕ) (fault : SignatureFault)
    → LinesSign before nothing_told told → lines_of text ≡ before ++ (line ∷ behind) → number ≡ length before + 1 → LineFails line told number fault → FailsToSign text fault
first_bad text line before behind told number NoMemory signs all count fails = tt
first_bad text line before behind told number (BadKinds n) signs all count fails =
    (before, behind, line, told, all, signs, fails.1, fails.0 ∙ count)

-- all lines are those so far, the next one, and those behind it
pub lines_at : (all before : List (List ℕ)) (line : List ℕ) (n : ℕ) → before ≡ take n all → (n < length all) × (line ≡ get_or all n line)
    → all ≡ before ++ (line ∷ drop (suc n) all)
lines_at all before line n so_far (within, here) =
    sym (take-append-drop n all) ∙ (ap (λ l. l ++ drop n all) (sym so_far)
    ∙ ap (λ l. before ++ l) (drop-cons all n line within ∙ ap (λ x. x ∷ drop (suc n) all) (sym here)))

-- a text has no more than one line more than bytes
pub lines_within : (text : List ℕ) → length (lines_of text) ≤ length text + 1
lines_within text = omega (arith, length-slice_split (λ b. eqb b 10) text, count_by-le-length (λ b. eqb b 10) text)

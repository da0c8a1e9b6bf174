-- Laws of a line's words.
use Rattle.std.proofs.Common.{◌≡◌, ◌⊎◌, ℕ, ◌+◌, ◌<◌, ◌-◌, List, [], ◌∷◌, ◌++◌, append_assoc, ap, ◌∙◌, sym, refl, subst, arith, map}
use Rattle.std.proofs.lemmas.List.{map-append}
use Rattle.acpi_words.specs.FirstLine.{AreWords, HasNoSpace}

-- one word more in front
pub words_more : (most : ℕ) (text word behind : List ℕ) (more : List (List ℕ)) → 1 < most → HasNoSpace word → text ≡ word ++ (32 ∷ behind)
    → AreWords (most - 1) behind more → AreWords most text (word ∷ more)
words_more most text word behind [] some none is h = absurd h
words_more most text word behind (next ∷ rest) some none is h = (some, none, (behind, is, h))

-- the words of the rest make the words of the line, behind those that are done
abbrev pub Continues : ℕ → ℕ → List ℕ → List ℕ → List (List ℕ) → Type 0
Continues most count line rest done = (more : List (List ℕ)) → AreWords (most - count) rest more → AreWords most line (done ++ more)

-- one word is done
pub line_more : {X : Type 0} (now : X → List ℕ) (most count : ℕ) (line rest behind : List ℕ) (words grown : List X) (word : X)
    → count + 1 < most → HasNoSpace (now word) → rest ≡ now word ++ (32 ∷ behind) → grown ≡ words ++ (word ∷ [])
    → Continues most count line rest (map now words) → Continues most (count + 1) line behind (map now grown)
line_more now most count line rest behind words grown word below none is grows so = λ more h.
    let done : map now grown ++ more ≡ map now words ++ (now word ∷ more) =
    ap (λ g. map now g ++ more) grows ∙ ap (λ l. l ++ more) (map-append now words (word ∷ [])) ∙ append_assoc (map now words) (now word ∷ []) more in
    let left : most - (count + 1) ≡ most - count - 1 = omega arith in
    subst (AreWords most line) (sym done)
    (so (now word ∷ more) (words_more (most - count) rest (now word) behind more (omega arith) none is (subst (λ m. AreWords m behind more) left h)))

-- the last word takes the rest
pub line_done : {X : Type 0} (now : X → List ℕ) (most count : ℕ) (line : List ℕ) (words grown : List X) (word : X)
    → HasNoSpace (now word) ⊎ (most - count ≡ 1) → grown ≡ words ++ (word ∷ [])
    → Continues most count line (now word) (map now words) → AreWords most line (map now grown)
line_done now most count line words grown word last grows so =
    subst (AreWords most line) (sym (ap (map now) grows ∙ map-append now words (word ∷ []))) (so (now word ∷ []) (refl, last))

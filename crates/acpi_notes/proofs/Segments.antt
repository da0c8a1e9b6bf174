-- Laws of the printed form of a word.
use Rattle.std.proofs.Common.{◌≡◌, ◌≢◌, ◌<◌, ◌++◌, ℕ, suc, List, [], ◌∷◌, Option, Some, None, true, refl, sym, ap, ◌∙◌, append_assoc, get_or, length, map, arith}
use Rattle.std.specs.Prelude.{◌==◌, is_some}
use Rattle.std.specs.Option.{option_map}
use Rattle.std.specs.List.{join_with_byte, onto_first, slice_split}
use Rattle.std.proofs.lemmas.Bool.{ne_eqb}
use Rattle.std.proofs.lemmas.List.Splits.{length-slice_split}
use Rattle.acpi_notes.specs.Near.{below_root, padded, printed_segments}

-- text without a dot
abbrev pub HasNoDot : List ℕ → Type 0
HasNoDot text = (i : ℕ) → i < length text → get_or text i 0 ≢ 46

-- up to a dot there is one part
split_more : (first rest : List ℕ) → HasNoDot first → slice_split (λ b. b == 46) (first ++ (46 ∷ rest)) ≡ first ∷ slice_split (λ b. b == 46) rest
split_more [] rest h = refl
split_more (b ∷ first) rest h =
    rw (ne_eqb b 46 (h 0 (omega arith))) (ap (onto_first b) (split_more first rest (λ i l. h (suc i) (omega (arith, l)))))

-- without a dot there is one part
split_one : (text : List ℕ) → HasNoDot text → slice_split (λ b. b == 46) text ≡ text ∷ []
split_one [] h = refl
split_one (b ∷ text) h =
    rw (ne_eqb b 46 (h 0 (omega arith))) (ap (onto_first b) (split_one text (λ i l. h (suc i) (omega (arith, l)))))

join_next : (first : List ℕ) (parts : List (List ℕ)) → 0 < length parts
    → join_with_byte 46 (first ∷ map padded parts) ≡ first ++ (46 ∷ join_with_byte 46 (map padded parts))
join_next first [] some = absurd (omega arith)
join_next first (next ∷ parts) some = refl

-- a segment, a dot and what stands behind it
pub segments_more : (first rest : List ℕ) → HasNoDot first → printed_segments (first ++ (46 ∷ rest)) ≡ padded first ++ (46 ∷ printed_segments rest)
unfolding printed_segments
segments_more first rest h =
    let parts = slice_split (λ b. b == 46) rest in
    ap (λ (all : List (List ℕ)). join_with_byte 46 (map padded all)) (split_more first rest h)
    ∙ join_next (padded first) parts (omega (arith, length-slice_split (λ b. b == 46) rest))

-- the last segment
pub segments_one : (text : List ℕ) → HasNoDot text → printed_segments text ≡ padded text
unfolding printed_segments
segments_one text h = ap (λ (all : List (List ℕ)). join_with_byte 46 (map padded all)) (split_one text h)

-- a word that does not begin with a `\` stands below the root as it is
pub no_root : (word : List ℕ) → ((rest : List ℕ) → word ≢ 92 ∷ rest) → word ≡ below_root word
no_root [] h = refl
no_root (c ∷ rest) h = rw (ne_eqb c 92 (λ e. h rest (ap (λ x. x ∷ rest) e))) refl

-- a segment and a dot, taken from what is left
pub one_more : (now next after segment tail whole : List ℕ) → next ≡ now ++ segment → after ≡ next ++ 46 ∷ []
    → now ++ (segment ++ (46 ∷ tail)) ≡ whole → after ++ tail ≡ whole
one_more now next after segment tail whole pushed dotted all =
    ap (λ l. l ++ tail) dotted ∙ append_assoc next (46 ∷ []) tail ∙ ap (λ l. l ++ (46 ∷ tail)) pushed
    ∙ append_assoc now segment (46 ∷ tail) ∙ all

-- what is found has a number
pub there : {A : Type 0} (number : A → ℕ) (r : Option A) (o : Option ℕ) → is_some r ≡ true → option_map number r ≡ o → (id : ℕ) × (o ≡ Some id)
there number None o some is = absurd (cc)
there number (Some x) o some is = (number x, sym is)

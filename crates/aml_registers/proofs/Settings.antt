-- A text sets just one thing.
use Rattle.std.proofs.Common.{◌≡◌, ℕ, List, [], ◌∷◌, refl, sym, ap, subst, ◌∙◌, Bool, true, false, inl, inr, Some, None, Ok, cond, arith}
use Rattle.std.specs.Prelude.{◌==◌, codes, length}
use Rattle.std.specs.Str.Parse.{digits_value}
use Rattle.aml_regions.specs.Bytes.{SameBytes}
use Rattle.aml_regions.specs.Text.{AreSetting, LinesSet, Setting, TextSets, begun_with, counts_nothing, lines_of, parts_at, space_of, with_settings, words_of}

-- words set one thing
one_setting : (words : List (List ℕ)) (s t : Setting) → AreSetting words s → AreSetting words t → s ≡ t
one_setting [] s t h k = absurd h
one_setting (name ∷ []) s t h k = absurd h
one_setting (name ∷ place ∷ []) s t h k = absurd h
one_setting (name ∷ place ∷ bytes ∷ other ∷ more) s t h k = absurd h
one_setting (name ∷ place ∷ bytes ∷ []) s t h k =
    let space : s.space ≡ t.space = cc (h.0, k.0) in
    let address : s.address ≡ t.address = h.2 ∙ sym k.2 in
    let run : s.run ≡ t.run = cc (h.3, k.3) in
    λ i. record { space = space i; address = address i; run = run i }

-- a line from # on is no setting
comment : (parts : List (List ℕ)) (s : Setting) → AreSetting (begun_with 35 parts) s → ⊥
comment [] s h = h
comment (part ∷ []) s h = h
comment (part ∷ place ∷ []) s h = h
comment (part ∷ place ∷ bytes ∷ other ∷ more) s h = h
comment (part ∷ place ∷ bytes ∷ []) s h = absurd (cc h.0)

nothing_set : (line : List ℕ) (s : Setting) → counts_nothing line ≡ true → AreSetting (words_of line) s → ⊥
nothing_set [] s none h = h
nothing_set (b ∷ rest) s none h =
    let is : b ≡ 35 = grind arith in
    let at : AreSetting (words_of (35 ∷ rest)) s = subst (λ first. AreSetting (words_of (first ∷ rest)) s) is h in
    comment (parts_at 32 rest) s at

-- lines set one thing each
same_settings : (lines : List (List ℕ)) (some others : List Setting) → LinesSet lines some → LinesSet lines others → some ≡ others
same_settings [] some others h k = h ∙ sym k
same_settings (line ∷ more) some others (inl h) (inl k) = same_settings more some others h.1 k.1
same_settings (line ∷ more) some others (inl h) (inr k) = absurd (nothing_set line k.0 h.0 k.3)
same_settings (line ∷ more) some others (inr h) (inl k) = absurd (nothing_set line h.0 k.0 h.3)
same_settings (line ∷ more) some others (inr h) (inr k) =
    let first : h.0 ≡ k.0 = one_setting (words_of line) h.0 k.0 h.3 k.3 in
    let rest : h.1 ≡ k.1 = same_settings more h.1 k.1 h.4 k.4 in
    h.2 ∙ ap (λ s. s ∷ h.1) first ∙ ap (λ l. k.0 ∷ l) rest ∙ sym k.2

-- what a text sets is the same
pub sets_once : (text : List ℕ) (some others : ℕ → ℕ → ℕ) → TextSets text some → TextSets text others → SameBytes some others
sets_once text some others h k = λ space address.
    let settings : k.0 ≡ h.0 = same_settings (lines_of text) k.0 h.0 k.1 h.1 in
    k.2 space address ∙ ap (λ all. with_settings (λ _ _. 0) all space address) settings ∙ sym (h.2 space address)

-- no line sets a byte
pub none_set : (bytes : ℕ → ℕ → ℕ) → TextSets [] bytes → SameBytes (λ _ _. 0) bytes
none_set bytes ([], set, same) = same
none_set bytes (s ∷ more, inl h, same) = absurd (cc h.1)
none_set bytes (s ∷ more, inr h, same) = absurd h.3

pub empty_text : (bytes : ℕ → ℕ → ℕ) → SameBytes (λ _ _. 0) bytes → TextSets [] bytes
empty_text bytes same = ([], inl (refl, refl), same)

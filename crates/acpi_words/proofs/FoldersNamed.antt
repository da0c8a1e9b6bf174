-- Laws of folders among words.
use Rattle.std.proofs.Common.{◌≡◌, ℕ, List, [], ◌∷◌, ◌++◌, Bool, append_assoc, append-nil, ap, ◌∙◌, refl, sym}
use Rattle.std.specs.Prelude.{not}
use Rattle.acpi_words.specs.Folders.{HasFolders, StandsFor, takes_value}

-- whether the word behind these may be a file's
abbrev pub may_follow : Bool → List (List ℕ) → Bool
may_follow may_be_file [] = may_be_file
may_follow may_be_file (word ∷ words) = may_follow (not (takes_value word)) words

-- one more word
pub folders_more : (may_be_file : Bool) (words all : List (List ℕ)) (word : List ℕ) (added : List (List ℕ))
    → HasFolders may_be_file words all → StandsFor (may_follow may_be_file words) word added
    → HasFolders may_be_file (words ++ (word ∷ [])) (all ++ added)
folders_more may_be_file [] all word added h stands =
    (added, [], ap (λ l. l ++ added) h ∙ sym (append-nil added), stands, refl)
folders_more may_be_file (first ∷ words) all word added (mine, more, is, stood, h) stands = (
  mine,
  more ++ added,
  ap (λ l. l ++ added) is ∙ append_assoc mine more added,
  stood,
  folders_more (not (takes_value first)) words more word added h stands,
)

pub may_follow_more : (may_be_file : Bool) (words : List (List ℕ)) (word : List ℕ)
    → may_follow may_be_file (words ++ (word ∷ [])) ≡ not (takes_value word)
may_follow_more may_be_file [] word = refl
may_follow_more may_be_file (first ∷ words) word = may_follow_more (not (takes_value first)) words word

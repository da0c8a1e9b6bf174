-- Folders among the words of a command line, and the files that stand for them.
use Rattle.std.specs.Prelude.{◌≡◌, ◌⊎◌, ◌<◌, ◌||◌, ◌++◌, ℕ, List, [], ◌∷◌, Bool, true, not, codes, length}
use Rattle.std.specs.Str.{bytes_eq}

-- an option begins with a minus
abbrev pub IsOption : List ℕ → Type 0
IsOption word = (rest : List ℕ) × (word ≡ 45 ∷ rest)

-- whether a word is an option whose next word is a value
abbrev pub takes_value : List ℕ → Bool
takes_value word =
    bytes_eq word (codes "--method")
    || (bytes_eq word (codes "--plain")
    || (bytes_eq word (codes "--args")
    || (bytes_eq word (codes "--regs")
    || (bytes_eq word (codes "--kinds")
    || (bytes_eq word (codes "--osi")
    || (bytes_eq word (codes "--object")
    || bytes_eq word (codes "--madt")))))))

-- what stands for a word: the word itself; where it may be a file's, and is no option, other words
abbrev pub StandsFor : Bool → List ℕ → List (List ℕ) → Type 0
StandsFor may_be_file word added =
    (added ≡ word ∷ []) ⊎ ((may_be_file ≡ true) × (IsOption word → ⊥) × (0 < length added))

-- words in which others stand for some folders: no option, no option's value and not the first
-- word, the command, is one
abbrev pub HasFolders : Bool → List (List ℕ) → List (List ℕ) → Type 0
HasFolders may_be_file [] all = all ≡ []
HasFolders may_be_file (word ∷ words) all =
    (added more : List (List ℕ)) × (all ≡ added ++ more) × StandsFor may_be_file word added
    × HasFolders (not (takes_value word)) words more

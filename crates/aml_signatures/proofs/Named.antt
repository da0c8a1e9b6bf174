-- Words that name kinds, and words that do not.
use Rattle.std.proofs.Common.{◌≢◌, ℕ, List, [], ◌∷◌, ◌++◌, codes}
use Rattle.aml_signatures.specs.Text.{AreNames, IsNumberBehind, Names}
use Rattle.aml_signatures.specs.declared.argument_kind.ArgumentKind.{ArgumentKind}
use Rattle.aml_signatures.specs.declared.argument_kind.ArgumentKind.TheVariants.{Int, IntUpTo, Buf, Str, Pkg}

-- a word that is none of the names
pub unnamed : (word : List ℕ) → word ≢ codes "int" → word ≢ codes "pkg" → ((n : ℕ) → IsNumberBehind (codes "int:") word n → ⊥)
    → ((n : ℕ) → IsNumberBehind (codes "buf:") word n → ⊥) → ((n : ℕ) → IsNumberBehind (codes "str:") word n → ⊥) → (kind : ArgumentKind) → Names word kind → ⊥
unnamed word no_int no_pkg no_greatest no_buf no_str Int is = no_int is
unnamed word no_int no_pkg no_greatest no_buf no_str (IntUpTo greatest) is = no_greatest greatest is
unnamed word no_int no_pkg no_greatest no_buf no_str (Buf size) is = no_buf size is
unnamed word no_int no_pkg no_greatest no_buf no_str (Str size) is = no_str size is
unnamed word no_int no_pkg no_greatest no_buf no_str Pkg is = no_pkg is

-- one more name
pub names_more : (words : List (List ℕ)) (kinds : List ArgumentKind) (word : List ℕ) (kind : ArgumentKind) → AreNames words kinds → Names word kind
    → AreNames (words ++ (word ∷ [])) (kinds ++ (kind ∷ []))
names_more [] [] word kind are is = (is, tt)
names_more [] (k ∷ kinds) word kind are is = absurd are
names_more (w ∷ words) [] word kind are is = absurd are
names_more (w ∷ words) (k ∷ kinds) word kind are is = (are.0, names_more words kinds word kind are.1 is)

-- words among which one names no kind
pub not_names : (before behind : List (List ℕ)) (word : List ℕ) → ((kind : ArgumentKind) → Names word kind → ⊥) → (kinds : List ArgumentKind)
    → AreNames (before ++ (word ∷ behind)) kinds → ⊥
not_names [] behind word unnamed [] are = are
not_names [] behind word unnamed (k ∷ kinds) are = unnamed k are.0
not_names (w ∷ before) behind word unnamed [] are = are
not_names (w ∷ before) behind word unnamed (k ∷ kinds) are = not_names before behind word unnamed kinds are.1

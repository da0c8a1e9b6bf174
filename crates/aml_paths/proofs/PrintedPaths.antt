-- Texts that print paths.
use Rattle.std.proofs.Common.{◌≡◌, ℕ, ◌+◌, ◌<◌, List, [], ◌∷◌, ◌++◌, length, get_or, drop, slice_get, Option, Some, None, Bool, true, false, refl, sym, ap, ◌∙◌, arith, option_and_then}
use Rattle.std.specs.Prelude.{◌==◌, cond}
use Rattle.std.specs.Option.{option_map}
use Rattle.aml_paths.specs.Paths.{Path, root, path_number, number_below, AreDistinct, AreClosed}
use Rattle.aml_paths.specs.Printed.{PrintedIsRead, segments_in, segments_text}
use Rattle.std.specs.Prelude.{All}
use Rattle.std.proofs.lemmas.List.{get_or-drop}
use Rattle.std.proofs.lemmas.List.Elements.{All-head, All-tail}
use Rattle.std.proofs.lemmas.Bool.Decides.{nat_tests}
use Rattle.aml_paths.proofs.PathNumbers.{number_below_at}
use Rattle.aml_paths.proofs.Ways.{number_below_more, number_below_missing}

-- the four characters from a place on
abbrev pub four_at : List ℕ → ℕ → List ℕ
four_at text at = get_or text at 0 ∷ get_or text (at + 1) 0 ∷ get_or text (at + 2) 0 ∷ get_or text (at + 3) 0 ∷ []

none : (n : ℕ) → n + 0 ≡ n
none n = omega arith

-- a text of four characters, of fewer, and of more
segments_four : (text : List ℕ) → length text ≡ 4 → segments_in text ≡ Some (four_at text 0 ∷ [])
segments_four [] e = absurd (omega arith)
segments_four (a ∷ []) e = absurd (omega arith)
segments_four (a ∷ b ∷ []) e = absurd (omega arith)
segments_four (a ∷ b ∷ c ∷ []) e = absurd (omega arith)
segments_four (a ∷ b ∷ c ∷ d ∷ []) e = refl
segments_four (a ∷ b ∷ c ∷ d ∷ f ∷ more) e = absurd (omega arith)

segments_short : (text : List ℕ) → length text < 4 → segments_in text ≡ None
segments_short [] e = refl
segments_short (a ∷ []) e = refl
segments_short (a ∷ b ∷ []) e = refl
segments_short (a ∷ b ∷ c ∷ []) e = refl
segments_short (a ∷ b ∷ c ∷ d ∷ more) e = absurd (omega arith)

segments_long : (text : List ℕ) → 4 < length text → segments_in text ≡ cond (get_or text 4 0 == 46) (option_map (λ (path : Path). four_at text 0 ∷ path) (segments_in (drop 5 text))) None
segments_long [] e = absurd (omega arith)
segments_long (a ∷ []) e = absurd (omega arith)
segments_long (a ∷ b ∷ []) e = absurd (omega arith)
segments_long (a ∷ b ∷ c ∷ []) e = absurd (omega arith)
segments_long (a ∷ b ∷ c ∷ d ∷ []) e = absurd (omega arith)
segments_long (a ∷ b ∷ c ∷ d ∷ f ∷ more) e = refl

module _ (paths : List Path) (distinct : AreDistinct paths) (closed : AreClosed paths) (n : ℕ) where
  abbrev leads : List ℕ → Option ℕ
  leads text = option_and_then (number_below paths n) (segments_in text)

  down_all : (segment : List ℕ) (m : ℕ) (rest : Option Path) → number_below paths n (segment ∷ []) ≡ Some m → option_and_then (number_below paths n) (option_map (λ (path : Path). segment ∷ path) rest) ≡ option_and_then (number_below paths m) rest
  down_all segment m None down = refl
  down_all segment m (Some path) down = number_below_more paths distinct n segment path m down

  missing_all : (segment : List ℕ) (rest : Option Path) → number_below paths n (segment ∷ []) ≡ None → option_and_then (number_below paths n) (option_map (λ (path : Path). segment ∷ path) rest) ≡ None
  missing_all segment None none = refl
  missing_all segment (Some path) none = number_below_missing paths distinct closed n segment path none

  -- with a dot behind its first segment, a text leads on below that
  dotted : (text : List ℕ) → 4 < length text → get_or text 4 0 ≡ 46 → leads text ≡ option_and_then (number_below paths n) (option_map (λ (path : Path). four_at text 0 ∷ path) (segments_in (drop 5 text)))
  dotted text long dot =
      let yes : (get_or text 4 0 == 46) ≡ true = grind (arith, nat_tests, dot) in
      ap (option_and_then (number_below paths n)) (segments_long text long ∙ ap (λ (b : Bool). cond b (option_map (λ (path : Path). four_at text 0 ∷ path) (segments_in (drop 5 text))) None) yes)

  pub leads_on : (text : List ℕ) (m : ℕ) → 4 < length text → get_or text 4 0 ≡ 46 → number_below paths n (four_at text 0 ∷ []) ≡ Some m → leads text ≡ option_and_then (number_below paths m) (segments_in (drop 5 text))
  leads_on text m long dot down = dotted text long dot ∙ down_all (four_at text 0) m (segments_in (drop 5 text)) down

  pub leads_nowhere : (text : List ℕ) → 4 < length text → get_or text 4 0 ≡ 46 → number_below paths n (four_at text 0 ∷ []) ≡ None → leads text ≡ None
  leads_nowhere text long dot none = dotted text long dot ∙ missing_all (four_at text 0) (segments_in (drop 5 text)) none

  -- without one it prints no path
  pub no_dot : (text : List ℕ) → 4 < length text → (get_or text 4 0 ≡ 46 → ⊥) → leads text ≡ None
  no_dot text long other =
      let no : (get_or text 4 0 == 46) ≡ false = grind (arith, nat_tests, other) in
      ap (option_and_then (number_below paths n)) (segments_long text long ∙ ap (λ (b : Bool). cond b (option_map (λ (path : Path). four_at text 0 ∷ path) (segments_in (drop 5 text))) None) no)

  pub leads_last : (text : List ℕ) → length text ≡ 4 → leads text ≡ number_below paths n (four_at text 0 ∷ [])
  leads_last text four = ap (option_and_then (number_below paths n)) (segments_four text four)

  pub leads_short : (text : List ℕ) → length text < 4 → leads text ≡ None
  leads_short text short = ap (option_and_then (number_below paths n)) (segments_short text short)

-- from the root
pub leads_from_root : (paths : List Path) (o : Option Path) → slice_get paths 0 ≡ Some root → option_and_then (path_number paths) o ≡ option_and_then (number_below paths 0) o
leads_from_root paths None first = refl
leads_from_root paths (Some path) first = sym (number_below_at paths 0 root path first)

-- what is left of a text from a place on
pub four_from : (text : List ℕ) (at : ℕ) → four_at (drop at text) 0 ≡ four_at text at
four_from text at =
    ap (λ (x : ℕ). x ∷ get_or (drop at text) 1 0 ∷ get_or (drop at text) 2 0 ∷ get_or (drop at text) 3 0 ∷ []) (get_or-drop at text 0 0 ∙ ap (λ (i : ℕ). get_or text i 0) (none at))
    ∙ ap (λ (x : ℕ). get_or text at 0 ∷ x ∷ get_or (drop at text) 2 0 ∷ get_or (drop at text) 3 0 ∷ []) (get_or-drop at text 1 0)
    ∙ ap (λ (x : ℕ). get_or text at 0 ∷ get_or text (at + 1) 0 ∷ x ∷ get_or (drop at text) 3 0 ∷ []) (get_or-drop at text 2 0)
    ∙ ap (λ (x : ℕ). get_or text at 0 ∷ get_or text (at + 1) 0 ∷ get_or text (at + 2) 0 ∷ x ∷ []) (get_or-drop at text 3 0)

-- what is printed of a path prints it
segment_first : (s : List ℕ) (text : List ℕ) → length s ≡ 4 → segments_in (s ++ 46 ∷ text) ≡ option_map (λ (path : Path). s ∷ path) (segments_in text)
segment_first [] text e = absurd (omega arith)
segment_first (a ∷ []) text e = absurd (omega arith)
segment_first (a ∷ b ∷ []) text e = absurd (omega arith)
segment_first (a ∷ b ∷ c ∷ []) text e = absurd (omega arith)
segment_first (a ∷ b ∷ c ∷ d ∷ []) text e = refl
segment_first (a ∷ b ∷ c ∷ d ∷ f ∷ more) text e = absurd (omega arith)

segment_alone : (s : List ℕ) → length s ≡ 4 → segments_in s ≡ Some (s ∷ [])
segment_alone [] e = absurd (omega arith)
segment_alone (a ∷ []) e = absurd (omega arith)
segment_alone (a ∷ b ∷ []) e = absurd (omega arith)
segment_alone (a ∷ b ∷ c ∷ []) e = absurd (omega arith)
segment_alone (a ∷ b ∷ c ∷ d ∷ []) e = refl
segment_alone (a ∷ b ∷ c ∷ d ∷ f ∷ more) e = absurd (omega arith)

segments_read : (first : List ℕ) (path : Path) → All (λ (s : List ℕ). length s ≡ 4) (first ∷ path) → segments_in (segments_text (first ∷ path)) ≡ Some (first ∷ path)
segments_read first [] all = segment_alone first (All-head (λ (s : List ℕ). length s ≡ 4) first [] all)
segments_read first (s ∷ path) all =
    segment_first first (segments_text (s ∷ path)) (All-head (λ (t : List ℕ). length t ≡ 4) first (s ∷ path) all)
    ∙ ap (option_map (λ (p : Path). first ∷ p)) (segments_read s path (All-tail (λ (t : List ℕ). length t ≡ 4) first (s ∷ path) all))

pub printed_read : PrintedIsRead
printed_read first path all = segments_read first path all

-- Where a path may be made.
use Rattle.std.proofs.Common.{◌≡◌, ℕ, zero, suc, ◌-◌, ◌<◌, List, [], ◌∷◌, ◌++◌, length, drop, Option, Some, None, Result, Ok, Err, Bool, false, refl, sym, ap, ◌∙◌, subst, arith, option_and_then}
use Rattle.std.specs.Prelude.{◌==◌, cond, is_none, is_some, nat_le}
use Rattle.std.proofs.lemmas.List.{length_push, take_at, take-append-drop}
use Rattle.std.proofs.lemmas.Bool.Decides.{nat_tests}
use Rattle.std.proofs.lemmas.Option.{same_Some}
use Rattle.aml_lex.specs.declared.names.NameSeg.{NameSeg}
use Rattle.aml_objects.specs.declared.fault.LoadCause.{LoadCause}
use Rattle.aml_objects.specs.declared.fault.LoadCause.TheVariants.{Duplicate, ScopeMissing, TooMany}
use Rattle.aml_paths.specs.declared.resolve.Lead.TheVariants.{Nowhere, At, Below}
use Rattle.aml_paths.specs.Paths.{Path, root, path_at, path_number, number_below, AreDistinct, AreClosed}
use Rattle.aml_objects.specs.Entries.{Entries, number_of, paths_in, scope_opened}
use Rattle.aml_objects.specs.Enter.{checked_path, greatest_count, made_path, parent_of}
use Rattle.aml_objects.specs.Kept.{Places, path_below}
use Rattle.aml_paths.specs.Steps.{LeadsTo}
use Rattle.aml_paths.proofs.PathNumbers.{path_at_there, path_number_there, number_below_at, no_longer_path}

-- a path without its last segment
parent-push : (path : Path) (segment : List ℕ) → parent_of (path ++ segment ∷ []) ≡ path
parent-push path segment = take_at path (segment ∷ []) (length (path ++ segment ∷ []) - 1) (let long = length_push path segment in omega (arith, long))

-- what decides whether a path may be made: whether it is there, whether its parent opens nothing, and whether there is no room
abbrev decided : Bool → Bool → Bool → Path → Result Path LoadCause
decided there closed full path = cond there (Err Duplicate) (cond closed (Err ScopeMissing) (cond full (Err TooMany) (Ok path)))

module _ (entries : Entries) (distinct : AreDistinct (paths_in entries)) (closed : AreClosed (paths_in entries)) where
  abbrev paths : List Path
  paths = paths_in entries

  module _ (parent : ℕ) (segment : NameSeg) (there : parent < length paths) where
    above : number_of entries (path_at paths parent) ≡ Some parent
    above = distinct parent (path_at paths parent) (path_at_there paths parent there)

    pub number_is : number_of entries (path_below entries parent segment) ≡ number_below paths parent (segment.bytes ∷ [])
    number_is = sym (number_below_at paths parent (path_at paths parent) (segment.bytes ∷ []) (path_at_there paths parent there))

    opened_is : option_and_then (scope_opened entries) (number_of entries (parent_of (path_below entries parent segment))) ≡ scope_opened entries parent
    opened_is =
        ap (λ (p : Path). option_and_then (scope_opened entries) (number_of entries p)) (parent-push (path_at paths parent) segment.bytes)
        ∙ ap (option_and_then (scope_opened entries)) above

    -- a path is checked by the numbers that the program has
    pub checked_is : (known shut full : Bool) → is_some (number_below paths parent (segment.bytes ∷ [])) ≡ known → is_none (scope_opened entries parent) ≡ shut → nat_le greatest_count (length entries) ≡ full
        → checked_path entries (path_below entries parent segment) ≡ decided known shut full (path_below entries parent segment)
    checked_is known shut full at opens room =
        let path = path_below entries parent segment in
        let under = parent_of path in
        ap (λ (b : Bool). decided b (is_none (option_and_then (scope_opened entries) (number_of entries under))) (nat_le greatest_count (length entries)) path) (ap is_some number_is ∙ at)
        ∙ ap (λ (b : Bool). decided known b (nat_le greatest_count (length entries)) path) (ap is_none opened_is ∙ opens)
        ∙ ap (λ (b : Bool). decided known shut b path) room

    pub new_number : number_below paths parent (segment.bytes ∷ []) ≡ None → number_of entries (path_below entries parent segment) ≡ None
    new_number at = number_is ∙ at

  -- a path that is not the root's is made as it is checked
  made_push : (path : Path) (segment : List ℕ) → made_path entries (Some (path ++ segment ∷ [])) ≡ checked_path entries (path ++ segment ∷ [])
  made_push [] segment = refl
  made_push (s ∷ path) segment = refl

  pub places_below : (answer : Result (ℕ × NameSeg) LoadCause) (n : ℕ) (segment : NameSeg) (path : Option Path) → LeadsTo paths (Below n segment) path → Places entries answer (checked_path entries (path_below entries n segment)) → Places entries answer (made_path entries path)
  places_below answer n segment path led places =
      let same = sym (made_push (path_at paths n) segment.bytes) ∙ ap (made_path entries) (sym led.1) in
      subst (Places entries answer) same places

  later : (n : ℕ) → (suc n == 0) ≡ false
  later n = grind (arith, nat_tests)

  at_path : (n : ℕ) (path : Path) → path_number paths path ≡ Some n → made_path entries (Some path) ≡ Err (cond (n == 0) ScopeMissing Duplicate)
  at_path zero [] is = refl
  at_path (suc n) [] is = let one : suc n ≡ 0 = same_Some (suc n) 0 (sym is ∙ distinct 0 root refl) in absurd (omega (arith, one))
  at_path zero (s ∷ path) is = let one : root ≡ s ∷ path = same_Some root (s ∷ path) (path_number_there paths (s ∷ path) 0 is) in absurd (let long = ap length one in omega (arith, long))
  at_path (suc n) (s ∷ path) is = ap (λ (b : Bool). decided b (is_none (option_and_then (scope_opened entries) (number_of entries (parent_of (s ∷ path))))) (nat_le greatest_count (length entries)) (s ∷ path)) (ap is_some is)
      ∙ ap (λ (b : Bool). Err (cond b ScopeMissing Duplicate)) (sym (later n))

  -- a name without segments spells what is there
  pub places_at : (n : ℕ) (path : Option Path) → LeadsTo paths (At n) path → made_path entries path ≡ Err (cond (n == 0) ScopeMissing Duplicate)
  places_at n path led = ap (made_path entries) led.1 ∙ at_path n (path_at paths n) (distinct n (path_at paths n) (path_at_there paths n led.0))

  -- below what is missing is nothing
  nothing_below : (s : List ℕ) (path : Path) → path_number paths (parent_of (s ∷ path)) ≡ None → checked_path entries (s ∷ path) ≡ Err ScopeMissing
  nothing_below s path none =
      let whole = s ∷ path in
      let under = parent_of whole in
      let missing = no_longer_path paths distinct closed under (drop (length whole - 1) whole) none in
      let absent : number_of entries whole ≡ None = ap (path_number paths) (sym (take-append-drop (length whole - 1) whole)) ∙ missing in
      ap (λ (b : Bool). decided b (is_none (option_and_then (scope_opened entries) (number_of entries under))) (nat_le greatest_count (length entries)) whole) (ap is_some absent)
      ∙ ap (λ (b : Bool). decided false b (nat_le greatest_count (length entries)) whole) (ap (λ (o : Option ℕ). is_none (option_and_then (scope_opened entries) o)) none)

  pub places_nowhere : (path : Option Path) → LeadsTo paths Nowhere path → made_path entries path ≡ Err ScopeMissing
  places_nowhere None led = refl
  places_nowhere (Some []) led = refl
  places_nowhere (Some (s ∷ path)) led = nothing_below s path led

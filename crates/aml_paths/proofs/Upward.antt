-- The upward search, from path to path.
use Rattle.std.proofs.Common.{◌≡◌, ℕ, zero, suc, ◌<◌, ◌≤◌, ◌⊎◌, inl, inr, List, [], ◌∷◌, ◌++◌, length, take, Option, Some, None, refl, sym, ap, ◌∙◌, arith}
use Rattle.std.specs.Option.{option_or}
use Rattle.std.proofs.lemmas.Bool.{cases_lt}
use Rattle.std.proofs.lemmas.List.{length-take-le, length_push, take_all, take-append-le, take-take}
use Rattle.aml_paths.specs.Paths.{Path}
use Rattle.aml_paths.specs.Resolve.{greatest, upward_search}

module _ {X : Type 0} where
  pub greatest_here : (find : ℕ → Option X) (n : ℕ) (x : X) → find n ≡ Some x → greatest find n ≡ Some x
  greatest_here find zero x is = is
  greatest_here find (suc n) x is = ap (λ (o : Option X). option_or o (greatest find n)) is

  pub greatest_same : (f g : ℕ → Option X) (n : ℕ) → ((k : ℕ) → k ≤ n → f k ≡ g k) → greatest f n ≡ greatest g n
  greatest_same f g zero same = same zero (omega arith)
  greatest_same f g (suc n) same =
      ap (λ (o : Option X). option_or o (greatest f n)) (same (suc n) (omega arith))
      ∙ ap (λ (o : Option X). option_or (g (suc n)) o) (greatest_same f g n (λ k le. same k (omega arith)))

  -- above a number nothing is found
  greatest_down : (f : ℕ → Option X) (k n : ℕ) → k ≤ n → ((j : ℕ) → k < j → j ≤ n → f j ≡ None) → (k < n) ⊎ (n ≤ k) → greatest f n ≡ greatest f k
  greatest_down f k n le none (inr past) = let same : n ≡ k = omega arith in ap (greatest f) same
  greatest_down f k zero le none (inl lt) = absurd (omega arith)
  greatest_down f k (suc n) le none (inl lt) =
      ap (λ (o : Option X). option_or o (greatest f n)) (none (suc n) lt (omega arith))
      ∙ greatest_down f k n (omega arith) (λ j below up. none j below (omega arith)) (cases_lt k n)

  pub greatest_last : (f : ℕ → Option X) (k n : ℕ) (x : X) → k ≤ n → f k ≡ Some x → ((j : ℕ) → k < j → j ≤ n → f j ≡ None) → greatest f n ≡ Some x
  greatest_last f k n x le is none = greatest_down f k n le none (cases_lt k n) ∙ greatest_here f k x is

  pub greatest_none : (f : ℕ → Option X) (n : ℕ) → ((j : ℕ) → j ≤ n → f j ≡ None) → greatest f n ≡ None
  greatest_none f zero none = none zero (omega arith)
  greatest_none f (suc n) none =
      ap (λ (o : Option X). option_or o (greatest f n)) (none (suc n) (omega arith))
      ∙ greatest_none f n (λ j le. none j (omega arith))

  -- what is found is found somewhere, and above it nothing is
  pub record Stands (f : ℕ → Option X) (n : ℕ) (x : X) : Type 0 where
    pub at : ℕ
    pub within : at ≤ n
    pub is : f at ≡ Some x
    pub last : (j : ℕ) → at < j → j ≤ n → f j ≡ None

  one_more : (f : ℕ → Option X) (n j : ℕ) → f (suc n) ≡ None → j ≤ suc n → (j ≤ n → f j ≡ None) → (n < j) ⊎ (j ≤ n) → f j ≡ None
  one_more f n j none le below (inl top) = let same : j ≡ suc n = omega arith in ap f same ∙ none
  one_more f n j none le below (inr within) = below within

  stands_by : (f : ℕ → Option X) (n : ℕ) (x : X) (o : Option X) → f (suc n) ≡ o → option_or o (greatest f n) ≡ Some x → (greatest f n ≡ Some x → Stands f n x) → Stands f (suc n) x
  stands_by f n x None is found below =
      let s = below found in
      record { at = s.at; within = let w = s.within in omega (arith, w); is = s.is; last = λ j after le. one_more f n j is le (s.last j after) (cases_lt n j) }
  stands_by f n x (Some y) is found below = record { at = suc n; within = omega arith; is = is ∙ found; last = λ j after le. absurd (omega arith) }

  pub greatest_stands : (f : ℕ → Option X) (n : ℕ) (x : X) → greatest f n ≡ Some x → Stands f n x
  greatest_stands f zero x found = record { at = zero; within = omega arith; is = found; last = λ j after le. absurd (omega arith) }
  greatest_stands f (suc n) x found = stands_by f n x (f (suc n)) refl found (greatest_stands f n x)

  nowhere_by : (f : ℕ → Option X) (n : ℕ) (o : Option X) → f (suc n) ≡ o → option_or o (greatest f n) ≡ None → (f (suc n) ≡ None) × (greatest f n ≡ None)
  nowhere_by f n None is none = (is, none)
  nowhere_by f n (Some y) is none = absurd cc

  -- where nothing is found, nothing is anywhere
  pub greatest_nowhere : (f : ℕ → Option X) (n : ℕ) → greatest f n ≡ None → (j : ℕ) → j ≤ n → f j ≡ None
  greatest_nowhere f zero none j le = let same : j ≡ 0 = omega arith in ap f same ∙ none
  greatest_nowhere f (suc n) none j le =
      let both = nowhere_by f n (f (suc n)) refl none in
      one_more f n j both.0 le (greatest_nowhere f n both.1 j) (cases_lt n j)

  module _ (find : Path → Option X) (segment : List ℕ) where
    abbrev pub below : Path → ℕ → Option X
    below path n = find (take n path ++ segment ∷ [])

    whole : (path : Path) → below path (length path) ≡ find (path ++ segment ∷ [])
    whole path = ap (λ (p : Path). find (p ++ segment ∷ [])) (take_all (length path) path (omega arith))

    -- what stands right below a path is found first
    pub found_here : (path : Path) (x : X) → find (path ++ segment ∷ []) ≡ Some x → upward_search find path segment ≡ Some x
    found_here path x is = greatest_here (below path) (length path) x (whole path ∙ is)

    -- what does not stand right below a path is searched below the path without its last segment
    pub found_above : (path : Path) (last : List ℕ) → find ((path ++ last ∷ []) ++ segment ∷ []) ≡ None → upward_search find (path ++ last ∷ []) segment ≡ upward_search find path segment
    found_above path last none =
        let long = path ++ last ∷ [] in
        let next : length long ≡ suc (length path) = let l = length_push path last in omega (arith, l) in
        let absent : below long (suc (length path)) ≡ None = ap (below long) (sym next) ∙ whole long ∙ none in
        ap (greatest (below long)) next
        ∙ ap (λ (o : Option X). option_or o (greatest (below long) (length path))) absent
        ∙ greatest_same (below long) (below path) (length path) (λ k le. ap (λ (p : Path). find (p ++ segment ∷ [])) (take-append-le k path (last ∷ []) le))

    -- a search finds what one from a path that begins the path does, where it finds nothing before it comes there
    pub search_shorter : (path : Path) (k : ℕ) → k ≤ length path → ((j : ℕ) → k < j → j ≤ length path → below path j ≡ None) → upward_search find path segment ≡ upward_search find (take k path) segment
    search_shorter path k le none =
        let same : greatest (below path) k ≡ greatest (below (take k path)) k = greatest_same (below path) (below (take k path)) k
        (λ j up. ap (λ (p : Path). find (p ++ segment ∷ [])) (sym (take-take j k path up))) in
        greatest_down (below path) k (length path) le none (cases_lt k (length path))
        ∙ same ∙ ap (greatest (below (take k path))) (sym (length-take-le k path le))

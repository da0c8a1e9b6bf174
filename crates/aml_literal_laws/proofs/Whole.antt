-- Kinds whose integers are of the width; what is of such kinds, and whole, is of the width.
use Rattle.std.proofs.Common.{◌≡◌, ℕ, zero, suc, ◌≤◌, ◌<◌, ◌^◌, [], ◌∷◌, Some, None, refl, ap, arith, subst}
use Rattle.std.specs.Prelude.{true}
use Rattle.std.proofs.lemmas.Bool.{and_parts, leb-true}
use Rattle.aml_values.specs.Values.{Value, Int, Buf, Str, Pkg, Elements, Element, Holds, Named, Unset, count}
use Rattle.aml_values.specs.Values as value
use Rattle.aml_kinds.specs.Fits.{fits, fits_shape, fits_place, most_elements}
use Rattle.aml_kinds.specs.Kinds.{Kind, IntUpTo, BufOf, StrOf, PkgOf, AnyPkg, Mixed, Shape, bare, with, ElementKind, ValueOf, AnyName, Anything, places}
use Rattle.aml_contents.specs.Contents.{Contents, ContentKinds, are_fitting, content_at}
use Rattle.aml_contents.specs.FirstKinds.{kind_by, shape_by, place_by}
use Rattle.aml_judged.specs.Safe.{AreWords, IsWord, IsWordElement}
use Rattle.aml_literal_laws.specs.Whole.{AreWhole, AreWholeElements, IsWhole, IsWholeElement}

module _ (width : ℕ) where
  abbrev mutual
    -- a kind whose integers are below 2 to the width, and whose packages are not too large
    pub IsNarrow : Kind → Type 0
    IsNarrow (IntUpTo greatest) = greatest < 2 ^ width
    IsNarrow (PkgOf s) = (places s ≤ most_elements) × AreNarrow s
    IsNarrow k = Unit {0}

    pub AreNarrow : Shape → Type 0
    AreNarrow bare = Unit {0}
    AreNarrow (with k ks) = IsNarrowPlace k × AreNarrow ks

    pub IsNarrowPlace : ElementKind → Type 0
    IsNarrowPlace (ValueOf k) = IsNarrow k
    IsNarrowPlace k = Unit {0}

  as_many : (es : Elements) → places (shape_by es) ≡ count es
  as_many value.none = refl
  as_many (value.more e es) = ap suc (as_many es)

  -- the kind of a value of the width is narrow
  mutual
    pub narrow_by : (v : Value) → IsWord width v → IsNarrow (kind_by v)
    narrow_by (Int n) h = h
    narrow_by (Buf bytes) h = tt
    narrow_by (Str characters) h = tt
    narrow_by (Pkg es) h = let many = as_many es in (omega (arith, many, h.0), narrow_shape es h.1)

    narrow_shape : (es : Elements) → AreWords width es → AreNarrow (shape_by es)
    narrow_shape value.none h = tt
    narrow_shape (value.more e es) h = (narrow_place e h.0, narrow_shape es h.1)

    narrow_place : (e : Element) → IsWordElement width e → IsNarrowPlace (place_by e)
    narrow_place (Holds v) h = narrow_by v h
    narrow_place (Named o) h = tt
    narrow_place Unset h = tt

  in_shape : (es : Elements) (s : Shape) → fits_shape es s ≡ true → count es ≡ places s
  in_shape value.none bare e = refl
  in_shape value.none (with k ks) e = absurd cc
  in_shape (value.more x es) bare e = absurd cc
  in_shape (value.more x es) (with k ks) e = ap suc (in_shape es ks (and_parts (fits_place x k) (fits_shape es ks) e).1)

  mutual
    pub whole_word : (v : Value) (k : Kind) → fits v k ≡ true → IsNarrow k → IsWhole width v k → IsWord width v
    whole_word (Int n) (IntUpTo greatest) e narrow h = let le = leb-true n greatest e in omega (arith, le, narrow)
    whole_word (Pkg es) (PkgOf s) e narrow h =
        let many = in_shape es s e in
        let few = narrow.0 in
        (omega (arith, many, few), whole_words es s e narrow.1 h)
    whole_word (Int n) (BufOf size) e narrow h = h
    whole_word (Int n) (StrOf size) e narrow h = h
    whole_word (Int n) (PkgOf s) e narrow h = h
    whole_word (Int n) AnyPkg e narrow h = h
    whole_word (Int n) Mixed e narrow h = h
    whole_word (Buf bytes) k e narrow h = h
    whole_word (Str characters) k e narrow h = h
    whole_word (Pkg es) (IntUpTo greatest) e narrow h = h
    whole_word (Pkg es) (BufOf size) e narrow h = h
    whole_word (Pkg es) (StrOf size) e narrow h = h
    whole_word (Pkg es) AnyPkg e narrow h = h
    whole_word (Pkg es) Mixed e narrow h = h

    whole_words : (es : Elements) (s : Shape) → fits_shape es s ≡ true → AreNarrow s → AreWholeElements width es s → AreWords width es
    whole_words value.none s e narrow h = tt
    whole_words (value.more x es) bare e narrow h = absurd cc
    whole_words (value.more x es) (with k ks) e narrow h =
        let parts = and_parts (fits_place x k) (fits_shape es ks) e in
        (whole_place x k parts.0 narrow.0 h.0, whole_words es ks parts.1 narrow.1 h.1)

    whole_place : (x : Element) (k : ElementKind) → fits_place x k ≡ true → IsNarrowPlace k → IsWholeElement width x k → IsWordElement width x
    whole_place (Holds v) (ValueOf k) e narrow h = whole_word v k e narrow h
    whole_place (Holds v) AnyName e narrow h = h
    whole_place (Holds v) Anything e narrow h = h
    whole_place (Named o) k e narrow h = tt
    whole_place Unset k e narrow h = tt

  -- what is of the width is whole for each kind
  mutual
    pub word_whole : (v : Value) (k : Kind) → IsWord width v → IsWhole width v k
    word_whole (Int n) (IntUpTo greatest) h = tt
    word_whole (Pkg es) (PkgOf s) h = words_whole es s h.1
    word_whole (Int n) k h = h
    word_whole (Buf bytes) k h = h
    word_whole (Str characters) k h = h
    word_whole (Pkg es) k h = h

    words_whole : (es : Elements) (s : Shape) → AreWords width es → AreWholeElements width es s
    words_whole value.none s h = tt
    words_whole (value.more x es) bare h = tt
    words_whole (value.more x es) (with k ks) h = (element_whole x k h.0, words_whole es ks h.1)

    element_whole : (x : Element) (k : ElementKind) → IsWordElement width x → IsWholeElement width x k
    element_whole (Holds v) (ValueOf k) h = word_whole v k h
    element_whole (Holds v) AnyName h = h
    element_whole (Holds v) Anything h = h
    element_whole (Named o) k h = h
    element_whole Unset k h = h

  pub all_whole : (vs : Contents) (ks : ContentKinds) → ((i : ℕ) (v : Value) → content_at vs i ≡ Some v → IsWord width v) → AreWhole width vs ks
  all_whole [] ks h = tt
  all_whole (Some v ∷ vs) [] h = tt
  all_whole (None ∷ vs) [] h = tt
  all_whole (Some v ∷ vs) (Some k ∷ ks) h = (word_whole v k (h 0 v refl), all_whole vs ks (λ i x is. h (suc i) x is))
  all_whole (Some v ∷ vs) (None ∷ ks) h = all_whole vs ks (λ i x is. h (suc i) x is)
  all_whole (None ∷ vs) (k ∷ ks) h = all_whole vs ks (λ i x is. h (suc i) x is)

  abbrev pub AreNarrowKinds : ContentKinds → Type 0
  AreNarrowKinds [] = Unit {0}
  AreNarrowKinds (Some k ∷ ks) = IsNarrow k × AreNarrowKinds ks
  AreNarrowKinds (None ∷ ks) = AreNarrowKinds ks

  -- what names of narrow kinds hold
  pub whole_contents : (vs : Contents) (ks : ContentKinds) (i : ℕ) (v : Value) → are_fitting vs ks ≡ true → AreNarrowKinds ks → AreWhole width vs ks → content_at vs i ≡ Some v → IsWord width v
  whole_contents [] ks i v e narrow h is = absurd cc
  whole_contents (x ∷ vs) [] i v e narrow h is = absurd cc
  whole_contents (Some x ∷ vs) (Some k ∷ ks) zero v e narrow h is =
      let same : x ≡ v = cc in
      subst (IsWord width) same (whole_word x k (and_parts (fits x k) (are_fitting vs ks) e).0 narrow.0 h.0)
  whole_contents (Some x ∷ vs) (Some k ∷ ks) (suc i) v e narrow h is = whole_contents vs ks i v (and_parts (fits x k) (are_fitting vs ks) e).1 narrow.1 h.1 is
  whole_contents (Some x ∷ vs) (None ∷ ks) i v e narrow h is = absurd cc
  whole_contents (None ∷ vs) (Some k ∷ ks) i v e narrow h is = absurd cc
  whole_contents (None ∷ vs) (None ∷ ks) zero v e narrow h is = absurd cc
  whole_contents (None ∷ vs) (None ∷ ks) (suc i) v e narrow h is = whole_contents vs ks i v e narrow h is

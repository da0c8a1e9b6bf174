-- What a kind leaves open of a value: which numbers its bytes are, and what stands where anything
-- may stand. Such a value is whole where that is of the width of integers.
use Rattle.std.specs.Prelude.{List, ℕ, ◌∷◌, Some}
use Rattle.aml_contents.specs.Contents.{Contents, ContentKinds}
use Rattle.aml_judged.specs.Safe.{IsWord, IsWordElement}
use Rattle.aml_kinds.specs.Kinds.{Kind, IntUpTo, PkgOf, Shape, with, ElementKind, ValueOf}
use Rattle.aml_values.specs.Values.{Value, Int, Pkg, Elements, more, Element, Holds}

module _ (width : ℕ) where
  abbrev mutual
    pub IsWhole : Value → Kind → Type 0
    IsWhole (Int n) (IntUpTo greatest) = Unit {0}
    IsWhole (Pkg es) (PkgOf s) = AreWholeElements es s
    IsWhole v k = IsWord width v

    pub AreWholeElements : Elements → Shape → Type 0
    AreWholeElements (more e es) (with k ks) = IsWholeElement e k × AreWholeElements es ks
    AreWholeElements es s = Unit {0}

    pub IsWholeElement : Element → ElementKind → Type 0
    IsWholeElement (Holds v) (ValueOf k) = IsWhole v k
    IsWholeElement e k = IsWordElement width e

  -- what names hold, by their kinds
  abbrev pub AreWhole : Contents → ContentKinds → Type 0
  AreWhole (Some v ∷ vs) (Some k ∷ ks) = IsWhole v k × AreWhole vs ks
  AreWhole (v ∷ vs) (k ∷ ks) = AreWhole vs ks
  AreWhole vs ks = Unit {0}

  -- values, each by the kind at its place
  abbrev pub AreWholeValues : List Value → List Kind → Type 0
  AreWholeValues (v ∷ vs) (k ∷ ks) = IsWhole v k × AreWholeValues vs ks
  AreWholeValues vs ks = Unit {0}

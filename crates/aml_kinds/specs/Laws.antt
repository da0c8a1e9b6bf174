-- What holds of kinds.
use Rattle.std.specs.Prelude.{◌≡◌, ◌≤◌, IsTrue}
use Rattle.aml_values.specs.Values.{Value}
use Rattle.aml_kinds.specs.Kinds.{Kind, PkgOf, Shape, bare, with, ValueOf, AnyName, Anything, places}
use Rattle.aml_kinds.specs.Fits.{fits, most_elements}
use Rattle.aml_kinds.specs.Joins.{join, IsWithin}

abbrev mutual
  -- no shape in a kind has more elements than a package may have
  pub AreSmall : Kind → Type 0
  AreSmall (PkgOf s) = (places s ≤ most_elements) × AreSmallWithin s
  AreSmall k = Unit {0}

  pub AreSmallWithin : Shape → Type 0
  AreSmallWithin bare = Unit {0}
  AreSmallWithin (with (ValueOf k) es) = AreSmall k × AreSmallWithin es
  AreSmallWithin (with AnyName es) = AreSmallWithin es
  AreSmallWithin (with Anything es) = AreSmallWithin es

-- what fits a kind fits each kind that it lies within
abbrev pub Widens : Type 0
Widens =
    (j k : Kind) → IsWithin j k → AreSmall j → (v : Value) → IsTrue (fits v j) → IsTrue (fits v k)

-- the order of two kinds makes no difference to their join
abbrev pub Commutes : Type 0
Commutes = (j k : Kind) → join j k ≡ join k j

-- nor does the order in which three are joined
abbrev pub Associates : Type 0
Associates = (i j k : Kind) → join (join i j) k ≡ join i (join j k)

-- a kind joined to itself stays
abbrev pub IsIdempotent : Type 0
IsIdempotent = (k : Kind) → join k k ≡ k

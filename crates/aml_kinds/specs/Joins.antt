-- What is known of a value that is of one of two kinds, and which kinds lie within others.
use Rattle.std.specs.Prelude.{◌≡◌, ◌==◌, max, Bool, true, false}
use Rattle.aml_kinds.specs.Kinds.{Kind, IntUpTo, BufOf, StrOf, PkgOf, AnyPkg, Mixed, ElementKind, ValueOf, AnyName, Anything}
use Rattle.aml_kinds.specs.SameKinds.{same_shape}

-- a kind where two are equal, else another
abbrev pub if_same : Bool → Kind → Kind → Kind
if_same true k other = k
if_same false k other = other

-- equal kinds stay, of integers the greater maximum; two different kinds of packages are any
-- package; all else is mixed
abbrev pub join : Kind → Kind → Kind
join (IntUpTo m) (IntUpTo n) = IntUpTo (max m n)
join (BufOf m) (BufOf n) = if_same (m == n) (BufOf m) Mixed
join (StrOf m) (StrOf n) = if_same (m == n) (StrOf m) Mixed
join (PkgOf s) (PkgOf t) = if_same (same_shape s t) (PkgOf s) AnyPkg
join (PkgOf s) AnyPkg = AnyPkg
join AnyPkg (PkgOf t) = AnyPkg
join AnyPkg AnyPkg = AnyPkg
join j k = Mixed

-- a kind that adds nothing to another
abbrev pub IsWithin : Kind → Kind → Type 0
IsWithin j k = join j k ≡ k

-- of elements: what may be unset stays so, else a name stays a name
abbrev pub join_elements : ElementKind → ElementKind → ElementKind
join_elements (ValueOf j) (ValueOf k) = ValueOf (join j k)
join_elements AnyName (ValueOf k) = AnyName
join_elements (ValueOf j) AnyName = AnyName
join_elements AnyName AnyName = AnyName
join_elements d e = Anything

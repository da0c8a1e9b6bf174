-- What fits a kind fits each kind that it lies within.
use Rattle.std.proofs.Common.{◌≡◌, ◌≤◌, ℕ, suc, nat_le, ◌&&◌, max, Bool, true, false, ap, refl, sym, subst, arith}
use Rattle.std.proofs.lemmas.Bool.Decides.{nat_tests}
use Rattle.aml_values.specs.Values.{Value, Int, Buf, Str, Pkg, Elements, none, more, count}
use Rattle.aml_kinds.specs.Kinds.{Kind, IntUpTo, BufOf, StrOf, PkgOf, AnyPkg, Mixed, Shape, bare, with, places}
use Rattle.aml_kinds.specs.Fits.{fits, fits_shape, fits_place, most_elements}
use Rattle.aml_kinds.specs.Joins.{if_same, IsWithin}
use Rattle.aml_kinds.specs.Laws.{AreSmall, Widens}
use Rattle.aml_kinds.specs.SameKinds.{same_shape}

-- a kind within another: the same, of smaller integers, a shape within any, or anything within mixed
data Widened : Kind → Kind → Type 0 where
  equal : (k : Kind) → Widened k k
  greater : (m n : ℕ) → m ≤ n → Widened (IntUpTo m) (IntUpTo n)
  any : (s : Shape) → Widened (PkgOf s) AnyPkg
  mixed : (j : Kind) → Widened j Mixed

-- a choice that gave what the other is not
kept : (b : Bool) (j other k : Kind) → (other ≡ k → ⊥) → if_same b j other ≡ k → j ≡ k
kept true j other k differ e = e
kept false j other k differ e = absurd (differ e)

same_widened : (j k : Kind) → j ≡ k → Widened j k
same_widened j k e = subst (λ x. Widened j x) e (equal j)

not_greater : (m n : ℕ) → IntUpTo (max m n) ≡ IntUpTo n → m ≤ n
not_greater m n e = let f : max m n ≡ n = cc in omega arith

within_widened : (j k : Kind) → IsWithin j k → Widened j k
within_widened j Mixed e = mixed j
within_widened (IntUpTo m) (IntUpTo n) e = greater m n (not_greater m n e)
within_widened (BufOf m) (BufOf n) e =
    same_widened _ _ (kept _ (BufOf m) Mixed (BufOf n) (λ h. cc) e)
within_widened (StrOf m) (StrOf n) e =
    same_widened _ _ (kept _ (StrOf m) Mixed (StrOf n) (λ h. cc) e)
within_widened (PkgOf s) (PkgOf t) e =
    same_widened _ _ (kept (same_shape s t) (PkgOf s) AnyPkg (PkgOf t) (λ h. cc) e)
within_widened (PkgOf s) AnyPkg e = any s
within_widened AnyPkg AnyPkg e = equal AnyPkg
within_widened j k e = cc

second : (a b : Bool) → (a && b) ≡ true → b ≡ true
second true b e = e
second false b e = cc

-- elements that fit a shape are as many as it has
counted : (es : Elements) (s : Shape) → fits_shape es s ≡ true → count es ≡ places s
counted none bare e = refl
counted (more x es) (with k ks) e = ap suc (counted es ks (second (fits_place x k) (fits_shape es ks) e))
counted es s e = cc

at_most : (m n : ℕ) → m ≤ n → nat_le m n ≡ true
at_most m n h = grind (arith, nat_tests)

smaller : (x m n : ℕ) → m ≤ n → nat_le x m ≡ true → nat_le x n ≡ true
smaller x m n h f = grind (arith, nat_tests)

fits_mixed : (v : Value) → fits v Mixed ≡ true
fits_mixed (Int n) = refl
fits_mixed (Buf bytes) = refl
fits_mixed (Str characters) = refl
fits_mixed (Pkg es) = refl

widened_fits : (j k : Kind) → Widened j k → AreSmall j → (v : Value) → fits v j ≡ true → fits v k ≡ true
widened_fits j k (equal _) small v f = f
widened_fits j k (greater m n h) small (Int x) f = smaller x m n h f
widened_fits j k (greater m n h) small v f = cc
widened_fits j k (any s) small (Pkg es) f =
    let all : count es ≡ places s = counted es s f in at_most (count es) most_elements (subst (λ x. x ≤ most_elements) (sym all) small.0)
widened_fits j k (any s) small v f = cc
widened_fits j k (mixed _) small v f = fits_mixed v

pub widens : Widens
widens j k e small v f = widened_fits j k (within_widened j k e) small v f

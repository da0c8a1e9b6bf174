-- Arguments of integers' kinds are integers, and names of such kinds hold integers.
use Rattle.std.proofs.Common.{◌≡◌, ℕ, zero, suc, List, [], ◌∷◌, Option, Some, None, true}
use Rattle.aml_contents.specs.Contents.{Contents, ContentKinds, are_fitting, is_fitting}
use Rattle.aml_judged.specs.Integers.{AreIntegers, HoldIntegers, IsInteger, IsIntegerIfAny, LeavesIntegers, are_integers, is_integer}
use Rattle.aml_judged.specs.Safe.{FitAll, FitNames, FitScript}
use Rattle.aml_kinds.specs.Fits.{fits}
use Rattle.aml_kinds.specs.Kinds.{Kind, AnyPkg, BufOf, IntUpTo, Mixed, PkgOf, StrOf}
use Rattle.aml_meaning.specs.State.{Names}
use Rattle.aml_regions.specs.Events.{Event}
use Rattle.aml_values.proofs.Same.{both_first, both_second}
use Rattle.aml_values.specs.Values.{Value, Buf, Int, Pkg, Str}

-- what fits an integer's kind is one
integer_below : (v : Value) (n : ℕ) → fits v (IntUpTo n) ≡ true → IsInteger v
integer_below (Int i) n fit = tt
integer_below (Buf bytes) n fit = absurd cc
integer_below (Str characters) n fit = absurd cc
integer_below (Pkg es) n fit = absurd cc

integer_of : (v : Value) (k : Kind) → is_integer (Some k) ≡ true → fits v k ≡ true → IsInteger v
integer_of v (IntUpTo n) is fit = integer_below v n fit
integer_of v (BufOf n) is fit = absurd cc
integer_of v (StrOf n) is fit = absurd cc
integer_of v (PkgOf s) is fit = absurd cc
integer_of v AnyPkg is fit = absurd cc
integer_of v Mixed is fit = absurd cc

pub integer_arguments : (width : ℕ) (vs : List Value) (ks : List Kind) → are_integers ks ≡ true → FitAll width vs ks → AreIntegers vs
integer_arguments width [] ks are fit = tt
integer_arguments width (v ∷ vs) [] are fit = absurd fit
integer_arguments width (v ∷ vs) (k ∷ ks) are fit =
    (integer_of v k (both_first (is_integer (Some k)) (are_integers ks) are) fit.0.fit, integer_arguments width vs ks (both_second (is_integer (Some k)) (are_integers ks) are) fit.1)

held_integer : (v : Option Value) (k : Option Kind) → is_fitting v k ≡ true → is_integer k ≡ true → IsIntegerIfAny v
held_integer None k fit is = tt
held_integer (Some v) None fit is = absurd cc
held_integer (Some v) (Some k) fit is = integer_of v k is fit

integer_contents : (vs : Contents) (ks : ContentKinds) → are_fitting vs ks ≡ true → HoldIntegers ks vs
integer_contents [] ks fit i is = tt
integer_contents (v ∷ vs) [] fit i is = absurd cc
integer_contents (v ∷ vs) (k ∷ ks) fit zero is = held_integer v k (both_first (is_fitting v k) (are_fitting vs ks) fit) is
integer_contents (v ∷ vs) (k ∷ ks) fit (suc i) is = integer_contents vs ks (both_second (is_fitting v k) (are_fitting vs ks) fit) i is

pub integer_names : (width : ℕ) (kinds : ContentKinds) (names : Names) → FitNames width kinds names → HoldIntegers kinds names.contents
integer_names width kinds names fit = integer_contents names.contents kinds fit.fitting

pub integer_answers : (width : ℕ) (kinds : ContentKinds) (script : List Event) → FitScript width kinds script → LeavesIntegers kinds script
integer_answers width kinds script fit = record {
  left = λ i milliseconds contents slept. integer_contents contents kinds (fit.left i milliseconds contents slept).fitting;
}

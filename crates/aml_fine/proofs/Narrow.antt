-- Where names hold integers alone, contents that fit their kinds are of the width.
use Rattle.std.proofs.Common.{◌≡◌, ℕ, zero, suc, ◌<◌, ◌^◌, [], ◌∷◌, Option, Some, None, subst, arith}
use Rattle.std.proofs.lemmas.Bool.{leb-true, and_parts}
use Rattle.std.specs.Prelude.{true, nat_le}
use Rattle.aml_values.specs.Values.{Value, Int, Buf, Str, Pkg}
use Rattle.aml_kinds.specs.Kinds.{IntUpTo, BufOf, StrOf, PkgOf, AnyPkg, Mixed}
use Rattle.aml_contents.specs.Contents.{Contents, ContentKinds, content_at, are_fitting, is_fitting}
use Rattle.aml_regions.specs.Events.{Slept}
use Rattle.aml_judged.specs.Safe.{IsWord}
use Rattle.aml_fine.specs.Laws.{AreNarrow, NarrowAnswersFit}

int_word : (width n g : ℕ) (v : Value) → ◌≡◌ {A = Option Value} (Some (Int n)) (Some v) → nat_le n g ≡ true → g < 2 ^ width → IsWord width v
int_word width n g v e le lt =
    let is : Int n ≡ v = cc in
    let least = leb-true n g le in
    subst (IsWord width) is (omega (arith, least, lt))

pub narrow_words : (width : ℕ) (vs : Contents) (ks : ContentKinds) → AreNarrow width ks → are_fitting vs ks ≡ true → (i : ℕ) (v : Value) → content_at vs i ≡ Some v → IsWord width v
narrow_words width [] ks narrow fit i v e = absurd cc
narrow_words width (x ∷ vs) [] narrow fit i v e = absurd cc
narrow_words width (x ∷ vs) (Some (BufOf n) ∷ ks) narrow fit i v e = absurd narrow
narrow_words width (x ∷ vs) (Some (StrOf n) ∷ ks) narrow fit i v e = absurd narrow
narrow_words width (x ∷ vs) (Some (PkgOf s) ∷ ks) narrow fit i v e = absurd narrow
narrow_words width (x ∷ vs) (Some AnyPkg ∷ ks) narrow fit i v e = absurd narrow
narrow_words width (x ∷ vs) (Some Mixed ∷ ks) narrow fit i v e = absurd narrow
narrow_words width (x ∷ vs) (None ∷ ks) narrow fit (suc i) v e = narrow_words width vs ks narrow (and_parts (is_fitting x None) (are_fitting vs ks) fit).1 i v e
narrow_words width (None ∷ vs) (None ∷ ks) narrow fit zero v e = absurd cc
narrow_words width (Some u ∷ vs) (None ∷ ks) narrow fit zero v e = absurd cc
narrow_words width (x ∷ vs) (Some (IntUpTo g) ∷ ks) narrow fit (suc i) v e = narrow_words width vs ks narrow.1 (and_parts (is_fitting x (Some (IntUpTo g))) (are_fitting vs ks) fit).1 i v e
narrow_words width (None ∷ vs) (Some (IntUpTo g) ∷ ks) narrow fit zero v e = absurd cc
narrow_words width (Some (Int n) ∷ vs) (Some (IntUpTo g) ∷ ks) narrow fit zero v e = int_word width n g v e (and_parts (nat_le n g) (are_fitting vs ks) fit).0 narrow.0
narrow_words width (Some (Buf b) ∷ vs) (Some (IntUpTo g) ∷ ks) narrow fit zero v e = absurd cc
narrow_words width (Some (Str b) ∷ vs) (Some (IntUpTo g) ∷ ks) narrow fit zero v e = absurd cc
narrow_words width (Some (Pkg es) ∷ vs) (Some (IntUpTo g) ∷ ks) narrow fit zero v e = absurd cc

pub narrow_answers_fit : NarrowAnswersFit
narrow_answers_fit all s names narrow script pre words = record {
  left = λ i n contents e.
      let fit : are_fitting contents all.kinds ≡ true = subst (λ ks. are_fitting contents ks ≡ true) names.kinds_stay (words.each i (Slept n (Some contents)) e) in
      record { fitting = fit; words = narrow_words all.methods.width contents all.kinds narrow fit };
}

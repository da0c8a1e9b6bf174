-- What is known by the numbers of a table stays while it grows.
use Rattle.std.proofs.Common.{◌≡◌, ◌≤◌, ◌++◌, ℕ, List, [], ◌∷◌, Option, Some, None, map, length, refl, ap, ◌∙◌, arith}
use Rattle.std.specs.Option.{option_map}
use Rattle.aml_kinds.specs.Kinds.{PkgOf, Shape}
use Rattle.aml_known.specs.declared.known.Known.{Known}
use Rattle.aml_known.specs.declared.known.Known.TheVariants as known
use Rattle.aml_known.specs.Views.{kind_of}
use Rattle.aml_shapes.specs.Laws.{KeepOn, KindsStay}
use Rattle.aml_shapes.specs.Numbers.{AreKnown, IsKnown, IsKnownHeld, Keeps, numbered}
use Rattle.aml_shapes.proofs.PartsTold.{keeps_on}

pub kind_stays : KindsStay
kind_stays old new (known.Int n) keeps is = refl
kind_stays old new (known.Buf n) keeps is = refl
kind_stays old new (known.Str n) keeps is = refl
kind_stays old new (known.Pkg s) keeps is = ap PkgOf (keeps.stays s.0 is)
kind_stays old new known.AnyPkg keeps is = refl
kind_stays old new known.Mixed keeps is = refl

pub keep_on : KeepOn
keep_on = keeps_on

module _ (old new : List Shape) (keeps : Keeps old new) where
  held_stays : (k : Option Known) → IsKnownHeld (length old) k → option_map (kind_of (numbered new)) k ≡ option_map (kind_of (numbered old)) k
  held_stays None is = refl
  held_stays (Some k) is = ap Some (kind_stays old new k keeps is)

  pub all_stay : (ks : List (Option Known)) → AreKnown (length old) ks → map (option_map (kind_of (numbered new))) ks ≡ map (option_map (kind_of (numbered old))) ks
  all_stay [] are = refl
  all_stay (k ∷ ks) are =
      ap (λ e. e ∷ map (option_map (kind_of (numbered new))) ks) (held_stays k are.0) ∙ ap (λ es. option_map (kind_of (numbered old)) k ∷ es) (all_stay ks are.1)

known_more : (m n : ℕ) (k : Known) → m ≤ n → IsKnown m k → IsKnown n k
known_more m n (known.Int i) le is = tt
known_more m n (known.Buf i) le is = tt
known_more m n (known.Str i) le is = tt
known_more m n (known.Pkg s) le is = omega arith
known_more m n known.AnyPkg le is = tt
known_more m n known.Mixed le is = tt

held_more : (m n : ℕ) (k : Option Known) → m ≤ n → IsKnownHeld m k → IsKnownHeld n k
held_more m n None le is = tt
held_more m n (Some k) le is = known_more m n k le is

-- one kind more
pub known_push : (m n : ℕ) (ks : List (Option Known)) (k : Option Known) → m ≤ n → AreKnown m ks → IsKnownHeld n k → AreKnown n (ks ++ k ∷ [])
known_push m n [] k le are is = (is, tt)
known_push m n (j ∷ ks) k le are is = (held_more m n j le are.0, known_push m n ks k le are.1 is)

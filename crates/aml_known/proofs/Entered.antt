-- What is known where a method begins.
use Rattle.std.proofs.Common.{◌≡◌, ℕ, List, [], ◌∷◌, slice_get, refl}
use Rattle.std.specs.Prelude.{true, false, map}
use Rattle.aml_kinds.specs.Kinds.{Shape}
use Rattle.aml_judged.specs.Bodies.{kind_slots}
use Rattle.aml_judged.specs.Known as judged
use Rattle.aml_known.specs.Views.{kind_of, slots_of}
use Rattle.aml_known.specs.declared.known.Known.{Known}

-- the first seven of some kinds
pub seven : (shapes : ℕ → Shape) (ks : List Known) → slots_of shapes (slice_get ks 0 ∷ slice_get ks 1 ∷ slice_get ks 2 ∷ slice_get ks 3 ∷ slice_get ks 4 ∷ slice_get ks 5 ∷ slice_get ks 6 ∷ []) ≡ kind_slots 7 (map (kind_of shapes) ks)
seven shapes [] = refl
seven shapes (a ∷ []) = refl
seven shapes (a ∷ b ∷ []) = refl
seven shapes (a ∷ b ∷ c ∷ []) = refl
seven shapes (a ∷ b ∷ c ∷ d ∷ []) = refl
seven shapes (a ∷ b ∷ c ∷ d ∷ e ∷ []) = refl
seven shapes (a ∷ b ∷ c ∷ d ∷ e ∷ f ∷ []) = refl
seven shapes (a ∷ b ∷ c ∷ d ∷ e ∷ f ∷ g ∷ ks) = refl

-- where a method begins whose arguments are these
abbrev pub entered : List judged.Slot → judged.Env
entered args =
    record { locals = kind_slots 8 []; args = args; held = judged.These []; counts = true; looped = false }

-- What the numbers of shapes stand for.
use Rattle.std.specs.Prelude.{◌≡◌, ◌<◌, ◌≤◌, ◌+◌, ℕ, suc, max, List, [], ◌∷◌, length, slice_index_or, Option, Some, None}
use Rattle.std.specs.Option.{option_map}
use Rattle.aml_kinds.specs.Kinds.{Kind, Shape, bare, places}
use Rattle.aml_known.specs.Views.{kind_of}
use Rattle.aml_known.specs.declared.known.Known.{Known}
use Rattle.aml_known.specs.declared.known.Known.TheVariants as known
use Rattle.aml_contents.specs.DataKinds.{counted_places}

-- the most places that one of some shapes has
abbrev pub widest : List Shape → ℕ
widest [] = 0
widest (s ∷ ss) = max (places s) (widest ss)

-- a shape for each number past some shapes, which is wider than all of them
abbrev pub wider : List Shape → ℕ → Shape
wider shapes i = counted_places (suc (widest shapes + i)) bare

-- what each number stands for: a shape of a table, or one that it does not have
unfoldable pub numbered : List Shape → ℕ → Shape
numbered shapes i = slice_index_or shapes i (wider shapes i)

-- the number of a shape among some
abbrev pub IsNumber : List Shape → ℕ → Shape → Type 0
IsNumber shapes n s = (n < length shapes) × (numbered shapes n ≡ s)

-- a table grows: what a number of it stands for stays
pub record Keeps (old new : List Shape) : Type 0 where
  pub longer : length old ≤ length new
  pub stays : (i : ℕ) → i < length old → numbered new i ≡ numbered old i

-- a kind whose shape has a number below this one
abbrev pub IsKnown : ℕ → Known → Type 0
IsKnown n (known.Pkg s) = s.0 < n
IsKnown n k = Unit {0}

abbrev pub IsKnownHeld : ℕ → Option Known → Type 0
IsKnownHeld n None = Unit {0}
IsKnownHeld n (Some k) = IsKnown n k

abbrev pub AreKnown : ℕ → List (Option Known) → Type 0
AreKnown n [] = Unit {0}
AreKnown n (k ∷ ks) = IsKnownHeld n k × AreKnown n ks

-- what is known of a value of a kind, by some shapes
abbrev pub Tells : List Shape → Known → Kind → Type 0
Tells shapes k kind = IsKnown (length shapes) k × (kind_of (numbered shapes) k ≡ kind)

abbrev pub TellsHeld : List Shape → Option Known → Option Kind → Type 0
TellsHeld shapes k kind =
    IsKnownHeld (length shapes) k × (option_map (kind_of (numbered shapes)) k ≡ kind)

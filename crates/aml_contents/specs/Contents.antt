-- What data names hold, by the numbers of their objects.
use Rattle.std.specs.Prelude.{◌≡◌, ℕ, List, [], ◌∷◌, length, Option, Some, None, option_and_then, slice_get, slice_set, nat_lt, ◌&&◌, Bool, true, false}
use Rattle.std.specs.Option.{option_map}
use Rattle.aml_values.specs.Values.{Value, Buf}
use Rattle.aml_kinds.specs.Kinds.{Kind}
use Rattle.aml_kinds.specs.Fits.{fits}

-- a content for each number of a data name, and none for any other object's
abbrev pub Contents : Type 0
Contents = List (Option Value)

-- the kinds of the contents, which stay
abbrev pub ContentKinds : Type 0
ContentKinds = List (Option Kind)

abbrev pub itself : {X : Type 0} → Option X → Option X
itself x = x

-- the content of the name with a number, where it is a data name
abbrev pub content_at : Contents → ℕ → Option Value
content_at names i = option_and_then itself (slice_get names i)

abbrev pub kind_at : ContentKinds → ℕ → Option Kind
kind_at kinds i = option_and_then itself (slice_get kinds i)

-- the same contents, but this one
abbrev pub with_content : Contents → ℕ → Value → Contents
with_content names i v = slice_set names i (Some v)

-- whether a content has a byte there, as buffers alone do
abbrev pub has_byte : Option Value → ℕ → Bool
has_byte (Some (Buf bytes)) at = nat_lt at (length bytes)
has_byte v at = false

-- a value with this byte there, where it is a buffer
abbrev pub with_byte : Value → ℕ → ℕ → Value
with_byte (Buf bytes) at byte = Buf (slice_set bytes at byte)
with_byte v at byte = v

-- the same contents, with this byte there in the content of the name with a number
abbrev pub changed_byte : Contents → ℕ → ℕ → ℕ → Contents
changed_byte names i at byte =
    slice_set names i (option_map (λ v. with_byte v at byte) (content_at names i))

-- whether a value is of this kind, where there is one
abbrev pub fits_kind : Value → Option Kind → Bool
fits_kind v None = false
fits_kind v (Some k) = fits v k

-- whether the name with a number may hold a value
abbrev pub may_hold : ContentKinds → ℕ → Value → Bool
may_hold kinds i v = fits_kind v (kind_at kinds i)

-- what a name holds is of its kind, so it may hold it
abbrev pub HoldTheirKinds : Contents → ContentKinds → Type 0
HoldTheirKinds names kinds =
    (i : ℕ) (v : Value) → content_at names i ≡ Some v → may_hold kinds i v ≡ true

-- a content fits its kind, and there is a kind just where there is a content
abbrev pub is_fitting : Option Value → Option Kind → Bool
is_fitting (Some v) (Some k) = fits v k
is_fitting None None = true
is_fitting v k = false

-- each content fits its kind
abbrev pub are_fitting : Contents → ContentKinds → Bool
are_fitting [] [] = true
are_fitting (v ∷ vs) (k ∷ ks) = is_fitting v k && are_fitting vs ks
are_fitting vs ks = false

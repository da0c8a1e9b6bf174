-- Values that a text lists are whole, where they fit kinds that signatures may tell.
use Rattle.std.proofs.Common.{◌≡◌, ◌<◌, ℕ, suc, List, [], ◌∷◌, Option, Some, None, Ok, arith, map, subst, sym, true}
use Rattle.std.proofs.lemmas.Bool.{and_parts}
use Rattle.std.proofs.lemmas.List.Elements.{All-head, All-tail}
use Rattle.acpi_words.specs.Arguments.{AreArguments, AreCharacters, IsArgument, ListsArguments}
use Rattle.acpi_words.specs.Arguments as text
use Rattle.aml_judged.specs.Safe.{AreBytes}
use Rattle.aml_kinds.specs.Fits.{fits}
use Rattle.aml_literal_laws.specs.Whole.{AreWholeValues, IsWhole}
use Rattle.aml_objects.specs.Widths.{bits_of}
use Rattle.aml_objects.specs.declared.width.Width.{Width}
use Rattle.aml_signatures.specs.ArgumentKinds.{kind_of_argument}
use Rattle.aml_signatures.specs.declared.argument_kind.ArgumentKind.{ArgumentKind}
use Rattle.aml_signatures.specs.declared.argument_kind.ArgumentKind.TheVariants as argument
use Rattle.aml_values.specs.Values.{Value, Int, Buf, Str, Pkg, none, more}
use Rattle.aml_verify.specs.Accepts.{all_fit}
use Rattle.hex.proofs.HexLemmas.{decode_of-ok}
use Rattle.hex.specs.Hex.{IsBytes, decode_of}

bytes_are : (bytes : List ℕ) → IsBytes bytes → AreBytes bytes
bytes_are [] h = tt
bytes_are (b ∷ bytes) h = (h 0, bytes_are bytes (λ i. h (suc i)))

decoded : (digits bytes : List ℕ) → decode_of digits ≡ Ok bytes → AreBytes bytes
decoded digits bytes h = bytes_are bytes (decode_of-ok digits bytes h).3

abbrev is_character : ℕ → Type 0
is_character b = (0 < b) × (b < 128)

characters_are : (characters : List ℕ) → AreCharacters characters → AreBytes characters
characters_are [] h = tt
characters_are (b ∷ characters) h =
    let first = All-head is_character b characters h in
    (omega (arith, first), characters_are characters (All-tail is_character b characters h))

whole_one : (width : Width) (written : List ℕ) (v : Value) (k : ArgumentKind) → IsArgument written v → fits v (kind_of_argument width k) ≡ true → IsWhole (bits_of width) v (kind_of_argument width k)
whole_one width written (Int n) argument.Int is fit = tt
whole_one width written (Int n) (argument.IntUpTo most) is fit = tt
whole_one width written (Int n) (argument.Buf size) is fit = absurd cc
whole_one width written (Int n) (argument.Str size) is fit = absurd cc
whole_one width written (Int n) argument.Pkg is fit = absurd cc
whole_one width written (Buf bytes) k is fit = decoded is.0 bytes is.2.0
whole_one width written (Str characters) k is fit = characters_are characters is.1
whole_one width written (Pkg none) argument.Int is fit = absurd cc
whole_one width written (Pkg none) (argument.IntUpTo most) is fit = absurd cc
whole_one width written (Pkg none) (argument.Buf size) is fit = absurd cc
whole_one width written (Pkg none) (argument.Str size) is fit = absurd cc
whole_one width written (Pkg none) argument.Pkg is fit = (omega arith, tt)
whole_one width written (Pkg (more e es)) k is fit = absurd is

all_listed : (width : Width) (written : List (List ℕ)) (vs : List Value) (ks : List ArgumentKind) → AreArguments written vs → all_fit vs (map (kind_of_argument width) ks) ≡ true → AreWholeValues (bits_of width) vs (map (kind_of_argument width) ks)
all_listed width written [] ks are fit = tt
all_listed width written (v ∷ vs) [] are fit = tt
all_listed width [] (v ∷ vs) (k ∷ ks) are fit = absurd are
all_listed width (element ∷ written) (v ∷ vs) (k ∷ ks) are fit =
    let parts = and_parts (fits v (kind_of_argument width k)) (all_fit vs (map (kind_of_argument width) ks)) fit in
    (whole_one width element v k are.0 parts.0, all_listed width written vs ks are.1 parts.1)

pub listed_whole : (width : Width) (args : Option (List ℕ)) (vs : List Value) (ks : List ArgumentKind) → ListsArguments args vs → all_fit vs (map (kind_of_argument width) ks) ≡ true → AreWholeValues (bits_of width) vs (map (kind_of_argument width) ks)
listed_whole width None vs ks listed fit = subst (λ (vs : List Value). AreWholeValues (bits_of width) vs (map (kind_of_argument width) ks)) (sym listed) tt
listed_whole width (Some written) vs ks listed fit = all_listed width (text.elements written) vs ks listed fit

-- The kinds of a method's arguments (the kinds and what stands for a missing one are the project's
-- own; `_DSM`: ACPI 6.5, 9.1.1).
use Rattle.std.specs.Prelude.{◌==◌, ◌-◌, ◌^◌, ◌&&◌, ℕ, zero, suc, List, [], ◌∷◌, Option, Some, None, codes, map, min, nat_eq, if◌then◌else◌}
use Rattle.std.specs.List.{ends_with}
use Rattle.aml_kinds.specs.Kinds as kind
use Rattle.aml_objects.specs.Widths.{bits_of}
use Rattle.aml_objects.specs.declared.width.Width.{Width}
use Rattle.aml_signatures.specs.declared.argument_kind.ArgumentKind.{ArgumentKind}
use Rattle.aml_signatures.specs.declared.argument_kind.ArgumentKind.TheVariants.{Int, IntUpTo, Buf, Str, Pkg}

-- the greatest integer of a width
abbrev pub greatest_of : Width → ℕ
greatest_of width = 2 ^ bits_of width - 1

-- the kind of values that an argument has
abbrev pub kind_of_argument : Width → ArgumentKind → kind.Kind
kind_of_argument width Int = kind.IntUpTo (greatest_of width)
kind_of_argument width (IntUpTo greatest) = kind.IntUpTo greatest
kind_of_argument width (Buf size) = kind.BufOf size
kind_of_argument width (Str size) = kind.StrOf size
kind_of_argument width Pkg = kind.AnyPkg

-- an argument's kind, its greatest integer at most that of the width
abbrev pub cut_to : Width → ArgumentKind → ArgumentKind
cut_to width (IntUpTo greatest) = IntUpTo (min greatest (greatest_of width))
cut_to width other = other

-- so many kinds: missing ones are of every integer, further ones are dropped
abbrev pub filled : ℕ → List ArgumentKind → List ArgumentKind
filled zero kinds = []
filled (suc count) [] = Int ∷ filled count []
filled (suc count) (kind ∷ kinds) = kind ∷ filled count kinds

-- the kinds of a method of which nothing is told: those of a `_DSM`, which takes four arguments, or
-- none. A segment has four characters, so a printed path that ends with `_DSM` ends with that
-- segment
abbrev pub kinds_untold : List ℕ → ℕ → List ArgumentKind
kinds_untold path count =
    if count == 4 && ends_with nat_eq path (codes "_DSM") then Buf 16 ∷ Int ∷ Int ∷ Pkg ∷ [] else []

-- the kinds that are told of a method, or else those
abbrev pub kinds_or_untold : Option (List ArgumentKind) → List ℕ → ℕ → List ArgumentKind
kinds_or_untold (Some kinds) path count = kinds
kinds_or_untold None path count = kinds_untold path count

abbrev pub kinds_named : (List ℕ → Option (List ArgumentKind)) → List ℕ → ℕ → List ArgumentKind
kinds_named told path count = kinds_or_untold (told path) path count

-- the kinds of the arguments of the method with this path, which has so many of them: as many as it
-- has, of those that are named, each cut to the width
abbrev pub argument_kinds : (List ℕ → Option (List ArgumentKind)) → List ℕ → ℕ →
    Width → List ArgumentKind
argument_kinds told path count width =
    map (cut_to width) (filled count (kinds_named told path count))

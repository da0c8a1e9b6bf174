-- Which arguments an accepted method takes.
use Rattle.std.specs.Prelude.{◌==◌, ◌&&◌, ℕ, suc, nat_le, length, List, [], ◌∷◌, Bool, true, false, Option, Some, None, if◌then◌else◌}
use Rattle.aml_judged.specs.Judged.{Accepted}
use Rattle.aml_kinds.specs.Fits.{fits, most_elements}
use Rattle.aml_kinds.specs.Kinds.{Kind}
use Rattle.aml_known.specs.declared.known.Known.{Known}
use Rattle.aml_known.specs.declared.known.Known.TheVariants as known
use Rattle.aml_values.specs.Values.{Value, Int, Buf, Str, Pkg, count}
use Rattle.aml_verify.specs.declared.accepts.Misfit.{Misfit}
use Rattle.aml_verify.specs.declared.verdict.Verdict.{Verdict}
use Rattle.aml_verify.specs.declared.verdict.Verdict.TheVariants as verdict

-- whether there is a value for each kind, and is of it
abbrev pub all_fit : List Value → List Kind → Bool
all_fit [] [] = true
all_fit (v ∷ vs) (k ∷ ks) = fits v k && all_fit vs ks
all_fit vs ks = false

-- an accepted method takes as many values as it has arguments, each of its kind; any other method
-- takes none
abbrev pub accepts_by : Option Accepted → List Value → Bool
accepts_by None values = false
accepts_by (Some a) values = all_fit values a.args

-- whether a value is of a kind that a signature tells: none tells the shape of a package
abbrev pub is_of : Known → Value → Bool
is_of known.Mixed v = true
is_of (known.Int most) (Int n) = nat_le n most
is_of (known.Buf size) (Buf octets) = length octets == size
is_of (known.Str size) (Str characters) = length characters == size
is_of known.AnyPkg (Pkg elements) = nat_le (count elements) most_elements
is_of kind v = false

-- whether there is a value for each of such kinds, and is of it
abbrev pub are_of : List Known → List Value → Bool
are_of [] [] = true
are_of (k ∷ ks) (v ∷ vs) = is_of k v && are_of ks vs
are_of ks vs = false

-- the first value that is not of the kind at its place, where the first kind has this number
abbrev pub misfit_from : ℕ → List Known → List Value → Option Misfit
misfit_from number (k ∷ ks) (v ∷ vs) =
    if is_of k v then misfit_from (suc number) ks vs
    else Some (record { number = number; kind = k })
misfit_from number ks vs = None

-- the same of what is said of a method, by the kinds that its verdict has
abbrev pub misfit : Option Verdict → List Value → Option Misfit
misfit (Some (verdict.Accepted a)) values = misfit_from 0 a.args.items values
misfit said values = None

-- whether a method takes values, by the kinds that its verdict has
abbrev pub takes : Option Verdict → List Value → Bool
takes (Some (verdict.Accepted a)) values = are_of a.args.items values
takes said values = false

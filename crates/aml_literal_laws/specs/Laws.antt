-- That the literals in methods' bodies are no larger than those of which verdicts speak, and that
-- what names hold first is of their kinds: the laws.
use Rattle.std.specs.Prelude.{◌≡◌, ℕ, List, Option, true}
use Rattle.aml_contents.specs.Contents.{Contents, are_fitting}
use Rattle.aml_judged.specs.Laws.{AreSmall}
use Rattle.aml_contents.specs.FirstContents.{first_contents, first_kinds}
use Rattle.aml_judged.specs.Safe.{AreBytes, FitContents, FitNames}
use Rattle.aml_judged.specs.Verdicts.{Judging}
use Rattle.aml_literal_laws.specs.Whole.{AreWhole}
use Rattle.aml_meaning.specs.Methods.{AreBodies, methods_of}
use Rattle.aml_namespace.specs.Bodies.{bytes_of}
use Rattle.aml_meaning.specs.State.{Names}
use Rattle.aml_namespace.specs.Load.{IsLoaded, Shown}
use Rattle.aml_objects.specs.Widths.{bits_of}
use Rattle.aml_operators.specs.Tree.{Trees}

-- what tables are made of is bytes, as in all that a program holds
pub record TablesAreBytes (tables : List (List ℕ)) : Type 0 where
  pub each : (number : ℕ) → AreBytes (bytes_of tables number)

-- then the literals of a namespace's methods are small, in whatever setting these are judged
abbrev pub LiteralsAreSmall : Type 0
LiteralsAreSmall =
    (ns : Shown) (bodies : ℕ → Option Trees) (all : Judging) → TablesAreBytes ns.tables →
    AreBodies ns bodies → all.methods ≡ methods_of ns bodies → AreSmall all

-- what the data names of a namespace hold before any evaluation
abbrev pub first_names : Shown → Names
first_names ns = record { contents = first_contents ns; kinds = first_kinds ns }

-- it is of their kinds in each namespace that was loaded from tables of bytes, with a text of
-- bytes for `_OS_`
abbrev pub FirstNamesFit : Type 0
FirstNamesFit =
    (tables : List (List ℕ)) (os : List ℕ) (ns : Shown) → IsLoaded tables os ns →
    TablesAreBytes tables → AreBytes os →
    FitNames (bits_of ns.width) (first_kinds ns) (first_names ns)

-- and so is what is left there later, where it is of the kinds of the names and whole
abbrev pub LeftNamesFit : Type 0
LeftNamesFit =
    (tables : List (List ℕ)) (os : List ℕ) (ns : Shown) → IsLoaded tables os ns →
    TablesAreBytes tables → AreBytes os →
    (contents : Contents) → are_fitting contents (first_kinds ns) ≡ true →
    AreWhole (bits_of ns.width) contents (first_kinds ns) →
    FitContents (bits_of ns.width) (first_kinds ns) contents

-- What people are told of an AML error that ends an evaluation.
use Rattle.std.specs.Prelude.{ℕ, List, [], ◌∷◌, ◌++◌, codes, decimal}
use Rattle.acpi_text.specs.Text.{joined}
use Rattle.acpi_notes.specs.Label.{label_of}
use Rattle.aml_meaning.specs.Causes.{aml_cause_text}
use Rattle.aml_meaning.specs.declared.error.AmlCause.{AmlCause}
use Rattle.aml_meaning.specs.declared.error.AmlCause.TheVariants as cause
use Rattle.aml_meaning.specs.declared.error.AmlError.{AmlError}
use Rattle.aml_namespace.specs.Bodies.{bytes_of}
use Rattle.aml_namespace.specs.Load.{Shown}
use Rattle.aml_place_text.specs.Place.{standing_text}

-- what an error means
abbrev pub error_words : AmlCause → List ℕ
error_words cause.Unset = codes "an unset local, argument or element of a package is read"
error_words cause.Kind = codes "a value or an object of the wrong kind"
error_words cause.Divisor = codes "the second operand of Divide or Mod is zero"
error_words cause.Index = codes "an index at or past the end, an empty buffer made an integer, or a field outside its buffer"
error_words cause.Missing = codes "a name names nothing"
error_words cause.Outside = codes
    "an operator or a form that this program does not evaluate, or a call of a method whose body cannot be read: nothing need be wrong with the table"
error_words cause.Region = codes
    "a region, a field, an access or an address space that cannot be read and written here, or a unit outside its region"
error_words cause.NoValue =
    codes "a value is wanted of a call, and the method that is called gives none"
error_words cause.Depth = codes "a 65th method within the others"
error_words cause.Level =
    codes "a mutex is taken whose sync level is below that of one that is held"
error_words cause.NotHeld = codes
    "a mutex is released that is not the one which the method took last of those that it holds"
error_words cause.StillHeld = codes "a method ends while it holds a mutex"

-- an error and its place
unfoldable pub error_place : List ℕ → AmlError → List ℕ
error_place label error =
    joined (aml_cause_text error.cause ∷ codes ": " ∷ label ∷ codes ", byte " ∷ decimal error.at ∷ [])

-- the error, the file, the byte, what stands there, and what the error means
abbrev pub error_text : List (List ℕ) → Shown → AmlError → List ℕ
error_text names ns error =
    error_place (label_of names error.table) error
    ++ (standing_text (bytes_of ns.tables error.table) error.at
    ++ (codes ": " ++ error_words error.cause))

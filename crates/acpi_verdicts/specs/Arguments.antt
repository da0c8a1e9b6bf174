-- What is told of arguments that a method does not take.
use Rattle.std.specs.Prelude.{ℕ, List, [], ◌∷◌, codes, decimal}
use Rattle.acpi_text.specs.Text.{joined}
use Rattle.acpi_verdicts.specs.Findings.{kind_text}
use Rattle.aml_verify.specs.declared.accepts.Misfit.{Misfit}

-- an element of `--args` that is not of a kind, where integers have so many bits
unfoldable pub misfit_note : ℕ → Misfit → List ℕ
misfit_note bits misfit =
    joined (codes "element " ∷ decimal misfit.number ∷ codes " of --args is not of the kind "
    ∷ kind_text bits misfit.kind ∷ codes ", which the method takes there: see --kinds" ∷ [])

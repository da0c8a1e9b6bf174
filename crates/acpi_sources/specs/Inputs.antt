-- The tables that a command reads.
use Rattle.std.specs.Prelude.{ℕ, List, map, Result, Ok, Err, vec_items}
use Rattle.acpi_sources.specs.Files.{Answers, OpensAll, prepared}
use Rattle.acpi_sources.specs.declared.fault.Fault.{Fault}
use Rattle.acpi_sources.specs.declared.inputs.InputNames.{InputNames}
use Rattle.acpi_sources.specs.declared.inputs.Inputs.{Inputs}

-- the names of the files
abbrev pub file_names : InputNames → List (List ℕ)
file_names names = map (λ name. name.now) (vec_items names.files)

-- the tables that were read: the DSDT, and the SSDTs behind it
abbrev pub tables_of : Inputs → List (List ℕ)
tables_of inputs = map vec_items (vec_items inputs.files)

-- all are read that are named, in their order
abbrev pub OpensInputs : {F : Type 0} → Answers F → F → InputNames →
    Result Inputs Fault → F → Type 0
OpensInputs answers old names (Ok inputs) new =
    OpensAll (prepared names.dead_externals answers) old (file_names names)
    (Ok (tables_of inputs)) new
OpensInputs answers old names (Err f) new =
    OpensAll (prepared names.dead_externals answers) old (file_names names) (Err f) new

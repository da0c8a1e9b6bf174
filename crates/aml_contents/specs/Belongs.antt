-- Whether names are of just the kinds of which the data names of a namespace are.
use Rattle.std.specs.Prelude.{◌≡◌}
use Rattle.aml_namespace.specs.Load.{Shown}
use Rattle.aml_contents.specs.Contents.{ContentKinds}
use Rattle.aml_contents.specs.FirstContents.{first_kinds}

-- the kinds of what the names of the namespace hold first, name by name
abbrev pub Belong : Shown → ContentKinds → Type 0
Belong ns kinds = kinds ≡ first_kinds ns

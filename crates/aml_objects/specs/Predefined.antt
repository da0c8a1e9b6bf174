-- The names that stand at the root before any definition (ACPI 6.5, 5.3.1 and 5.7).
use Rattle.std.specs.Prelude.{ℕ, List, [], ◌∷◌, codes, map}
use Rattle.aml_lex.specs.declared.names.NameSeg.{NameSeg}
use Rattle.aml_objects.specs.declared.object.Entry.{Entry}
use Rattle.aml_objects.specs.declared.object.Entry.TheVariants.{Own}
use Rattle.aml_objects.specs.declared.object.Object.{Object}
use Rattle.aml_objects.specs.declared.object.Object.TheVariants as object
use Rattle.aml_objects.specs.declared.object.Content.TheVariants as content
use Rattle.aml_objects.specs.declared.object.Source.TheVariants as source
use Rattle.aml_paths.specs.Paths.{Path}
use Rattle.aml_objects.specs.Entries.{Entries}

-- a segment of these characters, and its object
abbrev pub predefined : List ℕ → Object → NameSeg × Object
predefined segment made = (record { bytes = segment }, made)

-- their order is that of their numbers; the text of `_OS_`, of so many bytes, is the caller's
abbrev pub predefined_objects : ℕ → List (NameSeg × Object)
predefined_objects os_length =
    predefined (codes "_GPE") object.Scope
    ∷ predefined (codes "_PR_") object.Scope
    ∷ predefined (codes "_SB_") object.Scope
    ∷ predefined (codes "_SI_") object.Scope
    ∷ predefined (codes "_TZ_") object.Scope
    ∷ predefined (codes "_REV")
    (object.Data (record { content = content.Integer; source = source.Revision }))
    ∷ predefined (codes "_OSI") object.OsInterfaces
    ∷ predefined (codes "_OS_")
    (object.Data (record { content = content.String os_length; source = source.OsName }))
    ∷ predefined (codes "_GL_") object.GlobalLock
    ∷ []

abbrev pub entry_of : NameSeg × Object → Path × Entry
entry_of e = (e.0.bytes ∷ [], Own e.1)

-- what stands at the root before any definition
abbrev pub predefined_entries : ℕ → Entries
predefined_entries os_length = map entry_of (predefined_objects os_length)

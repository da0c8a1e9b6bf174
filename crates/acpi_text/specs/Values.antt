-- Values, as they are printed.
use Rattle.std.specs.Prelude.{ℕ, List, [], ◌∷◌, ◌++◌, Option, Some, None, codes}
use Rattle.hex.specs.Hex.{encode_lower}
use Rattle.acpi_text.specs.Names.{object_text}
use Rattle.acpi_text.specs.Text.{joined, hex, escaped}
use Rattle.aml_values.specs.Values.{Value, Int, Buf, Str, Pkg, Element, Elements, Holds, Named, Unset, none, more}
use Rattle.aml_objects.specs.Entries.{Entries}
use Rattle.aml_paths.specs.declared.scope.ObjectId.{ObjectId}

-- these pieces with `, ` between each two
abbrev pub listed : List (List ℕ) → List ℕ
listed [] = []
listed (piece ∷ []) = piece
listed (piece ∷ next ∷ rest) = piece ++ (codes ", " ++ listed (next ∷ rest))

-- the bytes of a buffer in hex, `-` where there are none
abbrev pub bytes_text : List ℕ → List ℕ
bytes_text [] = codes "-"
bytes_text (b ∷ rest) = encode_lower (b ∷ rest)

-- what a name in a package names: the first path of that object, or nothing
abbrev pub named_text : Entries → Option ObjectId → List ℕ
named_text entries None = codes "unresolved"
named_text entries (Some id) = object_text entries id

unfoldable mutual
  -- a value: its kind, but for integers, and what it holds
  pub value_text : Entries → Value → List ℕ
  value_text entries (Int n) = codes "0x" ++ hex n
  value_text entries (Buf bytes) = codes "buffer " ++ bytes_text bytes
  value_text entries (Str characters) =
      joined (codes "string \"" ∷ escaped characters ∷ codes "\"" ∷ [])
  value_text entries (Pkg elements) =
      joined (codes "package [" ∷ listed (element_texts entries elements) ∷ codes "]" ∷ [])

  pub element_texts : Entries → Elements → List (List ℕ)
  element_texts entries none = []
  element_texts entries (more e es) = element_text entries e ∷ element_texts entries es

  pub element_text : Entries → Element → List ℕ
  element_text entries (Holds v) = value_text entries v
  element_text entries (Named object) = named_text entries object
  element_text entries Unset = codes "unset"

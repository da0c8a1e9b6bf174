-- Where the data of a name stands that a namespace keeps.
use Rattle.std.specs.Prelude.{◌≡◌, ◌≤◌, ℕ, List, Some, length, take}
use Rattle.aml_contents.specs.FirstContents.{data_in}
use Rattle.aml_literal_laws.specs.Laws.{TablesAreBytes}
use Rattle.aml_namespace.specs.Bodies.{bytes_of}
use Rattle.aml_namespace.specs.Load.{IsLoaded, Shown}
use Rattle.aml_namespace.specs.Made.{content_of}
use Rattle.aml_objects.specs.Entries.{object_at}
use Rattle.aml_objects.specs.declared.object.Content.{Content}
use Rattle.aml_objects.specs.declared.object.DataName.{DataName}
use Rattle.aml_objects.specs.declared.object.Object.TheVariants as object
use Rattle.aml_objects.specs.declared.object.Source.{Source}
use Rattle.aml_objects.specs.declared.object.Source.TheVariants as source
use Rattle.aml_operators.specs.Tree.{Tree, stop_of}
use Rattle.aml_tree.specs.Data.{IsData}
use Rattle.aml_tree.specs.declared.body.Span.{Span}

-- data stands in such a part of a table's bytes, of which is told what is told of the name; and it
-- is what the name's first content is made of
pub record StandsIn (bytes : List ℕ) (told : Content) (span : Span) : Type 0 where
  pub term : Tree
  pub read : IsData (take span.end bytes) span.at term
  pub ends : stop_of term ≡ span.end
  pub within : span.end ≤ length bytes
  pub content : content_of term ≡ told
  pub is : data_in bytes span ≡ term

-- where a table has it
abbrev pub StandsFrom : List (List ℕ) → Content → Source → Type 0
StandsFrom tables told (source.Term table span scope) = StandsIn (bytes_of tables table) told span
StandsFrom tables told from = Unit {0}

-- so it is of each data name of a namespace that was loaded from tables of bytes
abbrev pub DataStands : Type 0
DataStands =
    (tables : List (List ℕ)) (os : List ℕ) (ns : Shown) → IsLoaded tables os ns →
    TablesAreBytes tables →
    (i : ℕ) (d : DataName) → object_at ns.entries i ≡ Some (object.Data d) →
    StandsFrom ns.tables d.content d.source

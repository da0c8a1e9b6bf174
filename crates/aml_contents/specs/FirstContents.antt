-- What data names hold first (ACPI 6.5, 19.6, Name, Buffer and Package).
use Rattle.std.specs.Prelude.{◌-◌, ◌%◌, ◌^◌, ◌++◌, ◌&&◌, ℕ, zero, suc, List, [], map, length, take, replicate, nat_le, Option, Some, None, unwrap_or, Result, Ok, Err, if◌then◌else◌}
use Rattle.aml_lex.specs.Standing.{bytes_between}
use Rattle.aml_operators.specs.declared.op.Op.{Op}
use Rattle.aml_operators.specs.declared.op.Op.TheVariants as op
use Rattle.aml_operators.specs.Literal.{literal_in}
use Rattle.aml_operators.specs.Tree.{Tree, Trees, Node, none, more, stop_of}
use Rattle.aml_tree.specs.declared.body.Span.{Span}
use Rattle.aml_tree.specs.declared.fault.Refusal.{Refusal}
use Rattle.aml_tree.specs.Data.{data_at}
use Rattle.aml_objects.specs.declared.object.Content.{Content}
use Rattle.aml_objects.specs.declared.object.Content.TheVariants as content
use Rattle.aml_objects.specs.declared.object.Entry.{Entry}
use Rattle.aml_objects.specs.declared.object.Object.{Object}
use Rattle.aml_objects.specs.declared.object.Object.TheVariants as object
use Rattle.aml_paths.specs.declared.scope.ObjectId.{ObjectId}
use Rattle.aml_paths.specs.declared.scope.Scope.{Scope}
use Rattle.aml_objects.specs.declared.object.Source.{Source}
use Rattle.aml_objects.specs.declared.object.Source.TheVariants as source
use Rattle.aml_objects.specs.declared.width.Width.{Width}
use Rattle.aml_namespace.specs.Bodies.{bytes_of}
use Rattle.aml_objects.specs.Entries.{own_object}
use Rattle.aml_namespace.specs.Load.{Shown}
use Rattle.aml_namespace.specs.Made.{at_of, content_in}
use Rattle.aml_paths.specs.Paths.{Path}
use Rattle.aml_objects.specs.Settled.{named_at}
use Rattle.aml_objects.specs.Widths.{bits_of}
use Rattle.aml_values.specs.Values as value
use Rattle.aml_values.specs.Values.{Value, Int, Buf, Str, Pkg, Elements, Element, Holds, Named, Unset}
use Rattle.aml_contents.specs.Contents.{Contents, ContentKinds}
use Rattle.aml_contents.specs.FirstKinds.{first_kind, greatest_of}

-- so many bytes: the first of these, and zeros behind them
abbrev pub filled : ℕ → List ℕ → List ℕ
filled size bytes = take size bytes ++ replicate (size - length bytes) 0

-- so many elements: the first of these, and unset ones behind them
abbrev pub counted : ℕ → Elements → Elements
counted zero es = value.none
counted (suc n) value.none = value.more Unset (counted n value.none)
counted (suc n) (value.more e es) = value.more e (counted n es)

-- a value of which it is told what it is, made of a number modulo 2 to the width, of bytes or of
-- elements
abbrev pub value_told : Width → Content → ℕ → List ℕ → Elements → Value
value_told width content.Integer number bytes es = Int (number % 2 ^ bits_of width)
value_told width (content.Buffer size) number bytes es = Buf (filled size bytes)
value_told width (content.String size) number bytes es = Str (filled size bytes)
value_told width (content.Package size) number bytes es = Pkg (counted size es)

-- the bytes of the first of some parts
abbrev pub first_bytes : List ℕ → Trees → List ℕ
first_bytes bytes none = []
first_bytes bytes (more part rest) = bytes_between bytes (at_of part) (stop_of part)

-- the bytes of a buffer's initialiser, behind its size
abbrev pub initialiser_in : List ℕ → Trees → List ℕ
initialiser_in bytes none = []
initialiser_in bytes (more size rest) = first_bytes bytes rest

-- the characters of a string, behind which a 00 stands
abbrev pub text_in : List ℕ → Trees → List ℕ
text_in bytes none = []
text_in bytes (more text rest) = bytes_between bytes (at_of text) (stop_of text - 1)

-- the bytes of a buffer or of a string
abbrev pub bytes_in : List ℕ → Op → Trees → List ℕ
bytes_in bytes op.Buffer parts = initialiser_in bytes parts
bytes_in bytes op.String parts = text_in bytes parts
bytes_in bytes o parts = []

-- the number of an integer literal, and 0 of any other term
abbrev pub number_of : Op → Trees → ℕ
number_of o parts = unwrap_or (literal_in o parts) 0

-- an element is a name, with what it names, or a value
abbrev pub element_by : Op → Option ObjectId → Value → Element
element_by op.NameString named v = Named named
element_by o named v = Holds v

-- data in a table, whose names are looked up from a scope
module _ (ns : Shown) (table : ℕ) (scope : Scope) where
  -- what the name at a place names once all tables are loaded
  abbrev pub named : ℕ → Option ObjectId
  named at = named_at ns.tables ns.entries (record { table = table; at = at; scope = scope })

  -- the value of a term of which it is told what it is, made of its number, its bytes or these
  -- elements
  abbrev pub value_with : Content → Op → Trees → Elements → Value
  value_with told o parts es =
      value_told ns.width told (number_of o parts) (bytes_in (bytes_of ns.tables table) o parts) es

  -- the element that a term is, a package having these elements
  abbrev pub element_with : Op → ℕ → Trees → Elements → Element
  element_with o at parts es = element_by o (named at) (value_with (content_in o parts) o parts es)

  abbrev mutual
    pub element_in : Tree → Element
    element_in (Node o at stop parts) = element_with o at parts (elements_behind parts)

    pub elements_in : Trees → Elements
    elements_in none = value.none
    elements_in (more t ts) = value.more (element_in t) (elements_in ts)

    -- the elements of a package, behind their number
    pub elements_behind : Trees → Elements
    elements_behind none = value.none
    elements_behind (more size ts) = elements_in ts

  -- the value of a term of which it is told what it is, by its operator and its parts
  abbrev pub value_of : Content → Op → Trees → Value
  value_of told o parts = value_with told o parts (elements_behind parts)

  -- the elements of a package; no other data has any
  abbrev pub package_elements : Op → Trees → Elements
  package_elements op.Package parts = elements_behind parts
  package_elements op.VarPackage parts = elements_behind parts
  package_elements o parts = value.none

  abbrev pub value_in : Content → Tree → Value
  value_in told (Node o at stop parts) = value_with told o parts (package_elements o parts)

-- a term that was read, else Zero
abbrev pub term_or_zero : Result Tree Refusal → Tree
term_or_zero (Ok t) = t
term_or_zero (Err f) = Node op.Zero 0 0 none

-- the data that stands in a part of some bytes, else Zero
abbrev pub data_in : List ℕ → Span → Tree
data_in bytes span = if nat_le span.at span.end && nat_le span.end (length bytes)
    then term_or_zero (data_at (take span.end bytes) span.at) else Node op.Zero 0 0 none

-- the first content of which it is told what it is, by where it comes from
abbrev pub value_from : Shown → Content → Source → Value
value_from ns told source.Revision = value_told ns.width told 2 [] value.none
value_from ns told source.OsName = value_told ns.width told 0 ns.os value.none
value_from ns told (source.Term table span scope) =
    value_in ns table scope told (data_in (bytes_of ns.tables table) span)

-- what an object holds first, if it is a data name
abbrev pub first_content : Shown → Option Object → Option Value
first_content ns (Some (object.Data d)) = Some (value_from ns d.content d.source)
first_content ns o = None

-- what the data names of a namespace hold first
abbrev pub first_contents : Shown → Contents
first_contents ns = map (λ (e : Path × Entry). first_content ns (own_object e.1)) ns.entries

-- and of which kinds that is
abbrev pub first_kinds : Shown → ContentKinds
first_kinds ns = map (first_kind (greatest_of ns.width)) (first_contents ns)

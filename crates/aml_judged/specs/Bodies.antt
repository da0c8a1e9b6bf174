-- A method's body: its own names, and its statements one by one.
use Rattle.std.specs.Prelude.{◌++◌, ◌&&◌, not, ℕ, zero, suc, List, [], ◌∷◌, Option, Some, None, true, false, if◌then◌else◌, Bool}
use Rattle.aml_operators.specs.Tree.{Tree, Trees, Node, none, more}
use Rattle.aml_contents.specs.BodyData.{computed_size}
use Rattle.aml_contents.specs.FirstKinds.{name_kind}
use Rattle.aml_meaning.specs.declared.action.Action.{Action}
use Rattle.aml_meaning.specs.declared.action.Action.TheVariants.{Literal, Data}
use Rattle.aml_meaning.specs.Actions.{action}
use Rattle.aml_meaning.specs.Meaning.{at_of}
use Rattle.aml_kinds.specs.Kinds.{Kind, IntUpTo}
use Rattle.aml_contents.specs.Contents.{ContentKinds}
use Rattle.aml_meaning.specs.declared.definition.Definition.{Definition}
use Rattle.aml_meaning.specs.Definitions.{definition, is_own, source_of}
use Rattle.aml_judged.specs.Known.{greatest, Slot, These, Env}
use Rattle.aml_judged.specs.Judged.{NameKinds, step, Around, Rule, ◌>>=◌, goes}
use Rattle.aml_judged.specs.Judge.{stops, judged, judged_none_held}
use Rattle.aml_meaning.specs.declared.definition.Definition.TheVariants as makes
use Rattle.aml_judged.specs.Causes as cause
use Rattle.std.specs.Option.{option_map}
use Rattle.aml_operators.specs.Literal.{literal_of}
use Rattle.aml_namespace.specs.declared.link.Link.{Link}
use Rattle.aml_objects.specs.declared.object.CreatedFieldSize.{CreatedFieldSize}
use Rattle.aml_namespace.specs.declared.link.Link.TheVariants as link
use Rattle.aml_objects.specs.declared.object.CreatedFieldSize.TheVariants as size
use Rattle.aml_meaning.specs.declared.buffer_field.BufferField.{BufferField}
use Rattle.aml_meaning.specs.BufferFields.{made_buffer_field}
use Rattle.aml_meaning.specs.Owns.{field_at}

-- what is known of data names, where no own name was made
abbrev pub shared_only : ContentKinds → NameKinds
shared_only kinds = record { shared = kinds; owns = []; fields = [] }

-- what a statement at the top of a body makes: nothing, a name that holds what is of a kind, or a
-- field of a buffer
pub data Made : Type 0 where
  Nothing : Made
  Holding : (kind : Kind) → Made
  Field : (field : BufferField) → Made

-- with one own name more
abbrev pub grown_kinds : NameKinds → Made → NameKinds
grown_kinds kinds Nothing = kinds
grown_kinds kinds (Holding k) =
    record kinds { owns = kinds.owns ++ Some k ∷ []; fields = kinds.fields ++ None ∷ [] }
grown_kinds kinds (Field f) =
    record kinds { owns = kinds.owns ++ None ∷ []; fields = kinds.fields ++ Some f ∷ [] }

abbrev pub grown : Around → Made → Around
grown here k = record here { kinds = grown_kinds here.kinds k }

-- the kind of a Name's data
abbrev pub unless_computed : Around → Option ℕ → Kind → Rule Kind
unless_computed here None k = goes k
unless_computed here (Some from) k = stops here cause.OutsideProfile from

abbrev pub first_kind_by : Around → Action → ℕ → Trees → Rule Kind
first_kind_by here (Literal o) at ts = goes (IntUpTo (greatest here.width))
first_kind_by here (Data o) at ts =
    unless_computed here (computed_size o at ts)
    (name_kind (greatest here.width) (here.literal o ts))
first_kind_by here a at ts = stops here cause.OutsideProfile at

abbrev pub judged_data : Around → Tree → Rule Kind
judged_data here (Node o at stop ts) = do
  _ ← step
  first_kind_by here (action o) at ts

-- what a field of a buffer is of: a data name, also an own one that is no field itself
abbrev pub judged_own_source : Around → ℕ → ℕ → Option BufferField → Rule Link
judged_own_source here at k None = goes (link.Own k)
judged_own_source here at k (Some f) = stops here cause.OutsideProfile at

abbrev pub judged_source : Around → ℕ → Link → Rule Link
judged_source here at (link.Data id) = goes (link.Data id)
judged_source here at (link.Own k) = judged_own_source here at k (field_at here.kinds.fields k)
judged_source here at l = stops here cause.OutsideProfile at

-- a field of a buffer is made, where its source is a name, and its index and its size are integer
-- literals (own)
abbrev pub judged_field_made : Around → ℕ → Option ℕ → Option ℕ →
    Option CreatedFieldSize → Rule Made
judged_field_made here at (Some from) (Some index) (Some counted) = do
  source ← judged_source here at (here.link from)
  goes (Field (made_buffer_field here.width source counted index))
judged_field_made here at from index counted = stops here cause.OutsideProfile at

-- whether a definition makes an own name, by the place of its name: that is one segment without
-- prefix, and no own name has it yet
abbrev pub may_make : Around → ℕ → Bool
may_make here at = here.lone at && not (is_own (here.link at))

-- what a definition makes: its place is asked first
abbrev pub judged_made : Around → Definition → ℕ → Trees → Rule Made
judged_made here makes.Name at (more name (more held none)) = if may_make here (at_of name) then (do
  k ← judged_data here held
  goes (Holding k)) else stops here cause.LocalName at
judged_made here (makes.Field counted) at (more source (more index (more name none))) =
    if may_make here (at_of name)
    then judged_field_made here at (source_of source) (literal_of index) (Some counted)
    else stops here cause.LocalName at
judged_made here makes.CountedField at (more source (more index (more count (more name none)))) =
    if may_make here (at_of name)
    then judged_field_made here at (source_of source) (literal_of index)
    (option_map size.Bits (literal_of count))
    else stops here cause.LocalName at
judged_made here what at ts = stops here cause.OutsideProfile at

-- the statements at the top of a body
abbrev pub judged_stated : Around → Definition → Tree → Rule Made
judged_stated here makes.Nothing t = do
  _ ← judged here t
  goes Nothing
judged_stated here what (Node o at stop ts) = do
  _ ← step
  judged_made here what at ts

abbrev pub judged_statement : Around → Tree → Rule Made
judged_statement here (Node o at stop parts) =
    judged_stated here (definition o) (Node o at stop parts)

abbrev pub judged_body : Around → Trees → Rule (Unit {0})
judged_body here none = goes tt
judged_body here (more t ts) = do
  made ← judged_statement here t
  judged_body (grown here made) ts

-- a method: its statements, and then the body's end, where it counts: no mutex is held there, which
-- is told at the Method opcode
abbrev pub judged_method : Around → ℕ → Trees → Rule (Unit {0})
judged_method here opcode ts = do
  _ ← judged_body here ts
  judged_none_held here opcode

abbrev pub kind_slots : ℕ → List Kind → List Slot
kind_slots zero ks = []
kind_slots (suc n) [] = None ∷ kind_slots n []
kind_slots (suc n) (k ∷ ks) = Some k ∷ kind_slots n ks

-- what is known where a method begins, which holds no mutex
abbrev pub entry : List Kind → Env
entry ks = record {
  locals = kind_slots 8 [];
  args = kind_slots 7 ks;
  held = These [];
  counts = true;
  looped = false;
}

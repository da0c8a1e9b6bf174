-- What definitions add: entries behind those that are there, each sound, or a fault that stands in the table.
use Rattle.std.proofs.Common.{◌≡◌, ℕ, ◌≤◌, [], ◌∷◌, ◌++◌, length, Option, Some, None, Result, Ok, Err, true, refl, sym, ap, ◌∙◌, arith, append_assoc}
use Rattle.std.specs.Prelude.{is_some}
use Rattle.std.proofs.lemmas.List.{append-nil}
use Rattle.aml_lex.specs.NameStrings.{NameString}
use Rattle.aml_lex.specs.Standing.{HasBytes, name_there}
use Rattle.aml_lex.proofs.Fronts.{name_there_within}
use Rattle.aml_operators.specs.declared.op.Op.{Op}
use Rattle.aml_operators.specs.declared.op.Op.TheVariants as op
use Rattle.aml_operators.specs.declared.row.Code.TheVariants as code
use Rattle.aml_operators.specs.Shape.{AreShaped, GoBy, IsShaped, operator_of, part_letters}
use Rattle.aml_operators.specs.Tree.{Tree, Trees, Node, none, more, stop_of}
use Rattle.aml_tree.specs.Spelled.{AreSpelled, IsSpelled}
use Rattle.aml_objects.specs.declared.fault.LoadCause.{LoadCause}
use Rattle.aml_objects.specs.declared.fault.LoadRefusal.{LoadRefusal}
use Rattle.aml_objects.specs.declared.object.Entry.{Entry}
use Rattle.aml_objects.specs.declared.object.Entry.TheVariants.{Own, Alias}
use Rattle.aml_objects.specs.declared.object.CreatedFieldSize.{CreatedFieldSize}
use Rattle.aml_objects.specs.declared.object.Field.{Field}
use Rattle.aml_objects.specs.declared.object.Object.{Object}
use Rattle.aml_objects.specs.declared.object.Object.TheVariants as object
use Rattle.aml_objects.specs.declared.object.Through.{Through}
use Rattle.aml_namespace.specs.declared.fields.Cursor.{Cursor}
use Rattle.aml_paths.specs.Paths.{Path}
use Rattle.aml_objects.specs.Entries.{Entries}
use Rattle.aml_objects.specs.Enter.{Here, aliased, alias_of, entered, named_object, new_path, opened, scope_named, scope_of, told_at}
use Rattle.aml_namespace.specs.Define.{alias, all_defined, bank_fields, defined, field_entered, fields_from, flat, holding, index_fields, object_entered, region_fields, reopening, where_named}
use Rattle.aml_objects.specs.Fault.{◌>>=◌}
use Rattle.aml_namespace.specs.FieldLists.{behind, field_of}
use Rattle.aml_namespace.specs.Made.{Named, at_of, named, named_bits, named_buffer_field, named_data, named_method, named_mutex, named_region, object_of}

-- a method's body lies in its table
abbrev pub IsSoundObject : ℕ → ℕ → Object → Type 0
IsSoundObject table end (object.Method m) = (m.table ≡ table) × (m.body.at ≤ m.body.end) × (m.body.end ≤ end)
IsSoundObject table end o = Unit {0}

abbrev pub IsSound : ℕ → ℕ → Entry → Type 0
IsSound table end (Own o) = IsSoundObject table end o
IsSound table end (Alias id) = Unit {0}

abbrev pub AreSound : ℕ → ℕ → Entries → Type 0
AreSound table end [] = Unit {0}
AreSound table end (e ∷ es) = IsSound table end e.1 × AreSound table end es

-- an answer of definitions in a table with a number and so many bytes
abbrev pub Adds : ℕ → ℕ → Entries → Result Entries LoadRefusal → Type 0
Adds table end before (Ok after) = (added : Entries) × (after ≡ before ++ added) × AreSound table end added
Adds table end before (Err f) = (f.table ≡ table) × (f.at ≤ end)

module _ (table end : ℕ) where
  both_sound : (es fs : Entries) → AreSound table end es → AreSound table end fs → AreSound table end (es ++ fs)
  both_sound [] fs h g = g
  both_sound (e ∷ es) fs h g = (h.0, both_sound es fs h.1 g)

  -- nothing
  adds_nothing : (before : Entries) → Adds table end before (Ok before)
  adds_nothing before = ([], sym (append-nil before), tt)

  -- one behind the other
  adds_both : (before next : Entries) (answer : Result Entries LoadRefusal) → Adds table end before (Ok next) → Adds table end next answer → Adds table end before answer
  adds_both before next (Err f) h g = g
  adds_both before next (Ok after) h g =
      (h.0 ++ g.0, g.1 ∙ ap (λ (es : Entries). es ++ g.0) h.1 ∙ append_assoc before h.0 g.0, both_sound h.0 g.0 h.2 g.2)

  adds_then : (before : Entries) (first : Result Entries LoadRefusal) (next : Entries → Result Entries LoadRefusal) → Adds table end before first → ((es : Entries) → Adds table end es (next es)) → Adds table end before (first >>= next)
  adds_then before (Err f) next h g = h
  adds_then before (Ok es) next h g = adds_both before es (next es) h (g es)

  adds_one : (before : Entries) (path : Path) (entry : Entry) → IsSound table end entry → Adds table end before (Ok (before ++ (path, entry) ∷ []))
  adds_one before path entry h = ((path, entry) ∷ [], refl, (h, tt))

module _ (here : Here) where
  abbrev table : ℕ
  table = here.table

  abbrev end : ℕ
  end = length here.bytes

  -- a fault that is told at a place
  adds_told : {X : Type 0} (before : Entries) (at : ℕ) (checked : Result X LoadCause) (next : X → Result Entries LoadRefusal) → at ≤ end → ((x : X) → Adds table end before (next x)) → Adds table end before (told_at here at checked >>= next)
  adds_told before at (Err cause) next within h = (refl, within)
  adds_told before at (Ok x) next within h = h x

  adds_where : (before : Entries) (at : ℕ) (name : Option NameString) (makes : NameString → Result Entries LoadRefusal) → name_there here.bytes at ≡ name → (at ≤ end → (n : NameString) → Adds table end before (makes n)) → Adds table end before (where_named name before makes)
  adds_where before at None makes is h = adds_nothing table end before
  adds_where before at (Some n) makes is h =
      let within = name_there_within here.bytes at (let there : is_some (name_there here.bytes at) ≡ true = ap is_some is in there) in
      h (omega (arith, within)) n

  adds_named : (before : Entries) (at : ℕ) (makes : NameString → Result Entries LoadRefusal) → (at ≤ end → (n : NameString) → Adds table end before (makes n)) → Adds table end before (where_named (name_there here.bytes at) before makes)
  adds_named before at makes h = adds_where before at (name_there here.bytes at) makes refl h

  adds_entered : (before : Entries) (at : ℕ) (name : NameString) (entry : Entry) → at ≤ end → IsSound table end entry → Adds table end before (entered here before at name entry)
  adds_entered before at name entry within h = adds_told before at (new_path here before name) (λ path. Ok (before ++ (path, entry) ∷ [])) within (λ path. adds_one table end before path entry h)

  abbrev SoundNamed : Named → Type 0
  SoundNamed None = Unit {0}
  SoundNamed (Some (at, o)) = IsSoundObject table end o

  adds_object : (before : Entries) (made : Named) → SoundNamed made → Adds table end before (object_entered here before made)
  adds_object before None h = adds_nothing table end before
  adds_object before (Some (at, o)) h = adds_named before at (λ name. entered here before at name (Own o)) (λ within n. adds_entered before at n (Own o) within h)

  adds_field : (before : Entries) (made : Option (ℕ × Field)) → Adds table end before (field_entered here before made)
  adds_field before None = adds_nothing table end before
  adds_field before (Some (at, f)) = adds_object before (Some (at, object.Field f)) tt

  adds_fields : (way : Through) (cursor : Cursor) (before : Entries) (items : Trees) → Adds table end before (fields_from here way cursor before items)
  adds_fields way cursor before none = adds_nothing table end before
  adds_fields way cursor before (more item items) =
      adds_then table end before (field_entered here before (field_of way cursor item)) (λ es. fields_from here way (behind cursor item) es items) (adds_field before (field_of way cursor item)) (λ es. adds_fields way (behind cursor item) es items)

  adds_region_fields : (before : Entries) (parts : Trees) → Adds table end before (region_fields here before parts)
  adds_region_fields before (more region (more flags items)) = adds_fields _ _ before items
  adds_region_fields before (more region none) = adds_nothing table end before
  adds_region_fields before none = adds_nothing table end before

  adds_index_fields : (before : Entries) (parts : Trees) → Adds table end before (index_fields here before parts)
  adds_index_fields before (more index (more source (more flags items))) = adds_fields _ _ before items
  adds_index_fields before (more index (more source none)) = adds_nothing table end before
  adds_index_fields before (more index none) = adds_nothing table end before
  adds_index_fields before none = adds_nothing table end before

  adds_bank_fields : (before : Entries) (parts : Trees) → Adds table end before (bank_fields here before parts)
  adds_bank_fields before (more region (more bank (more value (more flags items)))) = adds_fields _ _ before items
  adds_bank_fields before (more region (more bank (more value none))) = adds_nothing table end before
  adds_bank_fields before (more region (more bank none)) = adds_nothing table end before
  adds_bank_fields before (more region none) = adds_nothing table end before
  adds_bank_fields before none = adds_nothing table end before

  adds_alias_of : (before : Entries) (source_at : ℕ) (source : NameString) (at : ℕ) (name : NameString) → source_at ≤ end → at ≤ end → Adds table end before (aliased here before source_at source at name)
  adds_alias_of before source_at source at name source_within within =
      adds_told before at (new_path here before name) (λ path. told_at here source_at (alias_of (named_object here before source)) >>= (λ id. Ok (before ++ (path, Alias id) ∷ []))) within
      (λ path. adds_told before source_at (alias_of (named_object here before source)) (λ id. Ok (before ++ (path, Alias id) ∷ [])) source_within (λ id. adds_one table end before path (Alias id) tt))

  adds_alias : (before : Entries) (parts : Trees) → Adds table end before (alias here before parts)
  adds_alias before (more source (more name none)) =
      adds_named before (at_of source) (λ s. where_named (name_there here.bytes (at_of name)) before (λ n. aliased here before (at_of source) s (at_of name) n))
      (λ source_within s. adds_named before (at_of name) (λ n. aliased here before (at_of source) s (at_of name) n) (λ within n. adds_alias_of before (at_of source) s (at_of name) n source_within within))
  adds_alias before (more source (more name (more other parts))) = adds_nothing table end before
  adds_alias before (more source none) = adds_nothing table end before
  adds_alias before none = adds_nothing table end before

  -- a method's body lies in the bytes
  body_within : (body : Tree) → operator_of body ≡ op.ByteList → IsSpelled here.bytes body → HasBytes here.bytes (at_of body) (stop_of body)
  body_within (Node o at stop parts) is spelled = rw is at (spelled.0)

  abbrev AreShapedParts : Op → Trees → Type 0
  AreShapedParts o parts = GoBy code.Module (part_letters o) parts × AreShaped code.Module parts

  sound_method : (at : ℕ) (parts : Trees) → AreShapedParts op.Method parts → AreSpelled here.bytes parts → SoundNamed (named_method here at parts)
  sound_method at (more name (more flags (more body none))) shaped spelled = let within = body_within body shaped.0.1.1 spelled.1.1.0 in (refl, within.0, within.1)
  sound_method at (more name (more flags (more body (more other parts)))) shaped spelled = tt
  sound_method at (more name (more flags none)) shaped spelled = tt
  sound_method at (more name none) shaped spelled = tt
  sound_method at none shaped spelled = tt

  sound_data : (parts : Trees) → SoundNamed (named_data here parts)
  sound_data (more name (more t none)) = tt
  sound_data (more name (more t (more other parts))) = tt
  sound_data (more name none) = tt
  sound_data none = tt

  sound_region : (parts : Trees) → SoundNamed (named_region parts)
  sound_region (more name (more space (more place (more length none)))) = tt
  sound_region (more name (more space (more place (more length (more other parts))))) = tt
  sound_region (more name (more space (more place none))) = tt
  sound_region (more name (more space none)) = tt
  sound_region (more name none) = tt
  sound_region none = tt

  sound_buffer_field : (size : CreatedFieldSize) (parts : Trees) → SoundNamed (named_buffer_field here size parts)
  sound_buffer_field size (more buffer (more index (more name none))) = tt
  sound_buffer_field size (more buffer (more index (more name (more other parts)))) = tt
  sound_buffer_field size (more buffer (more index none)) = tt
  sound_buffer_field size (more buffer none) = tt
  sound_buffer_field size none = tt

  sound_bits : (parts : Trees) → SoundNamed (named_bits here parts)
  sound_bits (more buffer (more index (more bits (more name none)))) = tt
  sound_bits (more buffer (more index (more bits (more name (more other parts))))) = tt
  sound_bits (more buffer (more index (more bits none))) = tt
  sound_bits (more buffer (more index none)) = tt
  sound_bits (more buffer none) = tt
  sound_bits none = tt

  sound_mutex : (parts : Trees) → SoundNamed (named_mutex parts)
  sound_mutex (more name (more flags none)) = tt
  sound_mutex (more name (more flags (more other parts))) = tt
  sound_mutex (more name none) = tt
  sound_mutex none = tt

  sound_named : (made : Object) (parts : Trees) → IsSoundObject table end made → SoundNamed (named made parts)
  sound_named made (more name rest) h = h
  sound_named made none h = tt

  sound_made : (o : Op) (at : ℕ) (parts : Trees) → AreShapedParts o parts → AreSpelled here.bytes parts → SoundNamed (object_of here o at parts)
  sound_made op.Name at parts shaped spelled = sound_data parts
  sound_made op.Method at parts shaped spelled = sound_method at parts shaped spelled
  sound_made op.Mutex at parts shaped spelled = sound_mutex parts
  sound_made op.Event at parts shaped spelled = sound_named object.Event parts tt
  sound_made op.DataTableRegion at parts shaped spelled = sound_named object.DataTableRegion parts tt
  sound_made op.OperationRegion at parts shaped spelled = sound_region parts
  sound_made op.CreateBitField at parts shaped spelled = sound_buffer_field _ parts
  sound_made op.CreateByteField at parts shaped spelled = sound_buffer_field _ parts
  sound_made op.CreateWordField at parts shaped spelled = sound_buffer_field _ parts
  sound_made op.CreateDWordField at parts shaped spelled = sound_buffer_field _ parts
  sound_made op.CreateQWordField at parts shaped spelled = sound_buffer_field _ parts
  sound_made op.CreateField at parts shaped spelled = sound_bits parts
  sound_made o at parts shaped spelled = tt

  adds_flat : (before : Entries) (o : Op) (at : ℕ) (parts : Trees) → AreShapedParts o parts → AreSpelled here.bytes parts → Adds table end before (flat here before o at parts)
  adds_flat before op.Alias at parts shaped spelled = adds_alias before parts
  adds_flat before op.Field at parts shaped spelled = adds_region_fields before parts
  adds_flat before op.IndexField at parts shaped spelled = adds_index_fields before parts
  adds_flat before op.BankField at parts shaped spelled = adds_bank_fields before parts
  adds_flat before o at parts shaped spelled = adds_object before (object_of here o at parts) (sound_made o at parts shaped spelled)

  adds_holding : (before : Entries) (made : Object) (name : Tree) (within : Here → Entries → Result Entries LoadRefusal) → IsSoundObject table end made → ((scope : ℕ) (es : Entries) → Adds table end es (within (record here { scope = scope }) es)) → Adds table end before (holding here before made name within)
  adds_holding before made name within sound h =
      adds_named before (at_of name) (λ n. entered here before (at_of name) n (Own made) >>= (λ es. within (record here { scope = length es }) es))
      (λ le n. adds_then table end before (entered here before (at_of name) n (Own made)) (λ es. within (record here { scope = length es }) es) (adds_entered before (at_of name) n (Own made) le sound) (λ es. h (length es) es))

  adds_reopening : (before : Entries) (name : Tree) (within : Here → Result Entries LoadRefusal) → ((scope : ℕ) → Adds table end before (within (record here { scope = scope }))) → Adds table end before (reopening here before name within)
  adds_reopening before name within h =
      adds_named before (at_of name) (λ n. opened here before (at_of name) n >>= (λ scope. within (record here { scope = scope })))
      (λ le n. adds_told before (at_of name) (scope_of (scope_named here before n)) (λ scope. within (record here { scope = scope })) le h)

mutual
  -- what a term makes
  pub adds_defined : (here : Here) (before : Entries) (t : Tree) → IsShaped code.Module t → IsSpelled here.bytes t → Adds here.table (length here.bytes) before (defined here before t)
  adds_defined here before (Node op.Scope at stop (more name body)) shaped spelled =
      adds_reopening here before name (λ inner. all_defined inner before body) (λ scope. adds_all (record here { scope = scope }) before body shaped.1.1 spelled.1.1)
  adds_defined here before (Node op.Device at stop (more name body)) shaped spelled =
      adds_holding here before object.Device name (λ inner es. all_defined inner es body) tt (λ scope es. adds_all (record here { scope = scope }) es body shaped.1.1 spelled.1.1)
  adds_defined here before (Node op.ThermalZone at stop (more name body)) shaped spelled =
      adds_holding here before object.ThermalZone name (λ inner es. all_defined inner es body) tt (λ scope es. adds_all (record here { scope = scope }) es body shaped.1.1 spelled.1.1)
  adds_defined here before (Node op.PowerResource at stop (more name (more level (more order body)))) shaped spelled =
      adds_holding here before object.PowerResource name (λ inner es. all_defined inner es body) tt (λ scope es. adds_all (record here { scope = scope }) es body shaped.1.1.1.1 spelled.1.1.1.1)
  adds_defined here before (Node op.Processor at stop (more name (more id (more block (more size body))))) shaped spelled =
      adds_holding here before object.Processor name (λ inner es. all_defined inner es body) tt (λ scope es. adds_all (record here { scope = scope }) es body shaped.1.1.1.1.1 spelled.1.1.1.1.1)
  adds_defined here before (Node o at stop parts) shaped spelled = adds_flat here before o at parts shaped spelled.1

  -- what terms make, one behind the other
  pub adds_all : (here : Here) (before : Entries) (ts : Trees) → AreShaped code.Module ts → AreSpelled here.bytes ts → Adds here.table (length here.bytes) before (all_defined here before ts)
  adds_all here before none shaped spelled = adds_nothing here.table (length here.bytes) before
  adds_all here before (more t ts) shaped spelled =
      adds_then here.table (length here.bytes) before (defined here before t) (λ es. all_defined here es ts) (adds_defined here before t shaped.0 spelled.0) (λ es. adds_all here es ts shaped.1 spelled.1)

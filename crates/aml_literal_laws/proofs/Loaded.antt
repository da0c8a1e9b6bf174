-- What a load keeps of data is right: it tells of no package of too many elements, and the data stands where it says.
use Rattle.std.proofs.Common.{◌≡◌, ◌+◌, ◌∙◌, ap, refl, arith, ℕ, suc, List, [], ◌∷◌, ◌++◌, length, map, Option, Some, None, Result, Ok, Err, subst, sym}
use Rattle.aml_lex.specs.NameStrings.{NameString}
use Rattle.aml_lex.specs.Standing.{name_there}
use Rattle.aml_operators.specs.declared.op.Op.{Op}
use Rattle.aml_operators.specs.declared.op.Op.TheVariants as op
use Rattle.aml_operators.specs.Tree.{Tree, Trees, Node, none, more, trees}
use Rattle.aml_paths.specs.Paths.{Path}
use Rattle.aml_paths.specs.declared.scope.NamePlace.{NamePlace}
use Rattle.aml_paths.specs.declared.scope.ObjectId.{ObjectId}
use Rattle.aml_objects.specs.declared.fault.LoadCause.{LoadCause}
use Rattle.aml_objects.specs.declared.fault.LoadRefusal.{LoadRefusal}
use Rattle.aml_objects.specs.declared.object.CreatedFieldSize.{CreatedFieldSize}
use Rattle.aml_objects.specs.declared.object.Entry.{Entry}
use Rattle.aml_objects.specs.declared.object.Entry.TheVariants.{Own, Alias}
use Rattle.aml_objects.specs.declared.object.Field.{Field}
use Rattle.aml_objects.specs.declared.object.Object.{Object}
use Rattle.aml_objects.specs.declared.object.Object.TheVariants as object
use Rattle.aml_objects.specs.declared.object.Through.{Through}
use Rattle.aml_objects.specs.Enter.{Here, aliased, alias_of, entered, named_object, new_path, opened, scope_named, scope_of, told_at}
use Rattle.aml_objects.specs.Entries.{Entries, own_object}
use Rattle.aml_objects.specs.Fault.{◌>>=◌}
use Rattle.aml_objects.specs.Predefined.{predefined_entries}
use Rattle.aml_objects.specs.Settled.{found_object, found_under, named_at}
use Rattle.aml_namespace.specs.Bodies.{bytes_of}
use Rattle.aml_namespace.specs.Define.{alias, all_defined, bank_fields, defined, field_entered, fields_from, flat, holding, index_fields, object_entered, region_fields, reopening, where_named}
use Rattle.aml_namespace.specs.FieldLists.{behind, field_of}
use Rattle.aml_namespace.specs.Load.{AllMake, IsLoaded, Shown, at_root}
use Rattle.aml_namespace.specs.Made.{Named, at_of, content_of, named, named_bits, named_buffer_field, named_data, named_method, named_mutex, named_region, object_of}
use Rattle.aml_judged.specs.Safe.{AreBytes}
use Rattle.aml_contents.proofs.FirstData.{data_there}
use Rattle.aml_operators.specs.Tree.{stop_of}
use Rattle.aml_literal_laws.specs.Stands.{StandsFrom, StandsIn}
use Rattle.aml_literal_laws.proofs.Placed.{ArePlaced, IsPlaced, PlacedBy, StandsAt, module_placed}
use Rattle.aml_literal_laws.proofs.Counted.{AreCounted, IsCounted, IsShort, module_counted}

module _ (tables : List (List ℕ)) where
  abbrev IsRightObject : Object → Type 0
  IsRightObject (object.Data d) = IsShort d.content × StandsFrom tables d.content d.source
  IsRightObject o = Unit {0}

  abbrev pub IsRightEntry : Entry → Type 0
  IsRightEntry (Own o) = IsRightObject o
  IsRightEntry (Alias id) = Unit {0}

  abbrev pub IsRightOption : Option Object → Type 0
  IsRightOption (Some o) = IsRightObject o
  IsRightOption None = Unit {0}

  pub option_right : (e : Entry) → IsRightEntry e → IsRightOption (own_object e)
  option_right (Own o) h = h
  option_right (Alias id) h = tt

  abbrev pub AreRight : Entries → Type 0
  AreRight [] = Unit {0}
  AreRight (e ∷ es) = IsRightEntry e.1 × AreRight es

  right_more : (es : Entries) (path : Path) (entry : Entry) → AreRight es → IsRightEntry entry → AreRight (es ++ (path, entry) ∷ [])
  right_more [] path entry h s = (s, tt)
  right_more (e ∷ es) path entry h s = (h.0, right_more es path entry h.1 s)

  -- an answer whose data is right, or a fault
  abbrev KeepsRight : Result Entries LoadRefusal → Type 0
  KeepsRight (Ok es) = AreRight es
  KeepsRight (Err f) = Unit {0}

  keeps_then : (first : Result Entries LoadRefusal) (next : Entries → Result Entries LoadRefusal) → KeepsRight first → ((es : Entries) → AreRight es → KeepsRight (next es)) → KeepsRight (first >>= next)
  keeps_then (Err f) next h g = tt
  keeps_then (Ok es) next h g = g es h

  keeps_told : {X : Type 0} (here : Here) (at : ℕ) (checked : Result X LoadCause) (next : X → Result Entries LoadRefusal) → ((x : X) → KeepsRight (next x)) → KeepsRight (told_at here at checked >>= next)
  keeps_told here at (Err cause) next h = tt
  keeps_told here at (Ok x) next h = h x

  keeps_where : (entries : Entries) (name : Option NameString) (makes : NameString → Result Entries LoadRefusal) → AreRight entries → ((n : NameString) → KeepsRight (makes n)) → KeepsRight (where_named name entries makes)
  keeps_where entries None makes right h = right
  keeps_where entries (Some n) makes right h = h n

  -- the object that a definition makes
  abbrev IsRightNamed : Named → Type 0
  IsRightNamed None = Unit {0}
  IsRightNamed (Some (at, o)) = IsRightObject o

  content_short : (t : Tree) → IsCounted t → IsShort (content_of t)
  content_short (Node o at stop parts) h = h.0

  -- a table's own bytes
  abbrev IsOfTable : Here → Type 0
  IsOfTable here = here.bytes ≡ bytes_of tables here.table

  stands : (bytes : List ℕ) (t : Tree) → StandsAt bytes t → StandsIn bytes (content_of t) (record { at = at_of t; end = stop_of t })
  stands bytes t h = record {
    term = t;
    read = h.0;
    ends = refl;
    within = h.2;
    content = refl;
    is = sym (data_there bytes (record { at = at_of t; end = stop_of t }) t (let lt = h.1 in omega (arith, lt)) h.2 h.0);
  }

  data_right : (here : Here) (parts : Trees) → AreCounted parts → PlacedBy here.bytes op.Name parts → IsOfTable here → IsRightNamed (named_data here parts)
  data_right here (more name (more t none)) c p is = (content_short t c.1.0, stands (bytes_of tables here.table) t (subst (λ l. StandsAt l t) is p))
  data_right here (more name (more t (more u ts))) c p is = tt
  data_right here (more name none) c p is = tt
  data_right here none c p is = tt

  method_right : (here : Here) (at : ℕ) (parts : Trees) → IsRightNamed (named_method here at parts)
  method_right here at (more name (more flags (more body none))) = tt
  method_right here at (more name (more flags (more body (more t ts)))) = tt
  method_right here at (more name (more flags none)) = tt
  method_right here at (more name none) = tt
  method_right here at none = tt

  region_right : (parts : Trees) → IsRightNamed (named_region parts)
  region_right (more name (more space (more place (more length none)))) = tt
  region_right (more name (more space (more place (more length (more t ts))))) = tt
  region_right (more name (more space (more place none))) = tt
  region_right (more name (more space none)) = tt
  region_right (more name none) = tt
  region_right none = tt

  mutex_right : (parts : Trees) → IsRightNamed (named_mutex parts)
  mutex_right (more name (more flags none)) = tt
  mutex_right (more name (more flags (more t ts))) = tt
  mutex_right (more name none) = tt
  mutex_right none = tt

  field_right : (here : Here) (size : CreatedFieldSize) (parts : Trees) → IsRightNamed (named_buffer_field here size parts)
  field_right here size (more buffer (more index (more name none))) = tt
  field_right here size (more buffer (more index (more name (more t ts)))) = tt
  field_right here size (more buffer (more index none)) = tt
  field_right here size (more buffer none) = tt
  field_right here size none = tt

  bits_right : (here : Here) (parts : Trees) → IsRightNamed (named_bits here parts)
  bits_right here (more buffer (more index (more bits (more name none)))) = tt
  bits_right here (more buffer (more index (more bits (more name (more t ts))))) = tt
  bits_right here (more buffer (more index (more bits none))) = tt
  bits_right here (more buffer (more index none)) = tt
  bits_right here (more buffer none) = tt
  bits_right here none = tt

  -- an object that is no data
  other_right : (o : Object) (parts : Trees) → IsRightObject o → IsRightNamed (named o parts)
  other_right o (more name rest) h = h
  other_right o none h = tt

  object_right : (here : Here) (o : Op) (at : ℕ) (parts : Trees) → AreCounted parts → PlacedBy here.bytes o parts → IsOfTable here → IsRightNamed (object_of here o at parts)
  object_right here op.Name at parts c p is = data_right here parts c p is
  object_right here op.Method at parts c p is = method_right here at parts
  object_right here op.Mutex at parts c p is = mutex_right parts
  object_right here op.Event at parts c p is = other_right object.Event parts tt
  object_right here op.DataTableRegion at parts c p is = other_right object.DataTableRegion parts tt
  object_right here op.OperationRegion at parts c p is = region_right parts
  object_right here op.CreateBitField at parts c p is = field_right here _ parts
  object_right here op.CreateByteField at parts c p is = field_right here _ parts
  object_right here op.CreateWordField at parts c p is = field_right here _ parts
  object_right here op.CreateDWordField at parts c p is = field_right here _ parts
  object_right here op.CreateQWordField at parts c p is = field_right here _ parts
  object_right here op.CreateField at parts c p is = bits_right here parts
  object_right here o at parts c p is = tt

  module _ (here : Here) where
    keeps_entered : (entries : Entries) (at : ℕ) (name : NameString) (entry : Entry) → AreRight entries → IsRightEntry entry → KeepsRight (entered here entries at name entry)
    keeps_entered entries at name entry right s =
        keeps_told here at (new_path here entries name) (λ path. Ok (entries ++ (path, entry) ∷ [])) (λ path. right_more entries path entry right s)

    keeps_object : (entries : Entries) (made : Named) → AreRight entries → IsRightNamed made → KeepsRight (object_entered here entries made)
    keeps_object entries None right s = right
    keeps_object entries (Some (at, o)) right s =
        keeps_where entries (name_there here.bytes at) (λ name. entered here entries at name (Own o)) right (λ n. keeps_entered entries at n (Own o) right s)

    keeps_field : (entries : Entries) (made : Option (ℕ × Field)) → AreRight entries → KeepsRight (field_entered here entries made)
    keeps_field entries None right = right
    keeps_field entries (Some (at, f)) right = keeps_object entries (Some (at, object.Field f)) right tt

    keeps_fields : (way : Through) (cursor : _) (entries : Entries) (items : Trees) → AreRight entries → KeepsRight (fields_from here way cursor entries items)
    keeps_fields way cursor entries none right = right
    keeps_fields way cursor entries (more item items) right =
        keeps_then (field_entered here entries (field_of way cursor item)) (λ es. fields_from here way (behind cursor item) es items) (keeps_field entries (field_of way cursor item) right) (λ es h. keeps_fields way (behind cursor item) es items h)

    keeps_region_fields : (entries : Entries) (parts : Trees) → AreRight entries → KeepsRight (region_fields here entries parts)
    keeps_region_fields entries (more region (more flags items)) right = keeps_fields _ _ entries items right
    keeps_region_fields entries (more region none) right = right
    keeps_region_fields entries none right = right

    keeps_index_fields : (entries : Entries) (parts : Trees) → AreRight entries → KeepsRight (index_fields here entries parts)
    keeps_index_fields entries (more index (more source (more flags items))) right = keeps_fields _ _ entries items right
    keeps_index_fields entries (more index (more source none)) right = right
    keeps_index_fields entries (more index none) right = right
    keeps_index_fields entries none right = right

    keeps_bank_fields : (entries : Entries) (parts : Trees) → AreRight entries → KeepsRight (bank_fields here entries parts)
    keeps_bank_fields entries (more region (more bank (more value (more flags items)))) right = keeps_fields _ _ entries items right
    keeps_bank_fields entries (more region (more bank (more value none))) right = right
    keeps_bank_fields entries (more region (more bank none)) right = right
    keeps_bank_fields entries (more region none) right = right
    keeps_bank_fields entries none right = right

    keeps_alias_of : (entries : Entries) (source_at : ℕ) (source : NameString) (at : ℕ) (name : NameString) → AreRight entries → KeepsRight (aliased here entries source_at source at name)
    keeps_alias_of entries source_at source at name right =
        keeps_told here at (new_path here entries name) (λ path. told_at here source_at (alias_of (named_object here entries source)) >>= (λ id. Ok (entries ++ (path, Alias id) ∷ [])))
        (λ path. keeps_told here source_at (alias_of (named_object here entries source)) (λ id. Ok (entries ++ (path, Alias id) ∷ []))
        (λ id. right_more entries path (Alias id) right tt))

    keeps_alias : (entries : Entries) (parts : Trees) → AreRight entries → KeepsRight (alias here entries parts)
    keeps_alias entries (more source (more name none)) right =
        keeps_where entries (name_there here.bytes (at_of source)) (λ s. where_named (name_there here.bytes (at_of name)) entries (λ n. aliased here entries (at_of source) s (at_of name) n)) right
        (λ s. keeps_where entries (name_there here.bytes (at_of name)) (λ n. aliased here entries (at_of source) s (at_of name) n) right (λ n. keeps_alias_of entries (at_of source) s (at_of name) n right))
    keeps_alias entries (more source (more name (more other parts))) right = right
    keeps_alias entries (more source none) right = right
    keeps_alias entries none right = right

    keeps_flat : (entries : Entries) (o : Op) (at : ℕ) (parts : Trees) → AreCounted parts → PlacedBy here.bytes o parts → IsOfTable here → AreRight entries → KeepsRight (flat here entries o at parts)
    keeps_flat entries op.Alias at parts c p is right = keeps_alias entries parts right
    keeps_flat entries op.Field at parts c p is right = keeps_region_fields entries parts right
    keeps_flat entries op.IndexField at parts c p is right = keeps_index_fields entries parts right
    keeps_flat entries op.BankField at parts c p is right = keeps_bank_fields entries parts right
    keeps_flat entries o at parts c p is right = keeps_object entries (object_of here o at parts) right (object_right here o at parts c p is)

    keeps_holding : (entries : Entries) (made : Object) (name : Tree) (within : Here → Entries → Result Entries LoadRefusal) → AreRight entries → IsRightObject made → ((scope : ℕ) (es : Entries) → AreRight es → KeepsRight (within (record here { scope = scope }) es)) → KeepsRight (holding here entries made name within)
    keeps_holding entries made name within right s h =
        keeps_where entries (name_there here.bytes (at_of name)) (λ n. entered here entries (at_of name) n (Own made) >>= (λ es. within (record here { scope = length es }) es)) right
        (λ n. keeps_then (entered here entries (at_of name) n (Own made)) (λ es. within (record here { scope = length es }) es) (keeps_entered entries (at_of name) n (Own made) right s) (λ es g. h (length es) es g))

    keeps_reopening : (entries : Entries) (name : Tree) (within : Here → Result Entries LoadRefusal) → AreRight entries → ((scope : ℕ) → KeepsRight (within (record here { scope = scope }))) → KeepsRight (reopening here entries name within)
    keeps_reopening entries name within right h =
        keeps_where entries (name_there here.bytes (at_of name)) (λ n. opened here entries (at_of name) n >>= (λ scope. within (record here { scope = scope }))) right
        (λ n. keeps_told here (at_of name) (scope_of (scope_named here entries n)) (λ scope. within (record here { scope = scope })) (λ scope. h scope))

  mutual
    keeps_defined : (here : Here) (entries : Entries) (t : Tree) → IsCounted t → IsPlaced here.bytes t → IsOfTable here → AreRight entries → KeepsRight (defined here entries t)
    keeps_defined here entries (Node op.Scope at stop (more name body)) c p is right = keeps_reopening here entries name (λ inner. all_defined inner entries body) right (λ scope. keeps_all (record here { scope = scope }) entries body c.1.1 p.1.1 is right)
    keeps_defined here entries (Node op.Device at stop (more name body)) c p is right = keeps_holding here entries object.Device name (λ inner es. all_defined inner es body) right tt (λ scope es h. keeps_all (record here { scope = scope }) es body c.1.1 p.1.1 is h)
    keeps_defined here entries (Node op.ThermalZone at stop (more name body)) c p is right = keeps_holding here entries object.ThermalZone name (λ inner es. all_defined inner es body) right tt (λ scope es h. keeps_all (record here { scope = scope }) es body c.1.1 p.1.1 is h)
    keeps_defined here entries (Node op.PowerResource at stop (more name (more level (more order body)))) c p is right = keeps_holding here entries object.PowerResource name (λ inner es. all_defined inner es body) right tt (λ scope es h. keeps_all (record here { scope = scope }) es body c.1.1.1.1 p.1.1.1.1 is h)
    keeps_defined here entries (Node op.Processor at stop (more name (more id (more block (more size body))))) c p is right = keeps_holding here entries object.Processor name (λ inner es. all_defined inner es body) right tt (λ scope es h. keeps_all (record here { scope = scope }) es body c.1.1.1.1.1 p.1.1.1.1.1 is h)
    keeps_defined here entries (Node o at stop parts) c p is right = keeps_flat here entries o at parts c.1 p.0 is right

    keeps_all : (here : Here) (entries : Entries) (ts : Trees) → AreCounted ts → ArePlaced here.bytes ts → IsOfTable here → AreRight entries → KeepsRight (all_defined here entries ts)
    keeps_all here entries none c p is right = right
    keeps_all here entries (more t ts) c p is right = keeps_then (defined here entries t) (λ es. all_defined here es ts) (keeps_defined here entries t c.0 p.0 is right) (λ es h. keeps_all here es ts c.1 p.1 is h)

  -- tables that are numbered from n on
  tables_right : (n : ℕ) (rest : List (List ℕ)) (before after : Entries) → ((i : ℕ) → AreBytes (bytes_of tables i)) → ((i : ℕ) → bytes_of rest i ≡ bytes_of tables (n + i)) → AllMake n rest before after → AreRight before → AreRight after
  tables_right n [] before after are same made right = subst AreRight made right
  tables_right n (bytes ∷ rest) before after are same made right =
      let first : n + 0 ≡ n = omega arith in
      let is : bytes ≡ bytes_of tables n = same 0 ∙ ap (bytes_of tables) first in
      let further : (i : ℕ) → bytes_of rest i ≡ bytes_of tables (suc n + i) = (λ i. let next : n + suc i ≡ suc n + i = omega arith in same (suc i) ∙ ap (bytes_of tables) next) in
      let counted = module_counted bytes made.1.terms (subst AreBytes (sym is) (are n)) made.1.module_of in
      tables_right (suc n) rest made.0 after are further made.2
      (subst KeepsRight made.1.makes (keeps_all (at_root n bytes) before (trees made.1.terms) counted (module_placed bytes made.1.terms made.1.module_of) is right))

  predefined_right : (os_length : ℕ) → AreRight (predefined_entries os_length)
  predefined_right os_length = (tt, (tt, (tt, (tt, (tt, ((tt, tt), (tt, ((tt, tt), (tt, tt)))))))))

-- what objects name changes no data
module _ (tables : List (List ℕ)) (find : NamePlace → Option ObjectId) where
  found_right : (o : Object) → IsRightObject tables o → IsRightObject tables (found_object find o)
  found_right (object.Field f) h = tt
  found_right (object.BufferField f) h = tt
  found_right o h = h

  all_found_right : (es : Entries) → AreRight tables es → AreRight tables (map (found_under find) es)
  all_found_right [] h = tt
  all_found_right ((path, Own o) ∷ es) h = (found_right o h.0, all_found_right es h.1)
  all_found_right ((path, Alias id) ∷ es) h = (tt, all_found_right es h.1)

-- the data of a namespace that was loaded from tables of bytes
pub loaded_right : (tables : List (List ℕ)) (os : List ℕ) (ns : Shown) → IsLoaded tables os ns → ((i : ℕ) → AreBytes (bytes_of tables i)) → AreRight tables ns.entries
loaded_right tables os ns loaded are =
    subst (AreRight tables) (sym loaded.entries_are)
    (all_found_right tables (named_at tables loaded.made) loaded.made (tables_right tables 0 tables (predefined_entries (length os)) loaded.made are (λ i. let whole : i ≡ 0 + i = omega arith in ap (bytes_of tables) whole) loaded.makes (predefined_right tables (length os))))

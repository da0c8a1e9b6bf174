-- No path stands twice: each definition's path is new.
use Rattle.std.proofs.Common.{◌≡◌, ℕ, zero, suc, ◌⊎◌, inl, inr, List, [], ◌∷◌, ◌++◌, length, slice_get, Option, Some, None, Result, Ok, Err, Bool, true, false, refl, sym, ap, ◌∙◌, subst}
use Rattle.std.specs.Prelude.{cond, is_none, is_some, nat_le, option_and_then}
use Rattle.std.proofs.lemmas.List.{map_push}
use Rattle.aml_lex.specs.NameStrings.{NameString}
use Rattle.aml_lex.specs.Standing.{name_there}
use Rattle.aml_operators.specs.declared.op.Op.{Op}
use Rattle.aml_operators.specs.declared.op.Op.TheVariants as op
use Rattle.aml_operators.specs.Tree.{Tree, Trees, Node, none, more, trees}
use Rattle.std.proofs.lemmas.Option.{same_Some}
use Rattle.aml_objects.specs.declared.fault.LoadCause.{LoadCause}
use Rattle.aml_objects.specs.declared.fault.LoadCause.TheVariants.{Duplicate, ScopeMissing, TooMany}
use Rattle.aml_objects.specs.declared.fault.LoadRefusal.{LoadRefusal}
use Rattle.aml_objects.specs.declared.object.Entry.{Entry}
use Rattle.aml_objects.specs.declared.object.Entry.TheVariants.{Own, Alias}
use Rattle.aml_objects.specs.declared.object.Field.{Field}
use Rattle.aml_objects.specs.declared.object.Object.{Object}
use Rattle.aml_objects.specs.declared.object.Object.TheVariants as object
use Rattle.aml_objects.specs.declared.object.Through.{Through}
use Rattle.aml_namespace.specs.declared.fields.Cursor.{Cursor}
use Rattle.aml_paths.specs.Paths.{Path, root, path_number, AreDistinct}
use Rattle.aml_objects.specs.Entries.{Entries, number_of, paths_in, scope_opened}
use Rattle.aml_paths.specs.Resolve.{spelled}
use Rattle.aml_objects.specs.Enter.{Here, aliased, alias_of, entered, greatest_count, made_path, named_object, new_path, opened, parent_of, scope_named, scope_of, scope_path, told_at}
use Rattle.aml_namespace.specs.Define.{alias, all_defined, bank_fields, defined, field_entered, fields_from, flat, holding, index_fields, object_entered, region_fields, reopening, where_named}
use Rattle.aml_objects.specs.Fault.{◌>>=◌}
use Rattle.aml_namespace.specs.FieldLists.{behind, field_of}
use Rattle.aml_namespace.specs.Load.{AllMake, at_root}
use Rattle.aml_namespace.specs.Made.{Named, at_of, object_of}
use Rattle.aml_objects.specs.Predefined.{predefined_entries}
use Rattle.aml_paths.proofs.PathNumbers.{path_number_new, path_number_stays}
use Rattle.aml_paths.proofs.Positions.{slice_get_push}

-- one more path, which is new
distinct_of : (paths : List Path) (new path : Path) (i : ℕ) → AreDistinct paths → path_number paths new ≡ None → (slice_get paths i ≡ Some path) ⊎ ((i ≡ length paths) × (path ≡ new)) → path_number (paths ++ new ∷ []) path ≡ Some i
distinct_of paths new path i distinct absent (inl is) = path_number_stays paths new path i (distinct i path is)
distinct_of paths new path i distinct absent (inr last) = ap (path_number (paths ++ new ∷ [])) last.1 ∙ path_number_new paths new absent ∙ ap Some (sym last.0)

distinct_more : (paths : List Path) (new : Path) → AreDistinct paths → path_number paths new ≡ None → AreDistinct (paths ++ new ∷ [])
distinct_more paths new distinct absent i path is = distinct_of paths new path i distinct absent (slice_get_push paths new i path is)

abbrev Apart : Entries → Type 0
Apart entries = AreDistinct (paths_in entries)

apart_more : (entries : Entries) (path : Path) (entry : Entry) → Apart entries → number_of entries path ≡ None → Apart (entries ++ (path, entry) ∷ [])
apart_more entries path entry apart new =
    subst AreDistinct (sym (ap (λ (paths : List Path). root ∷ paths) (map_push (λ (e : Path × Entry). e.0) entries (path, entry)))) (distinct_more (paths_in entries) path apart new)

-- an answer whose paths are apart, or a fault
abbrev KeepsApart : Result Entries LoadRefusal → Type 0
KeepsApart (Ok entries) = Apart entries
KeepsApart (Err f) = Unit {0}

keeps_then : (first : Result Entries LoadRefusal) (next : Entries → Result Entries LoadRefusal) → KeepsApart first → ((es : Entries) → Apart es → KeepsApart (next es)) → KeepsApart (first >>= next)
keeps_then (Err f) next h g = tt
keeps_then (Ok es) next h g = g es h

keeps_told : {X : Type 0} (here : Here) (at : ℕ) (checked : Result X LoadCause) (next : X → Result Entries LoadRefusal) → ((x : X) → checked ≡ Ok x → KeepsApart (next x)) → KeepsApart (told_at here at checked >>= next)
keeps_told here at (Err cause) next h = tt
keeps_told here at (Ok x) next h = h x refl

keeps_where : (entries : Entries) (name : Option NameString) (makes : NameString → Result Entries LoadRefusal) → Apart entries → ((n : NameString) → KeepsApart (makes n)) → KeepsApart (where_named name entries makes)
keeps_where entries None makes apart h = apart
keeps_where entries (Some n) makes apart h = h n

-- a path that is made is new
decided_new : (number : Option ℕ) (shut full : Bool) (path made : Path) → cond (is_some number) (Err Duplicate) (cond shut (Err ScopeMissing) (cond full (Err TooMany) (Ok path))) ≡ Ok made → (number ≡ None) × (path ≡ made)
decided_new (Some n) shut full path made is = absurd cc
decided_new None true full path made is = absurd cc
decided_new None false true path made is = absurd cc
decided_new None false false path made is = (refl, cc)

made_new : (entries : Entries) (path : Option Path) (made : Path) → made_path entries path ≡ Ok made → number_of entries made ≡ None
made_new entries None made is = absurd cc
made_new entries (Some []) made is = absurd cc
made_new entries (Some (s ∷ path)) made is =
    let whole = s ∷ path in
    let new = decided_new (number_of entries whole) (is_none (option_and_then (scope_opened entries) (number_of entries (parent_of whole)))) (nat_le greatest_count (length entries)) whole made is in
    ap (number_of entries) (sym new.1) ∙ new.0

module _ (here : Here) where
  keeps_entered : (entries : Entries) (at : ℕ) (name : NameString) (entry : Entry) → Apart entries → KeepsApart (entered here entries at name entry)
  keeps_entered entries at name entry apart =
      keeps_told here at (new_path here entries name) (λ path. Ok (entries ++ (path, entry) ∷ []))
      (λ path is. apart_more entries path entry apart (made_new entries (spelled (scope_path here entries) name) path is))

  keeps_object : (entries : Entries) (made : Named) → Apart entries → KeepsApart (object_entered here entries made)
  keeps_object entries None apart = apart
  keeps_object entries (Some (at, o)) apart =
      keeps_where entries (name_there here.bytes at) (λ name. entered here entries at name (Own o)) apart (λ n. keeps_entered entries at n (Own o) apart)

  keeps_field : (entries : Entries) (made : Option (ℕ × Field)) → Apart entries → KeepsApart (field_entered here entries made)
  keeps_field entries None apart = apart
  keeps_field entries (Some (at, f)) apart = keeps_object entries (Some (at, object.Field f)) apart

  keeps_fields : (way : Through) (cursor : Cursor) (entries : Entries) (items : Trees) → Apart entries → KeepsApart (fields_from here way cursor entries items)
  keeps_fields way cursor entries none apart = apart
  keeps_fields way cursor entries (more item items) apart =
      keeps_then (field_entered here entries (field_of way cursor item)) (λ es. fields_from here way (behind cursor item) es items) (keeps_field entries (field_of way cursor item) apart) (λ es h. keeps_fields way (behind cursor item) es items h)

  keeps_region_fields : (entries : Entries) (parts : Trees) → Apart entries → KeepsApart (region_fields here entries parts)
  keeps_region_fields entries (more region (more flags items)) apart = keeps_fields _ _ entries items apart
  keeps_region_fields entries (more region none) apart = apart
  keeps_region_fields entries none apart = apart

  keeps_index_fields : (entries : Entries) (parts : Trees) → Apart entries → KeepsApart (index_fields here entries parts)
  keeps_index_fields entries (more index (more source (more flags items))) apart = keeps_fields _ _ entries items apart
  keeps_index_fields entries (more index (more source none)) apart = apart
  keeps_index_fields entries (more index none) apart = apart
  keeps_index_fields entries none apart = apart

  keeps_bank_fields : (entries : Entries) (parts : Trees) → Apart entries → KeepsApart (bank_fields here entries parts)
  keeps_bank_fields entries (more region (more bank (more value (more flags items)))) apart = keeps_fields _ _ entries items apart
  keeps_bank_fields entries (more region (more bank (more value none))) apart = apart
  keeps_bank_fields entries (more region (more bank none)) apart = apart
  keeps_bank_fields entries (more region none) apart = apart
  keeps_bank_fields entries none apart = apart

  keeps_alias_of : (entries : Entries) (source_at : ℕ) (source : NameString) (at : ℕ) (name : NameString) → Apart entries → KeepsApart (aliased here entries source_at source at name)
  keeps_alias_of entries source_at source at name apart =
      keeps_told here at (new_path here entries name) (λ path. told_at here source_at (alias_of (named_object here entries source)) >>= (λ id. Ok (entries ++ (path, Alias id) ∷ [])))
      (λ path is. keeps_told here source_at (alias_of (named_object here entries source)) (λ id. Ok (entries ++ (path, Alias id) ∷ []))
      (λ id there. apart_more entries path (Alias id) apart (made_new entries (spelled (scope_path here entries) name) path is)))

  keeps_alias : (entries : Entries) (parts : Trees) → Apart entries → KeepsApart (alias here entries parts)
  keeps_alias entries (more source (more name none)) apart =
      keeps_where entries (name_there here.bytes (at_of source)) (λ s. where_named (name_there here.bytes (at_of name)) entries (λ n. aliased here entries (at_of source) s (at_of name) n)) apart
      (λ s. keeps_where entries (name_there here.bytes (at_of name)) (λ n. aliased here entries (at_of source) s (at_of name) n) apart (λ n. keeps_alias_of entries (at_of source) s (at_of name) n apart))
  keeps_alias entries (more source (more name (more other parts))) apart = apart
  keeps_alias entries (more source none) apart = apart
  keeps_alias entries none apart = apart

  keeps_flat : (entries : Entries) (o : Op) (at : ℕ) (parts : Trees) → Apart entries → KeepsApart (flat here entries o at parts)
  keeps_flat entries op.Alias at parts apart = keeps_alias entries parts apart
  keeps_flat entries op.Field at parts apart = keeps_region_fields entries parts apart
  keeps_flat entries op.IndexField at parts apart = keeps_index_fields entries parts apart
  keeps_flat entries op.BankField at parts apart = keeps_bank_fields entries parts apart
  keeps_flat entries o at parts apart = keeps_object entries (object_of here o at parts) apart

  keeps_holding : (entries : Entries) (made : Object) (name : Tree) (within : Here → Entries → Result Entries LoadRefusal) → Apart entries → ((inner : Here) (es : Entries) → Apart es → KeepsApart (within inner es)) → KeepsApart (holding here entries made name within)
  keeps_holding entries made name within apart h =
      keeps_where entries (name_there here.bytes (at_of name)) (λ n. entered here entries (at_of name) n (Own made) >>= (λ es. within (record here { scope = length es }) es)) apart
      (λ n. keeps_then (entered here entries (at_of name) n (Own made)) (λ es. within (record here { scope = length es }) es) (keeps_entered entries (at_of name) n (Own made) apart) (λ es g. h (record here { scope = length es }) es g))

  keeps_reopening : (entries : Entries) (name : Tree) (within : Here → Result Entries LoadRefusal) → Apart entries → ((inner : Here) → KeepsApart (within inner)) → KeepsApart (reopening here entries name within)
  keeps_reopening entries name within apart h =
      keeps_where entries (name_there here.bytes (at_of name)) (λ n. opened here entries (at_of name) n >>= (λ scope. within (record here { scope = scope }))) apart
      (λ n. keeps_told here (at_of name) (scope_of (scope_named here entries n)) (λ scope. within (record here { scope = scope })) (λ scope there. h (record here { scope = scope })))

mutual
  keeps_defined : (here : Here) (entries : Entries) (t : Tree) → Apart entries → KeepsApart (defined here entries t)
  keeps_defined here entries (Node op.Scope at stop (more name body)) apart = keeps_reopening here entries name (λ inner. all_defined inner entries body) apart (λ inner. keeps_all inner entries body apart)
  keeps_defined here entries (Node op.Device at stop (more name body)) apart = keeps_holding here entries object.Device name (λ inner es. all_defined inner es body) apart (λ inner es h. keeps_all inner es body h)
  keeps_defined here entries (Node op.ThermalZone at stop (more name body)) apart = keeps_holding here entries object.ThermalZone name (λ inner es. all_defined inner es body) apart (λ inner es h. keeps_all inner es body h)
  keeps_defined here entries (Node op.PowerResource at stop (more name (more level (more order body)))) apart = keeps_holding here entries object.PowerResource name (λ inner es. all_defined inner es body) apart (λ inner es h. keeps_all inner es body h)
  keeps_defined here entries (Node op.Processor at stop (more name (more id (more block (more size body))))) apart = keeps_holding here entries object.Processor name (λ inner es. all_defined inner es body) apart (λ inner es h. keeps_all inner es body h)
  keeps_defined here entries (Node o at stop parts) apart = keeps_flat here entries o at parts apart

  keeps_all : (here : Here) (entries : Entries) (ts : Trees) → Apart entries → KeepsApart (all_defined here entries ts)
  keeps_all here entries none apart = apart
  keeps_all here entries (more t ts) apart = keeps_then (defined here entries t) (λ es. all_defined here es ts) (keeps_defined here entries t apart) (λ es h. keeps_all here es ts h)

tables_apart : (n : ℕ) (tables : List (List ℕ)) (before after : Entries) → AllMake n tables before after → Apart before → Apart after
tables_apart n [] before after made apart = subst Apart made apart
tables_apart n (bytes ∷ tables) before after made apart =
    tables_apart (suc n) tables made.0 after made.2 (subst KeepsApart made.1.makes (keeps_all (at_root n bytes) before (trees made.1.terms) apart))

-- the predefined paths
predefined_apart : (os_length : ℕ) → Apart (predefined_entries os_length)
predefined_apart os_length zero path is = ap (path_number (paths_in (predefined_entries os_length))) (sym (same_Some _ path is))
predefined_apart os_length (suc zero) path is = ap (path_number (paths_in (predefined_entries os_length))) (sym (same_Some _ path is))
predefined_apart os_length (suc (suc zero)) path is = ap (path_number (paths_in (predefined_entries os_length))) (sym (same_Some _ path is))
predefined_apart os_length (suc (suc (suc zero))) path is = ap (path_number (paths_in (predefined_entries os_length))) (sym (same_Some _ path is))
predefined_apart os_length (suc (suc (suc (suc zero)))) path is = ap (path_number (paths_in (predefined_entries os_length))) (sym (same_Some _ path is))
predefined_apart os_length (suc (suc (suc (suc (suc zero))))) path is = ap (path_number (paths_in (predefined_entries os_length))) (sym (same_Some _ path is))
predefined_apart os_length (suc (suc (suc (suc (suc (suc zero)))))) path is = ap (path_number (paths_in (predefined_entries os_length))) (sym (same_Some _ path is))
predefined_apart os_length (suc (suc (suc (suc (suc (suc (suc zero))))))) path is = ap (path_number (paths_in (predefined_entries os_length))) (sym (same_Some _ path is))
predefined_apart os_length (suc (suc (suc (suc (suc (suc (suc (suc zero)))))))) path is = ap (path_number (paths_in (predefined_entries os_length))) (sym (same_Some _ path is))
predefined_apart os_length (suc (suc (suc (suc (suc (suc (suc (suc (suc zero))))))))) path is = ap (path_number (paths_in (predefined_entries os_length))) (sym (same_Some _ path is))
predefined_apart os_length (suc (suc (suc (suc (suc (suc (suc (suc (suc (suc i)))))))))) path is = absurd cc

pub made_distinct : (tables : List (List ℕ)) (os : List ℕ) (entries : Entries) → AllMake 0 tables (predefined_entries (length os)) entries → AreDistinct (paths_in entries)
made_distinct tables os entries made = tables_apart 0 tables (predefined_entries (length os)) entries made (predefined_apart (length os))

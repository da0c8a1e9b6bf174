-- What the program keeps, as pairs.
use Rattle.std.proofs.Common.{◌≡◌, ℕ, zero, suc, ◌<◌, ◌≤◌, List, [], ◌∷◌, ◌++◌, length, drop, map, slice_get, Option, Some, None, refl, sym, ap, ◌∙◌, subst, arith, option_and_then}
use Rattle.std.proofs.lemmas.List.{length-map}
use Rattle.aml_paths.proofs.PathNumbers.{path_at_there}
use Rattle.std.specs.Option.{option_map}
use Rattle.std.specs.List.{zip}
use Rattle.std.proofs.lemmas.Option.{same_Some, slice_get_within}
use Rattle.aml_objects.specs.declared.object.Entry.{Entry}
use Rattle.aml_objects.specs.declared.object.Object.{Object}
use Rattle.aml_objects.specs.declared.objects.Objects.{Objects}
use Rattle.aml_paths.specs.Paths.{Path, root, path_at, path_number, number_below, AreDistinct, AreClosed}
use Rattle.aml_paths.specs.Resolve.{resolve, spelled}
use Rattle.aml_paths.specs.declared.resolve.Lead.{Lead}
use Rattle.aml_lex.specs.NameStrings.{NameString}
use Rattle.aml_objects.specs.Entries.{Entries, entry_numbered, number_of, own_object, object_at, object_number, owner, path_numbered, paths_in}
use Rattle.aml_objects.specs.Kept.{entries_seen}
use Rattle.aml_objects.specs.LookUp.{owned_at}
use Rattle.aml_paths.specs.Steps.{LeadsTo, paths_seen}
use Rattle.aml_paths.proofs.Seen.{seen_closed, seen_distinct, seen_root}

module _ {K X : Type 0} where
  zip_length : (ks : List K) (xs : List X) → length ks ≡ length xs → length (zip ks xs) ≡ length xs
  zip_length [] [] e = refl
  zip_length [] (x ∷ xs) e = absurd cc
  zip_length (k ∷ ks) [] e = absurd cc
  zip_length (k ∷ ks) (x ∷ xs) e = ap suc (zip_length ks xs (omega arith))

  zip_firsts : (ks : List K) (xs : List X) → length ks ≡ length xs → map (λ (e : K × X). e.0) (zip ks xs) ≡ ks
  zip_firsts [] [] e = refl
  zip_firsts [] (x ∷ xs) e = absurd cc
  zip_firsts (k ∷ ks) [] e = absurd cc
  zip_firsts (k ∷ ks) (x ∷ xs) e = ap (λ (l : List K). k ∷ l) (zip_firsts ks xs (omega arith))

  zip_seconds : {Y : Type 0} (f : X → Option Y) (ks : List K) (xs : List X) (i : ℕ) → length ks ≡ length xs → option_and_then (λ (e : K × X). f e.1) (slice_get (zip ks xs) i) ≡ option_and_then f (slice_get xs i)
  zip_seconds f [] [] i e = refl
  zip_seconds f [] (x ∷ xs) i e = absurd cc
  zip_seconds f (k ∷ ks) [] i e = absurd cc
  zip_seconds f (k ∷ ks) (x ∷ xs) zero e = refl
  zip_seconds f (k ∷ ks) (x ∷ xs) (suc i) e = zip_seconds f ks xs i (omega arith)

  zip_mapped : {Y : Type 0} (f : X → Y) (ks : List K) (xs : List X) (i : ℕ) → length ks ≡ length xs → option_map (λ (e : K × X). f e.1) (slice_get (zip ks xs) i) ≡ option_map f (slice_get xs i)
  zip_mapped f [] [] i e = refl
  zip_mapped f [] (x ∷ xs) i e = absurd cc
  zip_mapped f (k ∷ ks) [] i e = absurd cc
  zip_mapped f (k ∷ ks) (x ∷ xs) zero e = refl
  zip_mapped f (k ∷ ks) (x ∷ xs) (suc i) e = zip_mapped f ks xs i (omega arith)

  pub zip_push : (ks : List K) (xs : List X) (k : K) (x : X) → length ks ≡ length xs → zip (ks ++ k ∷ []) (xs ++ x ∷ []) ≡ zip ks xs ++ (k, x) ∷ []
  zip_push [] [] k x e = refl
  zip_push [] (y ∷ xs) k x e = absurd cc
  zip_push (j ∷ ks) [] k x e = absurd cc
  zip_push (j ∷ ks) (y ∷ xs) k x e = ap (λ (l : List (K × X)). (j, y) ∷ l) (zip_push ks xs k x (omega arith))

  pub zip_map : (f : X → X) (ks : List K) (xs : List X) → length ks ≡ length xs → zip ks (map f xs) ≡ map (λ (e : K × X). (e.0, f e.1)) (zip ks xs)
  zip_map f [] [] e = refl
  zip_map f [] (x ∷ xs) e = absurd cc
  zip_map f (k ∷ ks) [] e = absurd cc
  zip_map f (k ∷ ks) (x ∷ xs) e = ap (λ (l : List (K × X)). (k, f x) ∷ l) (zip_map f ks xs (omega arith))

behind_root : (paths : List Path) → slice_get paths 0 ≡ Some root → root ∷ drop 1 paths ≡ paths
behind_root [] is = absurd cc
behind_root (path ∷ paths) is = let same : path ≡ root = same_Some path root is in ap (λ (p : Path). p ∷ paths) (sym same)

entry_of : (entries : List Entry) (i : ℕ) (x : Object) (o : Option Entry) → slice_get entries i ≡ o → option_and_then own_object o ≡ Some x → i < length entries
entry_of entries i x None is e = absurd cc
entry_of entries i x (Some entry) is e = slice_get_within entries i entry is

same_mapped : {X : Type 0} (o : Option X) → option_map (λ (x : X). x) o ≡ o
same_mapped None = refl
same_mapped (Some x) = refl

module _ (objects : Objects) where
  pub as_many : length (drop 1 (paths_seen objects.paths)) ≡ length objects.entries.items
  as_many =
      let all = ap length (behind_root (paths_seen objects.paths) (seen_root objects.paths)) in
      omega (arith, all, objects.placed)

  pub kept_length : length (entries_seen objects) ≡ length objects.entries.items
  kept_length = zip_length (drop 1 (paths_seen objects.paths)) objects.entries.items as_many

  -- the paths that stand are those that the program keeps
  pub kept_paths : paths_in (entries_seen objects) ≡ paths_seen objects.paths
  kept_paths =
      ap (λ (paths : List Path). root ∷ paths) (zip_firsts (drop 1 (paths_seen objects.paths)) objects.entries.items as_many)
      ∙ behind_root (paths_seen objects.paths) (seen_root objects.paths)

  pub kept_object : (i : ℕ) → object_at (entries_seen objects) i ≡ option_and_then own_object (slice_get objects.entries.items i)
  kept_object i = zip_seconds own_object (drop 1 (paths_seen objects.paths)) objects.entries.items i as_many

  pub kept_owner : (i : ℕ) → object_number (entries_seen objects) (suc i) ≡ option_map (owner i) (slice_get objects.entries.items i)
  kept_owner i = zip_mapped (owner i) (drop 1 (paths_seen objects.paths)) objects.entries.items i as_many

  pub object_within : (i : ℕ) (x : Object) → object_at (entries_seen objects) i ≡ Some x → i < length objects.entries.items
  object_within i x is = entry_of objects.entries.items i x (slice_get objects.entries.items i) refl (sym (kept_object i) ∙ is)

  pub kept_count : length (paths_seen objects.paths) ≡ suc (length (entries_seen objects))
  kept_count = objects.placed ∙ ap suc (sym kept_length)

  pub kept_below : (at : ℕ) (segments : Path) → number_below (paths_seen objects.paths) at segments ≡ number_below (paths_in (entries_seen objects)) at segments
  kept_below at segments = ap (λ (paths : List Path). number_below paths at segments) (sym kept_paths)

  pub kept_resolve : (scope : ℕ) (name : NameString) → resolve (path_number (paths_seen objects.paths)) (path_at (paths_seen objects.paths) scope) name ≡ resolve (number_of (entries_seen objects)) (path_at (paths_in (entries_seen objects)) scope) name
  kept_resolve scope name = ap (λ (paths : List Path). resolve (path_number paths) (path_at paths scope) name) (sym kept_paths)

  pub kept_distinct : AreDistinct (paths_in (entries_seen objects))
  kept_distinct = subst AreDistinct (sym kept_paths) (seen_distinct objects.paths)

  pub kept_closed : AreClosed (paths_in (entries_seen objects))
  kept_closed = subst AreClosed (sym kept_paths) (seen_closed objects.paths)

  pub kept_leads : (scope : ℕ) (name : NameString) (lead : Lead) → LeadsTo (paths_seen objects.paths) lead (spelled (path_at (paths_seen objects.paths) scope) name) → LeadsTo (paths_in (entries_seen objects)) lead (spelled (path_at (paths_in (entries_seen objects)) scope) name)
  kept_leads scope name lead led = subst (λ (paths : List Path). LeadsTo paths lead (spelled (path_at paths scope) name)) (sym kept_paths) led

  pub kept_there : (n : ℕ) → n ≤ length (entries_seen objects) → n < length (paths_in (entries_seen objects))
  kept_there n le = let same = ap length kept_paths in omega (arith, same, kept_count, le)

  pub kept_entry : (i : ℕ) → entry_numbered (entries_seen objects) i ≡ slice_get objects.entries.items i
  kept_entry i = zip_mapped (λ (e : Entry). e) (drop 1 (paths_seen objects.paths)) objects.entries.items i as_many ∙ same_mapped (slice_get objects.entries.items i)

-- the path with a number, and none past the last
pub scope_there : (entries : Entries) (scope : ℕ) → scope ≤ length entries → slice_get (paths_in entries) scope ≡ Some (path_at (paths_in entries) scope)
scope_there entries scope le = path_at_there (paths_in entries) scope (let same = length-map entries (λ (e : Path × Entry). e.0) in omega (arith, same, le))

pub past_paths : (entries : Entries) (i : ℕ) → length entries ≤ i → slice_get (paths_in entries) (suc i) ≡ None
past_paths [] i le = refl
past_paths (e ∷ entries) zero le = absurd (omega arith)
past_paths (e ∷ entries) (suc i) le = past_paths entries i (omega arith)

-- what stands under a path
slice_get-firsts : (entries : Entries) (i : ℕ) → slice_get (map (λ (e : Path × Entry). e.0) entries) i ≡ path_numbered entries i
slice_get-firsts [] i = refl
slice_get-firsts (e ∷ entries) zero = refl
slice_get-firsts (e ∷ entries) (suc i) = slice_get-firsts entries i

pub kept_path : (objects : Objects) (i : ℕ) → slice_get (paths_seen objects.paths) (suc i) ≡ path_numbered (entries_seen objects) i
kept_path objects i = ap (λ (paths : List Path). slice_get paths (suc i)) (sym (kept_paths objects)) ∙ slice_get-firsts (entries_seen objects) i

owned_by : (i : ℕ) (path : Path) (entry : Entry) (o : Option (Path × Entry)) → option_map (λ (e : Path × Entry). e.0) o ≡ Some path → option_map (λ (e : Path × Entry). e.1) o ≡ Some entry → owned_at i o ≡ (path, record { 0 = owner i entry }) ∷ []
owned_by i path entry None at is = absurd cc
owned_by i path entry (Some e) at is =
    ap (λ (p : Path). (p, record { 0 = owner i e.1 }) ∷ []) (same_Some e.0 path at)
    ∙ ap (λ (x : Entry). (path, record { 0 = owner i x }) ∷ []) (same_Some e.1 entry is)

-- a path and the number of its object, by what the program keeps of both
pub kept_owned : (objects : Objects) (i : ℕ) (path : Path) (entry : Entry) → slice_get (paths_seen objects.paths) (suc i) ≡ Some path → slice_get objects.entries.items i ≡ Some entry → owned_at i (slice_get (entries_seen objects) i) ≡ (path, record { 0 = owner i entry }) ∷ []
kept_owned objects i path entry at is = owned_by i path entry (slice_get (entries_seen objects) i) (sym (kept_path objects i) ∙ at) (kept_entry objects i ∙ is)

-- What objects name, found once all tables are loaded: it changes no path, and no method.
use Rattle.std.proofs.Common.{◌≡◌, ℕ, zero, suc, List, [], ◌∷◌, map, Option, Some, refl, ap, subst, sym}
use Rattle.aml_objects.specs.declared.object.Entry.TheVariants.{Own, Alias}
use Rattle.aml_objects.specs.declared.object.Method.{Method}
use Rattle.aml_paths.specs.declared.scope.NamePlace.{NamePlace}
use Rattle.aml_objects.specs.declared.object.Object.{Object}
use Rattle.aml_objects.specs.declared.object.Object.TheVariants as object
use Rattle.aml_paths.specs.declared.scope.ObjectId.{ObjectId}
use Rattle.aml_namespace.specs.Bodies.{BodiesWithin}
use Rattle.aml_objects.specs.Entries.{Entries, object_at, paths_in}
use Rattle.aml_namespace.specs.Laws.{PathsDistinct}
use Rattle.aml_paths.specs.Paths.{AreDistinct, Path, root}
use Rattle.aml_objects.specs.Settled.{found_object, found_under, named_at, settled}
use Rattle.aml_namespace.proofs.Distinct.{made_distinct}

module _ (find : NamePlace → Option ObjectId) where
  found_paths : (es : Entries) → map (λ (e : _). e.0) (map (found_under find) es) ≡ map (λ (e : _). e.0) es
  found_paths [] = refl
  found_paths (e ∷ es) = ap (λ (l : List Path). e.0 ∷ l) (found_paths es)

  found_method : (o : Object) (m : Method) → Some (found_object find o) ≡ Some (object.Method m) → Some o ≡ Some (object.Method m)
  found_method (object.Method n) m is = is
  found_method (object.Field f) m is = absurd cc
  found_method (object.BufferField f) m is = absurd cc
  found_method o m is = is

  methods_stay : (es : Entries) (i : ℕ) (m : Method) → object_at (map (found_under find) es) i ≡ Some (object.Method m) → object_at es i ≡ Some (object.Method m)
  methods_stay [] i m is = absurd cc
  methods_stay ((path, Own o) ∷ es) zero m is = found_method o m is
  methods_stay ((path, Alias id) ∷ es) zero m is = absurd cc
  methods_stay (e ∷ es) (suc i) m is = methods_stay es i m is

-- the paths are those that were made
pub settled_paths : (tables : List (List ℕ)) (made : Entries) → paths_in (settled tables made) ≡ paths_in made
settled_paths tables made = ap (λ (l : List Path). root ∷ l) (found_paths (named_at tables made) made)

-- bodies lie where they lay
pub settled_bodies : (tables : List (List ℕ)) (made : Entries) → BodiesWithin tables made → BodiesWithin tables (settled tables made)
settled_bodies tables made within i m is = within i m (methods_stay (named_at tables made) made i m is)

pub paths_distinct : PathsDistinct
paths_distinct tables os ns loaded =
    subst (λ (es : Entries). AreDistinct (paths_in es)) (sym loaded.entries_are)
    (subst AreDistinct (sym (settled_paths tables loaded.made)) (made_distinct tables os loaded.made loaded.makes))

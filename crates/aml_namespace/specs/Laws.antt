-- Laws of loading, and of what names take.
use Rattle.std.specs.Prelude.{◌≡◌, ◌<◌, ◌≤◌, ℕ, List, ◌++◌, length, slice_get, IfSome, Some}
use Rattle.aml_lex.specs.NameStrings.{NameString}
use Rattle.aml_lex.specs.Standing.{name_there}
use Rattle.aml_own_names.specs.declared.own_names.OwnName.{OwnName}
use Rattle.aml_own_names.specs.OwnNames.{with_standing}
use Rattle.aml_objects.specs.declared.fault.LoadRefusal.{LoadRefusal}
use Rattle.aml_namespace.specs.declared.link.Link.TheVariants as link
use Rattle.aml_objects.specs.Entries.{Entries, paths_in}
use Rattle.aml_paths.specs.Paths.{AreDistinct}
use Rattle.aml_namespace.specs.Load.{AllMake, FaultyLoad, IsLoaded, Shown}
use Rattle.aml_namespace.specs.Names.{counts, link_args, link_with_owns}

-- a fault names one of these tables, and a place within its bytes or at their end
pub record StandsWithin (tables : List (List ℕ)) (f : LoadRefusal) : Type 0 where
  pub table : f.table < length tables
  pub place : IfSome (slice_get tables f.table) (λ bytes. f.at ≤ length bytes)

-- the faults of a load stand within the tables that were handed in
abbrev pub FaultsWithin : Type 0
FaultsWithin = (tables : List (List ℕ)) (os : List ℕ) (f : LoadRefusal) → FaultyLoad tables os f →
    StandsWithin tables f

-- what the first tables make stays as it is, in its order, when more tables follow: those only add
-- to it
abbrev pub DefinitionsStay : Type 0
DefinitionsStay =
    (tables more : List (List ℕ)) (before after : Entries) → AllMake 0 (tables ++ more) before after
    → (first added : Entries) × AllMake 0 tables before first × (after ≡ first ++ added)

-- of the pairs that a loaded namespace holds, no two have one path: a path has at most one object
abbrev pub PathsDistinct : Type 0
PathsDistinct = (tables : List (List ℕ)) (os : List ℕ) (ns : Shown) → IsLoaded tables os ns →
    AreDistinct (paths_in ns.entries)

-- a name of a body that means something takes as many terms as that tells
abbrev pub LinksCount : Type 0
LinksCount =
    (ns : Shown) (id : ℕ) (bytes : List ℕ) (owns : List OwnName) (at : ℕ) (name : NameString) →
    name_there bytes at ≡ Some name
    → (link_with_owns ns.entries id bytes owns at ≡ link.Missing → ⊥)
    → with_standing (counts ns id) owns name at ≡
    link_args ns (link_with_owns ns.entries id bytes owns at)

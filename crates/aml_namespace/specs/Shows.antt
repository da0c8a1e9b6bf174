-- What the program's namespace shows.
use Rattle.std.specs.Prelude.{ℕ, List, map, Result, Ok, Err}
use Rattle.std.specs.Borrow.{Bor}
use Rattle.aml_arities.specs.declared.answered.Answered.{Answered}
use Rattle.aml_objects.specs.declared.fault.LoadFault.{LoadFault}
use Rattle.aml_objects.specs.declared.fault.LoadFault.TheVariants.{NoMemory, Refused}
use Rattle.aml_namespace.specs.declared.namespace.Namespace.{Namespace}
use Rattle.aml_arities.specs.Counted.{TellsAll}
use Rattle.aml_objects.specs.Entries.{paths_in}
use Rattle.aml_objects.specs.Kept.{entries_seen}
use Rattle.aml_namespace.specs.Load.{FaultyLoad, IsLoaded, Shown}

-- the bytes of tables
abbrev pub bytes_in : List (Bor (List ℕ)) → List (List ℕ)
bytes_in tables = map (λ t. t.now) tables

abbrev pub shown : Namespace → Shown
shown ns = record {
  tables = bytes_in ns.tables.items;
  os = ns.host.os.now;
  width = ns.width;
  entries = entries_seen ns.objects;
  externals = ns.externals.items;
  interfaces = bytes_in ns.host.osi.now;
}

-- what the declarations of a namespace tell of its paths
abbrev pub IsTold : Shown → Answered → Type 0
IsTold ns a = TellsAll ns.tables (paths_in ns.entries) ns.externals a.counted

-- the answer of a load
abbrev pub Loads : List (List ℕ) → List ℕ → Result Namespace LoadFault → Type 0
Loads tables os (Ok ns) = IsLoaded tables os (shown ns)
Loads tables os (Err NoMemory) = Unit {0}
Loads tables os (Err (Refused f)) = FaultyLoad tables os f

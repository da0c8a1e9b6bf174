-- What the program keeps of a namespace, as pairs of a path and what stands under it.
use Rattle.std.specs.Prelude.{◌≡◌, ◌≤◌, ℕ, [], ◌∷◌, ◌++◌, length, drop, Result, Ok, Err, None, Vec}
use Rattle.std.specs.List.{zip}
use Rattle.aml_lex.specs.declared.names.NameSeg.{NameSeg}
use Rattle.aml_objects.specs.declared.fault.LoadCause.{LoadCause}
use Rattle.aml_objects.specs.declared.fault.LoadFault.{LoadFault}
use Rattle.aml_objects.specs.declared.fault.LoadFault.TheVariants.{NoMemory, Refused}
use Rattle.aml_objects.specs.declared.fault.LoadRefusal.{LoadRefusal}
use Rattle.aml_objects.specs.declared.here.Here as program
use Rattle.aml_paths.specs.declared.scope.ObjectId.{ObjectId}
use Rattle.aml_objects.specs.declared.objects.Objects.{Objects}
use Rattle.aml_paths.specs.Paths.{Path, path_at}
use Rattle.aml_paths.specs.Steps.{path_seen, paths_seen}
use Rattle.aml_objects.specs.Entries.{Entries, number_of, paths_in}
use Rattle.aml_objects.specs.Enter.{Here}

abbrev pub entries_seen : Objects → Entries
entries_seen objects = zip (drop 1 (paths_seen objects.paths)) objects.entries.items

-- the path of the segments that the program answers
abbrev pub path_kept : {Z : Type 0} → Vec NameSeg Z → Path
path_kept segments = path_seen segments.items

-- a path that the program answers, with its object's number
abbrev pub owned_kept : {Z : Type 0} → Vec NameSeg Z × ObjectId → Path × ObjectId
owned_kept owned = (path_kept owned.0, owned.1)

abbrev pub here_of : program.Here → Here
here_of here = record { table = here.table; bytes = here.bytes.now; scope = here.scope }

-- the path of a segment below the path with a number
abbrev pub path_below : Entries → ℕ → NameSeg → Path
path_below entries parent segment = path_at (paths_in entries) parent ++ segment.bytes ∷ []

-- a place for a new path: the number of its parent's path, and its segment; or why there is none
abbrev pub Places : Entries → Result (ℕ × NameSeg) LoadCause → Result Path LoadCause → Type 0
Places entries (Ok (parent, segment)) answer =
    (parent ≤ length entries) × (number_of entries (path_below entries parent segment) ≡ None)
    × (answer ≡ Ok (path_below entries parent segment))
Places entries (Err cause) answer = answer ≡ Err cause

-- a fault of the program is the definition's, unless memory ran out
abbrev pub IsFaultOf : {Y : Type 0} → LoadFault → Result Y LoadRefusal → Type 0
IsFaultOf NoMemory answer = Unit {0}
IsFaultOf (Refused f) answer = answer ≡ Err f

-- the program's answer, by a view of its value, is that of a definition, unless memory ran out
abbrev pub Answers : {X Y : Type 0} → (X → Y) → Result X LoadFault → Result Y LoadRefusal → Type 0
Answers view (Ok x) answer = answer ≡ Ok (view x)
Answers view (Err fault) answer = IsFaultOf fault answer

-- what a function left is what a definition makes, or its fault is the definition's, unless memory
-- ran out
abbrev pub Makes : {X : Type 0} → Result X LoadFault → Entries → Result Entries LoadRefusal → Type 0
Makes (Ok x) left answer = answer ≡ Ok left
Makes (Err fault) left answer = IsFaultOf fault answer

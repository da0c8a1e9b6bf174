-- The kinds of names stay: what is said of each part of an evaluation (ACPI 6.5, 5.5.2 and 19.6).
use Rattle.std.specs.Prelude.{◌≡◌, ℕ, List, Option, Result}
use Rattle.aml_operators.specs.Tree.{Tree, Trees}
use Rattle.aml_values.specs.Values.{Value}
use Rattle.aml_regions.specs.Events.{Event}
use Rattle.aml_meaning.specs.State.{State, state_of}
use Rattle.aml_meaning.specs.Parts.{M}
use Rattle.aml_meaning.specs.Calls.{framed}
use Rattle.aml_meaning.specs.Rules.{Place}
use Rattle.aml_meaning.specs.Runs.{Halt, Runs}
use Rattle.aml_meaning.specs.Meaning.{Setting, mean, mean_all, store, value, values}
use Rattle.aml_meaning.specs.Definitions.{mean_body, mean_method, statement}
use Rattle.aml_meaning.specs.Within.{Methods, call_within}

-- an evaluation's part leaves the kinds of names as they were, however it ends
abbrev pub KeepsKinds : {V : Type 0} → M V → Type 0
KeepsKinds m =
    (script : List Event) (s : State) → (state_of (m.run script s)).names.kinds ≡ s.names.kinds

-- whatever is called, from whatever place, with whatever arguments
abbrev pub CallsKeepKinds : (Place → ℕ → List Value → M (Option Value)) → Type 0
CallsKeepKinds call = (p : Place) (k : ℕ) (vs : List Value) → KeepsKinds (call p k vs)

-- a term
abbrev pub TermsKeepKinds : Type 0
TermsKeepKinds = (here : Setting) → CallsKeepKinds here.call → (t : Tree) → KeepsKinds (mean here t)

-- the value of a term, and the values of arguments
pub record ValuesKeepKinds : Type 0 where
  pub one : (here : Setting) → CallsKeepKinds here.call → (t : Tree) → KeepsKinds (value here t)
  pub all : (here : Setting) → CallsKeepKinds here.call → (ts : Trees) → KeepsKinds (values here ts)

-- a list of statements
abbrev pub ListsKeepKinds : Type 0
ListsKeepKinds =
    (here : Setting) → CallsKeepKinds here.call → (ts : Trees) → KeepsKinds (mean_all here ts)

-- a value stored into a target
abbrev pub StoresKeepKinds : Type 0
StoresKeepKinds = (here : Setting) → CallsKeepKinds here.call → (target : Tree) (v : Value) →
    KeepsKinds (store here target v)

-- a statement at the top of a body
abbrev pub StatementsKeepKinds : Type 0
StatementsKeepKinds =
    (here : Setting) → CallsKeepKinds here.call → (t : Tree) → KeepsKinds (statement here t)

-- the statements of a body
abbrev pub BodiesKeepKinds : Type 0
BodiesKeepKinds =
    (here : Setting) → CallsKeepKinds here.call → (ts : Trees) → KeepsKinds (mean_body here ts)

-- a method, with the end of its body
abbrev pub MethodsKeepKinds : Type 0
MethodsKeepKinds = (here : Setting) → CallsKeepKinds here.call → (body : Trees) →
    KeepsKinds (mean_method here body)

-- in a frame of its own a body keeps what it keeps by itself
abbrev pub FramesKeepKinds : Type 0
FramesKeepKinds = (table : ℕ) (values : List Value) (body : M (Unit {0})) → KeepsKinds body →
    KeepsKinds (framed table values body)

-- a call of any methods, however many more may be active
abbrev pub CallsWithinKeepKinds : Type 0
CallsWithinKeepKinds = (methods : Methods) (more : ℕ) → CallsKeepKinds (call_within methods more)

-- what an evaluator answers of a part that gives a value or none, as a term and a call are
abbrev pub RunsKeepKinds : Type 0
RunsKeepKinds = (result : Result (Option Value) Halt) (m : M (Option Value)) (old new : State) →
    KeepsKinds m → Runs result m old new → new.names.kinds ≡ old.names.kinds

-- Laws of the meaning: what can be said of any term, any list and any call (ACPI 6.5, 5.5.2 and
-- 19.6).
use Rattle.std.specs.Prelude.{◌≡◌, ◌<◌, ℕ, List}
use Rattle.aml_operators.specs.Tree.{Tree, Trees, joined}
use Rattle.aml_values.specs.Values.{Value}
use Rattle.aml_regions.specs.Events.{Event}
use Rattle.aml_meaning.specs.State.{State, Spent, state_of}
use Rattle.aml_meaning.specs.Parts.{then_do}
use Rattle.aml_meaning.specs.Rules.{Place}
use Rattle.aml_meaning.specs.Meaning.{Setting, mean, mean_all}
use Rattle.aml_meaning.specs.Definitions.{mean_body}
use Rattle.aml_meaning.specs.Within.{Methods, call_within}

-- a list of statements is its first part and then the rest, wherever it is parted; so it is its
-- first statement and then the others
abbrev pub ListsAreInOrder : Type 0
ListsAreInOrder = (here : Setting) (first rest : Trees) (script : List Event) (s : State) →
    (mean_all here (joined first rest)).run script s ≡ then_do ((mean_all here first).run script s)
    (λ u next. (mean_all here rest).run script next)

-- and so are the statements at the top of a body
abbrev pub BodiesAreInOrder : Type 0
BodiesAreInOrder = (here : Setting) (first rest : Trees) (script : List Event) (s : State) →
    (mean_body here (joined first rest)).run script s ≡
    then_do ((mean_body here first).run script s) (λ u next. (mean_body here rest).run script next)

-- a term wants a step, whatever it is: where none is left, nothing comes of it
abbrev pub TermsWantAStep : Type 0
TermsWantAStep = (here : Setting) (t : Tree) (script : List Event) (s : State) → s.steps ≡ 0 →
    (mean here t).run script s ≡ Spent s

-- and it takes one at least: where a step is left before it, fewer are left behind it, however it
-- ends
abbrev pub TermsTakeAStep : Type 0
TermsTakeAStep = (here : Setting) (t : Tree) (script : List Event) (s : State) → 0 < s.steps →
    (state_of ((mean here t).run script s)).steps < s.steps

-- behind a call the caller's locals, arguments, own names and mutexes are as before, however the
-- call ends
abbrev pub CallsKeepTheFrame : Type 0
CallsKeepTheFrame = (methods : Methods)
    (more : ℕ) (from : Place) (k : ℕ) (values : List Value) (script : List Event) (s : State) →
    (state_of ((call_within methods more from k values).run script s)).frame ≡ s.frame

-- Loops, judged in place: a turn of the body apart, and what stands behind the loop.
use Rattle.std.specs.Prelude.{◌≡◌, ℕ, ◌+◌, List, None, Result, Ok, Err, slice_get, Bool}
use Rattle.aml_kinds.specs.Kinds.{Shape}
use Rattle.aml_operators.specs.Tree.{Tree, Trees}
use Rattle.aml_meaning.specs.declared.mutex.TakenMutex.{TakenMutex}
use Rattle.aml_judged.specs.Known as known
use Rattle.aml_judged.specs.Known.{in_loop}
use Rattle.aml_bounds.specs.Shapes.{Once}
use Rattle.aml_judged.specs.Judged as judged
use Rattle.aml_judged.specs.Judged.{Around, Rule, Stops, join_exits}
use Rattle.aml_judged.specs.Judge.{after_loop, begun, falling, judged_all, judged_loop, judged_test, judged_value, often}
use Rattle.aml_paths.specs.declared.memory.NoMemory.{NoMemory}
use Rattle.aml_known.specs.declared.env.Env.{Env}
use Rattle.aml_known.specs.declared.exits.Exits.{Exits}
use Rattle.aml_known.specs.declared.stop.Stop.{Stop}
use Rattle.aml_known.specs.declared.stop.Stop.TheVariants as stop
use Rattle.aml_known.specs.Views.{AreApart, CanBeRead, env_of, exits_of, Grown, Says}
use Rattle.aml_judging.specs.declared.progress.Progress.{Progress}
use Rattle.aml_judging.specs.declared.turns.Turn.{Turn}
use Rattle.aml_judging.specs.Views.{Standing, held_cost, standing}

module _ (here : Around) where
  abbrev pub tested : Tree → Rule known.Env
  tested t = judged_test here t (judged_value here t)

  abbrev pub once_rule : ℕ → Tree → Trees → Rule (Unit {0})
  once_rule at t ts = judged_loop here Once at ts (tested t) (judged_all here ts)

  abbrev pub often_rule : ℕ → ℕ → Tree → Trees → Rule (Unit {0})
  often_rule turns at t ts = λ env.
      often here env.looped turns at (begun here ts env) (tested t (begun here ts env))
      (judged_all here ts)

  abbrev pub falling_rule : ℕ → ℕ → ℕ → Tree → Trees → Rule (Unit {0})
  falling_rule l c at t ts = λ env.
      falling here (slice_get env.locals l) c at ts (tested t) (judged_all here ts) env

-- a turn's end, exits and cost, from an environment
pub record IsTurn (shapes : ℕ → Shape) (lists : ℕ → List TakenMutex) (rule : Rule (Unit {0}))
    (held : Env) (turn : Turn) : Type 0 where
  pub cost : ℕ
  pub goes : rule (env_of shapes lists held) ≡
      judged.Goes tt (env_of shapes lists turn.end) (exits_of shapes lists turn.exits) cost
  pub counted : held_cost turn.cost ≡ held_cost cost

abbrev pub TurnSays : (ℕ → Shape) → (ℕ → List TakenMutex) → Rule (Unit {0}) → Env →
    Result Turn Stop → Type 0
TurnSays shapes lists rule held (Ok turn) = IsTurn shapes lists rule held turn
TurnSays shapes lists rule held (Err (stop.Refused r)) = rule (env_of shapes lists held) ≡ Stops r
TurnSays shapes lists rule held (Err stop.NoMemory) = Unit {0}

-- a turn of a loop's body is judged apart: where it goes on, all stands as before but for takings
-- of mutexes
abbrev pub StandsStill : Progress → Progress → Result Turn Stop → Type 0
StandsStill old new (Ok turn) =
    (new.env ≡ old.env) × (new.exits ≡ old.exits) × (new.cost ≡ old.cost)
StandsStill old new (Err e) = Unit {0}

pub record Turned (shapes : ℕ → Shape) (here : Around) (body : Trees) (held : Env)
    (old new : Progress) (result : Result Turn Stop) : Type 0 where
  pub grows : Grown old.locks.takings.items new.locks.takings.items
  pub read : CanBeRead old.locks.takings.items → CanBeRead new.locks.takings.items
  pub still : StandsStill old new result
  pub says : (lists : ℕ → List TakenMutex) → AreApart shapes →
      Says lists new.locks.takings.items → TurnSays shapes lists (judged_all here body) held result

-- what stands behind a loop is put in place: what stood behind its failed test and at its Breaks,
-- its body's other exits, and its cost
pub record Leaves (here : Around) (outer : Bool) (et : known.Env) (x : judged.Exits) (n : ℕ)
    (old new : Standing) : Type 0 where
  pub env : new.env ≡ in_loop outer (after_loop here x.broke et)
  pub exits : new.exits ≡ join_exits old.exits (record x { broke = None; continued = None })
  pub cost : new.cost ≡ held_cost (old.cost + n)

abbrev pub PastSays : Around → (ℕ → Shape) → (ℕ → List TakenMutex) → Bool → Env → Exits → ℕ →
    Progress → Progress → Result (Unit {0}) NoMemory → Type 0
PastSays here shapes lists outer tested exits cost old new (Ok u) =
    Leaves here outer (env_of shapes lists tested) (exits_of shapes lists exits) cost
    (standing shapes lists old) (standing shapes lists new)
PastSays here shapes lists outer tested exits cost old new (Err e) = Unit {0}

pub record IsPast (here : Around) (shapes : ℕ → Shape) (outer : Bool) (tested : Env) (exits : Exits)
    (cost : ℕ) (old new : Progress) (result : Result (Unit {0}) NoMemory) : Type 0 where
  pub still : new.locks.takings.items ≡ old.locks.takings.items
  pub says : (lists : ℕ → List TakenMutex) → AreApart shapes →
      Says lists new.locks.takings.items →
      PastSays here shapes lists outer tested exits cost old new result

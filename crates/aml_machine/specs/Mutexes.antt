-- The mutexes of a running method, as the evaluator keeps them.
use Rattle.std.specs.Prelude.{ℕ, ◌&&◌, nat_le, Bool, true, false, List, [], ◌∷◌, Option, Some, None}
use Rattle.aml_meaning.specs.declared.mutex.TakenMutex.{TakenMutex}

-- whether no level is below the one before it, nor the first below another
abbrev pub are_rising : ℕ → List TakenMutex → Bool
are_rising level [] = true
are_rising level (m ∷ ms) = nat_le level m.level && are_rising m.level ms

-- whether there is none
abbrev pub is_empty : List TakenMutex → Bool
is_empty [] = true
is_empty (m ∷ ms) = false

-- these, where that may be
abbrev pub held_if : Bool → List TakenMutex → Option (List TakenMutex)
held_if true held = Some held
held_if false held = None

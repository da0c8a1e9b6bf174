-- What a call on a world may ask, and what it changes.
use Rattle.std.specs.Prelude.{◌≡◌, ◌⊎◌, ◌+◌, ◌-◌, ◌/◌, ◌^◌, ◌≤◌, ◌<◌, ◌++◌, ◌∷◌, ℕ, [], List, Option, unwrap_or, Result, IsErr, MatchResult, nat_le, if◌then◌else◌}
use Rattle.aml_paths.specs.declared.memory.NoMemory.{NoMemory}
use Rattle.aml_contents.specs.Contents.{Contents}
use Rattle.aml_regions.specs.declared.access.Access.{Access}
use Rattle.aml_regions.specs.Events.{Event, Slept}

-- a unit of 8, 16, 32 or 64 bits that ends at or below 2 ^ 64
pub record IsUnit (access : Access) : Type 0 where
  pub wide : (access.width ≡ 8) ⊎ (access.width ≡ 16) ⊎ (access.width ≡ 32) ⊎ (access.width ≡ 64)
  pub ends : access.address + access.width / 8 ≤ 2 ^ 64

-- a call adds its one event, which may depend on the answer, to the log, or is refused and adds
-- none
abbrev pub MakesEvent : {V : Type 0} → Result V NoMemory → (V → Event) → List Event →
    List Event → Type 0
MakesEvent result event old new =
    MatchResult result (λ value. new ≡ old ++ event value ∷ []) (λ _. new ≡ old)

-- what data names hold behind a Sleep: what it left, or what they held before
abbrev pub behind_sleep : Option Contents → Contents → Contents
behind_sleep left before = unwrap_or left before

-- a Sleep adds its one event, and data names hold what that says; refused, it adds none, and they
-- hold what they held
pub record Sleeps (milliseconds : ℕ) (held holds : Contents) (old new : List Event) : Type 0 where
  pub left : Option Contents
  pub event : new ≡ old ++ Slept milliseconds left ∷ []
  pub names : holds ≡ behind_sleep left held

abbrev pub MakesSleep : {V : Type 0} → Result V NoMemory → ℕ → Contents → Contents → List Event →
    List Event → Type 0
MakesSleep result milliseconds held holds old new =
    MatchResult result (λ _. Sleeps milliseconds held holds old new)
    (λ _. (new ≡ old) × (holds ≡ held))

-- one refusal more: the count stays at its last value, 2 ^ 64 - 1
abbrev pub counted : ℕ → ℕ
counted n = if nat_le (2 ^ 64 - 1) n then 2 ^ 64 - 1 else n + 1

-- a refused call is counted, and no other
abbrev pub CountsRefusal : {V : Type 0} → Result V NoMemory → ℕ → ℕ → Type 0
CountsRefusal result old new = MatchResult result (λ _. new ≡ old) (λ _. new ≡ counted old)

-- a call that may still be passed on is the inner world's, which counts it where it refuses; any
-- further one is refused
pub record PassesOn {V : Type 0} (result : Result V NoMemory)
    (before behind inner_old inner_new : ℕ) : Type 0 where
  pub passed : 0 < before → CountsRefusal result inner_old inner_new
  pub stopped : before ≡ 0 → IsErr result
  pub untouched : before ≡ 0 → inner_new ≡ inner_old
  pub passes : behind ≡ before - 1

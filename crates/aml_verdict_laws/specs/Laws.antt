-- That there is an answer to which methods are accepted, and one to which methods reach which: the
-- laws.
use Rattle.std.specs.Prelude.{◌≡◌, ℕ, List, Option, Bool, true}
use Rattle.aml_calls.specs.Chains.{is_among, TellsReach}
use Rattle.aml_judged.specs.Judged.{Accepted}
use Rattle.aml_judged.specs.Verdicts.{AreAccepted, Judging}

-- an answer to which methods are accepted, and what they are
pub record Answer (all : Judging) : Type 0 where
  pub known : ℕ → Option Accepted
  pub are : AreAccepted all known

-- there is one for any methods, whatever they call
abbrev pub VerdictsAreThere : Type 0
VerdictsAreThere = (all : Judging) → Answer all

-- an answer to which methods begin a chain that ends with which
pub record Reach (calls : ℕ → List ℕ) : Type 0 where
  pub reaches : ℕ → ℕ → Bool
  pub tells : (from to : ℕ) → TellsReach calls from to (reaches from to)

-- all that methods call is among some
abbrev pub CallAmong : (ℕ → List ℕ) → List ℕ → Type 0
CallAmong calls us = (k j : ℕ) → is_among j (calls k) ≡ true → is_among j us ≡ true

-- then there is one
abbrev pub ReachIsTold : Type 0
ReachIsTold = (calls : ℕ → List ℕ) (us : List ℕ) → CallAmong calls us → Reach calls

-- What a verdict means, and that there is one: the laws.
use Rattle.std.specs.Prelude.{◌==◌, ◌≡◌, ℕ, ◌≤◌, List, [], ◌∷◌, Option, Some, None, false, if◌then◌else◌, true, false}
use Rattle.aml_objects.specs.declared.width.Width.{Width}
use Rattle.aml_objects.specs.Widths.{bits_of}
use Rattle.aml_values.specs.Values.{Value}
use Rattle.aml_regions.specs.Events.{Event}
use Rattle.aml_meaning.specs.State.{State, held_level, Out, Halts, NoAnswer, Spent}
use Rattle.aml_meaning.specs.Within.{Callee, call_within, most_within, setting_for}
use Rattle.aml_meaning.specs.Whole.{evaluated}
use Rattle.aml_judged.specs.Known.{Env}
use Rattle.aml_judged.specs.Judged.{Accepted, Around}
use Rattle.aml_judged.specs.Safe.{Allows, FitScript, FitAll, FitNames, FitsYield, IsCalled}
use Rattle.aml_judged.specs.Small.{AllSmall}
use Rattle.aml_judged.specs.Bodies.{judged_method, shared_only}
use Rattle.aml_calls.specs.Chains.{is_among, is_short, IsBehindCallees}
use Rattle.aml_judged.specs.Verdicts.{accepted_of, around_for, called_from, Judging, seen_from, TellsChains, verdict_by, AreAccepted}
use Rattle.aml_meaning.specs.State as state

module _ (all : Judging) where
  -- what the literals of data in methods' bodies hold: integers of the width, bytes, and packages
  -- that have not too many elements
  abbrev pub AreSmall : Type 0
  AreSmall =
      (k : ℕ) (m : Callee) → all.methods.callee k ≡ Some m →
      AllSmall all.methods.width m.literal m.body

  -- verdicts on methods whose integers have 32 or 64 bits, and whose literals are small
  pub record AreVerdicts (known : ℕ → Option Accepted) : Type 0 where
    pub width : Width
    pub bits : all.methods.width ≡ bits_of width
    pub small : AreSmall
    pub accepted : AreAccepted all known

  -- an accepted method, with arguments and names that fit, and a script whose answers do, where
  -- mutexes are watched
  pub record IsCallable (known : ℕ → Option Accepted) (k : ℕ) (a : Accepted) (m : Callee)
      (values : List Value) (script : List Event) (s : State) : Type 0 where
    pub accepted : known k ≡ Some a
    pub there : all.methods.callee k ≡ Some m
    pub arguments : FitAll all.methods.width values a.args
    pub names : FitNames all.methods.width all.kinds s.names
    pub answers : FitScript all.methods.width all.kinds script
    pub watched : s.frame.watched ≡ true

  -- its evaluation, with at most 64 methods active in one another
  abbrev pub evaluation : Callee → List Value → List Event → State → Out (Option Value)
  evaluation m = evaluated (setting_for all.methods (call_within all.methods most_within) m) m.body

  -- it is done, or has no answer: no error, and not out of steps
  abbrev pub IsDone : Accepted → Out (Option Value) → Type 0
  IsDone a (state.Goes v s) =
      FitsYield all.methods.width v a.result × FitNames all.methods.width all.kinds s.names
  IsDone a (Halts stop s) = ⊥
  IsDone a (NoAnswer s) = Unit {0}
  IsDone a (Spent s) = ⊥

abbrev pub HasNoError : Out (Option Value) → Type 0
HasNoError (state.Goes v s) = Unit {0}
HasNoError (Halts stop s) = ⊥
HasNoError (NoAnswer s) = Unit {0}
HasNoError (Spent s) = Unit {0}

-- no evaluation of an accepted method, however many steps it has, meets an error, where callers
-- hold no level above the least that it takes; and with as many steps as its verdict says it is
-- done, or some read has no answer
pub record VerdictsMean : Type 0 where
  pub bounds :
      (all : Judging) (known : ℕ → Option Accepted) → AreVerdicts all known →
      (k : ℕ) (a : Accepted) (m : Callee) (values : List Value) (script : List Event) (s : State) →
      IsCallable all known k a m values script s →
      IsCalled all.methods.width (shared_only all.kinds) a s.frame s.steps
      (evaluation all m values script s)
  pub no_error :
      (all : Judging) (known : ℕ → Option Accepted) → AreVerdicts all known →
      (k : ℕ) (a : Accepted) (m : Callee) (values : List Value) (script : List Event) (s : State) →
      IsCallable all known k a m values script s →
      Allows a.least (held_level s.frame) →
      HasNoError (evaluation all m values script s)
  pub done :
      (all : Judging) (known : ℕ → Option Accepted) → AreVerdicts all known →
      (k : ℕ) (a : Accepted) (m : Callee) (values : List Value) (script : List Event) (s : State) →
      IsCallable all known k a m values script s →
      Allows a.least (held_level s.frame) →
      a.bound ≤ s.steps →
      IsDone all a (evaluation all m values script s)

-- there is one answer to which methods are accepted
abbrev pub VerdictsAreOne : Type 0
VerdictsAreOne =
    (all : Judging) (known other : ℕ → Option Accepted) →
    AreAccepted all known → AreAccepted all other → (k : ℕ) → known k ≡ other k

module _ (all : Judging) where
  -- what is known behind the judgement of one method more, and of some in order
  abbrev pub judged_one : (ℕ → Option Accepted) → ℕ → ℕ → Option Accepted
  judged_one known k = λ j.
      if j == k then accepted_of (verdict_by all known k (all.methods.callee k)) else known j

  abbrev pub judged_in_order : (ℕ → Option Accepted) → List ℕ → ℕ → Option Accepted
  judged_in_order known [] = known
  judged_in_order known (k ∷ ks) = judged_in_order (judged_one known k) ks

-- judged in an order in which each stands behind its callees, where the methods that are left out
-- reach a cycle or begin too long a chain, they are the answer
abbrev pub OrderAnswers : Type 0
OrderAnswers =
    (all : Judging) (order : List ℕ) → IsBehindCallees (called_from all) [] order →
    ((k : ℕ) (m : Callee) → all.methods.callee k ≡ Some m → is_among k order ≡ false →
    is_short (called_from all) 64 k ≡ false) →
    AreAccepted all (judged_in_order all (λ k. None) order)

module _ (all : Judging) where
  -- what a method would know of all methods, whether it calls them or not
  abbrev pub seeing_all : (ℕ → Option Accepted) → ℕ → Callee → Around
  seeing_all known k m = record (around_for all known k m) {
    callee = λ j. record (seen_from all known k j) { accepted = known j };
  }

-- the methods that a body calls, as read from its statements, are all that judging it asks of
abbrev pub CallsAreSeen : Type 0
CallsAreSeen =
    (all : Judging) (known : ℕ → Option Accepted) (k : ℕ) (m : Callee) →
    all.methods.callee k ≡ Some m → (env : Env) →
    judged_method (around_for all known k m) m.opcode m.body env ≡
    judged_method (seeing_all all known k m) m.opcode m.body env

-- where chains are told rightly, a method from which they are short is reached by none that it
-- calls: V5 refuses no other methods than those of cycles
abbrev pub CyclesAreLong : Type 0
CyclesAreLong =
    (all : Judging) → TellsChains all → (k j : ℕ) →
    is_short (called_from all) 64 k ≡ true → is_among j (called_from all k) ≡ true →
    all.reaches j k ≡ false

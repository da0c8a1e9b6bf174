-- What an evaluation that meets no error lends to its parts, to the turns of its loops and to the
-- methods that it calls; and that a verdict gives one to begin with: the laws.
use Rattle.std.specs.Prelude.{◌≡◌, ◌≤◌, ◌<◌, ◌^◌, ℕ, suc, true, List, [], ◌∷◌, Option, Some, None, Result, Ok, Err}
use Rattle.aml_operators.specs.Tree.{Tree}
use Rattle.aml_values.specs.Values.{Value}
use Rattle.aml_kinds.specs.Kinds.{IntUpTo}
use Rattle.aml_contents.specs.Contents.{ContentKinds}
use Rattle.aml_regions.specs.Events.{Event, AreWords}
use Rattle.aml_meaning.specs.declared.error.AmlError.{AmlError}
use Rattle.aml_meaning.specs.State.{State, Error, Broke, Continued, held_level, with_steps}
use Rattle.aml_meaning.specs.Parts.{M, ◌>>=◌, lift, stop_with, tick}
use Rattle.aml_meaning.specs.Loops.{loop}
use Rattle.aml_meaning.specs.Calls.{framed, inside}
use Rattle.aml_meaning.specs.Definitions.{mean_method}
use Rattle.aml_meaning.specs.Meaning.{Setting, tested, value}
use Rattle.aml_meaning.specs.Rules.{Place}
use Rattle.aml_meaning.specs.Runs.{Halt, By, IsPrefix, Runs}
use Rattle.aml_meaning.specs.Within.{Callee, Methods, call_within, most_within, setting_for}
use Rattle.aml_judged.specs.Judged.{Accepted}
use Rattle.aml_judged.specs.Laws.{AreVerdicts}
use Rattle.aml_judged.specs.Safe.{Allows, FitAll, FitNames, FitScript}
use Rattle.aml_judged.specs.Verdicts.{Judging}
use Rattle.aml_fine.specs.Fine.{Fine, FineOver, IsSure, TakesAStep}

-- the kinds of names are those of before
abbrev pub KindsStay : State → State → Type 0
KindsStay s next = next.names.kinds ≡ s.names.kinds

-- parts whose values are of two types
pub record FineLends (V W : Type 0) : Type 0 where
  -- a first part is fine, and so is what follows it, from where it went
  pub first : (m : M V) (f : V → M W) (s : State) → Fine (m >>= f) s → Fine m s
  pub next :
      (m : M V) (f : V → M W) (s behind : State) (v : V) → Fine (m >>= f) s →
      Runs (Ok v) m s behind → KindsStay s behind → Fine (f v) behind
  -- a step is there
  pub step :
      (f : Unit {0} → M W) (s : State) → Fine (tick >>= f) s →
      (k : ℕ) × (s.steps ≡ suc k) × Fine (f tt) (with_steps s k)
  -- a rule gives a value
  pub rule :
      (r : Result V AmlError) (f : V → M W) (s : State) → Fine (lift r >>= f) s →
      (v : V) × (r ≡ Ok v) × Fine (f v) s
  -- an error is never there
  pub no_error : (e : AmlError) (s : State) → Fine {V = V} (stop_with (Error e)) s → ⊥
  -- and no answer of an evaluator is an error, or want of steps
  pub sure :
      (r : Result V Halt) (m : M V) (s behind : State) → Fine m s →
      Runs r m s behind → KindsStay s behind → IsSure r

-- a turn of a loop ends by itself or by a Continue
abbrev pub EndsATurn : Result (Unit {0}) Halt → Type 0
EndsATurn (Ok u) = Unit {0}
EndsATurn (Err (By (Continued at))) = Unit {0}
EndsATurn (Err halt) = ⊥

-- loops whose tests take a step each: the test is fine; the body is, where the test gave a number
-- other than 0; and behind a turn the loop is fine again
pub record FineTurns (test : M ℕ) (body : M (Unit {0})) (s : State) : Type 0 where
  pub first : Fine (loop test body) s → Fine test s
  pub body_fine :
      (v : ℕ) (behind : State) → Fine (loop test body) s → Runs (Ok v) test s behind →
      KindsStay s behind → (v ≡ 0 → ⊥) → Fine body behind
  pub again :
      (v : ℕ) (behind next : State) (r : Result (Unit {0}) Halt) → TakesAStep test →
      Fine (loop test body) s → Runs (Ok v) test s behind → KindsStay s behind → (v ≡ 0 → ⊥) →
      EndsATurn r → Runs r body behind next → KindsStay behind next → Fine (loop test body) next

abbrev pub LoopsAreFine : Type 0
LoopsAreFine = (test : M ℕ) (body : M (Unit {0})) (s : State) → FineTurns test body s

-- the test of a While takes a step, wherever it stands
abbrev pub TestsTakeAStep : Type 0
TestsTakeAStep =
    (here : Setting) (p : Place) (t : Tree) → TakesAStep (tested here p (value here t))

-- what a method's statements mean, where so many methods more may be active
abbrev pub body_of : Methods → ℕ → Callee → M (Unit {0})
body_of methods less m = mean_method (setting_for methods (call_within methods less) m) m.body

-- what is called is there, it is not one method too many, and its body is fine in its own frame
pub record EntersOver (Fits : List Event → Type 0) (methods : Methods) (d k : ℕ)
    (values : List Value) (s : State) : Type 0 where
  pub callee : Callee
  pub is : methods.callee k ≡ Some callee
  pub less : ℕ
  pub depth : d ≡ suc less
  pub framed_fine : FineOver Fits (framed callee.table values (body_of methods less callee)) s
  pub fine : FineOver Fits (body_of methods less callee) (inside values s)

abbrev pub Enters : Methods → ℕ → ℕ → List Value → State → Type 0
Enters methods d k values s = EntersOver (AreWords s.names.kinds) methods d k values s

-- no Break and no Continue leaves a body in its frame
pub record NoneLeaves (body : M (Unit {0})) (s : State) : Type 0 where
  pub broke :
      (at : ℕ) (behind : State) → Runs {V = Unit {0}} (Err (By (Broke at))) body s behind →
      KindsStay s behind → ⊥
  pub continued :
      (at : ℕ) (behind : State) → Runs {V = Unit {0}} (Err (By (Continued at))) body s behind →
      KindsStay s behind → ⊥

pub record CallsAreFine : Type 0 where
  pub enters :
      (methods : Methods) (d : ℕ) (p : Place) (k : ℕ) (values : List Value) (s : State) →
      Fine (call_within methods d p k values) s → Enters methods d k values s
  pub stays :
      (table : ℕ) (values : List Value) (body : M (Unit {0})) (s : State) →
      Fine (framed table values body) s → NoneLeaves body (inside values s)

-- an accepted method with arguments and names that fit, whose callers hold no level above the
-- least that it takes, with as many steps as its verdict says or more, behind events whose
-- answers fit, where mutexes are watched
pub record MayBegin (all : Judging) (known : ℕ → Option Accepted) (k : ℕ) (a : Accepted)
    (m : Callee) (values : List Value) (s : State) : Type 0 where
  pub accepted : known k ≡ Some a
  pub there : all.methods.callee k ≡ Some m
  pub arguments : FitAll all.methods.width values a.args
  pub names : FitNames all.methods.width all.kinds s.names
  pub levels : Allows a.least (held_level s.frame)
  pub steps : a.bound ≤ s.steps
  pub answers : FitScript all.methods.width all.kinds s.log
  pub watched : s.frame.watched ≡ true

-- what a Sleep leaves, where it fits the kinds of names, has integers of the width, bytes, and
-- packages with no more elements than they may have: whether this is so is up to the kinds and
-- the answers
abbrev pub AnswersFit : Judging → State → Type 0
AnswersFit all s =
    (script : List Event) → IsPrefix s.log script → AreWords s.names.kinds script →
    FitScript all.methods.width all.kinds script

-- names of integers of the width alone
abbrev pub AreNarrow : ℕ → ContentKinds → Type 0
AreNarrow width [] = Unit {0}
AreNarrow width (None ∷ kinds) = AreNarrow width kinds
AreNarrow width (Some (IntUpTo greatest) ∷ kinds) = (greatest < 2 ^ width) × AreNarrow width kinds
AreNarrow width (Some kind ∷ kinds) = ⊥

-- what fits their kinds is of the width
abbrev pub NarrowAnswersFit : Type 0
NarrowAnswersFit =
    (all : Judging) (s : State) → FitNames all.methods.width all.kinds s.names →
    AreNarrow all.methods.width all.kinds → AnswersFit all s

module _ (all : Judging) where
  abbrev pub FitAnswers : List Event → Type 0
  FitAnswers script = FitScript all.methods.width all.kinds script

  -- the statements of a method that no other called
  abbrev pub outermost : Callee → M (Unit {0})
  outermost m = body_of all.methods most_within m

-- it is fine in its first frame, with each script of answers that fit as a verdict asks; so it is
-- with each whose answers fit kinds alone, where such answers fit so
pub record AcceptedAreFine : Type 0 where
  pub answered :
      (all : Judging) (known : ℕ → Option Accepted) → AreVerdicts all known →
      (k : ℕ) (a : Accepted) (m : Callee) (values : List Value) (s : State) →
      MayBegin all known k a m values s →
      FineOver (FitAnswers all) (framed m.table values (outermost all m)) s ×
      FineOver (FitAnswers all) (outermost all m) (inside values s)
  pub alone :
      (all : Judging) (known : ℕ → Option Accepted) → AreVerdicts all known →
      (k : ℕ) (a : Accepted) (m : Callee) (values : List Value) (s : State) →
      MayBegin all known k a m values s → AreWords s.names.kinds s.log → AnswersFit all s →
      Fine (framed m.table values (outermost all m)) s × Fine (outermost all m) (inside values s)

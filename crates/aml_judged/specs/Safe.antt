-- What a body that is judged fine never meets.
use Rattle.std.specs.Prelude.{◌≡◌, ℕ, ◌+◌, ◌≤◌, ◌<◌, ◌^◌, List, [], ◌∷◌, Option, Some, None, slice_get, true}
use Rattle.aml_values.specs.Values.{Value, Int, Buf, Str, Pkg, Elements, Element, Holds, Named, Unset, count}
use Rattle.aml_values.specs.Values as elements
use Rattle.aml_kinds.specs.Kinds.{Kind}
use Rattle.aml_kinds.specs.Fits.{fits, most_elements}
use Rattle.aml_contents.specs.Contents.{Contents, ContentKinds, content_at, are_fitting}
use Rattle.aml_regions.specs.Events.{Event, Slept}
use Rattle.aml_meaning.specs.declared.error.AmlCause.TheVariants as why
use Rattle.aml_meaning.specs.declared.error.AmlError.{AmlError}
use Rattle.aml_meaning.specs.declared.mutex.TakenMutex.{TakenMutex}
use Rattle.aml_meaning.specs.State as state
use Rattle.aml_meaning.specs.State.{State, Frame, Names, held_level, Stop, Error, Returned, Broke, Continued, Out, Halts, NoAnswer, Spent}
use Rattle.aml_meaning.specs.Parts.{M}
use Rattle.aml_meaning.specs.Rules.{Place}
use Rattle.aml_judged.specs.Known.{Slot, Held, These, Different, Env}
use Rattle.aml_judged.specs.Judged.{NameKinds, Yield, Always, Sometimes, Never, Accepted, Seen, Exits, Judged, Goes, Stops}

abbrev pub AreBytes : List ℕ → Type 0
AreBytes [] = Unit {0}
AreBytes (b ∷ bytes) = (b < 256) × AreBytes bytes

module _ (width : ℕ) where
  abbrev mutual
    -- a value whose integers have the width, whose bytes are bytes, and whose packages have not too
    -- many elements, at every depth
    pub IsWord : Value → Type 0
    IsWord (Int n) = n < 2 ^ width
    IsWord (Buf bytes) = AreBytes bytes
    IsWord (Str characters) = AreBytes characters
    IsWord (Pkg es) = (count es ≤ most_elements) × AreWords es

    pub AreWords : Elements → Type 0
    AreWords elements.none = Unit {0}
    AreWords (elements.more e es) = IsWordElement e × AreWords es

    pub IsWordElement : Element → Type 0
    IsWordElement (Holds v) = IsWord v
    IsWordElement (Named object) = Unit {0}
    IsWordElement Unset = Unit {0}

  pub record IsOf (v : Value) (k : Kind) : Type 0 where
    pub fit : fits v k ≡ true
    pub word : IsWord v

  abbrev pub FitsSlot : Option Value → Slot → Type 0
  FitsSlot v None = Unit {0}
  FitsSlot (Some v) (Some k) = IsOf v k
  FitsSlot None (Some k) = ⊥

  -- place by place; what the kinds don't reach is free
  abbrev pub FitSlots : List (Option Value) → List Slot → Type 0
  FitSlots vs [] = Unit {0}
  FitSlots (v ∷ vs) (k ∷ ks) = FitsSlot v k × FitSlots vs ks
  FitSlots [] (k ∷ ks) = ⊥

  abbrev pub FitAll : List Value → List Kind → Type 0
  FitAll [] [] = Unit {0}
  FitAll (v ∷ vs) (k ∷ ks) = IsOf v k × FitAll vs ks
  FitAll vs ks = ⊥

  -- each data name holds what its kind lets it hold
  pub record FitNames (kinds : ContentKinds) (names : Names) : Type 0 where
    pub kinds_stay : names.kinds ≡ kinds
    pub fitting : are_fitting names.contents kinds ≡ true
    pub words : (i : ℕ) (v : Value) → content_at names.contents i ≡ Some v → IsWord v

  -- contents that a Sleep left are of the names' kinds
  pub record FitContents (kinds : ContentKinds) (contents : Contents) : Type 0 where
    pub fitting : are_fitting contents kinds ≡ true
    pub words : (i : ℕ) (v : Value) → content_at contents i ≡ Some v → IsWord v

  pub record FitScript (kinds : ContentKinds) (script : List Event) : Type 0 where
    pub left :
        (i milliseconds : ℕ) (contents : Contents) →
        slice_get script i ≡ Some (Slept milliseconds (Some contents)) → FitContents kinds contents

  abbrev pub FitsYield : Option Value → Yield → Type 0
  FitsYield (Some v) (Always k) = IsOf v k
  FitsYield None (Always k) = ⊥
  FitsYield (Some v) (Sometimes k) = IsOf v k
  FitsYield None (Sometimes k) = Unit {0}
  FitsYield (Some v) Never = ⊥
  FitsYield None Never = Unit {0}

  abbrev pub FitsReturn : Option Kind → Value → Type 0
  FitsReturn None v = ⊥
  FitsReturn (Some k) v = IsOf v k

abbrev pub FitsHeld : List TakenMutex → Held → Type 0
FitsHeld ms (These ns) = ms ≡ ns
FitsHeld ms Different = Unit {0}

-- mutexes may be taken where others are held up to a level, if the least that is taken is at least
-- that
abbrev pub Allows : Option ℕ → ℕ → Type 0
Allows None level = Unit {0}
Allows (Some least) level = level ≤ least

-- an error is Level, and there only where callers hold a level above the least that is taken
abbrev pub OnlyAbove : Option ℕ → ℕ → AmlError → Type 0
OnlyAbove least level e = (e.cause ≡ why.Level) × (Allows least level → ⊥)

-- mutexes are watched, and callers hold some up to a level
abbrev pub IsUnder : ℕ → Frame → Type 0
IsUnder above frame = (frame.outside ≡ above) × (frame.watched ≡ true)

-- in a method whose callers hold mutexes up to a level
module _ (width : ℕ) (kinds : NameKinds) (above : ℕ) where
  -- what is known counts, and is true
  pub record FitsState (env : Env) (s : State) : Type 0 where
    pub reached : env.counts ≡ true
    pub own : FitSlots width s.frame.locals env.locals
    pub given : FitSlots width s.frame.args env.args
    pub shared : FitNames width kinds.shared s.names
    pub owned : FitNames width kinds.owns s.frame.owns
    pub fields : s.frame.fields ≡ kinds.fields
    pub holds : FitsHeld s.frame.held env.held
    pub callers : IsUnder above s.frame

  abbrev pub FitsExit : Option Env → State → Type 0
  FitsExit None s = ⊥
  FitsExit (Some env) s = FitsState env s

  -- a stop is one of these exits, and no error but for what callers hold
  abbrev pub FitsStop : Exits → Stop → State → Type 0
  FitsStop x (Error e) s = OnlyAbove x.least above e
  FitsStop x (Returned v) s = FitsReturn width x.returned v × FitNames width kinds.shared s.names
  FitsStop x (Broke at) s = FitsExit x.broke s
  FitsStop x (Continued at) s = FitsExit x.continued s

  -- from so many steps: no error but for what callers hold, as the rules say, within the cost, and
  -- short of steps only where fewer were there
  abbrev pub IsSafe : {V K : Type 0} → (V → K → State → Type 0) → ℕ → Judged K → Out V → Type 0
  IsSafe P before (Stops r) out = Unit {0}
  IsSafe P before (Goes k env x n) (state.Goes v s) =
      P v k s × FitsState env s × (before ≤ s.steps + n)
  IsSafe P before (Goes k env x n) (Halts stop s) = FitsStop x stop s × (before ≤ s.steps + n)
  IsSafe P before (Goes k env x n) (NoAnswer s) = Unit {0}
  IsSafe P before (Goes k env x n) (Spent s) = before < n

module _ (width : ℕ) (kinds : NameKinds) where
  -- a call of an accepted method gives what is known of it within its bound, and leaves the frame
  -- alone; it meets no error, but where the caller or its callers hold a level above the least that
  -- the method takes
  abbrev pub IsCalled : Accepted → Frame → ℕ → Out (Option Value) → Type 0
  IsCalled m frame before (state.Goes v s) =
      FitsYield width v m.result × (s.frame ≡ frame) × FitNames width kinds.shared s.names ×
      (before ≤ s.steps + m.bound)
  IsCalled m frame before (Halts (Error e) s) =
      OnlyAbove m.least (held_level frame) e × (before ≤ s.steps + m.bound)
  IsCalled m frame before (Halts stop s) = ⊥
  IsCalled m frame before (NoAnswer s) = Unit {0}
  IsCalled m frame before (Spent s) = before < m.bound

  pub record AreCalls (callee : ℕ → Seen) (call : Place → ℕ → List Value → M (Option Value)) :
      Type 0 where
    pub each :
        (p : Place) (k : ℕ) (m : Accepted) (vs : List Value) (script : List Event) (s : State) →
        (callee k).accepted ≡ Some m → FitAll width vs m.args →
        FitNames width kinds.shared s.names → FitScript width kinds.shared script →
        s.frame.watched ≡ true →
        IsCalled m s.frame s.steps ((call p k vs).run script s)

-- whatever a call is, it leaves its caller's frame alone, and stops by an error or not at all
abbrev pub IsTame : Frame → Out (Option Value) → Type 0
IsTame frame (state.Goes v s) = s.frame ≡ frame
IsTame frame (Halts (Error e) s) = Unit {0}
IsTame frame (Halts stop s) = ⊥
IsTame frame (NoAnswer s) = Unit {0}
IsTame frame (Spent s) = Unit {0}

pub record AreTame (call : Place → ℕ → List Value → M (Option Value)) : Type 0 where
  pub each :
      (p : Place) (k : ℕ) (vs : List Value) (script : List Event) (s : State) →
      IsTame s.frame ((call p k vs).run script s)

-- What the code's kinds, environments and exits say, by a numbering of packages' shapes, and by
-- what is held up to each taking of a mutex.
use Rattle.std.specs.Prelude.{◌≡◌, ◌<◌, ◌++◌, ℕ, map, List, [], ◌∷◌, Bool, true, false, Option, Some, None, IfSome, slice_get}
use Rattle.std.specs.Option.{option_map}
use Rattle.aml_kinds.specs.Kinds.{Kind, IntUpTo, BufOf, StrOf, PkgOf, AnyPkg, Mixed, Shape, ElementKind, ValueOf, AnyName, Anything}
use Rattle.aml_judged.specs.Known as judged
use Rattle.aml_judged.specs.Known.{Slot, same_mutexes}
use Rattle.aml_judged.specs.Judged as judging
use Rattle.aml_meaning.specs.declared.mutex.TakenMutex.{TakenMutex}
use Rattle.aml_meaning.specs.State.{greatest_level}
use Rattle.aml_known.specs.declared.accepted.Accepted.{Accepted}
use Rattle.aml_known.specs.declared.accepted.Yield.{Yield}
use Rattle.aml_known.specs.declared.accepted.Yield.TheVariants as yield
use Rattle.aml_known.specs.declared.env.Env.{Env}
use Rattle.aml_known.specs.declared.exits.Exits.{Exits}
use Rattle.aml_known.specs.declared.known.ElementKnown.{ElementKnown}
use Rattle.aml_known.specs.declared.known.ElementKnown.TheVariants as element
use Rattle.aml_known.specs.declared.known.Known.{Known}
use Rattle.aml_known.specs.declared.known.Known.TheVariants as known
use Rattle.aml_known.specs.declared.locks.Compared.{Compared}
use Rattle.aml_known.specs.declared.locks.Compared.TheVariants as compared
use Rattle.aml_known.specs.declared.locks.Held.{Held}
use Rattle.aml_known.specs.declared.locks.Held.TheVariants as held
use Rattle.aml_known.specs.declared.locks.Taking.{Taking}

-- two numbers never stand for one shape
pub record AreApart (shapes : ℕ → Shape) : Type 0 where
  pub apart : (i j : ℕ) → shapes i ≡ shapes j → i ≡ j

-- the kind of a slot, where it is not unset
abbrev pub held_kind : Option Slot → Option Kind
held_kind (Some (Some k)) = Some k
held_kind slot = None

module _ (shapes : ℕ → Shape) where
  abbrev pub kind_of : Known → Kind
  kind_of (known.Int n) = IntUpTo n
  kind_of (known.Buf n) = BufOf n
  kind_of (known.Str n) = StrOf n
  kind_of (known.Pkg s) = PkgOf (shapes s.0)
  kind_of known.AnyPkg = AnyPkg
  kind_of known.Mixed = Mixed

  abbrev pub element_kind_of : ElementKnown → ElementKind
  element_kind_of (element.Value k) = ValueOf (kind_of k)
  element_kind_of element.Name = AnyName
  element_kind_of element.Unset = Anything

  abbrev pub kinds_of : List Known → List Kind
  kinds_of ks = map kind_of ks

  abbrev pub slot_of : Option Known → Slot
  slot_of k = option_map kind_of k

  abbrev pub slots_of : List (Option Known) → List Slot
  slots_of ks = map slot_of ks

  abbrev pub yield_of : Yield → judging.Yield
  yield_of (yield.Always k) = judging.Always (kind_of k)
  yield_of (yield.Sometimes k) = judging.Sometimes (kind_of k)
  yield_of yield.Never = judging.Never

  abbrev pub accepted_of : Accepted → judging.Accepted
  accepted_of a = record {
    args = kinds_of a.args.items;
    result = yield_of a.result;
    bound = a.bound;
    least = a.least;
  }

-- what is held before a taking, by what is held up to each
abbrev pub held_before : (ℕ → List TakenMutex) → Option ℕ → List TakenMutex
held_before lists None = []
held_before lists (Some i) = lists i

-- what a taking says of what is held up to it, which has a number
pub record IsTaking (lists : ℕ → List TakenMutex) (i : ℕ) (t : Taking) : Type 0 where
  pub held : lists i ≡ held_before lists t.before ++ t.mutex ∷ []
  pub greatest : t.greatest ≡ greatest_level 0 (lists i)

-- takings say what is held up to each
abbrev pub Says : (ℕ → List TakenMutex) → List Taking → Type 0
Says lists takings = (i : ℕ) → IfSome (slice_get takings i) (IsTaking lists i)

-- each stands behind the one before it
abbrev pub IsBehind : ℕ → Taking → Type 0
IsBehind i t = IfSome t.before (λ before. before < i)

abbrev pub AreBehind : List Taking → Type 0
AreBehind takings = (i : ℕ) → IfSome (slice_get takings i) (IsBehind i)

-- takings that say what is held up to each of them
pub record CanBeRead (takings : List Taking) : Type 0 where
  pub lists : ℕ → List TakenMutex
  pub say : Says lists takings
  pub behind : AreBehind takings

-- takings are kept, and some may be made
pub record Grown (old new : List Taking) : Type 0 where
  pub more : List Taking
  pub are : new ≡ old ++ more

module _ (lists : ℕ → List TakenMutex) where
  abbrev pub held_of : Held → judged.Held
  held_of held.Nothing = judged.These []
  held_of (held.UpTo i) = judged.These (lists i)
  held_of held.Different = judged.Different

  abbrev pub mutexes_of : Held → List TakenMutex
  mutexes_of held.Nothing = []
  mutexes_of (held.UpTo i) = lists i
  mutexes_of held.Different = []

  -- whether lists are the same, by what is found at their ends
  abbrev pub same_by : Compared → Bool
  same_by compared.Same = true
  same_by compared.Different = false
  same_by (compared.Before i j) = same_mutexes (lists i) (lists j)

-- what is left to be compared ends before a taking
abbrev pub IsBefore : ℕ → Compared → Type 0
IsBefore n (compared.Before i j) = i < n
IsBefore n c = Unit {0}

-- the last taking of those that are held
abbrev pub last_of : Held → Option ℕ
last_of (held.UpTo i) = Some i
last_of h = None

-- which is one of so many
abbrev pub IsThere : ℕ → Held → Type 0
IsThere n (held.UpTo i) = i < n
IsThere n h = Unit {0}

-- not different ones
abbrev pub IsCertain : Held → Type 0
IsCertain held.Different = ⊥
IsCertain h = Unit {0}

module _ (shapes : ℕ → Shape) (lists : ℕ → List TakenMutex) where
  abbrev pub env_of : Env → judged.Env
  env_of e = record {
    locals = slots_of shapes e.locals;
    args = slots_of shapes e.args;
    held = held_of lists e.held;
    counts = e.counts;
    looped = e.looped;
  }

  abbrev pub exits_of : Exits → judging.Exits
  exits_of x = record {
    broke = option_map env_of x.broke;
    continued = option_map env_of x.continued;
    returned = option_map (kind_of shapes) x.returned;
    least = x.least;
  }

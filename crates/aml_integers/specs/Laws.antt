-- Which methods are integer-only has one answer, and is decided in call order: the laws.
use Rattle.std.specs.Prelude.{◌==◌, ◌≡◌, ◌<◌, ◌||◌, ℕ, length, slice_set, List, [], ◌∷◌, Option, Some, None, if◌then◌else◌, Bool, true, false}
use Rattle.aml_operators.specs.Tree.{Trees}
use Rattle.aml_contents.specs.Contents.{ContentKinds}
use Rattle.aml_meaning.specs.Within.{Callee, Methods}
use Rattle.aml_calls.specs.Calls.{calls_of}
use Rattle.aml_calls.specs.Chains.{is_among, is_short, IsBehindCallees}
use Rattle.aml_judged.specs.Integers.{AreIntegerOnly, integer_only_by, integers_in}
use Rattle.aml_judged.specs.Judged.{Accepted}
use Rattle.aml_judged.specs.Verdicts.{AreAccepted, called_from, Judging}
use Rattle.aml_integers.specs.Known.{marked}

-- of which methods are integer-only, statements ask about those that they call alone
abbrev pub CallsDecide : Type 0
CallsDecide =
    (methods : Methods) (m : Callee) (kinds : ContentKinds) (only other : ℕ → Bool) (body : Trees) →
    ((j : ℕ) → is_among j (calls_of m.link body) ≡ true → only j ≡ other j) →
    integers_in methods m kinds only body ≡ integers_in methods m kinds other body

-- there is one answer to which of the accepted methods are integer-only
abbrev pub IntegersAreOne : Type 0
IntegersAreOne =
    (all : Judging) (known : ℕ → Option Accepted) → AreAccepted all known →
    (only other : ℕ → Bool) → AreIntegerOnly all known only → AreIntegerOnly all known other →
    (k : ℕ) → only k ≡ other k

module _ (all : Judging) (known : ℕ → Option Accepted) where
  -- what is decided of a method, by what is decided of others
  abbrev pub decided : (ℕ → Bool) → ℕ → Bool
  decided only k = integer_only_by all only k (known k) (all.methods.callee k)

  -- each method that a method calls is done, or refused
  abbrev pub CallsDone : (ℕ → Bool) → ℕ → Type 0
  CallsDone done k =
      (j : ℕ) → is_among j (called_from all k) ≡ true → done j ≡ false → known j ≡ None

  -- what is decided behind one method more, and behind some in order
  abbrev pub decided_one : (ℕ → Bool) → ℕ → ℕ → Bool
  decided_one only k = λ j. if j == k then decided only k else only j

  abbrev pub decided_in_order : (ℕ → Bool) → List ℕ → ℕ → Bool
  decided_in_order only [] = only
  decided_in_order only (k ∷ ks) = decided_in_order (decided_one only k) ks

  -- of the methods that are done it is decided what they are, of others nothing; and a method that
  -- one of them calls is done or refused
  pub record AreDecided (done : ℕ → Bool) (only : ℕ → Bool) : Type 0 where
    pub each : (k : ℕ) → done k ≡ true → only k ≡ decided only k
    pub behind : (k : ℕ) → done k ≡ true → CallsDone done k
    pub none : (k : ℕ) → done k ≡ false → only k ≡ false

-- decided in an order in which each stands behind its callees, where the methods that are left out
-- reach a cycle or begin too long a chain, they are the answer
abbrev pub OrderDecides : Type 0
OrderDecides =
    (all : Judging) (known : ℕ → Option Accepted) → AreAccepted all known →
    (order : List ℕ) → IsBehindCallees (called_from all) [] order →
    ((k : ℕ) (m : Callee) → all.methods.callee k ≡ Some m → is_among k order ≡ false →
    is_short (called_from all) 64 k ≡ false) →
    AreIntegerOnly all known (decided_in_order all known (λ k. false) order)

-- where one method more is done behind those that it calls, and marked as is decided of it, all
-- that are done are marked so; and when all that are accepted are done, the marks are the answer
abbrev pub MarksDecide : Type 0
MarksDecide =
    (all : Judging) (known : ℕ → Option Accepted) (done : ℕ → Bool) (marks : List Bool) (k : ℕ)
    (mark : Bool) → AreDecided all known done (marked marks) → CallsDone all known done k →
    done k ≡ false → k < length marks → mark ≡ decided all known (marked marks) k →
    AreDecided all known (λ j. (j == k) || done j) (marked (slice_set marks k mark))

abbrev pub DoneDecides : Type 0
DoneDecides =
    (all : Judging) (known : ℕ → Option Accepted) (done only : ℕ → Bool) →
    AreDecided all known done only → ((k : ℕ) → done k ≡ false → known k ≡ None) →
    AreIntegerOnly all known only

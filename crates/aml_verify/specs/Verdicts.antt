-- What is said of the methods of a namespace.
use Rattle.std.specs.Prelude.{◌≡◌, ◌≤◌, ◌+◌, ◌-◌, ℕ, List, length, take, slice_get, slice_set, IsSome, Option, Some, None, Ok, Err, Bool, true, false}
use Rattle.aml_bodies.specs.Kept.{AreAllKept, AreKept}
use Rattle.aml_calls.specs.Chains.{is_among}
use Rattle.aml_calls.specs.Pairs.{numbers}
use Rattle.aml_components.specs.declared.components.Components.{Components}
use Rattle.aml_components.specs.declared.heights.Heights.{Heights}
use Rattle.aml_contents.specs.FirstContents.{first_kinds}
use Rattle.aml_integers.specs.Known.{marked}
use Rattle.aml_integers.specs.Laws.{decided}
use Rattle.aml_judged.specs.Judged as judged
use Rattle.aml_judged.specs.Verdicts as judgement
use Rattle.aml_judged.specs.Verdicts.{AreAccepted, Judging, verdict_by}
use Rattle.aml_kinds.specs.Kinds.{Shape}
use Rattle.aml_known.specs.declared.known.Known.{Known}
use Rattle.aml_known.specs.Views.{accepted_of}
use Rattle.aml_objects.specs.declared.object.Method.{Method}
use Rattle.aml_namespace.specs.Load.{Shown}
use Rattle.aml_namespace.specs.Names.{IsBodyOf, method_at, ReadsBodyOf}
use Rattle.aml_namespace.specs.Shows.{shown}
use Rattle.aml_operators.specs.Tree.{Tree}
use Rattle.aml_paths.specs.declared.scope.ObjectId.{ObjectId}
use Rattle.aml_shapes.specs.Numbers.{numbered}
use Rattle.aml_signatures.specs.Signed.{kinds_told}
use Rattle.aml_tree.specs.declared.fault.TreeFault.TheVariants as unread
use Rattle.aml_methods.specs.Judgings.{IsJudging, TellsCalls, Told}
use Rattle.aml_verify.specs.Bodies.{kinds_by}
use Rattle.aml_verify.specs.Keeping.{AreMarked, MarksSoFar}
use Rattle.aml_verify.specs.Said.{verdict_at}
use Rattle.aml_verify.specs.declared.checked.Checked.{Checked}
use Rattle.aml_verify.specs.declared.verdict.Verdict.{Verdict}
use Rattle.aml_verify.specs.declared.verdict.Verdict.TheVariants as verdict
use Rattle.aml_verify.specs.declared.verifier.Found.{Found}
use Rattle.aml_verify.specs.declared.verifier.Verifier.{Verifier}

-- what is said of the method with a number is its verdict; or its body has no tree, and that is why
abbrev pub Says : Shown → (ℕ → Shape) → ℕ → Method → Verdict → Option judgement.Verdict → Type 0
Says ns shapes k m (verdict.Accepted a) v = v ≡ Some (Ok (accepted_of shapes a))
Says ns shapes k m (verdict.Refused r finding) v = v ≡ Some (Err r)
Says ns shapes k m (verdict.Unreadable table r) v =
    (table ≡ m.table) × ReadsBodyOf ns k m (Err (unread.Refused r))

-- whatever is said is right: where methods' accepted ones are known, it is what their verdicts are
abbrev pub AreRight : Shown → Told → (ℕ → Shape) → List (Option Verdict) → Type 0
AreRight ns told shapes verdicts =
    (all : Judging) → IsJudging ns told all →
    (known : ℕ → Option judged.Accepted) → AreAccepted all known →
    (k : ℕ) (m : Method) → method_at ns k ≡ Some m →
    (v : Verdict) → verdict_at verdicts k ≡ Some v →
    Says ns shapes k m v (verdict_by all known k (all.methods.callee k))

-- verdicts on all methods of a namespace, and on nothing else; of their bodies those are kept that
-- have a tree, and those methods are marked that evaluate integers alone
pub record IsChecked (told : Told) (c : Checked) : Type 0 where
  pub right : AreRight (shown c.namespace.now) told (numbered c.shapes) c.verdicts.items
  pub all : (k : ℕ) (m : Method) → method_at (shown c.namespace.now) k ≡ Some m →
      IsSome (verdict_at c.verdicts.items k)
  pub only : (k : ℕ) → method_at (shown c.namespace.now) k ≡ None →
      verdict_at c.verdicts.items k ≡ None
  pub kept : AreKept (shown c.namespace.now) c.kept.items
  pub all_kept : AreAllKept (shown c.namespace.now) c.kept.items
  pub integers : AreMarked (shown c.namespace.now) told c.integers.items

-- a verifier at work: what it says so far is right, of just those methods that it has judged
pub record IsAtWork (ns : Shown) (told : Told) (shapes : List Shape) (shared : List (Option Known))
    (heights : Heights) (components : Components) (order : List ℕ) (judged : ℕ)
    (verdicts : List (Option Verdict)) : Type 0 where
  pub shared_are : kinds_by shapes shared ≡ first_kinds ns
  pub calls : (all : Judging) → IsJudging ns told all → TellsCalls all heights components order
  pub ordered : (k : ℕ) (m : Method) → method_at ns k ≡ Some m → is_among k order ≡ true
  pub room : length verdicts ≡ length ns.entries
  pub within : judged ≤ length order
  pub right : AreRight ns told (numbered shapes) verdicts
  pub said : (k : ℕ) (m : Method) → method_at ns k ≡ Some m →
      is_among k (take judged order) ≡ true → IsSome (verdict_at verdicts k)
  pub unsaid : (k : ℕ) → is_among k (take judged order) ≡ false → verdict_at verdicts k ≡ None
  pub only : (k : ℕ) → method_at ns k ≡ None → verdict_at verdicts k ≡ None

-- the methods in the order in which they are judged
abbrev pub order_of : Verifier → List ℕ
order_of v = numbers v.order.items

pub record IsVerifier (v : Verifier) : Type 0 where
  pub at_work : IsAtWork (shown v.read.namespace.now) (kinds_told v.signatures.now) v.shapes
      v.shared.items
      v.heights v.components (order_of v) v.judged v.verdicts.items
  pub keeps : AreKept (shown v.read.namespace.now) v.read.kept.items
  pub marks : MarksSoFar (shown v.read.namespace.now) (kinds_told v.signatures.now) (order_of v)
      v.judged v.integers.items

-- another verifier of the same methods in the same order, whose arguments are of the same kinds
pub record IsOfSame (old new : Verifier) : Type 0 where
  pub namespace : new.read.namespace ≡ old.read.namespace
  pub signatures : new.signatures ≡ old.signatures
  pub order : new.order ≡ old.order

-- how many methods are left
abbrev pub left : Verifier → ℕ
left v = length v.order.items - v.judged

-- the statements of a method's body that were read
pub record IsRead (ns : Shown) (k : ℕ) (m : Method) (ts : List Tree) : Type 0 where
  pub is : IsBodyOf ns k m ts

-- what is said of the next method is right
abbrev pub SaysNext : Verifier → ℕ → Method → Verdict → Type 0
SaysNext v k m said =
    (all : Judging) → IsJudging (shown v.read.namespace.now) (kinds_told v.signatures.now) all →
    (known : ℕ → Option judged.Accepted) → AreAccepted all known →
    Says (shown v.read.namespace.now) (numbered v.shapes) k m said
    (verdict_by all known k (all.methods.callee k))

-- what is said of a number that is next: what is right of its method, or nothing where no method
-- has it
abbrev pub SaidOf : Verifier → ℕ → Option Verdict → Type 0
SaidOf v k (Some said) =
    (m : Method) × (method_at (shown v.read.namespace.now) k ≡ Some m) × SaysNext v k m said
SaidOf v k None = method_at (shown v.read.namespace.now) k ≡ None

-- whether the next method is marked as is decided of it, by the marks so far
abbrev pub MarksNext : Verifier → ℕ → Bool → Type 0
MarksNext v k mark =
    (all : Judging) → IsJudging (shown v.read.namespace.now) (kinds_told v.signatures.now) all →
    (known : ℕ → Option judged.Accepted) → AreAccepted all known →
    mark ≡ decided all known (marked v.integers.items) k

-- what is found of a number that is next: what is said of its method, and its mark
pub record FoundOf (v : Verifier) (k : ℕ) (f : Found) : Type 0 where
  pub said : SaidOf v k f.verdict
  pub marks : MarksNext v k f.integers

-- with what is said of one more, where there is room for it
abbrev pub said_more : List (Option Verdict) → ℕ → Option Verdict → List (Option Verdict)
said_more verdicts k (Some said) = slice_set verdicts k (Some said)
said_more verdicts k None = verdicts

-- a step answers the number that is next, and what its method is, is said; or none is left, and all
-- stays
abbrev pub JudgesNext : Verifier → Verifier → Option ObjectId → Type 0
JudgesNext old new (Some id) =
    (slice_get (order_of old) old.judged ≡ Some id.0) × (new.judged ≡ old.judged + 1)
JudgesNext old new None = (length old.order.items ≤ old.judged) × (new ≡ old)

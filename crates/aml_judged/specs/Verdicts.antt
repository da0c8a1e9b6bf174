-- A method's verdict, by those of the methods that it calls, and how long chains of calls are.
use Rattle.std.specs.Prelude.{◌&&◌, Result, Ok, Err, not, ◌≡◌, ℕ, ◌^◌, List, [], Option, Some, None, nat_lt, Bool, true, false, if◌then◌else◌}
use Rattle.aml_kinds.specs.Kinds.{Kind}
use Rattle.aml_contents.specs.Contents.{ContentKinds}
use Rattle.aml_meaning.specs.Within.{Callee, Methods}
use Rattle.aml_calls.specs.Calls.{calls_of}
use Rattle.aml_calls.specs.Chains.{is_among, is_short, TellsReach}
use Rattle.aml_judged.specs.Causes.{Refusal}
use Rattle.aml_judged.specs.Known.{Env}
use Rattle.aml_judged.specs.Judged.{Yield, Always, Sometimes, Never, Accepted, Seen, Around, Judged, Goes, Stops}
use Rattle.aml_judged.specs.Bodies.{shared_only, judged_method, entry}
use Rattle.aml_judged.specs.Causes as cause

-- by whether the end of the body is reached, and the Returns that count
abbrev pub result_of : Bool → Option Kind → Yield
result_of c None = Never
result_of true (Some k) = Sometimes k
result_of false (Some k) = Always k

-- a method whose body goes is accepted, where its bound is not too large
abbrev pub most_steps : ℕ
most_steps = 2 ^ 63

abbrev pub Verdict : Type 0
Verdict = Result Accepted Refusal

-- no Break or Continue leaves a body, as none stands outside a loop
abbrev pub none_left : Option Env → Option Env → Bool
none_left None None = true
none_left b c = false

abbrev pub bounded : Bool → Refusal → Accepted → Verdict
bounded true r a = Ok a
bounded false r a = Err r

-- the verdict of a method whose body is judged: V11 is told last, at the method's opcode
abbrev pub verdict_of : Bool → Refusal → List Kind → Judged (Unit {0}) → Verdict
verdict_of short late args (Goes u env x n) =
    bounded (short && (none_left x.broke x.continued && nat_lt n most_steps)) late
    (record { args = args; result = result_of env.counts x.returned; bound = n; least = x.least })
verdict_of short late args (Stops r) = Err r

abbrev pub accepted_of : Option Verdict → Option Accepted
accepted_of (Some (Ok a)) = Some a
accepted_of v = None

-- a namespace's methods, the kinds of its names, which arguments each method has, and whether a
-- chain of calls leads from one method to another
pub record Judging : Type 0 where
  pub methods : Methods
  pub kinds : ContentKinds
  pub args : ℕ → List Kind
  pub reaches : ℕ → ℕ → Bool

-- the methods that a method calls, reached or not, where its body parses
abbrev pub calls_by : Option Callee → List ℕ
calls_by (Some m) = calls_of m.link m.body
calls_by None = []

module _ (all : Judging) where
  abbrev pub called_from : ℕ → List ℕ
  called_from k = calls_by (all.methods.callee k)

  -- what is told of chains of calls is so
  pub record TellsChains : Type 0 where
    pub each : (from to : ℕ) → TellsReach called_from from to (all.reaches from to)

  -- what a method sees of one that it calls
  abbrev pub seen_from : (ℕ → Option Accepted) → ℕ → ℕ → Seen
  seen_from known k j = record {
    reaches = all.reaches j k;
    deep = not (is_short called_from 63 j);
    accepted = if is_among j (called_from k) then known j else None;
  }

  abbrev pub around_for : (ℕ → Option Accepted) → ℕ → Callee → Around
  around_for known k m = record {
    table = m.table;
    width = all.methods.width;
    link = m.link;
    lone = m.lone;
    object = all.methods.object;
    field = all.methods.field;
    buffer_field = all.methods.buffer_field;
    literal = m.literal;
    kinds = shared_only all.kinds;
    callee = seen_from known k;
  }

  -- a bound that is too large is told at the Method opcode
  abbrev pub too_large : Callee → Refusal
  too_large m = record { table = m.table; at = m.opcode; why = cause.BoundTooLarge }

  -- a method's verdict, where its body parses, by those of the methods that it calls
  abbrev pub verdict_by : (ℕ → Option Accepted) → ℕ → Option Callee → Option Verdict
  verdict_by known k None = None
  verdict_by known k (Some m) = Some (
      verdict_of (is_short called_from 64 k) (too_large m) (all.args k)
      (judged_method (around_for known k m) m.opcode m.body (entry (all.args k))))

  -- the accepted methods
  pub record AreAccepted (known : ℕ → Option Accepted) : Type 0 where
    pub each : (k : ℕ) → known k ≡ accepted_of (verdict_by known k (all.methods.callee k))

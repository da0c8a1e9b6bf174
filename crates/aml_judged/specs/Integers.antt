-- Methods that evaluate integers alone: each term of such a method that has a value has an integer,
-- names, locals and arguments that are read or written by what they hold, and it makes no own name
-- (own). Where mutexes are not watched, such a method wants memory nowhere.
use Rattle.std.specs.Prelude.{◌≡◌, ℕ, ◌&&◌, nat_le, List, [], ◌∷◌, Option, Some, None, slice_get, Bool, true, false}
use Rattle.aml_operators.specs.Tree.{Tree, Trees, Node, none, more}
use Rattle.aml_namespace.specs.declared.link.Link.{Link}
use Rattle.aml_namespace.specs.declared.link.Link.TheVariants as link
use Rattle.aml_values.specs.Values.{Value, Int}
use Rattle.aml_kinds.specs.Kinds.{Kind, IntUpTo}
use Rattle.aml_contents.specs.Contents.{Contents, ContentKinds, content_at, kind_at}
use Rattle.aml_regions.specs.declared.field.AnyField.{AnyField}
use Rattle.aml_regions.specs.Events.{Event, Slept}
use Rattle.aml_regions.specs.Fields.{layout_of}
use Rattle.aml_meaning.specs.declared.action.Action.{Action}
use Rattle.aml_meaning.specs.declared.action.Action.TheVariants.{Data, Concatenate, SizeOf, Dereference, Index, Convert, CondRefOf, Notify, Acquire, Release, Name, Invoke}
use Rattle.aml_meaning.specs.declared.action.Conversion.TheVariants as conversion
use Rattle.aml_meaning.specs.declared.definition.Definition.{Definition}
use Rattle.aml_meaning.specs.declared.definition.Definition.TheVariants as makes
use Rattle.aml_meaning.specs.declared.buffer_field.BufferField.{BufferField}
use Rattle.aml_meaning.specs.Actions.{action}
use Rattle.aml_meaning.specs.Calls.{framed}
use Rattle.aml_meaning.specs.Definitions.{definition, mean_method}
use Rattle.aml_meaning.specs.Meaning.{Setting, at_of, mean, value}
use Rattle.aml_meaning.specs.Rules.{Place}
use Rattle.aml_meaning.specs.State as state
use Rattle.aml_meaning.specs.State.{State, Frame, Names, Error, Returned, Broke, Continued, Out, Halts, NoAnswer, Spent}
use Rattle.aml_meaning.specs.Within.{Callee, Methods, call_within, setting_for}
use Rattle.aml_judged.specs.Judged.{Accepted}
use Rattle.aml_judged.specs.Verdicts.{Judging}

abbrev pub is_integer : Option Kind → Bool
is_integer (Some (IntUpTo a)) = true
is_integer k = false

abbrev pub are_integers : List Kind → Bool
are_integers [] = true
are_integers (k ∷ ks) = is_integer (Some k) && are_integers ks

-- a field whose value is an integer, where integers have so many bits
abbrev pub is_narrow : ℕ → Option AnyField → Bool
is_narrow width (Some f) = nat_le (layout_of f).bits width
is_narrow width None = false

abbrev pub is_narrow_buffer_field : ℕ → Option BufferField → Bool
is_narrow_buffer_field width (Some f) = nat_le f.bits width
is_narrow_buffer_field width None = false

abbrev pub makes_nothing : Definition → Bool
makes_nothing makes.Nothing = true
makes_nothing what = false

-- in a method's body, where data names are of these kinds, and these methods evaluate integers
-- alone
module _ (methods : Methods) (m : Callee) (kinds : ContentKinds) (only : ℕ → Bool) where
  -- what a name holds, or has as a field
  abbrev pub integer_name : Link → Bool
  integer_name (link.Data id) = is_integer (kind_at kinds id.0)
  integer_name (link.Field id) = is_narrow methods.width (methods.field id.0)
  integer_name (link.BufferField id) =
      is_narrow_buffer_field methods.width (methods.buffer_field id.0)
  integer_name l = false

  -- what a name with arguments is: a method's call, or read as without them
  abbrev pub integer_called : Link → Bool
  integer_called (link.Method id) = only id.0
  integer_called l = integer_name l

  -- what CondRefOf is asked of: what holds no value counts for nothing
  abbrev pub integer_asked : Link → Bool
  integer_asked (link.Data id) = integer_name (link.Data id)
  integer_asked (link.Field id) = integer_name (link.Field id)
  integer_asked (link.BufferField id) = integer_name (link.BufferField id)
  integer_asked (link.Own k) = false
  integer_asked l = true

  abbrev mutual
    pub integers : Tree → Bool
    integers (Node o at stop parts) =
        makes_nothing (definition o) && integers_by (action o) at parts

    pub integers_by : Action → ℕ → Trees → Bool
    integers_by (Data o) at parts = false
    integers_by Concatenate at parts = false
    integers_by SizeOf at parts = false
    integers_by Dereference at parts = false
    integers_by Index at parts = false
    integers_by (Convert conversion.ToBuffer) at parts = false
    integers_by Name at parts = integer_name (m.link at)
    integers_by Invoke at (more name arguments) =
        integer_called (m.link (at_of name)) && integers_in arguments
    integers_by CondRefOf at (more (Node o from stop parts) ts) = integer_asked (m.link from)
    integers_by Notify at (more o ts) = integers_in ts
    integers_by Acquire at parts = true
    integers_by Release at parts = true
    integers_by a at none = true
    integers_by a at (more t ts) = integers t && integers_in ts

    pub integers_in : Trees → Bool
    integers_in none = true
    integers_in (more t ts) = integers t && integers_in ts

module _ (all : Judging) where
  abbrev pub integer_only_by : (ℕ → Bool) → ℕ → Option Accepted → Option Callee → Bool
  integer_only_by only k (Some a) (Some m) =
      are_integers (all.args k) && integers_in all.methods m all.kinds only m.body
  integer_only_by only k known m = false

  -- the accepted methods that are integer-only, by those that they call
  pub record AreIntegerOnly (known : ℕ → Option Accepted) (only : ℕ → Bool) : Type 0 where
    pub each : (k : ℕ) → only k ≡ integer_only_by only k (known k) (all.methods.callee k)

abbrev pub IsInteger : Value → Type 0
IsInteger (Int n) = Unit {0}
IsInteger v = ⊥

abbrev pub IsIntegerIfAny : Option Value → Type 0
IsIntegerIfAny (Some v) = IsInteger v
IsIntegerIfAny None = Unit {0}

abbrev pub AreIntegersIfAny : List (Option Value) → Type 0
AreIntegersIfAny [] = Unit {0}
AreIntegersIfAny (v ∷ vs) = IsIntegerIfAny v × AreIntegersIfAny vs

abbrev pub AreIntegers : List Value → Type 0
AreIntegers [] = Unit {0}
AreIntegers (v ∷ vs) = IsInteger v × AreIntegers vs

module _ (kinds : ContentKinds) where
  -- names of integers hold integers
  abbrev pub HoldIntegers : Contents → Type 0
  HoldIntegers contents =
      (i : ℕ) → is_integer (kind_at kinds i) ≡ true → IsIntegerIfAny (content_at contents i)

  -- contents that a Sleep left do so, too
  pub record LeavesIntegers (script : List Event) : Type 0 where
    pub left :
        (i milliseconds : ℕ) (contents : Contents) →
        slice_get script i ≡ Some (Slept milliseconds (Some contents)) → HoldIntegers contents

  module _ (watched : Bool) where
    -- locals and arguments hold nothing or integers, and so do names of integers; and mutexes are
    -- watched, or not
    pub record IsIntegral (s : State) : Type 0 where
      pub locals : AreIntegersIfAny s.frame.locals
      pub args : AreIntegersIfAny s.frame.args
      pub names : HoldIntegers s.names.contents
      pub watching : s.frame.watched ≡ watched

    -- goes on with what is wanted, or leaves by a Return of an integer, a Break or a Continue; the
    -- state is still such
    abbrev pub StaysIntegral : {V : Type 0} → (V → Type 0) → Out V → Type 0
    StaysIntegral P (state.Goes v s) = P v × IsIntegral s
    StaysIntegral P (Halts (Error e) s) = Unit {0}
    StaysIntegral P (Halts (Returned v) s) = IsInteger v × IsIntegral s
    StaysIntegral P (Halts (Broke at) s) = IsIntegral s
    StaysIntegral P (Halts (Continued at) s) = IsIntegral s
    StaysIntegral P (NoAnswer s) = Unit {0}
    StaysIntegral P (Spent s) = Unit {0}

  -- a call gives an integer, if anything, and leaves the frame alone
  abbrev pub GivesInteger : Frame → Out (Option Value) → Type 0
  GivesInteger frame (state.Goes v s) =
      IsIntegerIfAny v × (s.frame ≡ frame) × HoldIntegers s.names.contents
  GivesInteger frame (Halts (Error e) s) = Unit {0}
  GivesInteger frame (Halts stop s) = ⊥
  GivesInteger frame (NoAnswer s) = Unit {0}
  GivesInteger frame (Spent s) = Unit {0}

-- where a method's body stands, with so many more methods active in one another
abbrev pub setting_within : Judging → ℕ → Callee → Setting
setting_within all d m = setting_for all.methods (call_within all.methods d) m

-- in an integer-only method each statement, and each operand, leaves integers alone in locals,
-- arguments and names of integers, and an operand is an integer; and so is what the method gives
pub record IntegersAlone : Type 0 where
  pub statements :
      (all : Judging) (known : ℕ → Option Accepted) (only : ℕ → Bool) →
      AreIntegerOnly all known only →
      (d : ℕ) (m : Callee) (t : Tree) → integers all.methods m all.kinds only t ≡ true →
      (script : List Event) → LeavesIntegers all.kinds script →
      (watched : Bool) (s : State) → IsIntegral all.kinds watched s →
      StaysIntegral all.kinds watched IsIntegerIfAny
      ((mean (setting_within all d m) t).run script s)
  pub operands :
      (all : Judging) (known : ℕ → Option Accepted) (only : ℕ → Bool) →
      AreIntegerOnly all known only →
      (d : ℕ) (m : Callee) (t : Tree) → integers all.methods m all.kinds only t ≡ true →
      (script : List Event) → LeavesIntegers all.kinds script →
      (watched : Bool) (s : State) → IsIntegral all.kinds watched s →
      StaysIntegral all.kinds watched IsInteger ((value (setting_within all d m) t).run script s)
  pub calls :
      (all : Judging) (known : ℕ → Option Accepted) (only : ℕ → Bool) →
      AreIntegerOnly all known only →
      (d : ℕ) (p : Place) (k : ℕ) (values : List Value) → only k ≡ true → AreIntegers values →
      (script : List Event) → LeavesIntegers all.kinds script →
      (s : State) → HoldIntegers all.kinds s.names.contents →
      GivesInteger all.kinds s.frame ((call_within all.methods d p k values).run script s)

-- where mutexes are not watched, memory is wanted by no statement and by no operand of an
-- integer-only method, nor by a call of it, nor by the whole of it
pub record IntegersWantNone : Type 0 where
  pub statements :
      (all : Judging) (known : ℕ → Option Accepted) (only : ℕ → Bool) →
      AreIntegerOnly all known only →
      (d : ℕ) (m : Callee) (t : Tree) → integers all.methods m all.kinds only t ≡ true →
      (script : List Event) → LeavesIntegers all.kinds script →
      (s : State) → IsIntegral all.kinds false s →
      (mean (setting_within all d m) t).wants script s ≡ false
  pub operands :
      (all : Judging) (known : ℕ → Option Accepted) (only : ℕ → Bool) →
      AreIntegerOnly all known only →
      (d : ℕ) (m : Callee) (t : Tree) → integers all.methods m all.kinds only t ≡ true →
      (script : List Event) → LeavesIntegers all.kinds script →
      (s : State) → IsIntegral all.kinds false s →
      (value (setting_within all d m) t).wants script s ≡ false
  pub calls :
      (all : Judging) (known : ℕ → Option Accepted) (only : ℕ → Bool) →
      AreIntegerOnly all known only →
      (d : ℕ) (p : Place) (k : ℕ) (values : List Value) → only k ≡ true → AreIntegers values →
      (script : List Event) → LeavesIntegers all.kinds script →
      (s : State) → HoldIntegers all.kinds s.names.contents → s.frame.watched ≡ false →
      (call_within all.methods d p k values).wants script s ≡ false
  pub methods :
      (all : Judging) (known : ℕ → Option Accepted) (only : ℕ → Bool) →
      AreIntegerOnly all known only →
      (d k : ℕ) (m : Callee) (values : List Value) → all.methods.callee k ≡ Some m →
      only k ≡ true → AreIntegers values →
      (script : List Event) → LeavesIntegers all.kinds script →
      (s : State) → HoldIntegers all.kinds s.names.contents → s.frame.watched ≡ false →
      (framed m.table values (mean_method (setting_within all d m) m.body)).wants script s ≡ false

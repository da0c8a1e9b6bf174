-- What judging a part gives, and how parts that follow one another are judged.
use Rattle.std.specs.Prelude.{ℕ, ◌+◌, List, Option, Some, None, Result, Ok, Err, min, max, Bool, true, false}
use Rattle.aml_operators.specs.declared.op.Op.{Op}
use Rattle.aml_operators.specs.Tree.{Trees}
use Rattle.aml_namespace.specs.declared.link.Link.{Link}
use Rattle.aml_objects.specs.declared.object.Object.{Object}
use Rattle.aml_values.specs.Values.{Value}
use Rattle.aml_regions.specs.declared.field.AnyField.{AnyField}
use Rattle.aml_meaning.specs.declared.buffer_field.BufferField.{BufferField}
use Rattle.aml_kinds.specs.Kinds.{Kind}
use Rattle.aml_kinds.specs.Joins.{join}
use Rattle.aml_contents.specs.Contents.{ContentKinds}
use Rattle.aml_meaning.specs.Rules.{Place}
use Rattle.aml_judged.specs.Causes.{Cause, Refusal}
use Rattle.aml_judged.specs.Known.{Env, join_env, ends_agree}

-- whether a term has a value, and of which kind
pub data Yield : Type 0 where
  Always : (kind : Kind) → Yield
  Sometimes : (kind : Kind) → Yield
  Never : Yield

-- an accepted method: the kinds of its arguments, what a call gives, how many steps it takes at
-- most, and the least level of a mutex that it takes, or a method that it calls, if they take any
pub record Accepted : Type 0 where
  pub args : List Kind
  pub result : Yield
  pub bound : ℕ
  pub least : Option ℕ

-- what a caller sees of a method: whether it reaches the caller, whether a chain of 64 begins with
-- it, and what it is, where it is accepted
pub record Seen : Type 0 where
  pub reaches : Bool
  pub deep : Bool
  pub accepted : Option Accepted

-- the kinds of data names, and of the own names made so far: of each the kind of what it holds, or
-- the field of a buffer that it is
pub record NameKinds : Type 0 where
  pub shared : ContentKinds
  pub owns : ContentKinds
  pub fields : List (Option BufferField)

-- what is known around a body
pub record Around : Type 0 where
  pub table : ℕ
  pub width : ℕ
  pub link : ℕ → Link
  pub lone : ℕ → Bool
  pub object : ℕ → Option Object
  pub field : ℕ → Option AnyField
  pub buffer_field : ℕ → Option BufferField
  pub literal : Op → Trees → Value
  pub kinds : NameKinds
  pub callee : ℕ → Seen

-- what is known at the exits that count; and the least level of a mutex that is taken, by a way
-- that counts or by one that doesn't
pub record Exits : Type 0 where
  pub broke : Option Env
  pub continued : Option Env
  pub returned : Option Kind
  pub least : Option ℕ

abbrev pub no_exits : Exits
no_exits = record { broke = None; continued = None; returned = None; least = None }

-- mutexes are taken, the least of which has such a level, and nothing is left
abbrev pub taking : Option ℕ → Exits
taking least = record no_exits { least = least }

abbrev pub either : {X : Type 0} → (X → X → X) → Option X → Option X → Option X
either f (Some a) (Some b) = Some (f a b)
either f (Some a) None = Some a
either f None b = b

abbrev pub join_exits : Exits → Exits → Exits
join_exits a b = record {
  broke = either join_env a.broke b.broke;
  continued = either join_env a.continued b.continued;
  returned = either join a.returned b.returned;
  least = either min a.least b.least;
}

-- goes on with something of a kind and in an environment, or leaves by its exits, at such a cost;
-- or the first cause
pub data Judged (K : Type 0) : Type 0 where
  Goes : (kind : K) (env : Env) (exits : Exits) (cost : ℕ) → Judged K
  Stops : (refusal : Refusal) → Judged K

abbrev pub after : {L : Type 0} → Exits → ℕ → Judged L → Judged L
after x n (Goes k env y m) = Goes k env (join_exits x y) (n + m)
after x n (Stops r) = Stops r

abbrev pub then_judge : {K L : Type 0} → Judged K → (K → Env → Judged L) → Judged L
then_judge (Goes k env x n) f = after x n (f k env)
then_judge (Stops r) f = Stops r

-- a rule, from what is known before it
abbrev pub Rule : Type 0 → Type 0
Rule K = Env → Judged K

infixl 10 ◌>>=◌
abbrev pub ◌>>=◌ : {K L : Type 0} → Rule K → (K → Rule L) → Rule L
(m >>= f) = λ env. then_judge (m env) f

-- at a cost
abbrev pub pays : {K : Type 0} → ℕ → K → Rule K
pays n k env = Goes k env no_exits n

abbrev pub goes : {K : Type 0} → K → Rule K
goes k = pays 0 k

-- one step
abbrev pub step : Rule (Unit {0})
step = pays 1 tt

-- a rule's kind, or its cause
abbrev pub ruled : {K : Type 0} → Result K Refusal → Rule K
ruled (Ok k) = goes k
ruled (Err r) = λ env. Stops r

-- what goes on where ways agree in what they hold
abbrev pub agreed : {K : Type 0} → Bool → Refusal → Judged K → Judged K
agreed true r j = j
agreed false r j = Stops r

-- either of two, of which the first is judged first; ends that count hold the same mutexes, or this
-- is refused
abbrev pub meet : {K : Type 0} → Refusal → Judged K → Judged K → Judged K
meet r (Goes k a x n) (Goes j b y m) =
    agreed (ends_agree a b) r (Goes k (join_env a b) (join_exits x y) (max n m))
meet r (Goes k a x n) (Stops q) = Stops q
meet r (Stops q) j = Stops q

abbrev pub refuses : {K : Type 0} → Cause → Place → Result K Refusal
refuses why p = Err (record { table = p.table; at = p.at; why = why })

abbrev pub then_rule : {J K : Type 0} → Result J Refusal → (J → Result K Refusal) → Result K Refusal
then_rule (Ok j) f = f j
then_rule (Err r) f = Err r

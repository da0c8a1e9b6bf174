-- Integer-only methods evaluate integers alone, and want no memory where mutexes are not watched.
use Rattle.std.proofs.Common.{◌≡◌, ℕ, zero, suc, ◌+◌, ◌/◌, ◌^◌, ◌-◌, List, [], ◌∷◌, Option, Some, None, Result, Ok, Err, refl, sym, ap, ◌∙◌, subst}
use Rattle.std.specs.Prelude.{Bool, true, false, ◌==◌, ◌&&◌, if◌then◌else◌, nat_le, slice_get, slice_set, length}
use Rattle.std.proofs.lemmas.Bool.{and_parts}
use Rattle.aml_operators.specs.declared.op.Op.{Op}
use Rattle.aml_operators.specs.Shape.{operator_of}
use Rattle.aml_operators.specs.Tree.{Tree, Trees, Node, none, more}
use Rattle.aml_namespace.specs.declared.link.Link.{Link}
use Rattle.aml_namespace.specs.declared.link.Link.TheVariants as link
use Rattle.aml_objects.specs.declared.object.Object.{Object}
use Rattle.aml_objects.specs.declared.object.Object.TheVariants as object
use Rattle.aml_paths.specs.declared.scope.ObjectId.{ObjectId}
use Rattle.aml_values.specs.Values.{Value, Int, Buf, Str, Pkg}
use Rattle.aml_contents.specs.Contents.{Contents, ContentKinds, content_at, kind_at}
use Rattle.aml_regions.specs.declared.field.AnyField.{AnyField}
use Rattle.aml_regions.specs.Events.{Event, Read, Written, Notified, Slept, Stalled}
use Rattle.aml_regions.specs.Fields.{layout_of}
use Rattle.aml_regions.specs.Worlds.{behind_sleep}
use Rattle.aml_meaning.specs.declared.action.Action.{Action}
use Rattle.aml_meaning.specs.declared.action.Action.TheVariants.{Acquire, Release, Literal, Data, Local, Argument, Name, Binary, Unary, ByOne, Compare, LNot, Divide, Convert, Concatenate, SizeOf, Dereference, Index, CondRefOf, Store, Return, If, While, Break, Continue, Nothing, Invoke, NoTarget, Debug, Notify, Pause, Unwritten}
use Rattle.aml_meaning.specs.declared.action.Arithmetic.{Arithmetic}
use Rattle.aml_meaning.specs.declared.action.Bitwise.{Bitwise}
use Rattle.aml_meaning.specs.declared.action.Comparison.{Comparison}
use Rattle.aml_meaning.specs.declared.action.Comparison.TheVariants as comparison
use Rattle.aml_meaning.specs.declared.action.Conversion.TheVariants as conversion
use Rattle.aml_meaning.specs.declared.action.Pause.{Pause as PauseKind}
use Rattle.aml_meaning.specs.declared.action.Pause.TheVariants as pause
use Rattle.aml_meaning.specs.declared.definition.Definition.{Definition}
use Rattle.aml_meaning.specs.declared.definition.Definition.TheVariants as makes
use Rattle.aml_meaning.specs.declared.error.AmlCause.TheVariants as why
use Rattle.aml_meaning.specs.declared.error.AmlError.{AmlError}
use Rattle.aml_meaning.specs.declared.mutex.TakenMutex.{TakenMutex}
use Rattle.aml_meaning.specs.declared.buffer_field.BufferField.{BufferField}
use Rattle.aml_meaning.specs.Actions.{action}
use Rattle.aml_meaning.specs.BufferFields.{read_buffer_field, written_buffer_field, bytes_around}
use Rattle.aml_meaning.specs.Calls.{framed, inside, left}
use Rattle.aml_meaning.specs.Changes.{change, changed_or, held_by, holding, peek, peeked_or, result_takes_memory}
use Rattle.aml_meaning.specs.Conversions.{converted}
use Rattle.aml_meaning.specs.Definitions.{definition, mean_body, mean_method, statement, stated}
use Rattle.aml_meaning.specs.Fields.{read_value, write_bits, read_count, write_count}
use Rattle.aml_meaning.specs.FieldValues.{given_bits, wanted_field}
use Rattle.aml_meaning.specs.Loops.{turned, behind_turn, turn_end, turns, loop, spent}
use Rattle.aml_meaning.specs.Meaning.{Setting, converting, at_of, act, mean, value, values, mean_all, block, otherwise, is_else, want, store, stored, put, named, named_target, invoked, held, field_stored, bits_stored, buffer_field_read, buffer_field_changed, asked, condition, is_there, notified_name, notified, tested, gives_value, changed_in_place, operator_action, place, place_at, outside, mutex, mutex_named, mutex_numbered}
use Rattle.aml_meaning.specs.Mutexes.{acquire, acquired_or, ended_or, if_watched, none_held, release, released_or, without_last}
use Rattle.aml_meaning.specs.Notices.{notice, paused}
use Rattle.aml_meaning.specs.Parts.{M, ◌>>=◌, behind, give, stop_with, lift, tick, paid, take_step, then_do, takes_memory, copy_takes_memory, behind_copy, get_local, get_arg, get_name, set_local, set_arg, set_name, make_event, sleep, woken, woken_or, content_or, stored_or, may_store}
use Rattle.aml_meaning.specs.Rules as rules
use Rattle.aml_meaning.specs.Rules.{Place, Division, integer, divisor, second, combined, transformed, compared, equal, negated, divided, truth}
use Rattle.aml_meaning.specs.State as state
use Rattle.aml_meaning.specs.State.{State, Frame, Error, Returned, Broke, Continued, Out, Halts, NoAnswer, Spent, entered, held_level, slots, with_steps}
use Rattle.aml_meaning.specs.Within.{Callee, Methods, call_within, callee_or, setting_for}
use Rattle.aml_judged.specs.Events.{Costs}
use Rattle.aml_judged.specs.Integers.{is_integer, are_integers, is_narrow, is_narrow_buffer_field, makes_nothing, integer_name, integer_called, integers, integers_by, integers_in, integer_only_by, AreIntegerOnly, IsInteger, IsIntegerIfAny, AreIntegersIfAny, AreIntegers, HoldIntegers, LeavesIntegers, IsIntegral, StaysIntegral, GivesInteger, IntegersAlone, IntegersWantNone, setting_within}
use Rattle.aml_judged.specs.Judged.{Accepted}
use Rattle.aml_judged.specs.Verdicts.{Judging}
use Rattle.aml_judged.proofs.Events.{fields_cost}
use Rattle.aml_judged.proofs.FieldValues.{Makes, field_made}
use Rattle.aml_judged.proofs.FieldWants.{narrow_read_wants, neither, write_wants}
use Rattle.aml_judged.proofs.Tame.{else_action}
use Rattle.aml_judged.specs.KindRules.{field_kind}
use Rattle.aml_judged.specs.Safe.{IsOf}
use Rattle.aml_kinds.specs.Fits.{fits}
use Rattle.aml_kinds.specs.Kinds.{IntUpTo, BufOf}

-- rules over integers give integers
abbrev GivesInt : Result Value AmlError → Type 0
GivesInt (Ok v) = IsInteger v
GivesInt (Err e) = Unit {0}

rule_then : {X : Type 0} (r : Result X AmlError) (f : X → Result Value AmlError) → ((x : X) → GivesInt (f x)) → GivesInt (rules.◌>>=◌ r f)
rule_then (Ok x) f h = h x
rule_then (Err e) f h = tt

combined_int : (width : ℕ) (f : Arithmetic) (p : Place) (x : Value) (q : Place) (y : Value) → GivesInt (combined width f p x q y)
combined_int width f p x q y = rule_then (integer p x) _ (λ a. rule_then (second f q y) _ (λ b. tt))

transformed_int : (width : ℕ) (f : Bitwise) (p : Place) (x : Value) → GivesInt (transformed width f p x)
transformed_int width f p x = rule_then (integer p x) _ (λ a. tt)

compared_int : (width : ℕ) (f : Comparison) (p : Place) (x : Value) (q : Place) (y : Value) → GivesInt (compared width f p x q y)
compared_int width comparison.LEqual p x q y = rule_then (equal p x q y) _ (λ b. tt)
compared_int width comparison.LAnd p x q y = rule_then (integer p x) _ (λ a. rule_then (integer q y) _ (λ b. tt))
compared_int width comparison.LOr p x q y = rule_then (integer p x) _ (λ a. rule_then (integer q y) _ (λ b. tt))
compared_int width comparison.LGreater p x q y = rule_then (integer p x) _ (λ a. rule_then (integer q y) _ (λ b. tt))
compared_int width comparison.LLess p x q y = rule_then (integer p x) _ (λ a. rule_then (integer q y) _ (λ b. tt))

negated_int : (width : ℕ) (p : Place) (x : Value) → GivesInt (negated width p x)
negated_int width p x = rule_then (integer p x) _ (λ a. tt)

converted_int : (width : ℕ) (op p : Place) (x : Value) → IsInteger x → GivesInt (converted width conversion.ToInteger op p x)
converted_int width op p (Int n) h = tt
converted_int width op p (Buf xs) h = absurd h
converted_int width op p (Str xs) h = absurd h
converted_int width op p (Pkg es) h = absurd h

-- integers take no memory
int_spares : (v : Value) → IsInteger v → takes_memory v ≡ false
int_spares (Int n) h = refl
int_spares (Buf xs) h = absurd h
int_spares (Str xs) h = absurd h
int_spares (Pkg es) h = absurd h

copy_spares : (o : Option (Option Value)) → ((v : Value) → o ≡ Some (Some v) → IsInteger v) → copy_takes_memory o ≡ false
copy_spares (Some (Some v)) h = int_spares v (h v refl)
copy_spares (Some None) h = refl
copy_spares None h = refl

result_spares : (r : Result Value AmlError) → GivesInt r → result_takes_memory r ≡ false
result_spares (Ok v) h = int_spares v h
result_spares (Err e) h = refl

record AreQuotients (d : Division) : Type 0 where
  quotient : IsInteger d.quotient
  remainder : IsInteger d.remainder

abbrev GiveQuotients : Result Division AmlError → Type 0
GiveQuotients (Ok d) = AreQuotients d
GiveQuotients (Err e) = Unit {0}

then_division : {X : Type 0} (r : Result X AmlError) (f : X → Result Division AmlError) → ((x : X) → GiveQuotients (f x)) → GiveQuotients (rules.◌>>=◌ r f)
then_division (Ok x) f h = h x
then_division (Err e) f h = tt

divided_int : (p : Place) (x : Value) (q : Place) (y : Value) → GiveQuotients (divided p x q y)
divided_int p x q y = then_division (integer p x) _ (λ m. then_division (divisor q y) _ (λ n. record { quotient = tt; remainder = tt }))

-- what holds integers holds them behind a store of one
set_ints : (vs : List (Option Value)) (i : ℕ) (v : Value) → IsInteger v → AreIntegersIfAny vs → AreIntegersIfAny (slice_set vs i (Some v))
set_ints [] zero v h g = tt
set_ints [] (suc i) v h g = tt
set_ints (x ∷ vs) zero v h g = (h, g.1)
set_ints (x ∷ vs) (suc i) v h g = (g.0, set_ints vs i v h g.1)

get_int : (vs : List (Option Value)) (i : ℕ) (o : Option (Option Value)) → slice_get vs i ≡ o → AreIntegersIfAny vs → (v : Value) → o ≡ Some (Some v) → IsInteger v
get_int [] i o e h v f = absurd (let bad : None ≡ Some (Some v) = e ∙ f in cc)
get_int (x ∷ vs) zero o e h v f = let same : x ≡ Some v = (let both : Some x ≡ Some (Some v) = e ∙ f in cc) in subst IsIntegerIfAny same h.0
get_int (x ∷ vs) (suc i) o e h v f = get_int vs i o e h.1 v f

-- the content of a name behind a change of one
changed_content : (P : Option Value → Type 0) (vs : Contents) (k i : ℕ) (o : Option Value) → (k ≡ i → P o) → P (content_at vs i) → P (content_at (slice_set vs k o) i)
changed_content P [] zero i o h g = g
changed_content P [] (suc k) i o h g = g
changed_content P (x ∷ vs) zero zero o h g = h refl
changed_content P (x ∷ vs) zero (suc i) o h g = g
changed_content P (x ∷ vs) (suc k) zero o h g = g
changed_content P (x ∷ vs) (suc k) (suc i) o h g = changed_content P vs k i o (λ e. h (ap suc e)) g

if_int : (b : Bool) (n : ℕ) (xs : List ℕ) → b ≡ true → IsInteger (if b then Int n else Buf xs)
if_int true n xs e = tt
if_int false n xs e = absurd cc

-- a field of a buffer is written only where its source holds one, which is no integer
written_elsewhere : (width : ℕ) (p : Place) (f : BufferField) (v : Value) (o : Option Value) (u : Value) → written_buffer_field width p f v o ≡ Ok u → IsIntegerIfAny o → ⊥
written_elsewhere width p f v None u e h = cc
written_elsewhere width p f v (Some (Int n)) u e h = cc
written_elsewhere width p f v (Some (Buf xs)) u e h = h
written_elsewhere width p f v (Some (Str xs)) u e h = h
written_elsewhere width p f v (Some (Pkg es)) u e h = h

fit_int : (v : Value) (a : ℕ) → fits v (IntUpTo a) ≡ true → IsInteger v
fit_int (Int n) a e = tt
fit_int (Buf xs) a e = absurd (let bad : false ≡ true = e in cc)
fit_int (Str xs) a e = absurd (let bad : false ≡ true = e in cc)
fit_int (Pkg es) a e = absurd (let bad : false ≡ true = e in cc)

made_int : (width bits : ℕ) (v : Value) → nat_le bits width ≡ true → IsOf width v (field_kind width bits) → IsInteger v
made_int width bits v e h = by (nat_le bits width) e h
  where
    by : (b : Bool) → b ≡ true → IsOf width v (if b then IntUpTo (2 ^ bits - 1) else BufOf ((bits + 7) / 8)) → IsInteger v
    by true e h = fit_int v (2 ^ bits - 1) h.fit
    by false e h = absurd cc

any_made : {V : Type 0} (o : Out V) → Makes (λ v. Unit {0}) o
any_made (state.Goes v s) = tt
any_made (Halts stop s) = tt
any_made (NoAnswer s) = tt
any_made (Spent s) = tt

makes_more : {V : Type 0} (P Q : V → Type 0) (o : Out V) → ((v : V) → P v → Q v) → Makes P o → Makes Q o
makes_more P Q (state.Goes v s) f h = f v h
makes_more P Q (Halts stop s) f h = tt
makes_more P Q (NoAnswer s) f h = tt
makes_more P Q (Spent s) f h = tt

-- where mutexes are watched, or not
module _ (watched : Bool) (kinds : ContentKinds) (script : List Event) (slept : LeavesIntegers kinds script) where
  abbrev Good : State → Type 0
  Good = IsIntegral kinds watched

  abbrev Stays : {V : Type 0} → (V → Type 0) → Out V → Type 0
  Stays P o = StaysIntegral kinds watched P o

  -- no memory is wanted, where they are not
  abbrev Spares : Bool → Type 0
  Spares wanted = watched ≡ false → wanted ≡ false

  abbrev Always : {V : Type 0} → (V → Type 0) → M V → Type 0
  Always P m = (s : State) → Good s → Stays P (m.run script s) × Spares (m.wants script s)

  abbrev Any : {V : Type 0} → V → Type 0
  Any v = Unit {0}

  same_good : (s next : State) → next.frame ≡ s.frame → next.names ≡ s.names → Good s → Good next
  same_good s next e f h = record {
    locals = subst (λ g. AreIntegersIfAny g.locals) (sym e) h.locals;
    args = subst (λ g. AreIntegersIfAny g.args) (sym e) h.args;
    names = subst (λ n. HoldIntegers kinds n.contents) (sym f) h.names;
    watching = subst (λ g. g.watched ≡ watched) (sym e) h.watching;
  }

  then_stays : {V W : Type 0} (P : V → Type 0) (Q : W → Type 0) (o : Out V) (f : V → State → Out W) → Stays P o → ((v : V) (s : State) → P v → Good s → Stays Q (f v s)) → Stays Q (then_do o f)
  then_stays P Q (state.Goes v s) f h g = g v s h.0 h.1
  then_stays P Q (Halts (Error e) s) f h g = tt
  then_stays P Q (Halts (Returned v) s) f h g = h
  then_stays P Q (Halts (Broke at) s) f h g = h
  then_stays P Q (Halts (Continued at) s) f h g = h
  then_stays P Q (NoAnswer s) f h g = tt
  then_stays P Q (Spent s) f h g = tt

  then_spares : {V : Type 0} (P : V → Type 0) (o : Out V) (f : V → State → Bool) → Stays P o → ((v : V) (s : State) → P v → Good s → Spares (f v s)) → Spares (behind o f)
  then_spares P (state.Goes v s) f h g = g v s h.0 h.1
  then_spares P (Halts stop s) f h g = λ t. refl
  then_spares P (NoAnswer s) f h g = λ t. refl
  then_spares P (Spent s) f h g = λ t. refl

  both : {V W : Type 0} (P : V → Type 0) (Q : W → Type 0) (m : M V) (f : V → M W) → Always P m → ((v : V) → P v → Always Q (f v)) → Always Q (m >>= f)
  unfolding ◌>>=◌
  both P Q m f h g s fits = (
    then_stays P Q (m.run script s) _ (h s fits).0 (λ v next p fits2. (g v p next fits2).0),
    λ t. neither (m.wants script s) _ ((h s fits).1 t) (then_spares P (m.run script s) _ (h s fits).0 (λ v next p fits2. (g v p next fits2).1) t),
  )

  gives : {V : Type 0} (P : V → Type 0) (v : V) → P v → Always P (give v)
  unfolding give
  gives P v h s fits = ((h, fits), λ t. refl)

  errs : (V : Type 0) (P : V → Type 0) (e : AmlError) → Always P (stop_with {V = V} (Error e))
  unfolding stop_with
  errs V P e s fits = (tt, λ t. refl)

  -- an integer takes no memory where it is copied
  copies : {V : Type 0} (P : V → Type 0) (v : Value) (m : M V) → IsInteger v → Always P m → Always P (behind_copy v m)
  copies P v m h g s fits = ((g s fits).0, λ t. neither (takes_memory v) _ (int_spares v h) ((g s fits).1 t))

  -- no buffer is made
  converts : (m : M Value) → Always IsInteger m → Always IsInteger (converting conversion.ToInteger m)
  converts m h s fits = ((h s fits).0, λ t. refl)

  lifts : (r : Result Value AmlError) → GivesInt r → Always IsInteger (lift r)
  lifts (Ok v) h = gives IsInteger v h
  lifts (Err e) h = errs Value IsInteger e

  lifts_any : {V : Type 0} (r : Result V AmlError) → Always Any (lift r)
  lifts_any (Ok v) = gives Any v tt
  lifts_any (Err e) = errs _ Any e

  lifts_division : (r : Result Division AmlError) → GiveQuotients r → Always AreQuotients (lift r)
  lifts_division (Ok v) h = gives AreQuotients v h
  lifts_division (Err e) h = errs Division AreQuotients e

  step_stays : {V : Type 0} (P : V → Type 0) (n : ℕ) (s : State) (f : State → Out V) → ((k : ℕ) → Stays P (f (with_steps s k))) → Stays P (take_step n s f)
  step_stays P zero s f h = tt
  step_stays P (suc n) s f h = h n

  stepped : (s : State) (n : ℕ) → Good s → Good (with_steps s n)
  stepped s n h = same_good s (with_steps s n) refl refl h

  ticks : Always Any tick
  unfolding tick paid
  ticks s fits = (step_stays Any s.steps s _ (λ k. (tt, stepped s k fits)), λ t. refl)

  steps_out : (V : Type 0) (P : V → Type 0) (e : AmlError) → Always P (tick >>= (λ u. stop_with {V = V} (Error e)))
  steps_out V P e = both Any P tick _ ticks (λ u p. errs V P e)

  content_stays : (table at : ℕ) (o : Option (Option Value)) (s : State) → ((v : Value) → o ≡ Some (Some v) → IsInteger v) → Good s → Stays IsInteger (content_or table at o s)
  content_stays table at (Some (Some v)) s h fits = (h v refl, fits)
  content_stays table at (Some None) s h fits = tt
  content_stays table at None s h fits = tt

  gets_local : (table at k : ℕ) → Always IsInteger (get_local table at k)
  unfolding get_local
  gets_local table at k s fits = let int = get_int s.frame.locals k (slice_get s.frame.locals k) refl fits.locals in (content_stays table at (slice_get s.frame.locals k) s int fits, λ t. copy_spares (slice_get s.frame.locals k) int)

  gets_arg : (table at k : ℕ) → Always IsInteger (get_arg table at k)
  unfolding get_arg
  gets_arg table at k s fits = let int = get_int s.frame.args k (slice_get s.frame.args k) refl fits.args in (content_stays table at (slice_get s.frame.args k) s int fits, λ t. copy_spares (slice_get s.frame.args k) int)

  if_some : (o : Option Value) → IsIntegerIfAny o → (v : Value) → Some o ≡ Some (Some v) → IsInteger v
  if_some o h v e = let same : o ≡ Some v = cc in subst IsIntegerIfAny same h

  gets_name : (table at k : ℕ) → is_integer (kind_at kinds k) ≡ true → Always IsInteger (get_name table at k)
  unfolding get_name
  gets_name table at k e s fits = let int = if_some (content_at s.names.contents k) (fits.names k e) in (content_stays table at (Some (content_at s.names.contents k)) s int fits, λ t. copy_spares (Some (content_at s.names.contents k)) int)

  sets_local : (k : ℕ) (v : Value) → IsInteger v → Always Any (set_local k v)
  unfolding set_local
  sets_local k v h s fits = ((tt, record { locals = set_ints s.frame.locals k v h fits.locals; args = fits.args; names = fits.names; watching = fits.watching }), λ t. refl)

  sets_arg : (k : ℕ) (v : Value) → IsInteger v → Always Any (set_arg k v)
  unfolding set_arg
  sets_arg k v h s fits = ((tt, record { locals = fits.locals; args = set_ints s.frame.args k v h fits.args; names = fits.names; watching = fits.watching }), λ t. refl)

  stored_stays : (b : Bool) (table at k : ℕ) (v : Value) (s : State) → IsInteger v → Good s → Stays Any (stored_or b table at k v s)
  stored_stays true table at k v s h fits = (tt, record { locals = fits.locals; args = fits.args; names = λ i e. changed_content IsIntegerIfAny s.names.contents k i (Some v) (λ same. h) (fits.names i e); watching = fits.watching })
  stored_stays false table at k v s h fits = tt

  sets_name : (table at k : ℕ) (v : Value) → IsInteger v → Always Any (set_name table at k v)
  unfolding set_name paid
  sets_name table at k v h s fits = (step_stays Any s.steps s _ (λ n. stored_stays (may_store s.names.kinds k v) table at k v (with_steps s n) h (stepped s n fits)), λ t. refl)

  -- fields of regions
  cost_stays : {V : Type 0} (P : V → Type 0) (n : ℕ) (s : State) (o : Out V) → Costs n s o → Makes P o → Good s → Stays P o
  cost_stays P n s (state.Goes v last) c m fits = (m, same_good s last c.1 c.2 fits)
  cost_stays P n s (Halts stop last) c m fits = absurd c
  cost_stays P n s (NoAnswer last) c m fits = tt
  cost_stays P n s (Spent last) c m fits = tt

  -- events
  makes_event : (event : Event) → Always Any (make_event event)
  unfolding make_event paid
  makes_event event s fits = (step_stays Any s.steps s _ (λ n. (tt, record { locals = fits.locals; args = fits.args; names = fits.names; watching = fits.watching })), λ t. refl)

  behind_sleeps : (i n : ℕ) (left : Option Contents) (old : Contents) → slice_get script i ≡ Some (Slept n left) → HoldIntegers kinds old → HoldIntegers kinds (behind_sleep left old)
  behind_sleeps i n None old e h = h
  behind_sleeps i n (Some contents) old e h = slept.left i n contents e

  woken_by : (b : Bool) (i m n : ℕ) (left : Option Contents) (s : State) → slice_get script i ≡ Some (Slept m left) → Good s → Stays Any (woken_or b n left s)
  woken_by true i m n left s e fits = (tt, record { locals = fits.locals; args = fits.args; names = behind_sleeps i m left s.names.contents e fits.names; watching = fits.watching })
  woken_by false i m n left s e fits = tt

  wakes : (i n : ℕ) (event : Option Event) (s : State) → slice_get script i ≡ event → Good s → Stays Any (woken n event s)
  wakes i n (Some (Read access v)) s e fits = tt
  wakes i n (Some (Written access v)) s e fits = tt
  wakes i n (Some (Notified object v)) s e fits = tt
  wakes i n (Some (Slept m left)) s e fits = woken_by (n == m) i m n left s e fits
  wakes i n (Some (Stalled v)) s e fits = tt
  wakes i n None s e fits = tt

  sleeps : (n : ℕ) → Always Any (sleep n)
  unfolding sleep paid
  sleeps n s fits = (step_stays Any s.steps s _ (λ k. wakes (length s.log) n (slice_get script (length s.log)) (with_steps s k) refl (stepped s k fits)), λ t. refl)

  pauses : (f : PauseKind) (n : ℕ) → Always Any (paused f n)
  pauses pause.Sleep n = sleeps n
  pauses pause.Stall n = makes_event (Stalled n)

  -- mutexes
  acquires_by : (b : Bool) (table at : ℕ) (m : TakenMutex) (s : State) → Good s → Stays Any (acquired_or b table at m s)
  acquires_by true table at m s fits = (tt, record { locals = fits.locals; args = fits.args; names = fits.names; watching = fits.watching })
  acquires_by false table at m s fits = tt

  watched_stays : (b : Bool) (s : State) (o : Out (Unit {0})) → Good s → Stays Any o → Stays Any (if_watched b s o)
  watched_stays true s o fits h = h
  watched_stays false s o fits h = (tt, fits)

  -- memory is wanted for a mutex that is taken, where they are watched
  acquires : (table at : ℕ) (m : TakenMutex) → Always Any (acquire table at m)
  unfolding acquire
  acquires table at m s fits = (watched_stays s.frame.watched s _ fits (acquires_by (nat_le (held_level s.frame) m.level) table at m s fits), λ t. fits.watching ∙ t)

  drops_by : (o : Option (List TakenMutex)) (table at : ℕ) (s : State) → Good s → Stays Any (released_or o table at s)
  drops_by (Some ms) table at s fits = (tt, record { locals = fits.locals; args = fits.args; names = fits.names; watching = fits.watching })
  drops_by None table at s fits = tt

  drops : (table at : ℕ) (m : TakenMutex) → Always Any (release table at m)
  unfolding release
  drops table at m s fits = (watched_stays s.frame.watched s _ fits (drops_by (without_last m.object.0 s.frame.held) table at s fits), λ t. refl)

  ends_by : (ms : List TakenMutex) (table at : ℕ) (s : State) → Good s → Stays Any (ended_or ms table at s)
  ends_by [] table at s fits = (tt, fits)
  ends_by (m ∷ ms) table at s fits = tt

  ends : (table at : ℕ) → Always Any (none_held table at)
  unfolding none_held
  ends table at s fits = (watched_stays s.frame.watched s _ fits (ends_by s.frame.held table at s fits), λ t. refl)

  -- loops
  choices : {V : Type 0} (P : V → Type 0) (b : Bool) (m n : M V) → Always P m → Always P n → Always P (if b then m else n)
  choices P true m n h g = h
  choices P false m n h g = g

  turn_stays : (o : Out (Unit {0})) (rest : State → Out (Unit {0})) → Stays Any o → ((s : State) → Good s → Stays Any (rest s)) → Stays Any (turn_end o rest)
  turn_stays (state.Goes v s) rest h g = g s h.1
  turn_stays (Halts (Error e) s) rest h g = tt
  turn_stays (Halts (Returned v) s) rest h g = h
  turn_stays (Halts (Broke at) s) rest h g = (tt, h)
  turn_stays (Halts (Continued at) s) rest h g = g s h
  turn_stays (NoAnswer s) rest h g = tt
  turn_stays (Spent s) rest h g = tt

  turn_spares : (o : Out (Unit {0})) (f : State → Bool) → Stays Any o → ((s : State) → Good s → Spares (f s)) → Spares (behind_turn o f)
  turn_spares (state.Goes v s) f h g = g s h.1
  turn_spares (Halts (Error e) s) f h g = λ t. refl
  turn_spares (Halts (Returned v) s) f h g = λ t. refl
  turn_spares (Halts (Broke at) s) f h g = λ t. refl
  turn_spares (Halts (Continued at) s) f h g = g s h
  turn_spares (NoAnswer s) f h g = λ t. refl
  turn_spares (Spent s) f h g = λ t. refl

  turned_stays : (body rest : M (Unit {0})) → Always Any body → Always Any rest → Always Any (turned body rest)
  unfolding turned
  turned_stays body rest h g s fits = (
    turn_stays (body.run script s) (rest.run script) (h s fits).0 (λ next fits2. (g next fits2).0),
    λ t. neither (body.wants script s) _ ((h s fits).1 t) (turn_spares (body.run script s) (rest.wants script) (h s fits).0 (λ next fits2. (g next fits2).1) t),
  )

  spends : Always Any spent
  unfolding spent
  spends s fits = (tt, λ t. refl)

  turns_stay : (n : ℕ) (test : M ℕ) (body : M (Unit {0})) → Always Any test → Always Any body → Always Any (turns n test body)
  turns_stay zero test body h g = spends
  turns_stay (suc n) test body h g = both Any Any test _ h (λ v p. choices Any (v == 0) (give tt) (turned body (turns n test body)) (gives Any tt tt) (turned_stays body (turns n test body) g (turns_stay n test body h g)))

  loops : (test : M ℕ) (body : M (Unit {0})) → Always Any test → Always Any body → Always Any (loop test body)
  unfolding loop
  loops test body h g s fits = turns_stay (suc s.steps) test body h g s fits

  -- fields of buffers: the source holds a buffer, and so is no name of integers
  buffer_field_int : (width : ℕ) (p : Place) (f : BufferField) (o : Option Value) → nat_le f.bits width ≡ true → GivesInt (read_buffer_field width p f o)
  buffer_field_int width p f o e = rule_then (bytes_around p f o) _ (λ bytes. if_int (nat_le f.bits width) _ _ e)

  peeked_stays : (r : Result Value AmlError) (s : State) → GivesInt r → Good s → Stays IsInteger (peeked_or s r)
  peeked_stays (Ok v) s h fits = (h, fits)
  peeked_stays (Err e) s h fits = tt

  peeks : (width : ℕ) (p : Place) (f : BufferField) → nat_le f.bits width ≡ true → Always IsInteger (peek f.source (read_buffer_field width p f))
  unfolding peek
  peeks width p f e s fits = let int = buffer_field_int width p f (held_by f.source s) e in (peeked_stays (read_buffer_field width p f (held_by f.source s)) s int fits, λ t. result_spares (read_buffer_field width p f (held_by f.source s)) int)

  changed_good : (l : Link) (width : ℕ) (p : Place) (f : BufferField) (v u : Value) (s : State) → written_buffer_field width p f v (held_by l s) ≡ Ok u → Good s → Good (holding l s u)
  changed_good (link.Data id) width p f v u s e fits = record { locals = fits.locals; args = fits.args; names = λ i g. changed_content IsIntegerIfAny s.names.contents id.0 i (Some u) (λ same. absurd (written_elsewhere width p f v (content_at s.names.contents id.0) u e (fits.names id.0 (subst (λ k. is_integer (kind_at kinds k) ≡ true) (sym same) g)))) (fits.names i g); watching = fits.watching }
  changed_good (link.Own k) width p f v u s e fits = record { locals = fits.locals; args = fits.args; names = fits.names; watching = fits.watching }
  changed_good l width p f v u s e fits = fits

  changed_stays : (r : Result Value AmlError) (l : Link) (width : ℕ) (p : Place) (f : BufferField) (v : Value) (s : State) → written_buffer_field width p f v (held_by l s) ≡ r → Good s → Stays Any (changed_or l s r)
  changed_stays (Ok u) l width p f v s e fits = (tt, changed_good l width p f v u s e fits)
  changed_stays (Err x) l width p f v s e fits = tt

  changes : (l : Link) (width : ℕ) (p : Place) (f : BufferField) (v : Value) → Always Any (change l (written_buffer_field width p f v))
  unfolding change paid
  changes l width p f v s fits = (step_stays Any s.steps s _ (λ n. changed_stays (written_buffer_field width p f v (held_by l (with_steps s n))) l width p f v (with_steps s n) refl (stepped s n fits)), λ t. refl)

  reads_narrow : (width : ℕ) (f : AnyField) → nat_le (layout_of f).bits width ≡ true → Always IsInteger (read_value width f)
  reads_narrow width f e s fits = (cost_stays IsInteger (read_count f) s _ (fields_cost.read width f script s) (makes_more _ IsInteger _ (λ v h. made_int width (layout_of f).bits v e h) (field_made width f script s)) fits, λ t. narrow_read_wants width f e script s)

  writes_bits : (f : AnyField) (bit : ℕ → ℕ) → Always Any (write_bits f bit)
  writes_bits f bit s fits = (cost_stays Any (write_count f) s _ (fields_cost.write f bit script s) (any_made _) fits, λ t. write_wants f bit script s)

  module _ (methods : Methods) (m : Callee) (only : ℕ → Bool) (call : Place → ℕ → List Value → M (Option Value)) (calls : (p : Place) (k : ℕ) (vs : List Value) (s : State) → only k ≡ true → AreIntegers vs → HoldIntegers kinds s.names.contents → s.frame.watched ≡ watched → GivesInteger kinds s.frame ((call p k vs).run script s) × Spares ((call p k vs).wants script s)) where
    abbrev here : Setting
    here = setting_for methods call m

    abbrev IntegersAt : Tree → Type 0
    IntegersAt t = integers methods m kinds only t ≡ true

    outsides : (V : Type 0) (P : V → Type 0) (at : ℕ) → Always P (outside here {V = V} at)
    outsides V P at = errs V P (record { table = here.table; at = at; cause = why.Outside })

    yields_int : (v : Value) → IsInteger v → Always IsIntegerIfAny (give (Some v))
    yields_int v h = gives IsIntegerIfAny (Some v) h

    wanted_int : (at : ℕ) (v : Option Value) → IsIntegerIfAny v → Always IsInteger (want here at v)
    wanted_int at (Some v) h = gives IsInteger v h
    wanted_int at None h = errs Value IsInteger (record { table = here.table; at = at; cause = why.NoValue })

    holds_int : (k at : ℕ) → is_integer (kind_at kinds k) ≡ true → Always IsIntegerIfAny (held here k at)
    holds_int k at e = both IsInteger IsIntegerIfAny _ _ (gets_name here.table at k e) (λ v h. yields_int v h)

    reads_field : (o : Option AnyField) (at : ℕ) → is_narrow methods.width o ≡ true → Always IsIntegerIfAny (lift (wanted_field (place_at here at) o) >>= (λ f. read_value methods.width f >>= (λ v. give (Some v))))
    reads_field None at e = absurd cc
    reads_field (Some f) at e = both (λ g. nat_le (layout_of g).bits methods.width ≡ true) IsIntegerIfAny _ _ (gives (λ g. nat_le (layout_of g).bits methods.width ≡ true) f e) (λ g h. both IsInteger IsIntegerIfAny _ _ (reads_narrow methods.width g h) (λ v p. yields_int v p))

    reads_buffer_field : (o : Option BufferField) (at : ℕ) → is_narrow_buffer_field methods.width o ≡ true → Always IsIntegerIfAny (buffer_field_read here o at)
    reads_buffer_field None at e = absurd cc
    reads_buffer_field (Some f) at e = both (λ g. nat_le g.bits methods.width ≡ true) IsIntegerIfAny _ _ (gives (λ g. nat_le g.bits methods.width ≡ true) f e) (λ g h. both IsInteger IsIntegerIfAny _ _ (peeks methods.width (place_at here at) g h) (λ v p. yields_int v p))

    bits_stay : (at : ℕ) (f : AnyField) (v : Value) → Always Any (bits_stored here at f v)
    bits_stay at f v = both Any Any _ _ (lifts_any (given_bits methods.width (place_at here at) (layout_of f).bits v)) (λ bit p. writes_bits f bit)

    field_stores : (k at : ℕ) (v : Value) → Always Any (field_stored here k at v)
    field_stores k at v = both Any Any tick _ ticks (λ u p. both Any Any _ _ (lifts_any (wanted_field (place_at here at) (methods.field k))) (λ f q. bits_stay at f v))

    buffer_field_changes : (at : ℕ) (o : Option BufferField) (v : Value) → Always Any (buffer_field_changed here at o v)
    buffer_field_changes at (Some f) v = changes f.source methods.width (place_at here at) f v
    buffer_field_changes at None v = steps_out (Unit {0}) Any (record { table = here.table; at = at; cause = why.Region })

    names_int : (l : Link) (at : ℕ) → integer_name methods m kinds only l ≡ true → Always IsIntegerIfAny (named here l at)
    names_int (link.Data id) at e = holds_int id.0 at e
    names_int (link.Field id) at e = reads_field (methods.field id.0) at e
    names_int (link.BufferField id) at e = reads_buffer_field (methods.buffer_field id.0) at e
    names_int (link.Own k) at e = absurd cc
    names_int (link.Method id) at e = absurd cc
    names_int link.OsInterfaces at e = absurd cc
    names_int (link.Object id) at e = absurd cc
    names_int link.Missing at e = absurd cc

    targets_int : (l : Link) (at : ℕ) (v : Value) → integer_name methods m kinds only l ≡ true → IsInteger v → Always Any (named_target here l at v)
    targets_int (link.Data id) at v e h = sets_name here.table at id.0 v h
    targets_int (link.Field id) at v e h = field_stores id.0 at v
    targets_int (link.BufferField id) at v e h = buffer_field_changes at (methods.buffer_field id.0) v
    targets_int (link.Own k) at v e h = absurd cc
    targets_int (link.Method id) at v e h = absurd cc
    targets_int link.OsInterfaces at v e h = absurd cc
    targets_int (link.Object id) at v e h = absurd cc
    targets_int link.Missing at v e h = absurd cc

    puts : (a : Action) (at : ℕ) (parts : Trees) (v : Value) → integers_by methods m kinds only a at parts ≡ true → IsInteger v → Always Any (put here a at v)
    puts (Local k) at parts v e h = both Any Any tick _ ticks (λ u p. sets_local k v h)
    puts (Argument k) at parts v e h = both Any Any tick _ ticks (λ u p. sets_arg k v h)
    puts NoTarget at parts v e h = gives Any tt tt
    puts Debug at parts v e h = ticks
    puts Name at parts v e h = targets_int (m.link at) at v e h
    puts a at parts v e h = steps_out (Unit {0}) Any (record { table = here.table; at = at; cause = why.Outside })

    called_stays : (s : State) (o : Out (Option Value)) → Good s → GivesInteger kinds s.frame o → Stays IsIntegerIfAny o
    called_stays s (state.Goes v next) fits h = (h.0, record { locals = subst (λ f. AreIntegersIfAny f.locals) (sym h.1) fits.locals; args = subst (λ f. AreIntegersIfAny f.args) (sym h.1) fits.args; names = h.2; watching = subst (λ f. f.watched ≡ watched) (sym h.1) fits.watching })
    called_stays s (Halts (Error e) next) fits h = tt
    called_stays s (Halts (Returned v) next) fits h = absurd h
    called_stays s (Halts (Broke at) next) fits h = absurd h
    called_stays s (Halts (Continued at) next) fits h = absurd h
    called_stays s (NoAnswer next) fits h = tt
    called_stays s (Spent next) fits h = tt

    invokes : (l : Link) (at from : ℕ) (arguments : M (List Value)) → integer_called methods m kinds only l ≡ true → Always AreIntegers arguments → Always IsIntegerIfAny (invoked here l at from arguments)
    invokes (link.Method id) at from arguments e h = both AreIntegers IsIntegerIfAny arguments _ h (λ vs p s fits. let called = calls (record { table = here.table; at = at }) id.0 vs s e p fits.names fits.watching in (called_stays s _ fits called.0, called.1))
    invokes (link.Data id) at from arguments e h = holds_int id.0 at e
    invokes (link.Field id) at from arguments e h = reads_field (methods.field id.0) at e
    invokes (link.BufferField id) at from arguments e h = reads_buffer_field (methods.buffer_field id.0) at e
    invokes (link.Own k) at from arguments e h = absurd cc
    invokes link.OsInterfaces at from arguments e h = absurd cc
    invokes (link.Object id) at from arguments e h = absurd cc
    invokes link.Missing at from arguments e h = absurd cc

    asks : (what into : Action) (at from : ℕ) → Always IsIntegerIfAny (asked here what into at from)
    asks Name NoTarget at from = yields_int (truth methods.width (is_there (m.link from))) tt
    asks what into at from = outsides (Option Value) IsIntegerIfAny at

    conditions : (at : ℕ) (a g : Tree) → Always IsIntegerIfAny (condition here at a g)
    conditions at (Node o from stop parts) (Node target behind end others) = asks (action o) (action target) at from

    notified_name_stays : (l : Link) (at : ℕ) → Always Any (notified_name here l at)
    notified_name_stays link.Missing at = errs (Option ObjectId) Any _
    notified_name_stays (link.Object id) at = gives Any _ tt
    notified_name_stays (link.Data id) at = gives Any _ tt
    notified_name_stays (link.Field id) at = gives Any _ tt
    notified_name_stays (link.BufferField id) at = gives Any _ tt
    notified_name_stays (link.Own k) at = gives Any _ tt
    notified_name_stays (link.Method id) at = gives Any _ tt
    notified_name_stays link.OsInterfaces at = gives Any _ tt

    notifies : (a : Action) (at : ℕ) → Always Any (notified here a at)
    notifies Name at = notified_name_stays (m.link at) at
    notifies (Local k) at = gives Any _ tt
    notifies (Argument k) at = gives Any _ tt
    notifies a at = steps_out (Option ObjectId) Any (record { table = here.table; at = at; cause = why.Outside })

    mutex_numbered_stays : (at from k : ℕ) (o : Option Object) → Always Any (mutex_numbered here at from k o)
    mutex_numbered_stays at from k (Some (object.Mutex level)) = gives Any _ tt
    mutex_numbered_stays at from k (Some object.GlobalLock) = outsides TakenMutex Any at
    mutex_numbered_stays at from k o = errs TakenMutex Any (record { table = here.table; at = from; cause = why.Kind })

    mutex_named_stays : (at from : ℕ) (l : Link) → Always Any (mutex_named here at from l)
    mutex_named_stays at from link.Missing = errs TakenMutex Any (record { table = here.table; at = from; cause = why.Missing })
    mutex_named_stays at from (link.Object id) = mutex_numbered_stays at from id.0 (methods.object id.0)
    mutex_named_stays at from l = errs TakenMutex Any (record { table = here.table; at = from; cause = why.Kind })

    mutexes : (at : ℕ) (a : Action) (from : ℕ) → Always Any (mutex here at a from)
    mutexes at Name from = mutex_named_stays at from (m.link from)
    mutexes at (Local k) from = errs TakenMutex Any (record { table = here.table; at = from; cause = why.Kind })
    mutexes at (Argument k) from = errs TakenMutex Any (record { table = here.table; at = from; cause = why.Kind })
    mutexes at a from = steps_out TakenMutex Any (record { table = here.table; at = from; cause = why.Outside })

    in_place : (a : Action) (at : ℕ) → Always Any (changed_in_place here a at)
    in_place Dereference at = steps_out (Unit {0}) Any (record { table = here.table; at = at; cause = why.Outside })
    in_place a at = gives Any tt tt

    breaks : (at : ℕ) → Always IsIntegerIfAny (stop_with {V = Option Value} (Broke at))
    unfolding stop_with
    breaks at s fits = (fits, λ t. refl)

    continues : (at : ℕ) → Always IsIntegerIfAny (stop_with {V = Option Value} (Continued at))
    unfolding stop_with
    continues at s fits = (fits, λ t. refl)

    returns : (v : Value) → IsInteger v → Always IsIntegerIfAny (stop_with {V = Option Value} (Returned v))
    unfolding stop_with
    returns v h s fits = ((h, fits), λ t. refl)

    tests : (p : Place) (test : M Value) → Always IsInteger test → Always Any (tested here p test)
    tests p test h = both IsInteger Any test _ h (λ v q. lifts_any (integer p v))

    in_parts : (a : Action) (at : ℕ) (t : Tree) (ts : Trees) → (integers methods m kinds only t && integers_in methods m kinds only ts) ≡ true → IntegersAt t × (integers_in methods m kinds only ts ≡ true)
    in_parts a at t ts e = and_parts (integers methods m kinds only t) (integers_in methods m kinds only ts) e

    unwritten_in : (at : ℕ) (parts : Trees) → integers_by methods m kinds only Unwritten at parts ≡ true → integers_in methods m kinds only parts ≡ true
    unwritten_in at none e = refl
    unwritten_in at (more t ts) e = e

    else_in : (o : Op) (at : ℕ) (parts : Trees) → is_else o ≡ true → integers_by methods m kinds only (action o) at parts ≡ true → integers_in methods m kinds only parts ≡ true
    else_in o at parts e h = unwritten_in at parts (subst (λ a. integers_by methods m kinds only a at parts ≡ true) (else_action o e) h)

    eithers : (b : Bool) (i j : M (Unit {0})) → (b ≡ true → Always Any i) → Always Any j → Always Any (if b then i else j)
    eithers true i j h g = h refl
    eithers false i j h g = g

    by_node : (o : Op) (at : ℕ) (parts : Trees) → (makes_nothing (definition o) && integers_by methods m kinds only (action o) at parts) ≡ true → integers_by methods m kinds only (action o) at parts ≡ true
    by_node o at parts e = (and_parts (makes_nothing (definition o)) (integers_by methods m kinds only (action o) at parts) e).1

    stored_ints : (a : Action) (at : ℕ) (parts : Trees) (v : Value) → integers_by methods m kinds only a at parts ≡ true → IsInteger v → Always Any (stored here a at parts v)
    stored_ints Index at parts v e h = absurd cc
    stored_ints a at parts v e h = puts a at parts v e h

    store_ints : (g : Tree) (v : Value) → IntegersAt g → IsInteger v → Always Any (store here g v)
    store_ints (Node o at stop parts) v e h = stored_ints (action o) at parts v (by_node o at parts e) h

    mutual
      pub mean_ints : (t : Tree) → IntegersAt t → Always IsIntegerIfAny (mean here t)
      mean_ints (Node o at stop parts) e = both Any IsIntegerIfAny tick _ ticks (λ u p. act_ints (action o) at parts (by_node o at parts e))

      pub value_ints : (t : Tree) → IntegersAt t → Always IsInteger (value here t)
      value_ints (Node o at stop parts) e = both Any IsInteger tick _ ticks (λ u p.
          both IsIntegerIfAny IsInteger (if gives_value here (action o) parts then act here (action o) at parts else outside here at) _
          (choices IsIntegerIfAny (gives_value here (action o) parts) (act here (action o) at parts) (outside here at) (act_ints (action o) at parts (by_node o at parts e)) (outsides (Option Value) IsIntegerIfAny at)) (λ v q. wanted_int at v q))

      act_ints : (a : Action) (at : ℕ) (parts : Trees) → integers_by methods m kinds only a at parts ≡ true → Always IsIntegerIfAny (act here a at parts)
      act_ints (Literal o) at parts e = yields_int _ tt
      act_ints (Data o) at parts e = absurd cc
      act_ints (Local i) at parts e = both IsInteger IsIntegerIfAny _ _ (gets_local here.table at i) (λ v h. yields_int v h)
      act_ints (Argument i) at parts e = both IsInteger IsIntegerIfAny _ _ (gets_arg here.table at i) (λ v h. yields_int v h)
      act_ints (Binary f) at (more a (more b (more g none))) e =
          let e1 = in_parts (Binary f) at a (more b (more g none)) e in let e2 = in_parts (Binary f) at b (more g none) e1.1 in let e3 = in_parts (Binary f) at g none e2.1 in
          both IsInteger IsIntegerIfAny (value here a) _ (value_ints a e1.0) (λ x p. both IsInteger IsIntegerIfAny (value here b) _ (value_ints b e2.0) (λ y q. both IsInteger IsIntegerIfAny _ _ (lifts _ (combined_int methods.width f (place here a) x (place here b) y)) (λ v h. both Any IsIntegerIfAny (store here g v) _ (store_ints g v e3.0 h) (λ u r. yields_int v h))))
      act_ints (Unary f) at (more a (more g none)) e =
          let e1 = in_parts (Unary f) at a (more g none) e in let e2 = in_parts (Unary f) at g none e1.1 in
          both IsInteger IsIntegerIfAny (value here a) _ (value_ints a e1.0) (λ x p. both IsInteger IsIntegerIfAny _ _ (lifts _ (transformed_int methods.width f (place here a) x)) (λ v h. both Any IsIntegerIfAny (store here g v) _ (store_ints g v e2.0 h) (λ u r. yields_int v h)))
      act_ints (ByOne f) at (more a none) e =
          let e1 = in_parts (ByOne f) at a none e in
          both Any IsIntegerIfAny _ _ (in_place (operator_action here a) (at_of a)) (λ u z. both IsInteger IsIntegerIfAny (value here a) _ (value_ints a e1.0) (λ x p. both IsInteger IsIntegerIfAny _ _ (lifts _ (combined_int methods.width f (place here a) x (place here a) (Int 1))) (λ v h. both Any IsIntegerIfAny (store here a v) _ (store_ints a v e1.0 h) (λ u2 r. yields_int v h))))
      act_ints (Compare f) at (more a (more b none)) e =
          let e1 = in_parts (Compare f) at a (more b none) e in let e2 = in_parts (Compare f) at b none e1.1 in
          both IsInteger IsIntegerIfAny (value here a) _ (value_ints a e1.0) (λ x p. both IsInteger IsIntegerIfAny (value here b) _ (value_ints b e2.0) (λ y q. both IsInteger IsIntegerIfAny _ _ (lifts _ (compared_int methods.width f (place here a) x (place here b) y)) (λ v h. yields_int v h)))
      act_ints LNot at (more a none) e =
          let e1 = in_parts LNot at a none e in
          both IsInteger IsIntegerIfAny (value here a) _ (value_ints a e1.0) (λ x p. both IsInteger IsIntegerIfAny _ _ (lifts _ (negated_int methods.width (place here a) x)) (λ v h. yields_int v h))
      act_ints Divide at (more a (more b (more r (more q none)))) e =
          let e1 = in_parts Divide at a (more b (more r (more q none))) e in let e2 = in_parts Divide at b (more r (more q none)) e1.1 in let e3 = in_parts Divide at r (more q none) e2.1 in let e4 = in_parts Divide at q none e3.1 in
          both IsInteger IsIntegerIfAny (value here a) _ (value_ints a e1.0) (λ x p. both IsInteger IsIntegerIfAny (value here b) _ (value_ints b e2.0) (λ y o. both AreQuotients IsIntegerIfAny _ _ (lifts_division _ (divided_int (place here a) x (place here b) y)) (λ d h. both Any IsIntegerIfAny (store here r d.remainder) _ (store_ints r d.remainder e3.0 h.remainder) (λ u z. both Any IsIntegerIfAny (store here q d.quotient) _ (store_ints q d.quotient e4.0 h.quotient) (λ u2 z2. yields_int d.quotient h.quotient)))))
      act_ints (Convert conversion.ToBuffer) at parts e = absurd cc
      act_ints (Convert conversion.ToInteger) at (more a (more g none)) e =
          let e1 = in_parts (Convert conversion.ToInteger) at a (more g none) e in let e2 = in_parts (Convert conversion.ToInteger) at g none e1.1 in
          both IsInteger IsIntegerIfAny (value here a) _ (value_ints a e1.0) (λ x p. both IsInteger IsIntegerIfAny _ _ (converts (lift (converted methods.width conversion.ToInteger (place_at here at) (place here a) x)) (lifts _ (converted_int methods.width (place_at here at) (place here a) x p))) (λ v h. copies IsIntegerIfAny v (store here g v >>= (λ u. give (Some v))) h (both Any IsIntegerIfAny (store here g v) (λ u. give (Some v)) (store_ints g v e2.0 h) (λ u r. yields_int v h))))
      act_ints Concatenate at parts e = absurd cc
      act_ints SizeOf at parts e = absurd cc
      act_ints Dereference at parts e = absurd cc
      act_ints CondRefOf at (more a (more g none)) e = conditions at a g
      act_ints Store at (more a (more g none)) e =
          let e1 = in_parts Store at a (more g none) e in let e2 = in_parts Store at g none e1.1 in
          both IsInteger IsIntegerIfAny (value here a) _ (value_ints a e1.0) (λ v h. copies IsIntegerIfAny v (store here g v >>= (λ u. give (Some v))) h (both Any IsIntegerIfAny (store here g v) (λ u. give (Some v)) (store_ints g v e2.0 h) (λ u r. yields_int v h)))
      act_ints Return at (more a none) e =
          let e1 = in_parts Return at a none e in
          both IsInteger IsIntegerIfAny (value here a) _ (value_ints a e1.0) (λ v h. both Any IsIntegerIfAny (none_held here.table at) _ (ends here.table at) (λ u r. returns v h))
      act_ints If at (more t body) e =
          let e1 = in_parts If at t body e in
          both Any IsIntegerIfAny _ _ (tests (place here t) (value here t) (value_ints t e1.0)) (λ x p. both Any IsIntegerIfAny (if x == 0 then otherwise here body else block here body) _ (choices Any (x == 0) (otherwise here body) (block here body) (otherwise_ints body e1.1) (block_ints body e1.1)) (λ u q. gives IsIntegerIfAny None tt))
      act_ints While at (more t body) e =
          let e1 = in_parts While at t body e in
          both Any IsIntegerIfAny _ _ (loops (tested here (place here t) (value here t)) (mean_all here body) (tests (place here t) (value here t) (value_ints t e1.0)) (all_ints body e1.1)) (λ u q. gives IsIntegerIfAny None tt)
      act_ints Break at parts e = breaks at
      act_ints Continue at parts e = continues at
      act_ints Nothing at parts e = gives IsIntegerIfAny None tt
      act_ints Name at parts e = names_int (m.link at) at e
      act_ints Invoke at (more name arguments) e =
          let two = and_parts (integer_called methods m kinds only (m.link (at_of name))) (integers_in methods m kinds only arguments) e in
          invokes (m.link (at_of name)) (at_of name) _ (values here arguments) two.0 (values_ints arguments two.1)
      act_ints Notify at (more o (more a none)) e =
          let e1 = in_parts Notify at a none e in
          both Any IsIntegerIfAny _ _ (notifies (action (operator_of o)) (at_of o)) (λ id p. both IsInteger IsIntegerIfAny (value here a) _ (value_ints a e1.0) (λ v q. both Any IsIntegerIfAny _ _ (lifts_any (notice (place here o) id)) (λ i r. both Any IsIntegerIfAny _ _ (lifts_any (integer (place here a) v)) (λ n t. both Any IsIntegerIfAny _ _ (makes_event (Notified i n)) (λ u z. gives IsIntegerIfAny None tt)))))
      act_ints (Pause f) at (more a none) e =
          let e1 = in_parts (Pause f) at a none e in
          both IsInteger IsIntegerIfAny (value here a) _ (value_ints a e1.0) (λ v q. both Any IsIntegerIfAny _ _ (lifts_any (integer (place here a) v)) (λ n t. both Any IsIntegerIfAny _ _ (pauses f n) (λ u z. gives IsIntegerIfAny None tt)))
      act_ints Acquire at (more o (more timeout none)) e =
          both Any IsIntegerIfAny _ _ (mutexes at (action (operator_of o)) (at_of o)) (λ x p. both Any IsIntegerIfAny _ _ (acquires here.table at x) (λ u q. yields_int (Int 0) tt))
      act_ints Release at (more o none) e =
          both Any IsIntegerIfAny _ _ (mutexes at (action (operator_of o)) (at_of o)) (λ x p. both Any IsIntegerIfAny _ _ (drops here.table at x) (λ u q. gives IsIntegerIfAny None tt))
      act_ints a at parts e = outsides (Option Value) IsIntegerIfAny at

      values_ints : (ts : Trees) → integers_in methods m kinds only ts ≡ true → Always AreIntegers (values here ts)
      values_ints none e = gives AreIntegers [] tt
      values_ints (more t ts) e =
          let e1 = in_parts Invoke 0 t ts e in
          both IsInteger AreIntegers (value here t) _ (value_ints t e1.0) (λ v h. both AreIntegers AreIntegers (values here ts) _ (values_ints ts e1.1) (λ vs g. gives AreIntegers (v ∷ vs) (h, g)))

      all_ints : (ts : Trees) → integers_in methods m kinds only ts ≡ true → Always Any (mean_all here ts)
      all_ints none e = gives Any tt tt
      all_ints (more t ts) e = let e1 = in_parts Invoke 0 t ts e in both IsIntegerIfAny Any (mean here t) _ (mean_ints t e1.0) (λ v h. all_ints ts e1.1)

      block_ints : (ts : Trees) → integers_in methods m kinds only ts ≡ true → Always Any (block here ts)
      block_ints none e = gives Any tt tt
      block_ints (more t ts) e = let e1 = in_parts Invoke 0 t ts e in choices Any (is_else (operator_of t)) (give tt) (mean here t >>= (λ v. block here ts)) (gives Any tt tt) (both IsIntegerIfAny Any (mean here t) _ (mean_ints t e1.0) (λ v h. block_ints ts e1.1))

      otherwise_ints : (ts : Trees) → integers_in methods m kinds only ts ≡ true → Always Any (otherwise here ts)
      otherwise_ints none e = gives Any tt tt
      otherwise_ints (more (Node o at stop parts) ts) e = let e1 = in_parts Invoke 0 (Node o at stop parts) ts e in eithers (is_else o) (mean_all here parts) (otherwise here ts) (λ z. all_ints parts (else_in o at parts z (by_node o at parts e1.0))) (otherwise_ints ts e1.1)

    -- a body, which makes no own name
    stated_ints : (d : Definition) (t : Tree) → makes_nothing d ≡ true → IntegersAt t → Always Any (stated here d t)
    stated_ints makes.Nothing t z e = both IsIntegerIfAny Any (mean here t) _ (mean_ints t e) (λ v h. gives Any tt tt)
    stated_ints d t z e = absurd cc

    statement_ints : (t : Tree) → IntegersAt t → Always Any (statement here t)
    statement_ints (Node o at stop parts) e = stated_ints (definition o) (Node o at stop parts) (and_parts (makes_nothing (definition o)) (integers_by methods m kinds only (action o) at parts) e).0 e

    body_ints : (ts : Trees) → integers_in methods m kinds only ts ≡ true → Always Any (mean_body here ts)
    body_ints none e = gives Any tt tt
    body_ints (more t ts) e = let e1 = in_parts Invoke 0 t ts e in both Any Any (statement here t) _ (statement_ints t e1.0) (λ u h. body_ints ts e1.1)

    pub method_ints : integers_in methods m kinds only m.body ≡ true → Always Any (mean_method here m.body)
    method_ints e = both Any Any (mean_body here m.body) _ (body_ints m.body e) (λ u h. ends here.table here.opcode)

slots_ints : (n : ℕ) (vs : List Value) → AreIntegers vs → AreIntegersIfAny (slots n vs)
slots_ints zero vs h = tt
slots_ints (suc n) [] h = (tt, slots_ints n [] tt)
slots_ints (suc n) (v ∷ vs) h = (h.0, slots_ints n vs h.1)

left_ints : (watched : Bool) (kinds : ContentKinds) (table : ℕ) (frame : Frame) (o : Out (Unit {0})) → StaysIntegral kinds watched (λ u. Unit {0}) o → GivesInteger kinds frame (left table frame o)
left_ints watched kinds table frame (state.Goes u s) h = (tt, refl, h.1.names)
left_ints watched kinds table frame (Halts (Error e) s) h = tt
left_ints watched kinds table frame (Halts (Returned v) s) h = (h.0, refl, h.1.names)
left_ints watched kinds table frame (Halts (Broke at) s) h = tt
left_ints watched kinds table frame (Halts (Continued at) s) h = tt
left_ints watched kinds table frame (NoAnswer s) h = tt
left_ints watched kinds table frame (Spent s) h = tt

module _ (watched : Bool) (all : Judging) (known : ℕ → Option Accepted) (only : ℕ → Bool) (are : (k : ℕ) → only k ≡ true → integer_only_by all only k (known k) (all.methods.callee k) ≡ true) (script : List Event) (slept : LeavesIntegers all.kinds script) where
  -- of an evaluation in a frame
  abbrev Gives : Frame → M (Option Value) → State → Type 0
  Gives frame m s = GivesInteger all.kinds frame (m.run script s) × (watched ≡ false → m.wants script s ≡ false)

  abbrev Calls : (Place → ℕ → List Value → M (Option Value)) → Type 0
  Calls call = (p : Place) (k : ℕ) (vs : List Value) (s : State) → only k ≡ true → AreIntegers vs → HoldIntegers all.kinds s.names.contents → s.frame.watched ≡ watched → Gives s.frame (call p k vs) s

  only_says : (k : ℕ) (a : Option Accepted) (m : Callee) → integer_only_by all only k a (Some m) ≡ true → integers_in all.methods m all.kinds only m.body ≡ true
  only_says k (Some a) m e = (and_parts (are_integers (all.args k)) (integers_in all.methods m all.kinds only m.body) e).1
  only_says k None m e = absurd cc

  entered_ints : (d k : ℕ) (p : Place) (o : Option Callee) (vs : List Value) (s : State) → Calls (call_within all.methods d) → all.methods.callee k ≡ o → only k ≡ true → AreIntegers vs → HoldIntegers all.kinds s.names.contents → s.frame.watched ≡ watched → Gives s.frame (callee_or p o (λ m. framed m.table vs (mean_method (setting_for all.methods (call_within all.methods d) m) m.body))) s
  unfolding framed stop_with
  entered_ints d k p None vs s calls is e h names w = (tt, λ t. refl)
  entered_ints d k p (Some m) vs s calls is e h names w =
      let says : integer_only_by all only k (known k) (Some m) ≡ true = subst (λ o. integer_only_by all only k (known k) o ≡ true) is (are k e) in
      let body = method_ints watched all.kinds script slept all.methods m only (call_within all.methods d) calls (only_says k (known k) m says) (inside vs s) (record { locals = slots_ints 8 [] tt; args = slots_ints 7 vs h; names = names; watching = w }) in
      (left_ints watched all.kinds m.table s.frame _ body.0, body.1)

  none_within : (p : Place) (o : Option Callee) (frame : Frame) (s : State) → Gives frame (callee_or p o (λ m. stop_with (Error (record { table = p.table; at = p.at; cause = why.Depth })))) s
  unfolding stop_with
  none_within p None frame s = (tt, λ t. refl)
  none_within p (Some m) frame s = (tt, λ t. refl)

  calls_ints : (d : ℕ) → Calls (call_within all.methods d)
  unfolding call_within
  calls_ints zero p k vs s e h names w = none_within p (all.methods.callee k) s.frame s
  calls_ints (suc d) p k vs s e h names w = entered_ints d k p (all.methods.callee k) vs s (calls_ints d) refl e h names w

module _ (watched : Bool) (all : Judging) (known : ℕ → Option Accepted) (only : ℕ → Bool) (are : AreIntegerOnly all known only) (script : List Event) (slept : LeavesIntegers all.kinds script) where
  only_are : (k : ℕ) → only k ≡ true → integer_only_by all only k (known k) (all.methods.callee k) ≡ true
  only_are k e = sym (are.each k) ∙ e

  statement_alone : (d : ℕ) (m : Callee) (t : Tree) → integers all.methods m all.kinds only t ≡ true → Always watched all.kinds script slept IsIntegerIfAny (mean (setting_within all d m) t)
  statement_alone d m t e = mean_ints watched all.kinds script slept all.methods m only (call_within all.methods d) (calls_ints watched all known only only_are script slept d) t e

  operand_alone : (d : ℕ) (m : Callee) (t : Tree) → integers all.methods m all.kinds only t ≡ true → Always watched all.kinds script slept IsInteger (value (setting_within all d m) t)
  operand_alone d m t e = value_ints watched all.kinds script slept all.methods m only (call_within all.methods d) (calls_ints watched all known only only_are script slept d) t e

  call_alone : (d : ℕ) → Calls watched all known only only_are script slept (call_within all.methods d)
  call_alone d = calls_ints watched all known only only_are script slept d

pub integers_alone : IntegersAlone
integers_alone = record {
  statements = λ all known only are d m t e script slept watched s fits. (statement_alone watched all known only are script slept d m t e s fits).0;
  operands = λ all known only are d m t e script slept watched s fits. (operand_alone watched all known only are script slept d m t e s fits).0;
  calls = λ all known only are d p k values e h script slept s names. (call_alone s.frame.watched all known only are script slept d p k values s e h names refl).0;
}

pub integers_want_none : IntegersWantNone
integers_want_none = record {
  statements = λ all known only are d m t e script slept s fits. (statement_alone false all known only are script slept d m t e s fits).1 refl;
  operands = λ all known only are d m t e script slept s fits. (operand_alone false all known only are script slept d m t e s fits).1 refl;
  calls = λ all known only are d p k values e h script slept s names unwatched. (call_alone false all known only are script slept d p k values s e h names unwatched).1 refl;
  methods = λ all known only are d k m values is e h script slept s names unwatched. (entered_ints false all known only (only_are false all known only are script slept) script slept d k (record { table = 0; at = 0 }) (Some m) values s (call_alone false all known only are script slept d) is e h names unwatched).1 refl;
}

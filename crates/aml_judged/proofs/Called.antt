-- Calls of accepted methods, and what a verdict means.
use Rattle.std.proofs.Common.{◌+◌, ◌≡◌, ℕ, zero, suc, ◌^◌, ◌<◌, ◌≤◌, List, [], ◌∷◌, Option, Some, None, refl, sym, ap, ◌∙◌, subst, arith}
use Rattle.std.proofs.lemmas.Bool.{and_parts}
use Rattle.std.specs.Prelude.{Ok, Err, nat_lt, Bool, true, false, ◌&&◌, if◌then◌else◌}
use Rattle.aml_operators.specs.Tree.{Tree, Trees, Node, none, more}
use Rattle.aml_objects.specs.declared.width.Width.{Width}
use Rattle.aml_objects.specs.declared.width.Width.TheVariants as width_of
use Rattle.aml_objects.specs.Widths.{bits_of}
use Rattle.aml_values.specs.Values.{Value}
use Rattle.aml_kinds.specs.Kinds.{Kind}
use Rattle.aml_contents.specs.Contents.{ContentKinds}
use Rattle.aml_regions.specs.Events.{Event}
use Rattle.aml_meaning.specs.declared.definition.Definition.{Definition}
use Rattle.aml_meaning.specs.declared.definition.Definition.TheVariants as makes
use Rattle.aml_meaning.specs.State as state
use Rattle.aml_meaning.specs.State.{with_steps, State, Frame, Stop, Error, Returned, Broke, Continued, Out, Halts, NoAnswer, Spent, entered, held_level}
use Rattle.aml_meaning.specs.Parts.{then_do, tick, paid, M, ◌>>=◌, give, stop_with}
use Rattle.aml_meaning.specs.Rules.{Place}
use Rattle.aml_meaning.specs.Calls.{framed, left, inside}
use Rattle.aml_meaning.specs.Meaning.{mean, Setting}
use Rattle.aml_meaning.specs.Definitions.{mean_method, made, definition, mean_body, statement, stated}
use Rattle.aml_meaning.specs.Mutexes.{ended_or, if_watched, none_held}
use Rattle.aml_meaning.specs.declared.mutex.TakenMutex.{TakenMutex}
use Rattle.aml_meaning.specs.Within.{Callee, Methods, call_within, callee_or, setting_for, most_within}
use Rattle.aml_meaning.specs.Whole.{evaluated}
use Rattle.aml_calls.specs.Chains.{is_among, is_short}
use Rattle.aml_calls.proofs.Among.{among_all}
use Rattle.aml_judged.specs.Causes.{Refusal}
use Rattle.aml_judged.specs.Known.{join_env, Held, These, Different, Env}
use Rattle.aml_judged.specs.Judge.{judged_none_held, none_held_at}
use Rattle.aml_judged.specs.Judged.{goes, then_judge, NameKinds, no_exits, either, after, Yield, Accepted, Seen, Around, Exits, Judged, Goes, Stops}
use Rattle.aml_judged.specs.Safe.{Allows, FitsHeld, OnlyAbove, FitScript, FitsStop, FitAll, FitNames, FitsState, FitsYield, FitsExit, FitsReturn, IsSafe, IsCalled, AreCalls, IsTame, AreTame}
use Rattle.aml_judged.specs.Small.{IsSmall, AllSmall}
use Rattle.aml_judged.specs.Bodies.{judged_made, shared_only, grown_kinds, grown, judged_stated, judged_statement, judged_body, judged_method, entry, Made, Nothing, Holding, Field}
use Rattle.aml_judged.specs.Laws.{AreSmall, AreVerdicts, HasNoError, IsCallable, IsDone, VerdictsMean, evaluation}
use Rattle.aml_judged.specs.Verdicts.{result_of, none_left, most_steps, Verdict, bounded, verdict_of, accepted_of, called_from, Judging, seen_from, around_for, verdict_by, AreAccepted}
use Rattle.aml_judged.proofs.Fits.{slots_fit}
use Rattle.aml_judged.proofs.Owned.{IsMade, made_tick, made_safe}
use Rattle.aml_judged.proofs.Levels.{allows_left, allows_right}
use Rattle.aml_judged.proofs.Parts.{return_left, return_right, stop_left, stepped}
use Rattle.aml_judged.proofs.Sound.{mean_safe}
use Rattle.aml_judged.proofs.Words.{around_of}
use Rattle.aml_judged.proofs.KindRules.{plain}
use Rattle.aml_meaning.specs.declared.buffer_field.BufferField.{BufferField}

-- a call leaves the frame alone, and stops by an error or not at all
left_tame : (table : ℕ) (frame : Frame) (o : Out (Unit {0})) → IsTame frame (left table frame o)
left_tame table frame (state.Goes v s) = refl
left_tame table frame (Halts (Error e) s) = tt
left_tame table frame (Halts (Returned v) s) = refl
left_tame table frame (Halts (Broke at) s) = tt
left_tame table frame (Halts (Continued at) s) = tt
left_tame table frame (NoAnswer s) = tt
left_tame table frame (Spent s) = tt

or_tame : (p : Place) (m : Option Callee) (enter : Callee → M (Option Value)) (script : List Event) (s : State) → ((c : Callee) → IsTame s.frame ((enter c).run script s)) → IsTame s.frame ((callee_or p m enter).run script s)
unfolding stop_with
or_tame p None enter script s h = tt
or_tame p (Some c) enter script s h = h c

calls_tame : (methods : Methods) (d : ℕ) → AreTame (call_within methods d)
unfolding call_within stop_with framed
calls_tame methods zero = record { each = λ p k vs script s. or_tame p (methods.callee k) _ script s (λ c. tt) }
calls_tame methods (suc d) = record { each = λ p k vs script s. or_tame p (methods.callee k) _ script s (λ c. left_tame c.table s.frame ((mean_method (setting_for methods (call_within methods d) c) c.body).run script (inside vs s))) }

abbrev There : Option Env → Type 0
There (Some e) = Unit {0}
There None = ⊥

module _ (width : ℕ) (shared : ContentKinds) (above : ℕ) where
  -- how a body ends: of its own names nothing is said any more
  abbrev Ended : ℕ → Judged (Unit {0}) → Out (Unit {0}) → Type 0
  Ended before (Stops r) o = Unit {0}
  Ended before (Goes u env x n) (state.Goes v s) = (env.counts ≡ true) × FitsHeld s.frame.held env.held × FitNames width shared s.names × (s.frame.watched ≡ true) × (before ≤ s.steps + n)
  Ended before (Goes u env x n) (Halts (Error e) s) = OnlyAbove x.least above e × (before ≤ s.steps + n)
  Ended before (Goes u env x n) (Halts (Returned v) s) = FitsReturn width x.returned v × FitNames width shared s.names × (before ≤ s.steps + n)
  Ended before (Goes u env x n) (Halts (Broke at) s) = There x.broke × (before ≤ s.steps + n)
  Ended before (Goes u env x n) (Halts (Continued at) s) = There x.continued × (before ≤ s.steps + n)
  Ended before (Goes u env x n) (NoAnswer s) = Unit {0}
  Ended before (Goes u env x n) (Spent s) = before < n

  there_left : (f : Env → Env → Env) (a b : Option Env) → There a → There (either f a b)
  there_left f (Some a) (Some b) h = tt
  there_left f (Some a) None h = tt
  there_left f None b h = absurd h

  there_right : (f : Env → Env → Env) (a b : Option Env) → There b → There (either f a b)
  there_right f (Some a) (Some b) h = tt
  there_right f (Some a) None h = absurd h
  there_right f None b h = h

  after_ended : (x : Exits) (n from before : ℕ) (j : Judged (Unit {0})) (o : Out (Unit {0})) → before ≤ from + n → Ended from j o → Ended before (after x n j) o
  after_ended x n from before (Stops r) o le h = tt
  after_ended x n from before (Goes u env y m) (state.Goes v s) le h = (h.0, h.1, h.2, h.3, omega (arith, le, h.4))
  after_ended x n from before (Goes u env y m) (Halts (Error e) s) le h = ((h.0.0, λ a. h.0.1 (allows_right x.least y.least above a)), omega (arith, le, h.1))
  after_ended x n from before (Goes u env y m) (Halts (Returned v) s) le h = (return_right width (shared_only shared) above x.returned y.returned v h.0, h.1, omega (arith, le, h.2))
  after_ended x n from before (Goes u env y m) (Halts (Broke at) s) le h = (there_right join_env x.broke y.broke h.0, omega (arith, le, h.1))
  after_ended x n from before (Goes u env y m) (Halts (Continued at) s) le h = (there_right join_env x.continued y.continued h.0, omega (arith, le, h.1))
  after_ended x n from before (Goes u env y m) (NoAnswer s) le h = tt
  after_ended x n from before (Goes u env y m) (Spent s) le h = omega (arith, le, h)

  -- an end that comes before a further part
  before_ended : (x : Exits) (n before : ℕ) (env : Env) (j : Judged (Unit {0})) (stop : Stop) (s : State) → Ended before (Goes tt env x n) (Halts stop s) → Ended before (after x n j) (Halts stop s)
  before_ended x n before env (Stops r) stop s h = tt
  before_ended x n before env (Goes u last y m) (Error e) s h = ((h.0.0, λ a. h.0.1 (allows_left x.least y.least above a)), omega (arith, h.1))
  before_ended x n before env (Goes u last y m) (Returned v) s h = (return_left width (shared_only shared) above x.returned y.returned v h.0, h.1, omega (arith, h.2))
  before_ended x n before env (Goes u last y m) (Broke at) s h = (there_left join_env x.broke y.broke h.0, omega (arith, h.1))
  before_ended x n before env (Goes u last y m) (Continued at) s h = (there_left join_env x.continued y.continued h.0, omega (arith, h.1))

  no_answer_ended : (before : ℕ) (j : Judged (Unit {0})) (s : State) → Ended before j (NoAnswer s)
  no_answer_ended before (Goes u env x n) s = tt
  no_answer_ended before (Stops r) s = tt

  spent_ended : (before n : ℕ) (x : Exits) (j : Judged (Unit {0})) (s : State) → before < n → Ended before (after x n j) (Spent s)
  spent_ended before n x (Goes u env y m) s lt = omega (arith, lt)
  spent_ended before n x (Stops r) s lt = tt

  there : (owns : ContentKinds) (fields : List (Option BufferField)) (e : Option Env) (s : State) → FitsExit width (record { shared = shared; owns = owns; fields = fields }) above e s → There e
  there owns fields (Some e) s h = tt
  there owns fields None s h = h

  -- a stop of a statement, with what is known of own names
  stop_ended : (owns : ContentKinds) (fields : List (Option BufferField)) (before n : ℕ) (x : Exits) (env : Env) (stop : Stop) (s : State) → FitsStop width (record { shared = shared; owns = owns; fields = fields }) above x stop s → before ≤ s.steps + n → Ended before (Goes tt env x n) (Halts stop s)
  stop_ended owns fields before n x env (Error e) s h le = (h, le)
  stop_ended owns fields before n x env (Returned v) s h le = (h.0, h.1, le)
  stop_ended owns fields before n x env (Broke at) s h le = (there owns fields x.broke s h, le)
  stop_ended owns fields before n x env (Continued at) s h le = (there owns fields x.continued s h, le)

  -- the end of a method, where no mutex is held
  method_ended : (around : Around) (table at : ℕ) (script : List Event) (before : ℕ) (j : Judged (Unit {0})) (o : Out (Unit {0})) → Ended before j o → Ended before (then_judge j (λ u. judged_none_held around at)) (then_do o (λ u s. (none_held table at).run script s))
  unfolding none_held
  method_ended around table at script before (Stops r) o h = tt
  method_ended around table at script before (Goes u env x n) (state.Goes v s) h =
      subst (λ b. Ended before (after x n (judged_none_held around at env)) (if_watched b s (ended_or s.frame.held table at s))) (sym h.3) (by env.counts env.held s.frame.held h.0 h.1)
    where
      by : (c : Bool) (known : Held) (held : List TakenMutex) → c ≡ true → FitsHeld held known → Ended before (after x n (none_held_at around c known at env)) (ended_or held table at s)
      by true (These []) [] e f = (h.0, h.1, h.2, h.3, omega (arith, h.4))
      by true (These []) (m ∷ ms) e f = absurd cc
      by true (These (m ∷ ms)) held e f = tt
      by true Different held e f = tt
      by false known held e f = absurd cc
  method_ended around table at script before (Goes u env x n) (Halts stop s) h = before_ended x n before env (judged_none_held around at env) stop s h
  method_ended around table at script before (Goes u env x n) (NoAnswer s) h = no_answer_ended before (after x n (judged_none_held around at env)) s
  method_ended around table at script before (Goes u env x n) (Spent s) h = spent_ended before n x (judged_none_held around at env) s h

grown_script : (width : ℕ) (kinds : NameKinds) (k : Made) (script : List Event) → FitScript width kinds.shared script → FitScript width (grown_kinds kinds k).shared script
grown_script width kinds Nothing script f = f
grown_script width kinds (Holding k) script f = f
grown_script width kinds (Field p) script f = f

grown_calls : (width : ℕ) (kinds : NameKinds) (callee : ℕ → Seen) (call : Place → ℕ → List Value → M (Option Value)) (k : Made) → AreCalls width kinds callee call → AreCalls width (grown_kinds kinds k) callee call
grown_calls width kinds callee call Nothing c = c
grown_calls width kinds callee call (Holding k) c = record { each = c.each }
grown_calls width kinds callee call (Field p) c = record { each = c.each }

module _ (here : Setting) (callee : ℕ → Seen) (above : ℕ) (script : List Event) (tame : AreTame here.call) (narrow : here.width ≤ 64) (wide : 255 < 2 ^ here.width) where
  plain_made : (kinds : NameKinds) (before : ℕ) (j : Judged Yield) (o : Out (Option Value)) → IsSafe here.width kinds above (plain (FitsYield here.width)) before j o → IsMade here kinds callee above script before (then_judge j (λ y. goes Nothing)) (then_do o (λ v s. state.Goes tt s))
  plain_made kinds before (Stops r) o h = tt
  plain_made kinds before (Goes k env x n) (state.Goes v s) h = (h.1, omega (arith, h.2))
  plain_made kinds before (Goes k env x n) (Halts stop s) h = (stop_left here.width kinds above x no_exits stop s h.0, omega (arith, h.1))
  plain_made kinds before (Goes k env x n) (NoAnswer s) h = tt
  plain_made kinds before (Goes k env x n) (Spent s) h = omega (arith, h)

  stated_made : (kinds : NameKinds) → AreCalls here.width kinds callee here.call → FitScript here.width kinds.shared script → (d : Definition) (t : Tree) → IsSmall here.width here.literal t → (env : Env) (s : State) → FitsState here.width kinds above env s → IsMade here kinds callee above script s.steps (judged_stated (around_of here kinds callee) d t env) ((stated here d t).run script s)
  unfolding ◌>>=◌ give tick paid
  stated_made kinds calls slept makes.Nothing t small env s fits = plain_made kinds s.steps _ ((mean here t).run script s) (mean_safe here kinds callee above script slept calls tame narrow wide t small env s fits)
  stated_made kinds calls slept d (Node o at stop ts) small env s fits = made_tick here kinds callee above script (judged_made (around_of here kinds callee) d at ts env) s.steps s (λ u next. (made here d at ts).run script next) (λ m. made_safe here kinds callee above script d at ts small.1 env (with_steps s m) (stepped here.width kinds above env s m fits))

  statement_made : (kinds : NameKinds) → AreCalls here.width kinds callee here.call → FitScript here.width kinds.shared script → (t : Tree) → IsSmall here.width here.literal t → (env : Env) (s : State) → FitsState here.width kinds above env s → IsMade here kinds callee above script s.steps (judged_statement (around_of here kinds callee) t env) ((statement here t).run script s)
  statement_made kinds calls slept (Node o at stop ts) small env s fits = stated_made kinds calls slept (definition o) (Node o at stop ts) small env s fits

  shared_stays : (kinds : NameKinds) (k : Made) (J : ContentKinds → Type 0) → J (grown_kinds kinds k).shared → J kinds.shared
  shared_stays kinds Nothing J h = h
  shared_stays kinds (Holding k) J h = h
  shared_stays kinds (Field p) J h = h

  then_ended : (kinds : NameKinds) (before : ℕ) (j : Judged Made) (jf : Made → Env → Judged (Unit {0})) (o : Out (Unit {0})) (f : State → Out (Unit {0})) → IsMade here kinds callee above script before j o → ((k : Made) (env : Env) (s : State) → FitsState here.width (grown_kinds kinds k) above env s → Ended here.width kinds.shared above s.steps (jf k env) (f s)) → Ended here.width kinds.shared above before (then_judge j jf) (then_do o (λ u s. f s))
  then_ended kinds before (Stops r) jf o f h next = tt
  then_ended kinds before (Goes k env x n) jf (state.Goes v s) f h next = after_ended here.width kinds.shared above x n s.steps before (jf k env) (f s) h.1 (next k env s h.0)
  then_ended kinds before (Goes k env x n) jf (Halts stop s) f h next = before_ended here.width kinds.shared above x n before env (jf k env) stop s (stop_ended here.width kinds.shared above kinds.owns kinds.fields before n x env stop s h.0 h.1)
  then_ended kinds before (Goes k env x n) jf (NoAnswer s) f h next = no_answer_ended here.width kinds.shared above before (after x n (jf k env)) s
  then_ended kinds before (Goes k env x n) jf (Spent s) f h next = spent_ended here.width kinds.shared above before n x (jf k env) s h

  body_ended : (ts : Trees) → AllSmall here.width here.literal ts → (kinds : NameKinds) → AreCalls here.width kinds callee here.call → FitScript here.width kinds.shared script → (env : Env) (s : State) → FitsState here.width kinds above env s → Ended here.width kinds.shared above s.steps (judged_body (around_of here kinds callee) ts env) ((mean_body here ts).run script s)
  unfolding ◌>>=◌ give
  body_ended none small kinds calls slept env s fits = (fits.reached, fits.holds, fits.shared, fits.callers.1, omega arith)
  body_ended (more t ts) small kinds calls slept env s fits =
      then_ended kinds s.steps _ (λ k. judged_body (grown (around_of here kinds callee) k) ts) ((statement here t).run script s) (λ next. (mean_body here ts).run script next) (statement_made kinds calls slept t small.0 env s fits) (λ k e next f.
      shared_stays kinds k (λ sh. Ended here.width sh above next.steps (judged_body (grown (around_of here kinds callee) k) ts e) ((mean_body here ts).run script next)) (body_ended ts small.1 (grown_kinds kinds k) (grown_calls here.width kinds callee here.call k calls) (grown_script here.width kinds k script slept) e next f))

module _ (width : ℕ) (kinds : ContentKinds) where
  end_yields : (c : Bool) (o : Option Kind) → c ≡ true → FitsYield width None (result_of c o)
  end_yields c None e = tt
  end_yields true (Some k) e = tt
  end_yields false (Some k) e = absurd cc

  return_yields : (c : Bool) (o : Option Kind) (v : Value) → FitsReturn width o v → FitsYield width (Some v) (result_of c o)
  return_yields c None v h = absurd h
  return_yields true (Some k) v h = h
  return_yields false (Some k) v h = h

  none_broke : (b c : Option Env) → none_left b c ≡ true → There b → ⊥
  none_broke None c e h = h
  none_broke (Some b) c e h = cc

  none_continued : (b c : Option Env) → none_left b c ≡ true → There c → ⊥
  none_continued b None e h = h
  none_continued None (Some c) e h = cc
  none_continued (Some b) (Some c) e h = cc

  -- how a body's end becomes a call's
  left_called : (table : ℕ) (frame : Frame) (args : List Kind) (env : Env) (x : Exits) (n before : ℕ) (o : Out (Unit {0})) → none_left x.broke x.continued ≡ true → Ended width kinds (held_level frame) before (Goes tt env x n) o → IsCalled width (shared_only kinds) (record { args = args; result = result_of env.counts x.returned; bound = n; least = x.least }) frame before (left table frame o)
  left_called table frame args env x n before (state.Goes v s) e h = (end_yields env.counts x.returned h.0, refl, h.2, h.4)
  left_called table frame args env x n before (Halts (Returned v) s) e h = (return_yields env.counts x.returned v h.0, refl, h.1, h.2)
  left_called table frame args env x n before (Halts (Broke at) s) e h = absurd (none_broke x.broke x.continued e h.0)
  left_called table frame args env x n before (Halts (Continued at) s) e h = absurd (none_continued x.broke x.continued e h.0)
  left_called table frame args env x n before (Halts (Error r) s) e h = h
  left_called table frame args env x n before (NoAnswer s) e h = tt
  left_called table frame args env x n before (Spent s) e h = h

  bounded_called : (b : Bool) (late : Refusal) (a m : Accepted) (frame : Frame) (before : ℕ) (o : Out (Option Value)) → bounded b late a ≡ Ok m → (b ≡ true → IsCalled width (shared_only kinds) a frame before o) → IsCalled width (shared_only kinds) m frame before o
  bounded_called true late a m frame before o e h = let same : a ≡ m = cc in subst (λ r. IsCalled width (shared_only kinds) r frame before o) same (h refl)
  bounded_called false late a m frame before o e h = absurd cc

  verdict_called : (short : Bool) (late : Refusal) (args : List Kind) (j : Judged (Unit {0})) (a : Accepted) (table : ℕ) (frame : Frame) (before : ℕ) (o : Out (Unit {0})) → verdict_of short late args j ≡ Ok a → Ended width kinds (held_level frame) before j o → IsCalled width (shared_only kinds) a frame before (left table frame o)
  verdict_called short late args (Stops r) a table frame before o e h = absurd cc
  verdict_called short late args (Goes u env x n) a table frame before o e h =
      bounded_called (short && (none_left x.broke x.continued && nat_lt n most_steps)) late (record { args = args; result = result_of env.counts x.returned; bound = n; least = x.least }) a frame before (left table frame o) e
      (λ t. left_called table frame args env x n before o (and_parts (none_left x.broke x.continued) (nat_lt n most_steps) (and_parts short (none_left x.broke x.continued && nat_lt n most_steps) t).1).0 h)

  -- an accepted method takes the kinds that its signature says, and is short
  bounded_says : (b : Bool) (late : Refusal) (a m : Accepted) → bounded b late a ≡ Ok m → (b ≡ true) × (a.args ≡ m.args)
  bounded_says true late a m e = let same : a ≡ m = cc in (refl, ap (λ r. r.args) same)
  bounded_says false late a m e = absurd cc

  verdict_says : (short : Bool) (late : Refusal) (args : List Kind) (j : Judged (Unit {0})) (a : Accepted) → verdict_of short late args j ≡ Ok a → (short ≡ true) × (args ≡ a.args)
  verdict_says short late args (Stops r) a e = absurd cc
  verdict_says short late args (Goes u env x n) a e =
      let two = bounded_says (short && (none_left x.broke x.continued && nat_lt n most_steps)) late (record { args = args; result = result_of env.counts x.returned; bound = n; least = x.least }) a e in
      ((and_parts short (none_left x.broke x.continued && nat_lt n most_steps) two.0).0, two.1)

ok_verdict : (v : Verdict) (a : Accepted) → accepted_of (Some v) ≡ Some a → v ≡ Ok a
ok_verdict (Ok b) a e = let same : b ≡ a = cc in ap Ok same
ok_verdict (Err r) a e = absurd cc

if_among : {X : Type 0} (b : Bool) (o : Option X) (x : X) → (if b then o else None) ≡ Some x → (b ≡ true) × (o ≡ Some x)
if_among true o x e = (refl, e)
if_among false o x e = absurd cc

module _ (all : Judging) (narrow : all.methods.width ≤ 64) (wide : 255 < 2 ^ all.methods.width) (known : ℕ → Option Accepted) (are : AreAccepted all known) (small : AreSmall all) where
  abbrev Calls : ℕ → (Place → ℕ → List Value → M (Option Value)) → Type 0
  Calls d call = (p : Place) (k : ℕ) (a : Accepted) (vs : List Value) (script : List Event) (s : State) → is_short (called_from all) d k ≡ true → known k ≡ Some a → FitAll all.methods.width vs a.args → FitNames all.methods.width all.kinds s.names → FitScript all.methods.width all.kinds script → s.frame.watched ≡ true → IsCalled all.methods.width (shared_only all.kinds) a s.frame s.steps ((call p k vs).run script s)

  -- what a short method sees of its callees is what their calls give
  seen_calls : (d k : ℕ) (call : Place → ℕ → List Value → M (Option Value)) → is_short (called_from all) (suc d) k ≡ true → Calls d call → AreCalls all.methods.width (shared_only all.kinds) (seen_from all known k) call
  unfolding is_short
  seen_calls d k call short calls = record {
    each = λ p j a vs script s e fit shared slept watched.
        let two = if_among (is_among j (called_from all k)) (known j) a e in
        calls p j a vs script s (among_all (is_short (called_from all) d) j (called_from all k) two.0 short) two.1 fit shared slept watched;
  }

  -- a method in a frame of its own, by what it was judged to be
  entered_called : (d k : ℕ) (m : Callee) (a : Accepted) (vs : List Value) (script : List Event) (s : State) → Calls d (call_within all.methods d) → is_short (called_from all) (suc d) k ≡ true → all.methods.callee k ≡ Some m → accepted_of (verdict_by all known k (Some m)) ≡ Some a → FitAll all.methods.width vs a.args → FitNames all.methods.width all.kinds s.names → FitScript all.methods.width all.kinds script → s.frame.watched ≡ true → IsCalled all.methods.width (shared_only all.kinds) a s.frame s.steps ((framed m.table vs (mean_method (setting_for all.methods (call_within all.methods d) m) m.body)).run script s)
  unfolding framed ◌>>=◌
  entered_called d k m a vs script s calls short is e fit shared slept watched =
      let ok = ok_verdict _ a e in
      let says = verdict_says all.methods.width all.kinds _ _ (all.args k) (judged_method (around_for all known k m) m.opcode m.body (entry (all.args k))) a ok in
      verdict_called all.methods.width all.kinds _ _ (all.args k) (judged_method (around_for all known k m) m.opcode m.body (entry (all.args k))) a m.table s.frame s.steps _ ok
      (method_ended all.methods.width all.kinds (held_level s.frame) (around_for all known k m) m.table m.opcode script s.steps _ _ (body_ended (setting_for all.methods (call_within all.methods d) m) (seen_from all known k) (held_level s.frame) script (calls_tame all.methods d) narrow wide m.body (small k m is) (shared_only all.kinds)
      (seen_calls d k (call_within all.methods d) short calls) slept (entry (all.args k)) (inside vs s)
      (record { reached = refl; own = slots_fit all.methods.width 8 [] [] tt; given = slots_fit all.methods.width 7 vs (all.args k) (subst (FitAll all.methods.width vs) (sym says.1) fit); shared = shared; owned = record { kinds_stay = refl; fitting = refl; words = λ i u e. absurd cc }; fields = refl; holds = refl; callers = (refl, watched) })))

  or_called : (d : ℕ) (p : Place) (k : ℕ) (o : Option Callee) (a : Accepted) (vs : List Value) (script : List Event) (s : State) → Calls d (call_within all.methods d) → is_short (called_from all) (suc d) k ≡ true → all.methods.callee k ≡ o → accepted_of (verdict_by all known k o) ≡ Some a → FitAll all.methods.width vs a.args → FitNames all.methods.width all.kinds s.names → FitScript all.methods.width all.kinds script → s.frame.watched ≡ true → IsCalled all.methods.width (shared_only all.kinds) a s.frame s.steps ((callee_or p o (λ m. framed m.table vs (mean_method (setting_for all.methods (call_within all.methods d) m) m.body))).run script s)
  or_called d p k None a vs script s calls short is e fit shared slept watched = absurd cc
  or_called d p k (Some m) a vs script s calls short is e fit shared slept watched = entered_called d k m a vs script s calls short is e fit shared slept watched

  -- at most so many methods are active in one another
  calls_within : (d : ℕ) → Calls d (call_within all.methods d)
  unfolding is_short call_within
  calls_within zero p k a vs script s short e fit shared slept watched = absurd cc
  calls_within (suc d) p k a vs script s short e fit shared slept watched = or_called d p k (all.methods.callee k) a vs script s (calls_within d) short refl (sym (are.each k) ∙ e) fit shared slept watched

  short_of : (k : ℕ) (o : Option Callee) (a : Accepted) → accepted_of (verdict_by all known k o) ≡ Some a → is_short (called_from all) 64 k ≡ true
  short_of k None a e = absurd cc
  short_of k (Some m) a e = (verdict_says all.methods.width all.kinds _ _ (all.args k) (judged_method (around_for all known k m) m.opcode m.body (entry (all.args k))) a (ok_verdict _ a e)).0

  accepted_called : (k : ℕ) (a : Accepted) (m : Callee) → known k ≡ Some a → all.methods.callee k ≡ Some m → (vs : List Value) → FitAll all.methods.width vs a.args → (script : List Event) (s : State) → FitNames all.methods.width all.kinds s.names → FitScript all.methods.width all.kinds script → s.frame.watched ≡ true → IsCalled all.methods.width (shared_only all.kinds) a s.frame s.steps (evaluated (setting_for all.methods (call_within all.methods most_within) m) m.body vs script s)
  accepted_called k a m e is vs fit script s shared slept watched =
      let given : accepted_of (verdict_by all known k (all.methods.callee k)) ≡ Some a = sym (are.each k) ∙ e in
      entered_called 63 k m a vs script s (calls_within 63) (short_of k (all.methods.callee k) a given) is (subst (λ o. accepted_of (verdict_by all known k o) ≡ Some a) is given) fit shared slept watched

widths_narrow : (w : Width) → bits_of w ≤ 64
widths_narrow width_of.Bits32 = omega arith
widths_narrow width_of.Bits64 = omega arith

widths_wide : (w : Width) → 255 < 2 ^ bits_of w
widths_wide width_of.Bits32 = omega arith
widths_wide width_of.Bits64 = omega arith

called_no_error : (width : ℕ) (kinds : ContentKinds) (a : Accepted) (frame : Frame) (before : ℕ) (o : Out (Option Value)) → Allows a.least (held_level frame) → IsCalled width (shared_only kinds) a frame before o → HasNoError o
called_no_error width kinds a frame before (state.Goes v s) low h = tt
called_no_error width kinds a frame before (Halts (Error e) s) low h = h.0.1 low
called_no_error width kinds a frame before (Halts (Returned v) s) low h = h
called_no_error width kinds a frame before (Halts (Broke at) s) low h = h
called_no_error width kinds a frame before (Halts (Continued at) s) low h = h
called_no_error width kinds a frame before (NoAnswer s) low h = tt
called_no_error width kinds a frame before (Spent s) low h = tt

called_done : (all : Judging) (a : Accepted) (frame : Frame) (before : ℕ) (o : Out (Option Value)) → Allows a.least (held_level frame) → a.bound ≤ before → IsCalled all.methods.width (shared_only all.kinds) a frame before o → IsDone all a o
called_done all a frame before (state.Goes v s) low le h = (h.0, h.2)
called_done all a frame before (Halts (Error e) s) low le h = h.0.1 low
called_done all a frame before (Halts (Returned v) s) low le h = h
called_done all a frame before (Halts (Broke at) s) low le h = h
called_done all a frame before (Halts (Continued at) s) low le h = h
called_done all a frame before (NoAnswer s) low le h = tt
called_done all a frame before (Spent s) low le h = omega (arith, le, h)

callable : (all : Judging) (known : ℕ → Option Accepted) → AreVerdicts all known → (k : ℕ) (a : Accepted) (m : Callee) (values : List Value) (script : List Event) (s : State) → IsCallable all known k a m values script s → IsCalled all.methods.width (shared_only all.kinds) a s.frame s.steps (evaluation all m values script s)
callable all known are k a m values script s call =
    accepted_called all (subst (λ n. n ≤ 64) (sym are.bits) (widths_narrow are.width)) (subst (λ n. 255 < 2 ^ n) (sym are.bits) (widths_wide are.width)) known are.accepted are.small k a m call.accepted call.there values call.arguments script s call.names call.answers call.watched

pub verdicts_mean : VerdictsMean
verdicts_mean = record {
  bounds = callable;
  no_error = λ all known are k a m values script s call low. called_no_error all.methods.width all.kinds a s.frame s.steps (evaluation all m values script s) low (callable all known are k a m values script s call);
  done = λ all known are k a m values script s call low le. called_done all a s.frame s.steps (evaluation all m values script s) low le (callable all known are k a m values script s call);
}

-- Parts of an evaluation that are judged fine, and what follows them.
use Rattle.std.proofs.Common.{◌≡◌, ℕ, zero, suc, ◌+◌, ◌≤◌, ◌<◌, max, Option, Some, None, refl, arith}
use Rattle.std.specs.Prelude.{Bool, true, false, if◌then◌else◌}
use Rattle.std.proofs.lemmas.Bool.{and_parts}
use Rattle.aml_values.specs.Values.{Value}
use Rattle.aml_kinds.specs.Kinds.{Kind}
use Rattle.aml_kinds.specs.Joins.{join}
use Rattle.aml_meaning.specs.State as state
use Rattle.aml_meaning.specs.State.{State, with_steps, Stop, Error, Returned, Broke, Continued, Out, Halts, NoAnswer, Spent}
use Rattle.aml_meaning.specs.Parts.{then_do, take_step}
use Rattle.aml_judged.specs.Causes.{Refusal}
use Rattle.aml_judged.specs.Known.{Env, pick, join_env, env_within, end_within, ends_agree, holds_as, same_held, slots_within, in_loop}
use Rattle.aml_judged.specs.Judged.{NameKinds, Exits, no_exits, either, join_exits, Judged, Goes, Stops, after, then_judge, agreed, meet}
use Rattle.aml_judged.specs.Safe.{FitsState, FitsExit, FitsReturn, FitsStop, IsSafe}
use Rattle.aml_judged.proofs.Fits.{join_left, join_right, slots_left, slots_right, slots_within_fit}
use Rattle.aml_judged.proofs.Levels.{allows_left, allows_right, held_left, held_right, held_same}

module _ (width : ℕ) (kinds : NameKinds) (above : ℕ) where
  pick_left : (c d : Bool) (a b : Env) (s : State) → c ≡ true → FitsState width kinds above a s → FitsState width kinds above (pick c d a b) s
  pick_left true true a b s e f = record { owned = f.owned; fields = f.fields; holds = held_left s.frame.held a.held b.held f.holds; callers = f.callers; reached = f.reached; own = slots_left width s.frame.locals a.locals b.locals f.own; given = slots_left width s.frame.args a.args b.args f.given; shared = f.shared }
  pick_left true false a b s e f = f
  pick_left false d a b s e f = absurd cc

  pick_right : (c d : Bool) (a b : Env) (s : State) → a.counts ≡ c → d ≡ true → FitsState width kinds above b s → FitsState width kinds above (pick c d a b) s
  pick_right true true a b s g e f = record { owned = f.owned; fields = f.fields; holds = held_right s.frame.held a.held b.held f.holds; callers = f.callers; reached = g; own = slots_right width s.frame.locals a.locals b.locals f.own; given = slots_right width s.frame.args a.args b.args f.given; shared = f.shared }
  pick_right false true a b s g e f = f
  pick_right c false a b s g e f = absurd cc

  pub env_left : (a b : Env) (s : State) → FitsState width kinds above a s → FitsState width kinds above (join_env a b) s
  env_left a b s f = pick_left a.counts b.counts a b s f.reached f

  pub env_right : (a b : Env) (s : State) → FitsState width kinds above b s → FitsState width kinds above (join_env a b) s
  env_right a b s f = pick_right a.counts b.counts a b s refl f.reached f

  env_within_fits : (a b : Env) (s : State) → b.counts ≡ true → env_within a b ≡ true → same_held a.held b.held ≡ true → FitsState width kinds above a s → FitsState width kinds above b s
  env_within_fits a b s c e g f = let two = and_parts (slots_within a.locals b.locals) (slots_within a.args b.args) e in record { owned = f.owned; fields = f.fields; holds = held_same s.frame.held a.held b.held g f.holds; callers = f.callers; reached = c; own = slots_within_fit width s.frame.locals a.locals b.locals two.0 f.own; given = slots_within_fit width s.frame.args a.args b.args two.1 f.given; shared = f.shared }

  counting : (c : Bool) (b : Bool) → c ≡ true → (if c then b else true) ≡ true → b ≡ true
  counting true b e h = h
  counting false b e h = absurd cc

  pub end_within_fits : (a b : Env) (s : State) → b.counts ≡ true → end_within a b ≡ true → holds_as a b ≡ true → FitsState width kinds above a s → FitsState width kinds above b s
  end_within_fits a b s c e g f = env_within_fits a b s c (counting a.counts (env_within a b) f.reached e) (counting a.counts (same_held a.held b.held) f.reached g) f

  pub in_loop_fits : (b : Bool) (env : Env) (s : State) → FitsState width kinds above env s → FitsState width kinds above (in_loop b env) s
  in_loop_fits b env s f = record { owned = f.owned; fields = f.fields; holds = f.holds; callers = f.callers; reached = f.reached; own = f.own; given = f.given; shared = f.shared }

  exit_left : (a b : Option Env) (s : State) → FitsExit width kinds above a s → FitsExit width kinds above (either join_env a b) s
  exit_left None b s h = absurd h
  exit_left (Some a) None s h = h
  exit_left (Some a) (Some b) s h = env_left a b s h

  exit_right : (a b : Option Env) (s : State) → FitsExit width kinds above b s → FitsExit width kinds above (either join_env a b) s
  exit_right None b s h = h
  exit_right (Some a) None s h = absurd h
  exit_right (Some a) (Some b) s h = env_right a b s h

  pub return_left : (a b : Option Kind) (v : Value) → FitsReturn width a v → FitsReturn width (either join a b) v
  return_left None b v h = absurd h
  return_left (Some a) None v h = h
  return_left (Some a) (Some b) v h = join_left width v a b h

  pub return_right : (a b : Option Kind) (v : Value) → FitsReturn width b v → FitsReturn width (either join a b) v
  return_right None b v h = h
  return_right (Some a) None v h = absurd h
  return_right (Some a) (Some b) v h = join_right width v a b h

  pub stop_left : (x y : Exits) (stop : Stop) (s : State) → FitsStop width kinds above x stop s → FitsStop width kinds above (join_exits x y) stop s
  stop_left x y (Error e) s h = (h.0, λ a. h.1 (allows_left x.least y.least above a))
  stop_left x y (Returned v) s h = (return_left x.returned y.returned v h.0, h.1)
  stop_left x y (Broke at) s h = exit_left x.broke y.broke s h
  stop_left x y (Continued at) s h = exit_left x.continued y.continued s h

  pub stop_right : (x y : Exits) (stop : Stop) (s : State) → FitsStop width kinds above y stop s → FitsStop width kinds above (join_exits x y) stop s
  stop_right x y (Error e) s h = (h.0, λ a. h.1 (allows_right x.least y.least above a))
  stop_right x y (Returned v) s h = (return_right x.returned y.returned v h.0, h.1)
  stop_right x y (Broke at) s h = exit_right x.broke y.broke s h
  stop_right x y (Continued at) s h = exit_right x.continued y.continued s h

  pub no_answer : {W L : Type 0} (Q : W → L → State → Type 0) (before : ℕ) (j : Judged L) (s : State) → IsSafe width kinds above Q before j (NoAnswer s)
  no_answer Q before (Goes k env x n) s = tt
  no_answer Q before (Stops r) s = tt

  -- what is fine from some steps is fine behind a part that cost the others
  pub after_safe : {W L : Type 0} (Q : W → L → State → Type 0) (x : Exits) (n from before : ℕ) (j : Judged L) (o : Out W) → before ≤ from + n → IsSafe width kinds above Q from j o → IsSafe width kinds above Q before (after x n j) o
  after_safe Q x n from before (Stops r) o le h = tt
  after_safe Q x n from before (Goes k env y m) (state.Goes v s) le h = (h.0, h.1, omega (arith, le, h.2))
  after_safe Q x n from before (Goes k env y m) (Halts stop s) le h = (stop_right x y stop s h.0, omega (arith, le, h.1))
  after_safe Q x n from before (Goes k env y m) (NoAnswer s) le h = tt
  after_safe Q x n from before (Goes k env y m) (Spent s) le h = omega (arith, le, h)

  -- a stop of the first part
  pub stop_before : {W L : Type 0} (Q : W → L → State → Type 0) (before : ℕ) (x : Exits) (n : ℕ) (j : Judged L) (stop : Stop) (s : State) → FitsStop width kinds above x stop s → before ≤ s.steps + n → IsSafe width kinds above Q before (after x n j) (Halts stop s)
  stop_before Q before x n (Goes k env y m) stop s h le = (stop_left x y stop s h, omega (arith, le))
  stop_before Q before x n (Stops r) stop s h le = tt

  pub spent_before : {W L : Type 0} (Q : W → L → State → Type 0) (before : ℕ) (x : Exits) (n : ℕ) (j : Judged L) (s : State) → before < n → IsSafe width kinds above Q before (after x n j) (Spent s)
  spent_before Q before x n (Goes k env y m) s lt = omega (arith, lt)
  spent_before Q before x n (Stops r) s lt = tt

  pub safe_then : {V W K L : Type 0} (P : V → K → State → Type 0) (Q : W → L → State → Type 0) (before : ℕ) (j : Judged K) (jf : K → Env → Judged L) (o : Out V) (f : V → State → Out W) → IsSafe width kinds above P before j o → ((k : K) (env : Env) (v : V) (s : State) → P v k s → FitsState width kinds above env s → IsSafe width kinds above Q s.steps (jf k env) (f v s)) → IsSafe width kinds above Q before (then_judge j jf) (then_do o f)
  safe_then P Q before (Stops r) jf o f h next = tt
  safe_then P Q before (Goes k env x n) jf (state.Goes v s) f h next = after_safe Q x n s.steps before (jf k env) (f v s) h.2 (next k env v s h.0 h.1)
  safe_then P Q before (Goes k env x n) jf (Halts stop s) f h next = stop_before Q before x n (jf k env) stop s h.0 h.1
  safe_then P Q before (Goes k env x n) jf (NoAnswer s) f h next = no_answer Q before (after x n (jf k env)) s
  safe_then P Q before (Goes k env x n) jf (Spent s) f h next = spent_before Q before x n (jf k env) s h

  -- a step, and what it pays for
  pub ticked : {W L : Type 0} (Q : W → L → State → Type 0) (j : Judged L) (n : ℕ) (s : State) (f : State → Out W) → ((m : ℕ) → IsSafe width kinds above Q m j (f (with_steps s m))) → IsSafe width kinds above Q n (after no_exits 1 j) (take_step n s f)
  ticked Q j zero s f next = spent_before Q zero no_exits 1 j s (omega arith)
  ticked Q j (suc n) s f next = after_safe Q no_exits 1 n (suc n) j (f (with_steps s n)) (omega arith) (next n)

  pub tick_then : {W L : Type 0} (Q : W → L → State → Type 0) (j : Judged L) (n : ℕ) (s : State) (f : Unit {0} → State → Out W) → ((m : ℕ) → IsSafe width kinds above Q m j (f tt (with_steps s m))) → IsSafe width kinds above Q n (after no_exits 1 j) (then_do (take_step n s (λ next. state.Goes tt next)) f)
  tick_then Q j zero s f next = spent_before Q zero no_exits 1 j s (omega arith)
  tick_then Q j (suc n) s f next = after_safe Q no_exits 1 n (suc n) j (f tt (with_steps s n)) (omega arith) (next n)

  pub stepped : (env : Env) (s : State) (n : ℕ) → FitsState width kinds above env s → FitsState width kinds above env (with_steps s n)
  stepped env s n f = record { owned = f.owned; fields = f.fields; holds = f.holds; callers = f.callers; reached = f.reached; own = f.own; given = f.given; shared = f.shared }

  agreed_safe : {V K : Type 0} (P : V → K → State → Type 0) (before : ℕ) (b : Bool) (r : Refusal) (j : Judged K) (o : Out V) → IsSafe width kinds above P before j o → IsSafe width kinds above P before (agreed b r j) o
  agreed_safe P before true r j o h = h
  agreed_safe P before false r j o h = tt

  -- either end of a choice
  joined_left : {V K : Type 0} (P : V → K → State → Type 0) (before : ℕ) (k : K) (a b : Env) (x y : Exits) (n m : ℕ) (o : Out V) → IsSafe width kinds above P before (Goes k a x n) o → IsSafe width kinds above P before (Goes k (join_env a b) (join_exits x y) (max n m)) o
  joined_left P before k a b x y n m (state.Goes v s) h = (h.0, env_left a b s h.1, omega (arith, h.2))
  joined_left P before k a b x y n m (Halts stop s) h = (stop_left x y stop s h.0, omega (arith, h.1))
  joined_left P before k a b x y n m (NoAnswer s) h = tt
  joined_left P before k a b x y n m (Spent s) h = omega (arith, h)

  joined_right : {V : Type 0} (P : V → Unit {0} → State → Type 0) (before : ℕ) (k l : Unit {0}) (a b : Env) (x y : Exits) (n m : ℕ) (o : Out V) → IsSafe width kinds above P before (Goes l b y m) o → IsSafe width kinds above P before (Goes k (join_env a b) (join_exits x y) (max n m)) o
  joined_right P before k l a b x y n m (state.Goes v s) h = (h.0, env_right a b s h.1, omega (arith, h.2))
  joined_right P before k l a b x y n m (Halts stop s) h = (stop_right x y stop s h.0, omega (arith, h.1))
  joined_right P before k l a b x y n m (NoAnswer s) h = tt
  joined_right P before k l a b x y n m (Spent s) h = omega (arith, h)

  pub meet_left : {V K : Type 0} (P : V → K → State → Type 0) (before : ℕ) (r : Refusal) (i j : Judged K) (o : Out V) → IsSafe width kinds above P before i o → IsSafe width kinds above P before (meet r i j) o
  meet_left P before r (Stops q) j o h = tt
  meet_left P before r (Goes k a x n) (Stops q) o h = tt
  meet_left P before r (Goes k a x n) (Goes l b y m) o h = agreed_safe P before (ends_agree a b) r (Goes k (join_env a b) (join_exits x y) (max n m)) o (joined_left P before k a b x y n m o h)

  pub meet_right : {V : Type 0} (P : V → Unit {0} → State → Type 0) (before : ℕ) (r : Refusal) (i j : Judged (Unit {0})) (o : Out V) → IsSafe width kinds above P before j o → IsSafe width kinds above P before (meet r i j) o
  meet_right P before r (Stops q) j o h = tt
  meet_right P before r (Goes k a x n) (Stops q) o h = tt
  meet_right P before r (Goes k a x n) (Goes l b y m) o h = agreed_safe P before (ends_agree a b) r (Goes k (join_env a b) (join_exits x y) (max n m)) o (joined_right P before k l a b x y n m o h)

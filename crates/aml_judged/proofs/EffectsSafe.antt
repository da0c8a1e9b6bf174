-- Notify, Sleep and Stall, as they are judged.
use Rattle.std.proofs.Common.{◌≡◌, ℕ, zero, suc, ◌+◌, ◌≤◌, List, Option, Some, None, refl, arith}
use Rattle.std.specs.Prelude.{Bool, true, false, ◌==◌, if◌then◌else◌, slice_get, length}
use Rattle.aml_namespace.specs.declared.link.Link.{Link}
use Rattle.aml_namespace.specs.declared.link.Link.TheVariants as link
use Rattle.aml_contents.specs.Contents.{Contents}
use Rattle.aml_regions.specs.Events.{Event, Read, Written, Notified, Slept, Stalled}
use Rattle.aml_meaning.specs.declared.action.Action.{Action}
use Rattle.aml_meaning.specs.declared.action.Action.TheVariants.{Local, Argument, Name, NoTarget}
use Rattle.aml_meaning.specs.State as state
use Rattle.aml_meaning.specs.State.{State, Names, with_steps}
use Rattle.aml_meaning.specs.Parts.{give, paid, take_step, then_do, make_event, with_event, sleep, woken, woken_or}
use Rattle.aml_meaning.specs.Rules.{Place}
use Rattle.aml_meaning.specs.Notices.{is_notifiable, notice, paused}
use Rattle.aml_meaning.specs.declared.action.Pause.{Pause as PauseKind}
use Rattle.aml_meaning.specs.declared.action.Pause.TheVariants as pause
use Rattle.aml_regions.specs.Worlds.{behind_sleep}
use Rattle.aml_paths.specs.declared.scope.ObjectId.{ObjectId}
use Rattle.aml_meaning.specs.Meaning.{notified_name, notified, untargeted, Setting}
use Rattle.aml_judged.specs.Known.{Env}
use Rattle.aml_judged.specs.Judge.{judged_notified_name, judged_notified, judged_untargeted}
use Rattle.aml_judged.specs.Judged.{NameKinds, Never, Seen, pays}
use Rattle.aml_judged.specs.KindRules.{notice_kind}
use Rattle.aml_judged.proofs.Words.{words_of}
use Rattle.aml_judged.proofs.KindRules.{plain, Follows}
use Rattle.aml_judged.specs.Safe.{FitScript, FitNames}
use Rattle.aml_judged.proofs.Parts.{stepped}
use Rattle.aml_judged.proofs.Loops.{IsUnit}

module _ (here : Setting) (kinds : NameKinds) (callee : ℕ → Seen) (above : ℕ) (script : List Event) (slept : FitScript here.width kinds.shared script) where
  open words_of here kinds callee above use {around, Fine, Safe, Yields}

  -- whether an object that is there may be notified
  abbrev pub MayNotify : Option ObjectId → Bool → Type 0
  MayNotify (Some id) b = Unit {0}
  MayNotify None b = b ≡ false

  may_by : (b : Bool) (id : ObjectId) → MayNotify (if b then Some id else None) b
  may_by true id = tt
  may_by false id = refl

  notified_name_safe : (l : Link) (at : ℕ) (env : Env) (s : State) → Fine env s → Safe (plain MayNotify) s.steps (judged_notified_name around l at env) ((notified_name here l at).run script s)
  unfolding give
  notified_name_safe link.Missing at env s fits = tt
  notified_name_safe (link.Object id) at env s fits = (may_by (is_notifiable (here.object id.0)) id, fits, omega arith)
  notified_name_safe l at env s fits = (refl, fits, omega arith)

  pub notified_safe : (a : Action) (at : ℕ) (env : Env) (s : State) → Fine env s → Safe (plain MayNotify) s.steps (judged_notified around a at env) ((notified here a at).run script s)
  unfolding give
  notified_safe Name at env s fits = notified_name_safe (here.link at) at env s fits
  notified_safe (Local k) at env s fits = (refl, fits, omega arith)
  notified_safe (Argument k) at env s fits = (refl, fits, omega arith)
  notified_safe a at env s fits = tt

  abbrev pub Noticed : ObjectId → Unit {0} → Type 0
  Noticed id u = Unit {0}

  pub notice_follows : (p q : Place) (o : Option ObjectId) (b : Bool) → MayNotify o b → Follows Noticed (notice_kind p b) (notice q o)
  notice_follows p q (Some id) true h = tt
  notice_follows p q (Some id) false h = tt
  notice_follows p q None true h = absurd (let bad : true ≡ false = h in cc)
  notice_follows p q None false h = tt

  -- an event, behind its step
  pub event_safe : (n : ℕ) (event : Event) (env : Env) (s : State) → Fine env s → Safe (plain Yields) n (pays 1 Never env) (then_do (take_step {V = Unit {0}} n s (λ next. state.Goes tt (with_event next event))) (λ u next. state.Goes None next))
  event_safe zero event env s fits = omega arith
  event_safe (suc n) event env s fits = (tt, record { owned = fits.owned; fields = fits.fields; holds = fits.holds; callers = fits.callers; reached = fits.reached; own = fits.own; given = fits.given; shared = fits.shared }, omega arith)

  -- names hold what a Sleep left
  left_names : (i n : ℕ) (left : Option Contents) (names : Names) → slice_get script i ≡ Some (Slept n left) → FitNames here.width kinds.shared names → FitNames here.width kinds.shared (record names { contents = behind_sleep left names.contents })
  left_names i n None names e f = record { kinds_stay = f.kinds_stay; fitting = f.fitting; words = f.words }
  left_names i n (Some contents) names e f = let p = slept.left i n contents e in record { kinds_stay = f.kinds_stay; fitting = p.fitting; words = p.words }

  woken_by : (b : Bool) (before i m n : ℕ) (left : Option Contents) (env : Env) (s : State) → before ≤ s.steps + 1 → slice_get script i ≡ Some (Slept m left) → Fine env s → Safe (plain Yields) before (pays 1 Never env) (then_do (woken_or b n left s) (λ u next. state.Goes None next))
  woken_by true before i m n left env s le e fits = (tt, record { owned = fits.owned; fields = fits.fields; holds = fits.holds; callers = fits.callers; reached = fits.reached; own = fits.own; given = fits.given; shared = left_names i m left s.names e fits.shared }, le)
  woken_by false before i m n left env s le e fits = tt

  woken_safe : (before i n : ℕ) (event : Option Event) (env : Env) (s : State) → before ≤ s.steps + 1 → slice_get script i ≡ event → Fine env s → Safe (plain Yields) before (pays 1 Never env) (then_do (woken n event s) (λ u next. state.Goes None next))
  woken_safe before i n (Some (Read access v)) env s le e fits = tt
  woken_safe before i n (Some (Written access v)) env s le e fits = tt
  woken_safe before i n (Some (Notified object v)) env s le e fits = tt
  woken_safe before i n (Some (Slept m left)) env s le e fits = woken_by (n == m) before i m n left env s le e fits
  woken_safe before i n (Some (Stalled v)) env s le e fits = tt
  woken_safe before i n None env s le e fits = tt

  sleep_safe : (before n : ℕ) (env : Env) (s : State) → Fine env s → Safe (plain Yields) before (pays 1 Never env) (then_do (take_step {V = Unit {0}} before s (λ next. woken n (slice_get script (length next.log)) next)) (λ u next. state.Goes None next))
  sleep_safe zero n env s fits = omega arith
  sleep_safe (suc k) n env s fits = woken_safe (suc k) (length s.log) n (slice_get script (length s.log)) env (with_steps s k) (omega arith) refl (stepped here.width kinds above env s k fits)

  pub pause_safe : (f : PauseKind) (n : ℕ) (env : Env) (s : State) → Fine env s → Safe (plain Yields) s.steps (pays 1 Never env) (then_do ((paused f n).run script s) (λ u next. state.Goes None next))
  unfolding sleep make_event paid
  pause_safe pause.Sleep n env s fits = sleep_safe s.steps n env s fits
  pause_safe pause.Stall n env s fits = event_safe s.steps (Stalled n) env s fits

  pub untargeted_safe : (at : ℕ) (a : Action) (env : Env) (s : State) → Fine env s → Safe IsUnit s.steps (judged_untargeted around at a env) ((untargeted here at a).run script s)
  unfolding give
  untargeted_safe at NoTarget env s fits = (tt, fits, omega arith)
  untargeted_safe at a env s fits = tt

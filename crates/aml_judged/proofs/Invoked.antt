-- Calls of accepted methods and of `_OSI`, as they are judged.
use Rattle.std.proofs.Common.{◌≡◌, ℕ, List, [], ◌∷◌, Option, Some, None, refl, sym, ap, ◌∙◌, subst, arith, ◌≤◌}
use Rattle.std.specs.Prelude.{Bool, true, false, if◌then◌else◌, nat_le}
use Rattle.aml_operators.specs.Tree.{Trees, none, more}
use Rattle.aml_namespace.specs.declared.link.Link.{Link}
use Rattle.aml_namespace.specs.declared.link.Link.TheVariants as link
use Rattle.aml_values.specs.Values.{Value}
use Rattle.aml_kinds.specs.Kinds.{Kind}
use Rattle.aml_contents.specs.Contents.{kind_at}
use Rattle.aml_regions.specs.Events.{Event}
use Rattle.aml_meaning.specs.State as state
use Rattle.aml_meaning.specs.State.{State, Out, Halts, NoAnswer, Spent, Error, Returned, Broke, Continued, greatest_level, held_level}
use Rattle.aml_meaning.specs.Parts.{M, ◌>>=◌, give}
use Rattle.aml_meaning.specs.Rules.{Place}
use Rattle.aml_meaning.specs.Interfaces.{answered}
use Rattle.aml_meaning.specs.Meaning.{interface_asked, place_at, Setting, at_of, invoked}
use Rattle.aml_judged.specs.Causes as causes
use Rattle.aml_judged.specs.Known.{Env, within, Held, These, Different}
use Rattle.aml_judged.specs.Judge as judge
use Rattle.aml_judged.specs.Judge.{wanted, are_within, not_reaching, with_result, is_accepted, not_deep, judged_call, judged_invoked, judged_interface, holding_by, is_level, level_or, judged_levels, calling}
use Rattle.aml_judged.specs.Judged.{NameKinds, Yield, Always, Sometimes, Never, Accepted, Seen, Judged, Goes, Stops, Rule, then_judge, goes}
use Rattle.aml_judged.specs.KindRules.{interface_kind}
use Rattle.aml_judged.proofs.Words.{words_of}
use Rattle.aml_judged.proofs.FieldsSafe.{field_safe}
use Rattle.aml_judged.proofs.BufferFieldsSafe.{buffer_field_safe}
use Rattle.aml_judged.proofs.KindRules.{plain, interface_follows}
use Rattle.aml_judged.specs.Safe.{FitScript, FitNames, FitSlots, FitAll, IsCalled, AreCalls, Allows, FitsHeld, IsUnder}
use Rattle.aml_judged.proofs.Fits.{within_fits}
use Rattle.aml_judged.proofs.Parts.{safe_then, after_safe}
use Rattle.aml_judged.proofs.ReadsSafe.{lift_safe, content_safe, own_safe}
use Rattle.aml_meaning.specs.declared.mutex.TakenMutex.{TakenMutex}
use Rattle.aml_judged.proofs.Levels.{level_allowed}

module _ (here : Setting) (kinds : NameKinds) (callee : ℕ → Seen) (above : ℕ) (script : List Event) (slept : FitScript here.width kinds.shared script) (calls : AreCalls here.width kinds callee here.call) where
  open words_of here kinds callee above use {around, Fine, Safe, Is, Yields}

  -- rules that evaluate nothing
  abbrev Free : {K : Type 0} → (K → Type 0) → Env → Judged K → Type 0
  Free P env (Stops r) = Unit {0}
  Free P env (Goes k e x n) = (e ≡ env) × P k

  free_then : {K L W : Type 0} (P : K → Type 0) (Q : W → L → State → Type 0) (env : Env) (j : Judged K) (f : K → Env → Judged L) (before : ℕ) (o : Out W) → Free P env j → ((k : K) → P k → Safe Q before (f k env) o) → Safe Q before (then_judge j f) o
  free_then P Q env (Stops r) f before o h next = tt
  free_then P Q env (Goes k e x n) f before o h next = after_safe here.width kinds above Q x n before before (f k e) o (omega arith) (subst (λ d. Safe Q before (f k d) o) (sym h.0) (next k h.1))

  abbrev Nothing_said : Unit {0} → Type 0
  Nothing_said u = Unit {0}

  result_free : (w : Bool) (at : ℕ) (m : Option Accepted) (env : Env) → Free Nothing_said env (with_result around w at m env)
  result_free true at (Some m) env = by m.result
    where
      by : (y : Yield) → Free Nothing_said env (then_judge (wanted around at y env) (λ k. goes tt))
      by (Always k) = (refl, tt)
      by (Sometimes k) = tt
      by Never = tt
  result_free true at None env = (refl, tt)
  result_free false at m env = (refl, tt)

  accepted_free : (at : ℕ) (m : Option Accepted) (env : Env) → Free (λ a. m ≡ Some a) env (is_accepted around at m env)
  accepted_free at (Some m) env = (refl, refl)
  accepted_free at None env = tt

  deep_free : (at : ℕ) (b : Bool) (env : Env) → Free Nothing_said env (not_deep around at b env)
  deep_free at true env = tt
  deep_free at false env = (refl, tt)

  reaching_free : (at : ℕ) (b : Bool) (env : Env) → Free Nothing_said env (not_reaching around at b env)
  reaching_free at true env = tt
  reaching_free at false env = (refl, tt)

  within_free : (vs : List Value) (ks ms : List Kind) (ts : Trees) (env : Env) → FitAll here.width vs ks → Free (λ u. FitAll here.width vs ms) env (are_within around ks ms ts env)
  within_free [] [] [] none env h = (refl, tt)
  within_free (v ∷ vs) [] [] none env h = absurd h
  within_free vs [] [] (more t ts) env h = tt
  within_free vs [] (m ∷ ms) ts env h = tt
  within_free vs (k ∷ ks) [] ts env h = tt
  within_free vs (k ∷ ks) (m ∷ ms) none env h = tt
  within_free [] (k ∷ ks) (m ∷ ms) (more t ts) env h = absurd h
  within_free (v ∷ vs) (k ∷ ks) (m ∷ ms) (more t ts) env h = choice (within k m) refl (within_free vs ks ms ts env h.1)
    where
      give_both : (j : Judged (Unit {0})) → Is v m → Free (λ u. FitAll here.width vs ms) env j → Free (λ u. Is v m × FitAll here.width vs ms) env j
      give_both (Stops r) p f = tt
      give_both (Goes u e x n) p f = (f.0, (p, f.1))

      choice : (b : Bool) → within k m ≡ b → Free (λ u. FitAll here.width vs ms) env (are_within around ks ms ts env) → Free (λ u. Is v m × FitAll here.width vs ms) env ((if b then are_within around ks ms ts else judge.stops around causes.WrongKind (at_of t)) env)
      choice true e f = give_both (are_within around ks ms ts env) (within_fits here.width v k m e h.0) f
      choice false e f = tt

  -- a method's least level is at least each that the caller holds
  levels_free : (at : ℕ) (least : Option ℕ) (env : Env) (s : State) → Fine env s → Free (λ u. Allows least above → Allows least (held_level s.frame)) env (judged_levels around at least env)
  levels_free at least env s fits = by env.held fits.holds least
    where
      level_by : (b : Bool) (l : ℕ) (ms : List TakenMutex) → nat_le (greatest_level 0 ms) l ≡ b → s.frame.held ≡ ms → Free (λ u. above ≤ l → held_level s.frame ≤ l) env (level_or around b at env)
      level_by true l ms e h = (refl, λ le. level_allowed above l s.frame.outside s.frame.held ms h fits.callers.0 e le)
      level_by false l ms e h = tt

      by : (k : Held) → FitsHeld s.frame.held k → (o : Option ℕ) → Free (λ u. Allows o above → Allows o (held_level s.frame)) env (holding_by around at (λ ms. level_or around (is_level around o ms) at) k env)
      by (These ms) h None = (refl, λ le. tt)
      by (These ms) h (Some l) = level_by (nat_le (greatest_level 0 ms) l) l ms refl h
      by Different h o = tt

  called : (a : Accepted) (env : Env) (s : State) (o : Out (Option Value)) → IsCalled here.width kinds a s.frame s.steps o → (Allows a.least above → Allows a.least (held_level s.frame)) → Fine env s → Safe (plain Yields) s.steps (calling around a env) o
  called a env s (state.Goes v next) h low fits = (h.0, record { owned = subst (λ f. FitNames here.width kinds.owns f.owns) (sym h.1) fits.owned; fields = subst (λ f. f.fields ≡ kinds.fields) (sym h.1) fits.fields; holds = subst (λ f. FitsHeld f.held env.held) (sym h.1) fits.holds; callers = subst (IsUnder above) (sym h.1) fits.callers; reached = fits.reached; own = subst (λ f. FitSlots here.width f.locals env.locals) (sym h.1) fits.own; given = subst (λ f. FitSlots here.width f.args env.args) (sym h.1) fits.given; shared = h.2 }, h.3)
  called a env s (Halts (Error e) next) h low fits = ((h.0.0, λ le. h.0.1 (low le)), h.1)
  called a env s (Halts (Returned v) next) h low fits = absurd h
  called a env s (Halts (Broke at) next) h low fits = absurd h
  called a env s (Halts (Continued at) next) h low fits = absurd h
  called a env s (NoAnswer next) h low fits = tt
  called a env s (Spent next) h low fits = h

  call_safe : (w : Bool) (p : Place) (at i : ℕ) (m : Seen) (arguments : Trees) (ks : List Kind) (vs : List Value) (env : Env) (s : State) → callee i ≡ m → FitAll here.width vs ks → Fine env s → Safe (plain Yields) s.steps (judged_call around w at m arguments ks env) ((here.call p i vs).run script s)
  call_safe w p at i m arguments ks vs env s e h fits =
      free_then Nothing_said (plain Yields) env (with_result around w at m.accepted env) _ s.steps _ (result_free w at m.accepted env) (λ u z.
      free_then (λ a. m.accepted ≡ Some a) (plain Yields) env (is_accepted around at m.accepted env) _ s.steps _ (accepted_free at m.accepted env) (λ a is.
      free_then Nothing_said (plain Yields) env (not_deep around at m.deep env) _ s.steps _ (deep_free at m.deep env) (λ u2 z2.
      free_then (λ u3. FitAll here.width vs a.args) (plain Yields) env (are_within around ks a.args arguments env) _ s.steps _ (within_free vs ks a.args arguments env h) (λ u3 fit.
      free_then (λ u4. Allows a.least above → Allows a.least (held_level s.frame)) (plain Yields) env (judged_levels around at a.least env) _ s.steps _ (levels_free at a.least env s fits) (λ u4 low.
      called a env s _ (calls.each p i a vs script s (ap (λ n. n.accepted) e ∙ is) fit fits.shared slept fits.callers.1) low fits)))))

  interface_safe : (at from : ℕ) (arguments : Trees) (ks : List Kind) (vs : List Value) (env : Env) (s : State) → FitAll here.width vs ks → Fine env s → Safe (plain Yields) s.steps (judged_interface around at arguments ks env) ((interface_asked here at from vs).run script s)
  unfolding ◌>>=◌ give
  interface_safe at from (more a none) (k ∷ []) (v ∷ []) env s h fits =
      safe_then here.width kinds above (plain Is) (plain Yields) s.steps _ _ _ _ (lift_safe here kinds callee above script Is (interface_kind here.width (judge.place around a) k) (answered here.is_interface here.width (place_at here from) v) env s (interface_follows here.width here.is_interface _ _ k v h.0) fits) (λ l e u s1 p f1. (p, f1, omega arith))
  interface_safe at from (more a none) (k ∷ []) [] env s h fits = absurd h
  interface_safe at from (more a none) (k ∷ []) (v ∷ u ∷ vs) env s h fits = absurd h.1
  interface_safe at from arguments ks vs env s h fits = tt

  pub invoked_safe : (w : Bool) (l : Link) (at from : ℕ) (arguments : Trees) (given : Rule (List Kind)) (m : M (List Value)) (env : Env) (s : State) → Safe (plain (FitAll here.width)) s.steps (given env) (m.run script s) → Fine env s → Safe (plain Yields) s.steps (judged_invoked around w l at arguments given env) ((invoked here l at from m).run script s)
  unfolding ◌>>=◌
  invoked_safe w (link.Method id) at from arguments given m env s h fits =
      free_then Nothing_said (plain Yields) env (not_reaching around at (callee id.0).reaches env) _ s.steps _ (reaching_free at (callee id.0).reaches env) (λ u z.
      safe_then here.width kinds above (plain (FitAll here.width)) (plain Yields) s.steps (given env) _ (m.run script s) _ h (λ ks e vs s1 p f1. call_safe w (record { table = here.table; at = at }) at id.0 (callee id.0) arguments ks vs e s1 refl p f1))
  invoked_safe w (link.Data id) at from arguments given m env s h fits = content_safe here kinds callee above script at id.0 (kind_at kinds.shared id.0) env s refl fits
  invoked_safe w (link.Own k) at from arguments given m env s h fits = own_safe here kinds callee above script at k env s fits
  invoked_safe w link.OsInterfaces at from arguments given m env s h fits =
      safe_then here.width kinds above (plain (FitAll here.width)) (plain Yields) s.steps (given env) _ (m.run script s) _ h (λ ks e vs s1 p f1. interface_safe at from arguments ks vs e s1 p f1)
  invoked_safe w (link.BufferField id) at from arguments given m env s h fits = buffer_field_safe here kinds callee above script at (here.buffer_field id.0) env s fits
  invoked_safe w (link.Field id) at from arguments given m env s h fits = field_safe here kinds callee above script at (here.field id.0) env s fits
  invoked_safe w l at from arguments given m env s h fits = tt

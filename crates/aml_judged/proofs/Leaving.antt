-- Return, Break and Continue, as they are judged.
use Rattle.std.proofs.Common.{◌≡◌, ℕ, List, [], ◌∷◌, Option, arith, subst, sym}
use Rattle.std.specs.Prelude.{Bool, true, false}
use Rattle.aml_values.specs.Values.{Value}
use Rattle.aml_kinds.specs.Kinds.{Kind}
use Rattle.aml_regions.specs.Events.{Event}
use Rattle.aml_meaning.specs.State.{State, Returned, Broke, Continued, Halts}
use Rattle.aml_meaning.specs.Parts.{stop_with, then_do}
use Rattle.aml_meaning.specs.Mutexes.{ended_or, if_watched, none_held}
use Rattle.aml_meaning.specs.declared.mutex.TakenMutex.{TakenMutex}
use Rattle.aml_meaning.specs.Meaning.{Setting, held}
use Rattle.aml_judged.specs.Known.{Env, Held, These, Different}
use Rattle.aml_judged.specs.Judge.{if_counts, returning, leaving, judged_none_held, none_held_at}
use Rattle.aml_judged.specs.Judged.{NameKinds, Seen, then_judge, no_exits}
use Rattle.aml_judged.proofs.Words.{words_of}
use Rattle.aml_judged.proofs.KindRules.{plain}
use Rattle.aml_judged.specs.Safe.{FitsExit, FitsReturn, FitsHeld}

module _ (here : Setting) (kinds : NameKinds) (callee : ℕ → Seen) (above : ℕ) (script : List Event) where
  open words_of here kinds callee above use {around, Fine, Safe, Is, Yields}

  -- exits, where they count
  counted_return : (c : Bool) (k : Kind) (v : Value) → c ≡ true → Is v k → FitsReturn here.width (if_counts around c k) v
  counted_return true k v e h = h
  counted_return false k v e h = absurd cc

  counted_exit : (c : Bool) (env : Env) (s : State) → c ≡ true → Fine env s → FitsExit here.width kinds above (if_counts around c env) s
  counted_exit true env s e h = h
  counted_exit false env s e h = absurd cc

  -- a Return, where no mutex is held
  pub return_safe : (at : ℕ) (k : Kind) (v : Value) (env : Env) (s : State) → Is v k → Fine env s → Safe (plain Yields) s.steps (then_judge (judged_none_held around at env) (λ u. returning around k)) (then_do ((none_held here.table at).run script s) (λ u next. (stop_with {V = Option Value} (Returned v)).run script next))
  unfolding stop_with none_held
  return_safe at k v env s h fits =
      subst (λ b. Safe (plain Yields) s.steps (then_judge (judged_none_held around at env) (λ u. returning around k)) (then_do {W = Option Value} (if_watched b s (ended_or s.frame.held here.table at s)) (λ u next. Halts (Returned v) next)))
      (sym fits.callers.1) (by env.counts env.held s.frame.held fits.reached fits.holds)
    where
      by : (c : Bool) (known : Held) (held : List TakenMutex) → c ≡ true → FitsHeld held known → Safe (plain Yields) s.steps (then_judge (none_held_at around c known at env) (λ u. returning around k)) (then_do {W = Option Value} (ended_or held here.table at s) (λ u next. Halts (Returned v) next))
      by true (These []) [] e f = ((counted_return env.counts k v fits.reached h, fits.shared), omega arith)
      by true (These []) (m ∷ ms) e f = absurd cc
      by true (These (m ∷ ms)) held e f = tt
      by true Different held e f = tt
      by false known held e f = absurd cc

  pub break_safe : (b : Bool) (at : ℕ) (env : Env) (s : State) → Fine env s → Safe (plain Yields) s.steps (leaving around b at (record no_exits { broke = if_counts around env.counts env }) env) ((stop_with {V = Option Value} (Broke at)).run script s)
  unfolding stop_with
  break_safe true at env s fits = (counted_exit env.counts env s fits.reached fits, omega arith)
  break_safe false at env s fits = tt

  pub continue_safe : (b : Bool) (at : ℕ) (env : Env) (s : State) → Fine env s → Safe (plain Yields) s.steps (leaving around b at (record no_exits { continued = if_counts around env.counts env }) env) ((stop_with {V = Option Value} (Continued at)).run script s)
  unfolding stop_with
  continue_safe true at env s fits = (counted_exit env.counts env s fits.reached fits, omega arith)
  continue_safe false at env s fits = tt

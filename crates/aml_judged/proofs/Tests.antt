-- What a test tells, where it held.
use Rattle.std.proofs.Common.{◌≡◌, ℕ, suc, List, Option, Some, Result, Ok, Err, refl, arith}
use Rattle.aml_operators.specs.Tree.{Tree, Trees, Node, none, more}
use Rattle.aml_values.specs.Values.{Value}
use Rattle.aml_kinds.specs.Kinds.{Kind}
use Rattle.aml_regions.specs.Events.{Event}
use Rattle.aml_meaning.specs.declared.error.AmlError.{AmlError}
use Rattle.aml_meaning.specs.declared.action.Action.{Action}
use Rattle.aml_meaning.specs.declared.action.Action.TheVariants.{Local, Argument, Compare}
use Rattle.aml_meaning.specs.declared.action.Comparison.TheVariants as comparison
use Rattle.aml_meaning.specs.Actions.{action}
use Rattle.aml_meaning.specs.State as state
use Rattle.aml_meaning.specs.State.{State, Out, Halts, NoAnswer, Spent}
use Rattle.aml_meaning.specs.Parts.{◌>>=◌, give, stop_with, lift}
use Rattle.aml_meaning.specs.Rules.{Place, integer}
use Rattle.aml_meaning.specs.Meaning.{Setting, value, held, tested, place}
use Rattle.aml_judged.specs.Causes.{Refusal}
use Rattle.aml_judged.specs.Known.{Env}
use Rattle.aml_judged.specs.Judge as judge
use Rattle.aml_judged.specs.Judge.{narrowed_by, narrowed_act, narrowed, number_of, judged_test, judged_value}
use Rattle.aml_judged.specs.Judged.{NameKinds, Seen, Judged, Goes, Stops, then_judge, goes, ruled}
use Rattle.aml_judged.specs.KindRules.{integer_kind}
use Rattle.aml_judged.proofs.Words.{words_of}
use Rattle.aml_judged.proofs.KindRules.{plain, Follows, IsBelow, integer_follows}
use Rattle.aml_judged.proofs.Fits.{lower_fits}
use Rattle.aml_judged.proofs.Parts.{safe_then}
use Rattle.aml_judged.proofs.Shapes.{OnGoes, BelowBy, BelowAct, BelowTree, test_tells}
use Rattle.aml_judged.proofs.Loops.{Held}

module _ (here : Setting) (kinds : NameKinds) (callee : ℕ → Seen) (above : ℕ) (script : List Event) where
  open words_of here kinds callee above use {around, Fine, Safe, Is}

  narrowed_by_fits : (a : Action) (o : Option ℕ) (env : Env) (s : State) → Fine env s → BelowBy around here refl a o s.frame → Fine (narrowed_by around a o env) s
  narrowed_by_fits (Local i) (Some (suc n)) env s f h = record { owned = f.owned; fields = f.fields; holds = f.holds; callers = f.callers; reached = f.reached; own = lower_fits here.width s.frame.locals env.locals i h.number n h.is h.below f.own; given = f.given; shared = f.shared }
  narrowed_by_fits (Argument i) (Some (suc n)) env s f h = record { owned = f.owned; fields = f.fields; holds = f.holds; callers = f.callers; reached = f.reached; own = f.own; given = lower_fits here.width s.frame.args env.args i h.number n h.is h.below f.given; shared = f.shared }
  narrowed_by_fits a o env s f h = f

  narrowed_act_fits : (a : Action) (ts : Trees) (env : Env) (s : State) → Fine env s → BelowAct around here refl a ts s.frame → Fine (narrowed_act around a ts env) s
  narrowed_act_fits (Compare comparison.LLess) (more (Node x at stop none) (more c none)) env s f h = narrowed_by_fits (action x) (number_of around c) env s f h
  narrowed_act_fits a ts env s f h = f

  narrowed_fits : (t : Tree) (env : Env) (s : State) → Fine env s → BelowTree around here refl t s.frame → Fine (narrowed around t env) s
  narrowed_fits (Node o at stop ts) env s f h = narrowed_act_fits (action o) ts env s f h

  -- what is known behind a test, where it tells
  abbrev IfTold : Tree → ℕ → Env → State → Type 0
  IfTold t v held s = BelowTree around here refl t s.frame → Fine held s

  integer_safe : (t : Tree) (p q : Place) (k : Kind) (v : Value) (env : Env) (s : State) → Is v k → Fine env s → Safe (IfTold t) s.steps (then_judge (ruled (integer_kind p k) env) (λ j e. goes (narrowed around t e) e)) ((lift (integer q v)).run script s)
  unfolding give stop_with
  integer_safe t p q k v env s h fits = by (integer_kind p k) (integer q v) (integer_follows here.width p q k v h)
    where
      by : (rk : Result ℕ Refusal) (rv : Result ℕ AmlError) → Follows (IsBelow here.width) rk rv → Safe (IfTold t) s.steps (then_judge (ruled rk env) (λ j e. goes (narrowed around t e) e)) ((lift rv).run script s)
      by (Err r) rv f = tt
      by (Ok j) (Ok n) f = (narrowed_fits t env s fits, fits, omega arith)
      by (Ok j) (Err e) f = absurd f

  told_held : (t : Tree) (before : ℕ) (j : Judged Env) (o : Out ℕ) → Safe (IfTold t) before j o → OnGoes (λ v next. (v ≡ 0 → ⊥) → BelowTree around here refl t next.frame) o → Safe (Held around kinds above) before j o
  told_held t before (Stops r) o h g = tt
  told_held t before (Goes held et x n) (state.Goes v s) h g = ((λ nz. h.0 (g nz)), h.1, h.2)
  told_held t before (Goes held et x n) (Halts stop s) h g = h
  told_held t before (Goes held et x n) (NoAnswer s) h g = tt
  told_held t before (Goes held et x n) (Spent s) h g = h

  pub test_safe : (t : Tree) (env : Env) (s : State) → Safe (plain Is) s.steps (judged_value around t env) ((value here t).run script s) → Safe (Held around kinds above) s.steps (judged_test around t (judged_value around t) env) ((tested here (place here t) (value here t)).run script s)
  unfolding ◌>>=◌
  test_safe t env s h = told_held t s.steps _ ((tested here (place here t) (value here t)).run script s) (safe_then here.width kinds above (plain Is) (IfTold t) s.steps (judged_value around t env) _ ((value here t).run script s) _ h (λ k e v s1 f g. integer_safe t (judge.place around t) (place here t) k v e s1 f g)) (test_tells around here refl (place here t) t script s)

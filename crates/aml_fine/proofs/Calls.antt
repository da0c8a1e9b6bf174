-- Calls that are fine: the callee is there, one method more may be active, and its body is fine in its own frame.
use Rattle.std.proofs.Common.{◌≡◌, ℕ, zero, suc, List, Option, Some, None, Err, refl}
use Rattle.aml_values.specs.Values.{Value}
use Rattle.aml_regions.specs.Events.{Event}
use Rattle.aml_meaning.specs.Calls.{framed, inside, left}
use Rattle.aml_meaning.specs.Parts.{M}
use Rattle.aml_meaning.specs.Rules.{Place}
use Rattle.aml_meaning.specs.Runs.{By, Runs}
use Rattle.aml_meaning.specs.State.{State, Frame, Error, Returned, Broke, Continued, Out, Goes, Halts, NoAnswer, Spent}
use Rattle.aml_meaning.specs.Within.{Callee, Methods, call_within}
use Rattle.aml_meaning.proofs.Runs.{prefix_refl, stopped_whole}
use Rattle.aml_judged.specs.Fine.{IsGood}
use Rattle.aml_fine.specs.Fine.{Fine, FineOver}
use Rattle.aml_fine.specs.Laws.{body_of, Enters, EntersOver}
use Rattle.aml_fine.proofs.Fine.{words_behind}
use Rattle.aml_fine.proofs.Over.{over_stop}

left_good : (table : ℕ) (frame : Frame) (o : Out (Unit {0})) → IsGood (left table frame o) → IsGood o
left_good table frame (Goes v s) h = tt
left_good table frame (Halts (Returned v) s) h = tt
left_good table frame (Halts (Broke at) s) h = tt
left_good table frame (Halts (Continued at) s) h = tt
left_good table frame (Halts (Error e) s) h = h
left_good table frame (NoAnswer s) h = tt
left_good table frame (Spent s) h = h

module _ (Fits : List Event → Type 0) (table : ℕ) (values : List Value) (body : M (Unit {0})) (s : State) where
  pub over_framed : FineOver Fits (framed table values body) s → FineOver Fits body (inside values s)
  unfolding framed
  over_framed h = record { words = h.words; runs = λ script pre w. left_good table s.frame (body.run script (inside values s)) (h.runs script pre w) }

  -- no Break and no Continue leaves a body
  pub over_no_break : (at : ℕ) (s1 : State) → FineOver Fits (framed table values body) s → Runs {V = Unit {0}} (Err (By (Broke at))) body (inside values s) s1 → Fits s1.log → ⊥
  unfolding framed
  over_no_break at s1 h r fits = rw (stopped_whole body (inside values s) s1 (Broke at) s1.log r (prefix_refl s1.log)) at (h.runs s1.log r.grows fits)

  pub over_no_continue : (at : ℕ) (s1 : State) → FineOver Fits (framed table values body) s → Runs {V = Unit {0}} (Err (By (Continued at))) body (inside values s) s1 → Fits s1.log → ⊥
  unfolding framed
  over_no_continue at s1 h r fits = rw (stopped_whole body (inside values s) s1 (Continued at) s1.log r (prefix_refl s1.log)) at (h.runs s1.log r.grows fits)

module _ (table : ℕ) (values : List Value) (body : M (Unit {0})) (s : State) where
  pub fine_framed : Fine (framed table values body) s → Fine body (inside values s)
  fine_framed h = over_framed _ table values body s h

  pub no_break : (at : ℕ) (s1 : State) → Fine (framed table values body) s → Runs {V = Unit {0}} (Err (By (Broke at))) body (inside values s) s1 → s1.names.kinds ≡ s.names.kinds → ⊥
  no_break at s1 h r same = over_no_break _ table values body s at s1 h r (words_behind _ body (inside values s) s1 h.words r same)

  pub no_continue : (at : ℕ) (s1 : State) → Fine (framed table values body) s → Runs {V = Unit {0}} (Err (By (Continued at))) body (inside values s) s1 → s1.names.kinds ≡ s.names.kinds → ⊥
  no_continue at s1 h r same = over_no_continue _ table values body s at s1 h r (words_behind _ body (inside values s) s1 h.words r same)

module _ (Fits : List Event → Type 0) (methods : Methods) (p : Place) (k : ℕ) (values : List Value) (s : State) where
  over_call_by : (d : ℕ) (o : Option Callee) → methods.callee k ≡ o → FineOver Fits (call_within methods d p k values) s → EntersOver Fits methods d k values s
  unfolding call_within
  over_call_by zero None e h = absurd (over_stop Fits _ s (rw e at h))
  over_call_by zero (Some m) e h = absurd (over_stop Fits _ s (rw e at h))
  over_call_by (suc d) None e h = absurd (over_stop Fits _ s (rw e at h))
  over_call_by (suc d) (Some m) e h =
      let f : FineOver Fits (framed m.table values (body_of methods d m)) s = rw e at h in
      record { callee = m; is = e; less = d; depth = refl; framed_fine = f; fine = over_framed Fits m.table values (body_of methods d m) s f }

  pub over_call : (d : ℕ) → FineOver Fits (call_within methods d p k values) s → EntersOver Fits methods d k values s
  over_call d h = over_call_by d (methods.callee k) refl h

pub fine_call : (methods : Methods) (d : ℕ) (p : Place) (k : ℕ) (values : List Value) (s : State) → Fine (call_within methods d p k values) s → Enters methods d k values s
fine_call methods d p k values s h = over_call _ methods p k values s d h

-- Lists in order, steps of terms, and frames behind calls.
use Rattle.std.proofs.Common.{◌≡◌, ◌<◌, ℕ, zero, suc, List, refl, Option, Some, None, arith}
use Rattle.aml_operators.specs.Tree.{Node, none, more, joined}
use Rattle.aml_values.specs.Values.{Value}
use Rattle.aml_regions.specs.Events.{Event}
use Rattle.aml_meaning.specs.State.{State, Frame, Out, Goes, Halts, NoAnswer, Spent, Error, Returned, Broke, Continued, state_of, with_steps}
use Rattle.aml_meaning.specs.Parts.{M, ◌>>=◌, then_do, give, stop_with, tick, paid, take_step}
use Rattle.aml_meaning.specs.Calls.{framed, inside, left}
use Rattle.aml_meaning.specs.Rules.{Place}
use Rattle.aml_meaning.specs.Actions.{action}
use Rattle.aml_meaning.specs.Meaning.{act, mean, mean_all}
use Rattle.aml_meaning.specs.Definitions.{mean_body, mean_method, statement}
use Rattle.aml_meaning.specs.Within.{Callee, call_within, callee_or, setting_for}
use Rattle.aml_meaning.specs.Laws.{ListsAreInOrder, BodiesAreInOrder, TermsTakeAStep, TermsWantAStep, CallsKeepTheFrame}

-- what follows a first part and what follows that follow the first part together
parted : {U V W : Type 0} (o : Out U) (f : U → State → Out V) (g : V → State → Out W) (h : U → State → Out W) → ((u : U) (s : State) → h u s ≡ then_do (f u s) g) → then_do o h ≡ then_do (then_do o f) g
parted (Goes v s) f g h e = e v s
parted (Halts stop s) f g h e = refl
parted (NoAnswer s) f g h e = refl
parted (Spent s) f g h e = refl

pub lists_in_order : ListsAreInOrder
unfolding ◌>>=◌ give
lists_in_order here none rest script s = refl
lists_in_order here (more t ts) rest script s =
    parted ((mean here t).run script s) (λ v next. (mean_all here ts).run script next) (λ u next. (mean_all here rest).run script next)
    (λ v next. (mean_all here (joined ts rest)).run script next) (λ v next. lists_in_order here ts rest script next)

pub bodies_in_order : BodiesAreInOrder
unfolding ◌>>=◌ give
bodies_in_order here none rest script s = refl
bodies_in_order here (more t ts) rest script s =
    parted ((statement here t).run script s) (λ v next. (mean_body here ts).run script next) (λ u next. (mean_body here rest).run script next)
    (λ v next. (mean_body here (joined ts rest)).run script next) (λ v next. bodies_in_order here ts rest script next)

-- a step that is not left, and whatever would follow it
spent_there : {V W : Type 0} (n : ℕ) (s : State) (f : State → Out V) (g : V → State → Out W) → n ≡ 0 → then_do (take_step n s f) g ≡ Spent s
spent_there n s f g e = rw e refl

pub terms_want_a_step : TermsWantAStep
unfolding ◌>>=◌ tick paid
terms_want_a_step here (Node op at stop parts) script s e = spent_there s.steps s _ _ e

-- behind a step that is left, fewer are left, whatever follows it
taken_there : {W : Type 0} (n : ℕ) (s : State) (m : Unit {0} → M W) (script : List Event) → 0 < n → (state_of (then_do (take_step n s (λ next. Goes tt next)) (λ u next. (m u).run script next))).steps < n
taken_there zero s m script some = omega (arith, some)
taken_there (suc n) s m script some = omega (arith, (m tt).falls script (with_steps s n))

pub terms_take_a_step : TermsTakeAStep
unfolding ◌>>=◌ tick paid
terms_take_a_step here (Node op at stop parts) script s some = taken_there s.steps s (λ u. act here (action op) at parts) script some

-- what is left behind a call is the caller's frame
left_frame : (table : ℕ) (frame : Frame) (o : Out (Unit {0})) → (state_of (left table frame o)).frame ≡ frame
left_frame table frame (Goes v s) = refl
left_frame table frame (Halts (Error e) s) = refl
left_frame table frame (Halts (Returned v) s) = refl
left_frame table frame (Halts (Broke at) s) = refl
left_frame table frame (Halts (Continued at) s) = refl
left_frame table frame (NoAnswer s) = refl
left_frame table frame (Spent s) = refl

stopped_frame : (p : Place) (m : Option Callee) (enter : Callee → M (Option Value)) (script : List Event) (s : State) → ((c : Callee) → (state_of ((enter c).run script s)).frame ≡ s.frame) → (state_of ((callee_or p m enter).run script s)).frame ≡ s.frame
unfolding stop_with
stopped_frame p None enter script s e = refl
stopped_frame p (Some c) enter script s e = e c

pub calls_keep_the_frame : CallsKeepTheFrame
unfolding call_within stop_with framed
calls_keep_the_frame methods zero from k values script s = stopped_frame from (methods.callee k) _ script s (λ c. refl)
calls_keep_the_frame methods (suc d) from k values script s = stopped_frame from (methods.callee k) _ script s
    (λ c. left_frame c.table s.frame ((mean_method (setting_for methods (call_within methods d) c) c.body).run script (inside values s)))

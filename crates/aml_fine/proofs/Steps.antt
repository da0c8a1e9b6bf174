-- Parts that take a step, wherever they go on: terms, and what begins with one.
use Rattle.std.proofs.Common.{◌≡◌, ℕ, zero, suc, ◌≤◌, ◌<◌, List, refl, arith}
use Rattle.aml_operators.specs.Tree.{Tree, Node}
use Rattle.aml_regions.specs.Events.{Event}
use Rattle.aml_meaning.specs.Meaning.{Setting, mean, tested, value}
use Rattle.aml_meaning.specs.Parts.{M, ◌>>=◌, take_step, then_do, tick, paid}
use Rattle.aml_meaning.specs.Rules.{Place}
use Rattle.aml_meaning.specs.State.{State, Out, Goes, Halts, NoAnswer, Spent, with_steps}
use Rattle.aml_fine.specs.Fine.{TakesAStep}

abbrev ticked : State → Out (Unit {0})
ticked s = Goes tt s

step_taken : {V : Type 0} (n : ℕ) (s next : State) (v : V) (f : Unit {0} → M V) (script : List Event) → then_do (take_step n s ticked) (λ u last. (f u).run script last) ≡ Goes v next → next.steps < n
step_taken zero s next v f script e = absurd cc
step_taken (suc k) s next v f script e = let le = (f tt).falls script (with_steps s k) in let few : next.steps ≤ k = rw e at le in omega (arith, few)

pub tick_takes : {V : Type 0} (f : Unit {0} → M V) → TakesAStep (tick >>= f)
unfolding ◌>>=◌ tick paid
tick_takes f = record { each = λ script s next v e. step_taken s.steps s next v f script e }

first_taken : {V W : Type 0} (n : ℕ) (o : Out V) (f : V → M W) (script : List Event) (next : State) (w : W) → ((v : V) (s : State) → o ≡ Goes v s → s.steps < n) → then_do o (λ v s. (f v).run script s) ≡ Goes w next → next.steps < n
first_taken n (Goes v s) f script next w step e = let le = (f v).falls script s in let few : next.steps ≤ s.steps = rw e at le in let fewer = step v s refl in omega (arith, few, fewer)
first_taken n (Halts stop s) f script next w step e = absurd cc
first_taken n (NoAnswer s) f script next w step e = absurd cc
first_taken n (Spent s) f script next w step e = absurd cc

pub first_takes : {V W : Type 0} (m : M V) (f : V → M W) → TakesAStep m → TakesAStep (m >>= f)
unfolding ◌>>=◌
first_takes m f step = record { each = λ script s next w e. first_taken s.steps (m.run script s) f script next w (λ v last is. step.each script s last v is) e }

module _ (here : Setting) where
  pub mean_takes : (t : Tree) → TakesAStep (mean here t)
  mean_takes (Node op at stop parts) = tick_takes _

  pub value_takes : (t : Tree) → TakesAStep (value here t)
  value_takes (Node op at stop parts) = tick_takes _

  -- and so a test of a loop
  pub test_takes : (p : Place) (t : Tree) → TakesAStep (tested here p (value here t))
  test_takes p t = first_takes (value here t) _ (value_takes t)

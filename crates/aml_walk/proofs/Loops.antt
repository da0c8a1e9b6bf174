-- Loops, judged in place.
use Rattle.std.proofs.Common.{◌≡◌, ℕ, zero, suc, ◌+◌, ◌*◌, ◌≤◌, Bool, true, None, ◌∙◌, refl, sym, ap, inl, inr, arith}
use Rattle.std.proofs.lemmas.Bool.{cases_lt}
use Rattle.std.proofs.Math.Nat.{suc-mul}
use Rattle.aml_judged.specs.Verdicts.{most_steps}
use Rattle.aml_operators.specs.Tree.{Tree, Trees}
use Rattle.aml_judged.specs.Causes as cause
use Rattle.aml_judged.specs.Known.{Env, in_loop}
use Rattle.aml_judged.specs.Judged as judged
use Rattle.aml_judged.specs.Judged.{Around, Exits, Judged, Rule, Stops, after, agreed, join_exits}
use Rattle.aml_judged.specs.Judge.{begun, comes_back, exit_holds, holds_back, judged_all, past, refusal}
use Rattle.aml_judging.specs.Views.{held_cost, Standing}
use Rattle.aml_judging.specs.Follows.{Goes}
use Rattle.aml_judging.specs.Turns.{Leaves, often_rule, once_rule, tested}
use Rattle.aml_walk.proofs.Branches.{both_met}
use Rattle.aml_judging.proofs.Going.{passed_goes}

times_many : (t s : ℕ) → most_steps ≤ s → held_cost (t * most_steps) ≡ held_cost (t * s)
times_many zero s h = omega arith
times_many (suc t) s h =
    let a : suc t * most_steps ≡ t * most_steps + most_steps = suc-mul t most_steps in
    let b : suc t * s ≡ t * s + s = suc-mul t s in
    omega (arith, h, a, b)

pub held_times : (t s : ℕ) → held_cost (t * held_cost s) ≡ held_cost (t * s)
held_times t s = elim (cases_lt s most_steps) [
  | inl h ↦ let e : held_cost s ≡ s = omega (arith, h) in rw e refl
  | inr h ↦ let e : held_cost s ≡ most_steps = omega (arith, h) in rw e (times_many t s h)
]

module _ (here : Around) (at : ℕ) (t : Tree) (ts : Trees) where
  left_by : {outer : Bool} {et : Env} {x : Exits} {n cost : ℕ} {old new : Standing} → Leaves here outer et x cost old new → held_cost cost ≡ held_cost n → Goes (λ env. past here outer et x n) old new tt
  left_by {outer} {et} {x} {n} {cost} {old} {new} l e = record {
    exits = record x { broke = None; continued = None };
    cost = n;
    goes = ap (λ env. judged.Goes tt env (record x { broke = None; continued = None }) n) (sym l.env);
    joined = l.exits;
    counted = omega (arith, l.cost, e);
  }

  -- once
  pub once_goes : {old s new : Standing} {held eb : Env} {x : Exits} {m cost : ℕ} → Goes (tested here t) (record old { env = in_loop true old.env }) s held → judged_all here ts held ≡ judged.Goes tt eb x m → exit_holds here x.broke s.env ≡ true → Leaves here old.env.looped s.env x cost s new → held_cost cost ≡ held_cost m → Goes (once_rule here at t ts) old new tt
  once_goes {old} {s} {new} {held} {eb} {x} {m} {cost} a b h l e = passed_goes
      {rest = λ env. past here old.env.looped s.env x m} {whole = once_rule here at t ts} {mid = s}
      (record {
        exits = a.exits;
        cost = a.cost;
        goes = rw (a.goes, b, both_met (exit_holds here x.broke s.env) (refusal here cause.HeldDiffers at) (past here old.env.looped s.env x m) h) refl;
        joined = a.joined;
        counted = a.counted;
      })
      (left_by l e)

  -- from the loop's beginning, with nothing paid yet
  abbrev pub from_start : Standing → Env → Standing
  from_start s start = record s { env = start; cost = 0 }

  -- so many turns at most
  pub often_goes : (turns : ℕ) {old s paid new : Standing} {held eb start : Env} {x : Exits} {m : ℕ} (u : ℕ) {cost : ℕ} → start ≡ begun here ts old.env → Goes (tested here t) (from_start old start) s held → judged_all here ts held ≡ judged.Goes tt eb x m → comes_back here eb x.continued start ≡ true → holds_back here eb x start s.env ≡ true → paid.env ≡ s.env → paid.exits ≡ s.exits → paid.cost ≡ held_cost (old.cost + s.cost) → Leaves here old.env.looped s.env x cost paid new → held_cost u ≡ held_cost m → held_cost cost ≡ held_cost (turns * held_cost (s.cost + held_cost u)) → Goes (often_rule here turns at t ts) old new tt
  often_goes turns {old} {s} {paid} {new} {held} {eb} {start} {x} {m} u {cost} is a b back holds e1 e2 e3 l g h =
      let times : held_cost cost ≡ held_cost (turns * (a.cost + m)) = h ∙ ap (λ y. held_cost (turns * y)) (omega (arith, a.counted, g)) ∙ held_times turns (a.cost + m) in
      passed_goes
      {rest = λ env. past here old.env.looped s.env x (turns * (a.cost + m))} {whole = often_rule here turns at t ts} {mid = paid}
      (record {
        exits = a.exits;
        cost = a.cost;
        goes = rw (← is, a.goes, b, back, holds) refl;
        joined = e2 ∙ a.joined;
        counted = omega (arith, e3, a.counted);
      })
      (left_by l times)

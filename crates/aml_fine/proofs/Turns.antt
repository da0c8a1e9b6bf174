-- Turns of loops: what is fine, and that no more of them are wanted than steps are left.
use Rattle.std.proofs.Common.{◌≡◌, ℕ, zero, suc, ◌+◌, ◌-◌, ◌<◌, List, Result, Ok, Err, refl, sym, subst, arith}
use Rattle.std.proofs.Math.Nat.{suc-add}
use Rattle.std.specs.Prelude.{◌==◌, if◌then◌else◌, Bool, true, false}
use Rattle.aml_regions.specs.Events.{Event}
use Rattle.aml_meaning.specs.State.{State, Error, Returned, Broke, Continued, Out, Goes, Halts, NoAnswer, Spent, state_of}
use Rattle.aml_meaning.specs.Parts.{M, ◌>>=◌, give, then_do}
use Rattle.aml_meaning.specs.Loops.{loop, turns, turned, turn_end, spent}
use Rattle.aml_meaning.specs.Runs.{Halt, NoMemory, OutOfSteps, By, Runs}
use Rattle.aml_meaning.proofs.Runs.{prefix_refl, prefix_trans, whole, stopped_whole}
use Rattle.aml_meaning.proofs.Loops.{nonzero_test, Turns}
use Rattle.aml_judged.specs.Fine.{IsGood}
use Rattle.aml_fine.specs.Fine.{FineOver, TakesAStep}
use Rattle.aml_fine.proofs.Over.{over_first, over_next, over_other}

turn_good : (o : Out (Unit {0})) (rest : State → Out (Unit {0})) → IsGood (turn_end o rest) → IsGood o
turn_good (Goes v s) rest h = tt
turn_good (Halts (Broke at) s) rest h = tt
turn_good (Halts (Continued at) s) rest h = tt
turn_good (Halts (Error e) s) rest h = h
turn_good (Halts (Returned v) s) rest h = tt
turn_good (NoAnswer s) rest h = tt
turn_good (Spent s) rest h = h

-- from each state with fewer steps the same comes of so many turns and of more
turn_same : (n : ℕ) (o : Out (Unit {0})) (rest more : State → Out (Unit {0})) → (state_of o).steps < n → ((s : State) → s.steps < n → rest s ≡ more s) → turn_end o rest ≡ turn_end o more
turn_same n (Goes v s) rest more lt same = same s lt
turn_same n (Halts (Continued at) s) rest more lt same = same s lt
turn_same n (Halts (Broke at) s) rest more lt same = refl
turn_same n (Halts (Error e) s) rest more lt same = refl
turn_same n (Halts (Returned v) s) rest more lt same = refl
turn_same n (NoAnswer s) rest more lt same = refl
turn_same n (Spent s) rest more lt same = refl

chosen_same : (n : ℕ) (b : Bool) (body rest more : M (Unit {0})) (script : List Event) (s : State) → s.steps < n → ((s : State) → s.steps < n → rest.run script s ≡ more.run script s) → (if b then give tt else turned body rest).run script s ≡ (if b then give tt else turned body more).run script s
unfolding turned
chosen_same n true body rest more script s lt same = refl
chosen_same n false body rest more script s lt same =
    turn_same n (body.run script s) (rest.run script) (more.run script) (let le = body.falls script s in omega (arith, le, lt)) same

tested_same : (n : ℕ) (o : Out ℕ) (rest more : ℕ → State → Out (Unit {0})) → ((v : ℕ) (s : State) → o ≡ Goes v s → s.steps < n) → ((v : ℕ) (s : State) → s.steps < n → rest v s ≡ more v s) → then_do o rest ≡ then_do o more
tested_same n (Goes v s) rest more falls same = same v s (falls v s refl)
tested_same n (Halts stop s) rest more falls same = refl
tested_same n (NoAnswer s) rest more falls same = refl
tested_same n (Spent s) rest more falls same = refl

module _ (test : M ℕ) (body : M (Unit {0})) (step : TakesAStep test) where
  -- more turns than steps make no difference, where each test takes a step
  pub enough_turns : (n j : ℕ) (script : List Event) (s : State) → s.steps < n → (turns n test body).run script s ≡ (turns (n + j) test body).run script s
  unfolding ◌>>=◌
  enough_turns zero j script s lt = absurd (omega (arith, lt))
  enough_turns (suc n) j script s lt =
      subst (λ m. (turns (suc n) test body).run script s ≡ (turns m test body).run script s) (sym (suc-add n j))
      (tested_same n (test.run script s) _ _ (λ v next e. let fewer = step.each script s next v e in omega (arith, fewer, lt))
      (λ v next less. chosen_same n (v == 0) body (turns n test body) (turns (n + j) test body) script next less (λ last few. enough_turns n j script last few)))

module _ (Fits : List Event → Type 0) (test : M ℕ) (body : M (Unit {0})) (s : State) where
  pub over_turns : FineOver Fits (loop test body) s → FineOver Fits (turns (suc s.steps) test body) s
  unfolding loop
  over_turns h = record { words = h.words; runs = h.runs }

  pub over_loop : FineOver Fits (turns (suc s.steps) test body) s → FineOver Fits (loop test body) s
  unfolding loop
  over_loop h = record { words = h.words; runs = h.runs }

  no_turn : FineOver {V = Unit {0}} Fits spent s → ⊥
  unfolding spent
  no_turn h = h.runs s.log (prefix_refl s.log) h.words

  pub turn_first : (n : ℕ) → FineOver Fits (turns n test body) s → FineOver Fits test s
  turn_first zero h = absurd (no_turn h)
  turn_first (suc n) h = over_first Fits _ _ s h

  module _ (v : ℕ) (s1 : State) (r : Runs (Ok v) test s s1) (fits : Fits s1.log) (nonzero : v ≡ 0 → ⊥) where
    turn_fine : (n : ℕ) → FineOver Fits (turns (suc n) test body) s → FineOver Fits (turned body (turns n test body)) s1
    turn_fine n h = over_other Fits (v == 0) (give tt) (turned body (turns n test body)) s1 (over_next Fits _ _ s s1 v h r fits) (nonzero_test v nonzero)

    pub turn_body : (n : ℕ) → FineOver Fits (turns n test body) s → FineOver Fits body s1
    unfolding turned
    turn_body zero h = absurd (no_turn h)
    turn_body (suc n) h =
        let f = turn_fine n h in
        record { words = fits; runs = λ script pre w. turn_good (body.run script s1) _ (f.runs script pre w) }

    -- the turns behind a turn
    pub turn_next : (n : ℕ) (s2 : State) (b : Result (Unit {0}) Halt) → Turns b → FineOver Fits (turns (suc n) test body) s → Runs b body s1 s2 → Fits s2.log → FineOver Fits (turns n test body) s2
    unfolding turned
    turn_next n s2 (Ok tt) t h q behind =
        let f = turn_fine n h in
        record { words = behind; runs = λ script pre w. rw (whole body s1 s2 tt script q pre) at (f.runs script (prefix_trans _ _ _ q.grows pre) w) }
    turn_next n s2 (Err (By (Continued at))) t h q behind =
        let f = turn_fine n h in
        record { words = behind; runs = λ script pre w. rw (stopped_whole body s1 s2 (Continued at) script q pre) at (f.runs script (prefix_trans _ _ _ q.grows pre) w) }
    turn_next n s2 (Err (By (Broke at))) t h q behind = absurd t
    turn_next n s2 (Err (By (Returned w))) t h q behind = absurd t
    turn_next n s2 (Err (By (Error e))) t h q behind = absurd t
    turn_next n s2 (Err OutOfSteps) t h q behind = absurd t
    turn_next n s2 (Err NoMemory) t h q behind = absurd t

    -- the loop behind a turn
    pub over_loop_next : TakesAStep test → (s2 : State) (b : Result (Unit {0}) Halt) → Turns b → FineOver Fits (loop test body) s → Runs b body s1 s2 → Fits s2.log → FineOver Fits (loop test body) s2
    unfolding loop
    over_loop_next step s2 b t h q behind =
        let fewer : s1.steps < s.steps = step.each s1.log s s1 v (whole test s s1 v s1.log r (prefix_refl s1.log)) in
        let n : suc s2.steps + (s.steps - suc s2.steps) ≡ s.steps = omega (arith, fewer, q.falls) in
        let f : FineOver Fits (turns s.steps test body) s2 = turn_next s.steps s2 b t (over_turns h) q behind in
        let g : FineOver Fits (turns (suc s2.steps + (s.steps - suc s2.steps)) test body) s2 = subst (λ k. FineOver Fits (turns k test body) s2) (sym n) f in
        record { words = behind; runs = λ script pre w. subst IsGood (sym (enough_turns test body step (suc s2.steps) (s.steps - suc s2.steps) script s2 (omega arith))) (g.runs script pre w) }

-- A loop that is judged fine ends within its turns.
use Rattle.std.proofs.Common.{◌≡◌, ℕ, zero, suc, ◌+◌, ◌*◌, ◌≤◌, ◌<◌, List, Option, Some, None, refl, sym, ◌∙◌, arith, inl, inr}
use Rattle.std.specs.Prelude.{Bool, true, false, ◌==◌, ◌&&◌, if◌then◌else◌}
use Rattle.std.proofs.lemmas.Bool.{and_parts}
use Rattle.std.proofs.Math.Nat.{suc-mul}
use Rattle.std.proofs.lemmas.Bool.Decides.{eqb_tells}
use Rattle.aml_regions.specs.Events.{Event}
use Rattle.aml_meaning.specs.State as state
use Rattle.aml_meaning.specs.State.{State, Stop, Error, Returned, Broke, Continued, Out, Halts, NoAnswer, Spent}
use Rattle.aml_meaning.specs.Parts.{M, Falls, ◌>>=◌, give, then_do}
use Rattle.aml_meaning.specs.Loops.{turned, turn_end, turns, loop}
use Rattle.aml_judged.specs.Known.{Env, end_within, holds_as}
use Rattle.aml_judged.specs.Judge.{exit_within, exit_holds, comes_back, holds_back, after_loop, past}
use Rattle.aml_judged.specs.Judged.{NameKinds, Around, Exits, Judged, Goes, after}
use Rattle.aml_judged.specs.Safe.{FitsState, FitsExit, IsSafe}
use Rattle.aml_judged.proofs.Parts.{no_answer, stop_before, spent_before, stop_right, env_left, env_right, end_within_fits, in_loop_fits}
use Rattle.aml_judged.proofs.Turns.{Only, AtTurn}
use Rattle.aml_judged.proofs.Shapes.{Lower}

abbrev pub IsUnit : Unit {0} → Unit {0} → State → Type 0
IsUnit v k s = Unit {0}

pub is_nonzero : (x : ℕ) → (x == 0) ≡ false → x ≡ 0 → ⊥
is_nonzero x e z = elim (eqb_tells x 0) [ inl p ↦ let bad : true ≡ false = sym p.0 ∙ e in cc | inr p ↦ p.1 z ]

module _ (around : Around) (kinds : NameKinds) (above : ℕ) where
  abbrev Fine : Env → State → Type 0
  Fine = FitsState around.width kinds above

  abbrev Safe : {V K : Type 0} → (V → K → State → Type 0) → ℕ → Judged K → Out V → Type 0
  Safe P before j o = IsSafe around.width kinds above P before j o

  -- where a test held, this is known
  abbrev pub Held : ℕ → Env → State → Type 0
  Held v held s = (v ≡ 0 → ⊥) → Fine held s

  after_left : (o : Option Env) (et : Env) (s : State) → Fine et s → Fine (after_loop around o et) s
  after_left None et s f = f
  after_left (Some b) et s f = env_left around.width kinds above et b s f

  after_right : (o : Option Env) (et : Env) (s : State) → FitsExit around.width kinds above o s → Fine (after_loop around o et) s
  after_right None et s h = absurd h
  after_right (Some b) et s h = env_right around.width kinds above et b s h

  back : (o : Option Env) (start : Env) (s : State) → start.counts ≡ true → exit_within around o start ≡ true → exit_holds around o start ≡ true → FitsExit around.width kinds above o s → Fine start s
  back None start s c e g h = absurd h
  back (Some env) start s c e g h = end_within_fits around.width kinds above env start s c e g h

  -- the same end, at a greater cost from more steps
  dearer : (env : Env) (x : Exits) (a b from before d : ℕ) (o : Out (Unit {0})) → before ≤ from + d → a + d ≤ b → Safe IsUnit from (Goes tt env x a) o → Safe IsUnit before (Goes tt env x b) o
  dearer env x a b from before d (state.Goes v s) p q h = (tt, h.1, omega (arith, p, q, h.2))
  dearer env x a b from before d (Halts stop s) p q h = (h.0, omega (arith, p, q, h.1))
  dearer env x a b from before d (NoAnswer s) p q h = tt
  dearer env x a b from before d (Spent s) p q h = omega (arith, p, q, h)

  module _ (script : List Event) (test : M ℕ) (body : M (Unit {0})) (start held et eb : Env) (xt x : Exits) (n m : ℕ) (outer : Bool) (tests : (s : State) → Fine start s → Safe Held s.steps (Goes held et xt n) (test.run script s)) (bodies : (s : State) → Fine held s → Safe IsUnit s.steps (Goes tt eb x m) (body.run script s)) where
    abbrev leaving_exits : Exits
    leaving_exits = record x { broke = None; continued = None }

    ended : (s : State) (before cost : ℕ) → before ≤ s.steps + (n + cost) → Fine (after_loop around x.broke et) s → Safe IsUnit before (after xt n (past around outer et x cost)) (state.Goes tt s)
    ended s before cost le f = (tt, in_loop_fits around.width kinds above outer (after_loop around x.broke et) s f, le)

    -- what is behind a test
    tested_safe : (before cost : ℕ) (o : Out ℕ) (f : ℕ → State → Out (Unit {0})) → Safe Held before (Goes held et xt n) o → ((v : ℕ) (s : State) → Held v held s → Fine et s → before ≤ s.steps + n → Safe IsUnit before (after xt n (past around outer et x cost)) (f v s)) → Safe IsUnit before (after xt n (past around outer et x cost)) (then_do o f)
    tested_safe before cost (state.Goes v s) f h next = next v s h.0 h.1 h.2
    tested_safe before cost (Halts stop s) f h next = stop_before around.width kinds above IsUnit before xt n (past around outer et x cost) stop s h.0 h.1
    tested_safe before cost (NoAnswer s) f h next = no_answer around.width kinds above IsUnit before (after xt n (past around outer et x cost)) s
    tested_safe before cost (Spent s) f h next = spent_before around.width kinds above IsUnit before xt n (past around outer et x cost) s h

    -- a turn, from so many steps before its test; d is what the turns behind it cost
    turn_safe : (before cost d : ℕ) (s1 : State) (o : Out (Unit {0})) (rest : State → Out (Unit {0})) (Again : State → Type 0) → before ≤ s1.steps + n → m + d ≤ cost → Safe IsUnit s1.steps (Goes tt eb x m) o → AtTurn Again o → Falls s1.steps o →
        ((s : State) → Again s → s.steps ≤ s1.steps → Fine eb s → s1.steps ≤ s.steps + m → Safe IsUnit before (after xt n (past around outer et x cost)) (rest s)) →
        ((s : State) → Again s → s.steps ≤ s1.steps → FitsExit around.width kinds above x.continued s → s1.steps ≤ s.steps + m → Safe IsUnit before (after xt n (past around outer et x cost)) (rest s)) →
        Safe IsUnit before (after xt n (past around outer et x cost)) (turn_end o rest)
    turn_safe before cost d s1 (state.Goes v s) rest Again p q h a le end continue = end s a le h.1 h.2
    turn_safe before cost d s1 (Halts (Continued at) s) rest Again p q h a le end continue = continue s a le h.0 h.1
    turn_safe before cost d s1 (Halts (Broke at) s) rest Again p q h a le end continue = ended s before cost (omega (arith, p, q, h.1)) (after_right x.broke et s h.0)
    turn_safe before cost d s1 (Halts (Error e) s) rest Again p q h a le end continue = (stop_right around.width kinds above xt leaving_exits (Error e) s h.0, omega (arith, p, q, h.1))
    turn_safe before cost d s1 (Halts (Returned v) s) rest Again p q h a le end continue = (stop_right around.width kinds above xt leaving_exits (Returned v) s h.0, omega (arith, p, q, h.1))
    turn_safe before cost d s1 (NoAnswer s) rest Again p q h a le end continue = tt
    turn_safe before cost d s1 (Spent s) rest Again p q h a le end continue = omega (arith, p, q, h)

    -- a loop that ends in its first turn
    once_turn : (b : Bool) (v before : ℕ) (s1 : State) (rest : M (Unit {0})) → (v == 0) ≡ b → Held v held s1 → before ≤ s1.steps + n → Fine et s1 → ((s : State) → AtTurn (λ k. ⊥) (body.run script s)) → Safe IsUnit before (after xt n (past around outer et x m)) ((if b then give tt else turned body rest).run script s1)
    unfolding give turned
    once_turn true v before s1 rest e h le f never = ended s1 before m (omega (arith, le)) (after_left x.broke et s1 f)
    once_turn false v before s1 rest e h le f never =
        turn_safe before m zero s1 (body.run script s1) (rest.run script) (λ k. ⊥) le (omega arith) (bodies s1 (h (is_nonzero v e))) (never s1) (body.falls script s1) (λ s a p q r. absurd a) (λ s a p q r. absurd a)

    once_safe : (fuel : ℕ) (s : State) → Fine start s → ((s : State) → AtTurn (λ k. ⊥) (body.run script s)) → Safe IsUnit s.steps (after xt n (past around outer et x m)) ((turns (suc fuel) test body).run script s)
    unfolding ◌>>=◌
    once_safe fuel s fits never = tested_safe s.steps m (test.run script s) _ (tests s fits) (λ v s1 h f le. once_turn (v == 0) v s.steps s1 (turns fuel test body) refl h le f never)

    pub once_loop : (s : State) → Fine start s → ((s : State) → AtTurn (λ k. ⊥) (body.run script s)) → Safe IsUnit s.steps (after xt n (past around outer et x m)) ((loop test body).run script s)
    unfolding loop
    once_loop s fits never = once_safe s.steps s fits never

    module _ (counts : start.counts ≡ true) (comes : comes_back around eb x.continued start ≡ true) (keeps : holds_back around eb x start et ≡ true) (Left Mid : ℕ → State → Type 0) (tells : (k : ℕ) (s : State) → Left k s → Only (λ v next. (v ≡ 0 → ⊥) → Mid k next) (test.run script s)) (no_more : (s : State) → Mid 0 s → ⊥) (turn : (k : ℕ) (s : State) → Mid (suc k) s → AtTurn (Left k) (body.run script s)) (lower : (s : State) → Lower s.steps (test.run script s)) where
      abbrev cost_of : ℕ → ℕ
      cost_of k = k * (n + m)

      -- the outcome of a test, with all that is known of it
      with_test : (k : ℕ) (s : State) (o : Out ℕ) (f : ℕ → State → Out (Unit {0})) → Safe Held s.steps (Goes held et xt n) o → Only (λ v next. (v ≡ 0 → ⊥) → Mid k next) o → Lower s.steps o → ((v : ℕ) (s1 : State) → Held v held s1 → Fine et s1 → s.steps ≤ s1.steps + n → ((v ≡ 0 → ⊥) → Mid k s1) → s1.steps < s.steps → Safe IsUnit s.steps (after xt n (past around outer et x (cost_of k))) (f v s1)) → Safe IsUnit s.steps (after xt n (past around outer et x (cost_of k))) (then_do o f)
      with_test k s (state.Goes v s1) f h g l next = next v s1 h.0 h.1 h.2 g l
      with_test k s (Halts stop s1) f h g l next = stop_before around.width kinds above IsUnit s.steps xt n (past around outer et x (cost_of k)) stop s1 h.0 h.1
      with_test k s (NoAnswer s1) f h g l next = no_answer around.width kinds above IsUnit s.steps (after xt n (past around outer et x (cost_of k))) s1
      with_test k s (Spent s1) f h g l next = spent_before around.width kinds above IsUnit s.steps xt n (past around outer et x (cost_of k)) s1 h

      one_more : (k : ℕ) → (n + cost_of k) + (n + m) ≤ n + cost_of (suc k)
      one_more k = let e : suc k * (n + m) ≡ k * (n + m) + (n + m) = suc-mul k (n + m) in omega (arith, e)

      choose : (k : ℕ) (b : Bool) (v fuel : ℕ) (s s1 : State) → (v == 0) ≡ b → s.steps < suc fuel → Held v held s1 → Fine et s1 → s.steps ≤ s1.steps + n → ((v ≡ 0 → ⊥) → Mid k s1) → s1.steps < s.steps → ((j : ℕ) → k ≡ suc j → (s2 : State) → s2.steps < fuel → Left j s2 → Fine start s2 → Safe IsUnit s2.steps (after xt n (past around outer et x (cost_of j))) ((turns fuel test body).run script s2)) → Safe IsUnit s.steps (after xt n (past around outer et x (cost_of k))) ((if b then give tt else turned body (turns fuel test body)).run script s1)
      unfolding give turned
      choose k true v fuel s s1 e lt h f le mid lower again = ended s1 s.steps (cost_of k) (omega (arith, le)) (after_left x.broke et s1 f)
      choose zero false v fuel s s1 e lt h f le mid lower again = absurd (no_more s1 (mid (is_nonzero v e)))
      choose (suc j) false v fuel s s1 e lt h f le mid lower again =
          let two = and_parts (end_within eb start) (exit_within around x.continued start) comes in
          let held_too = and_parts (holds_as eb start) (exit_holds around x.continued start && exit_holds around x.broke et) keeps in
          let held_on = and_parts (exit_holds around x.continued start) (exit_holds around x.broke et) held_too.1 in
          let more = one_more j in
          turn_safe s.steps (cost_of (suc j)) (n + cost_of j) s1 (body.run script s1) ((turns fuel test body).run script) (Left j) le (omega (arith, more)) (bodies s1 (h (is_nonzero v e))) (turn j s1 (mid (is_nonzero v e))) (body.falls script s1)
          (λ s2 a p q r. dearer _ _ _ _ s2.steps s.steps (n + m) _ (omega (arith, le, r)) more (again j refl s2 (omega (arith, p, lower, lt)) a (end_within_fits around.width kinds above eb start s2 counts two.0 held_too.0 q)))
          (λ s2 a p q r. dearer _ _ _ _ s2.steps s.steps (n + m) _ (omega (arith, le, r)) more (again j refl s2 (omega (arith, p, lower, lt)) a (back x.continued start s2 counts two.1 held_on.0 q)))

      turns_safe : (fuel k : ℕ) (s : State) → s.steps < fuel → Left k s → Fine start s → Safe IsUnit s.steps (after xt n (past around outer et x (cost_of k))) ((turns fuel test body).run script s)
      unfolding ◌>>=◌
      turns_safe zero k s lt left fits = absurd (omega (arith, lt))
      turns_safe (suc fuel) k s lt left fits = with_test k s (test.run script s) _ (tests s fits) (tells k s left) (lower s) (λ v s1 h f le mid low. choose k (v == 0) v fuel s s1 refl lt h f le mid low (λ j e s2 lt2 left2 fits2. turns_safe fuel j s2 lt2 left2 fits2))

      pub often_loop : (k : ℕ) (s : State) → Left k s → Fine start s → Safe IsUnit s.steps (after xt n (past around outer et x (cost_of k))) ((loop test body).run script s)
      unfolding loop
      often_loop k s left fits = turns_safe (suc s.steps) k s (omega arith) left fits

-- Loops of a shape, judged in place.
use Rattle.std.proofs.Common.{◌≡◌, ℕ, suc, ◌+◌, ◌*◌, ◌-◌, List, [], ◌∷◌, length, Bool, true, false, Option, Some, None, Result, Ok, Err, slice_get, refl, sym, ap, subst, ◌∙◌, arith}
use Rattle.aml_operators.specs.declared.term.Term.{Term}
use Rattle.aml_operators.specs.Tree.{Tree, Trees, more, none, view, views}
use Rattle.aml_bounds.specs.declared.shape.Turns.TheVariants as bound
use Rattle.aml_bounds.specs.Loops.{turns_of}
use Rattle.aml_bounds.specs.Shapes as bounds
use Rattle.aml_bounds.specs.Shapes.{Once, Up, Down, Endless}
use Rattle.aml_causes.specs.declared.cause.Cause.TheVariants as cause
use Rattle.aml_causes.specs.declared.cause.Refusal.{Refusal}
use Rattle.aml_kinds.specs.Kinds.{AnyPkg, BufOf, IntUpTo, Kind, Mixed, PkgOf, Shape, StrOf}
use Rattle.aml_meaning.specs.declared.action.Action.TheVariants as does
use Rattle.aml_meaning.specs.declared.mutex.TakenMutex.{TakenMutex}
use Rattle.aml_judged.specs.Known as known
use Rattle.aml_judged.specs.Known.{in_loop}
use Rattle.aml_judged.specs.Judge as judge
use Rattle.aml_judged.specs.Judge.{begun, comes_back, exit_holds, holds_back, judged_act, judged_all, judged_loop, judged_test, judged_value, past, refusal, shape_of}
use Rattle.aml_judged.specs.Judged as judged
use Rattle.aml_judged.specs.Judged.{Around, Judged, Never, Rule, Stops, after, agreed, goes, join_exits, no_exits, then_judge, ◌>>=◌}
use Rattle.aml_known.specs.declared.accepted.Yield.{Yield}
use Rattle.aml_known.specs.declared.accepted.Yield.TheVariants as yield
use Rattle.aml_known.specs.declared.env.Env.{Env}
use Rattle.aml_known.specs.declared.exits.Exits.{Exits}
use Rattle.aml_known.specs.declared.known.Known.{Known}
use Rattle.aml_known.specs.declared.known.Known.TheVariants as kinds
use Rattle.aml_known.specs.declared.stop.Stop.{Stop}
use Rattle.aml_known.specs.declared.stop.Stop.TheVariants as stop
use Rattle.aml_known.specs.Views.{AreApart, CanBeRead, env_of, exits_of, Grown, held_kind, kind_of, Says, slot_of, slots_of, yield_of}
use Rattle.aml_known.proofs.Takings.{grown_twice, same_grown, says_earlier}
use Rattle.aml_judging.specs.declared.progress.Progress.{Progress}
use Rattle.aml_judging.specs.declared.turns.Turn.{Turn}
use Rattle.aml_judging.specs.Turns.{falling_rule, IsPast, IsTurn, Leaves, often_rule, once_rule, StandsStill, tested, Turned, TurnSays}
use Rattle.aml_judging.specs.Views.{held_cost, Standing, standing}
use Rattle.aml_judging.specs.Follows.{Follows, Goes, Judges}
use Rattle.aml_walk.proofs.Branches.{both_met, not_met}
use Rattle.aml_judging.proofs.Going.{gives_judges, stops_judge, then_judges}
use Rattle.aml_walk.proofs.Loops.{often_goes, once_goes}
use Rattle.aml_judging.proofs.Stops.{refused_judges}

-- a progress with the same environment, exits and cost stands the same
pub stands_same : (shapes : ℕ → Shape) (lists : ℕ → List TakenMutex) (p q : Progress) → (q.env ≡ p.env) × (q.exits ≡ p.exits) × (q.cost ≡ p.cost) → standing shapes lists p ≡ standing shapes lists q
stands_same shapes lists p q s = λ i. record {
  env = env_of shapes lists (sym (s.0) i);
  exits = exits_of shapes lists (sym (s.1) i);
  cost = held_cost (sym (s.2) i);
}

-- an answer follows by what is a refusal and what is not
stop_judges : {shapes : ℕ → Shape} {rule : Rule (Unit {0})} {old new : Progress} (e : Stop) → Grown old.locks.takings.items new.locks.takings.items → (CanBeRead old.locks.takings.items → CanBeRead new.locks.takings.items) → ((lists : ℕ → List TakenMutex) → AreApart shapes → Says lists new.locks.takings.items → Follows (λ (u : Unit {0}). u) rule (standing shapes lists old) (standing shapes lists new) (Err e)) → Judges shapes (λ l (u : Unit {0}). u) rule old new (Err e)
stop_judges e grows read f = record { grows = grows; read = read; follows = f }

module _ (shapes : ℕ → Shape) (here : Around) (at : ℕ) (t : Tree) (body : Trees) where
  abbrev tests : Progress → Progress → Result Env Stop → Type 0
  tests old new r = Judges shapes (env_of shapes) (judged_test here t (judged_value here t)) old new r

  -- a loop that ends in its first turn
  module _ (old : Progress) where
    abbrev once_begun : Progress
    once_begun = record old { env = record old.env { looped = true } }

    once_says : (lists : ℕ → List TakenMutex) (new : Standing) (e : Stop) → Follows (env_of shapes lists) (tested here t) (standing shapes lists once_begun) new (Err e) → Follows (λ (u : Unit {0}). u) (once_rule here at t body) (standing shapes lists old) new (Err e)
    once_says lists new (stop.Refused r) f = ap (λ (j : Judged known.Env). judge.once here old.env.looped at j (judged_all here body)) f
    once_says lists new stop.NoMemory f = tt

    pub once_test_stops : {new : Progress} (e : Stop) → tests once_begun new (Err e) → Judges shapes (λ l (u : Unit {0}). u) (once_rule here at t body) old new (Err e)
    once_test_stops {new} e j = stop_judges e j.grows j.read (λ lists apart says. once_says lists (standing shapes lists new) e (j.follows lists apart says))

    module _ (one : Progress) (held : Env) (j : tests once_begun one (Ok held)) where
      once_turn_says : (lists : ℕ → List TakenMutex) (new : Standing) (e : Stop) → Goes (tested here t) (standing shapes lists once_begun) (standing shapes lists one) (env_of shapes lists held) → TurnSays shapes lists (judged_all here body) held (Err e) → Follows (λ (u : Unit {0}). u) (once_rule here at t body) (standing shapes lists old) new (Err e)
      once_turn_says lists new (stop.Refused r) a f =
          ap (λ (i : Judged known.Env). judge.once here old.env.looped at i (judged_all here body)) a.goes
          ∙ ap (λ (i : Judged (Unit {0})). after a.exits a.cost (judge.once_ended here old.env.looped at (env_of shapes lists one.env) i)) f
      once_turn_says lists new stop.NoMemory a f = tt

      pub once_turn_stops : {new : Progress} (e : Stop) → Turned shapes here body held one new (Err e) → Judges shapes (λ l (u : Unit {0}). u) (once_rule here at t body) old new (Err e)
      once_turn_stops {new} e u = stop_judges e (grown_twice old.locks.takings.items one.locks.takings.items new.locks.takings.items j.grows u.grows) (λ h. u.read (j.read h)) (λ lists apart says.
          once_turn_says lists (standing shapes lists new) e (j.follows lists apart (says_earlier lists one.locks.takings.items new.locks.takings.items u.grows says)) (u.says lists apart says))

      module _ (two : Progress) (turn : Turn) (u : Turned shapes here body held one two (Ok turn)) where
        grows_once : (new : Progress) → new.locks.takings.items ≡ two.locks.takings.items → Grown old.locks.takings.items new.locks.takings.items
        grows_once new same = subst (Grown old.locks.takings.items) (sym same) (grown_twice old.locks.takings.items one.locks.takings.items two.locks.takings.items j.grows u.grows)

        read_once : (new : Progress) → new.locks.takings.items ≡ two.locks.takings.items → CanBeRead old.locks.takings.items → CanBeRead new.locks.takings.items
        read_once new same h = subst CanBeRead (sym same) (u.read (j.read h))

        -- the test, from where the turn leaves
        tested_there : (lists : ℕ → List TakenMutex) → AreApart shapes → Says lists two.locks.takings.items → Goes (tested here t) (standing shapes lists once_begun) (standing shapes lists two) (env_of shapes lists held)
        tested_there lists apart says = subst (λ (s : Standing). Goes (tested here t) (standing shapes lists once_begun) s (env_of shapes lists held)) (stands_same shapes lists one two u.still) (j.follows lists apart (says_earlier lists one.locks.takings.items two.locks.takings.items u.grows says))

        pub once_wants : (new : Progress) → new.locks.takings.items ≡ two.locks.takings.items → Judges shapes (λ l (v : Unit {0}). v) (once_rule here at t body) old new (Err stop.NoMemory)
        once_wants new same = stop_judges stop.NoMemory (grows_once new same) (read_once new same) (λ lists apart says. tt)

        pub once_differs : (holds : Bool) (r : Refusal) → holds ≡ false → ((lists : ℕ → List TakenMutex) → Says lists two.locks.takings.items → holds ≡ exit_holds here (exits_of shapes lists turn.exits).broke (env_of shapes lists two.env)) → r ≡ refusal here cause.HeldDiffers at → Judges shapes (λ l (v : Unit {0}). v) (once_rule here at t body) old two (Err (stop.Refused r))
        once_differs holds r is tells e = stop_judges (stop.Refused r) (grows_once two refl) (read_once two refl) (λ lists apart says.
            let a = tested_there lists apart says in
            let b = u.says lists apart says in
            ap (λ (i : Judged known.Env). judge.once here old.env.looped at i (judged_all here body)) a.goes
            ∙ ap (λ (i : Judged (Unit {0})). after a.exits a.cost (judge.once_ended here old.env.looped at (env_of shapes lists two.env) i)) b.goes
            ∙ ap (λ (i : Judged (Unit {0})). after a.exits a.cost i) (not_met (exit_holds here (exits_of shapes lists turn.exits).broke (env_of shapes lists two.env)) (refusal here cause.HeldDiffers at) (past here old.env.looped (env_of shapes lists two.env) (exits_of shapes lists turn.exits) b.cost) (sym (tells lists says) ∙ is))
            ∙ ap Stops (sym e))

        pub once_judges : (new : Progress) (holds outer : Bool) → outer ≡ old.env.looped → holds ≡ true → ((lists : ℕ → List TakenMutex) → Says lists two.locks.takings.items → holds ≡ exit_holds here (exits_of shapes lists turn.exits).broke (env_of shapes lists two.env)) → IsPast here shapes outer two.env turn.exits turn.cost two new (Ok tt) → Judges shapes (λ l (v : Unit {0}). v) (once_rule here at t body) old new (Ok tt)
        once_judges new holds outer same is tells q =
            let p : IsPast here shapes old.env.looped two.env turn.exits turn.cost two new (Ok tt) = subst (λ (o : Bool). IsPast here shapes o two.env turn.exits turn.cost two new (Ok tt)) same q in
            record {
              grows = grows_once new p.still;
              read = read_once new p.still;
              follows = λ lists apart says.
                  let there : Says lists two.locks.takings.items = subst (Says lists) p.still says in
                  let b = u.says lists apart there in
                  once_goes here at t body {old = standing shapes lists old} {s = standing shapes lists two} {new = standing shapes lists new} {held = env_of shapes lists held} {eb = env_of shapes lists turn.end} {x = exits_of shapes lists turn.exits} {m = b.cost} {cost = turn.cost}
                  (tested_there lists apart there) b.goes (sym (tells lists there) ∙ is) (p.says lists apart says) b.counted;
            }

  -- a loop that makes so many turns at most
  module _ (turns : ℕ) (old : Progress) (start : Env) (begins : (lists : ℕ → List TakenMutex) → env_of shapes lists start ≡ begun here body (env_of shapes lists old.env)) where
    abbrev often_begun : Progress
    often_begun = record old { env = start; cost = 0 }

    -- the rule, from where the loop begins
    often_from : (lists : ℕ → List TakenMutex) → often_rule here turns at t body (env_of shapes lists old.env) ≡ judge.often here old.env.looped turns at (env_of shapes lists start) (tested here t (env_of shapes lists start)) (judged_all here body)
    often_from lists = ap (λ (e : known.Env). judge.often here old.env.looped turns at e (tested here t e) (judged_all here body)) (sym (begins lists))

    often_says : (lists : ℕ → List TakenMutex) (new : Standing) (e : Stop) → Follows (env_of shapes lists) (tested here t) (standing shapes lists often_begun) new (Err e) → Follows (λ (u : Unit {0}). u) (often_rule here turns at t body) (standing shapes lists old) new (Err e)
    often_says lists new (stop.Refused r) f = often_from lists ∙ ap (λ (j : Judged known.Env). judge.often here old.env.looped turns at (env_of shapes lists start) j (judged_all here body)) f
    often_says lists new stop.NoMemory f = tt

    pub often_test_stops : {new : Progress} (e : Stop) → tests often_begun new (Err e) → Judges shapes (λ l (u : Unit {0}). u) (often_rule here turns at t body) old new (Err e)
    often_test_stops {new} e j = stop_judges e j.grows j.read (λ lists apart says. often_says lists (standing shapes lists new) e (j.follows lists apart says))

    module _ (one : Progress) (held : Env) (j : tests often_begun one (Ok held)) where
      often_turn_says : (lists : ℕ → List TakenMutex) (new : Standing) (e : Stop) → Goes (tested here t) (standing shapes lists often_begun) (standing shapes lists one) (env_of shapes lists held) → TurnSays shapes lists (judged_all here body) held (Err e) → Follows (λ (u : Unit {0}). u) (often_rule here turns at t body) (standing shapes lists old) new (Err e)
      often_turn_says lists new (stop.Refused r) a f =
          often_from lists
          ∙ ap (λ (i : Judged known.Env). judge.often here old.env.looped turns at (env_of shapes lists start) i (judged_all here body)) a.goes
          ∙ ap (λ (i : Judged (Unit {0})). after a.exits a.cost (judge.turned here old.env.looped turns at a.cost (env_of shapes lists start) (env_of shapes lists one.env) i)) f
      often_turn_says lists new stop.NoMemory a f = tt

      pub often_turn_stops : {new : Progress} (e : Stop) → Turned shapes here body held one new (Err e) → Judges shapes (λ l (u : Unit {0}). u) (often_rule here turns at t body) old new (Err e)
      often_turn_stops {new} e u = stop_judges e (grown_twice old.locks.takings.items one.locks.takings.items new.locks.takings.items j.grows u.grows) (λ h. u.read (j.read h)) (λ lists apart says.
          often_turn_says lists (standing shapes lists new) e (j.follows lists apart (says_earlier lists one.locks.takings.items new.locks.takings.items u.grows says)) (u.says lists apart says))

      module _ (two : Progress) (turn : Turn) (u : Turned shapes here body held one two (Ok turn)) where
        grows_often : (new : Progress) → new.locks.takings.items ≡ two.locks.takings.items → Grown old.locks.takings.items new.locks.takings.items
        grows_often new same = subst (Grown old.locks.takings.items) (sym same) (grown_twice old.locks.takings.items one.locks.takings.items two.locks.takings.items j.grows u.grows)

        read_often : (new : Progress) → new.locks.takings.items ≡ two.locks.takings.items → CanBeRead old.locks.takings.items → CanBeRead new.locks.takings.items
        read_often new same h = subst CanBeRead (sym same) (u.read (j.read h))

        often_there : (lists : ℕ → List TakenMutex) → AreApart shapes → Says lists two.locks.takings.items → Goes (tested here t) (standing shapes lists often_begun) (standing shapes lists two) (env_of shapes lists held)
        often_there lists apart says = subst (λ (s : Standing). Goes (tested here t) (standing shapes lists often_begun) s (env_of shapes lists held)) (stands_same shapes lists one two u.still) (j.follows lists apart (says_earlier lists one.locks.takings.items two.locks.takings.items u.grows says))

        pub often_wants : (new : Progress) → new.locks.takings.items ≡ two.locks.takings.items → Judges shapes (λ l (v : Unit {0}). v) (often_rule here turns at t body) old new (Err stop.NoMemory)
        often_wants new same = stop_judges stop.NoMemory (grows_often new same) (read_often new same) (λ lists apart says. tt)

        -- the rule, behind a turn
        often_behind : (lists : ℕ → List TakenMutex) (a : Goes (tested here t) (standing shapes lists often_begun) (standing shapes lists two) (env_of shapes lists held)) (b : IsTurn shapes lists (judged_all here body) held turn) → often_rule here turns at t body (env_of shapes lists old.env) ≡ after a.exits a.cost (judge.closed here old.env.looped turns at (comes_back here (env_of shapes lists turn.end) (exits_of shapes lists turn.exits).continued (env_of shapes lists start)) (holds_back here (env_of shapes lists turn.end) (exits_of shapes lists turn.exits) (env_of shapes lists start) (env_of shapes lists two.env)) (env_of shapes lists two.env) (exits_of shapes lists turn.exits) (a.cost + b.cost))
        often_behind lists a b =
            often_from lists
            ∙ ap (λ (i : Judged known.Env). judge.often here old.env.looped turns at (env_of shapes lists start) i (judged_all here body)) a.goes
            ∙ ap (λ (i : Judged (Unit {0})). after a.exits a.cost (judge.turned here old.env.looped turns at a.cost (env_of shapes lists start) (env_of shapes lists two.env) i)) b.goes

        pub often_away : (back : Bool) (r : Refusal) → back ≡ false → ((lists : ℕ → List TakenMutex) → AreApart shapes → back ≡ comes_back here (env_of shapes lists turn.end) (exits_of shapes lists turn.exits).continued (env_of shapes lists start)) → r ≡ refusal here cause.WrongKind at → Judges shapes (λ l (v : Unit {0}). v) (often_rule here turns at t body) old two (Err (stop.Refused r))
        often_away back r is tells e = stop_judges (stop.Refused r) (grows_often two refl) (read_often two refl) (λ lists apart says.
            let a = often_there lists apart says in
            let b = u.says lists apart says in
            often_behind lists a b
            ∙ ap (λ (c : Bool). after a.exits a.cost (judge.closed here old.env.looped turns at c (holds_back here (env_of shapes lists turn.end) (exits_of shapes lists turn.exits) (env_of shapes lists start) (env_of shapes lists two.env)) (env_of shapes lists two.env) (exits_of shapes lists turn.exits) (a.cost + b.cost))) (sym (tells lists apart) ∙ is)
            ∙ ap Stops (sym e))

        module _ (back : Bool) (yes : back ≡ true) (returns : (lists : ℕ → List TakenMutex) → AreApart shapes → back ≡ comes_back here (env_of shapes lists turn.end) (exits_of shapes lists turn.exits).continued (env_of shapes lists start)) where
          pub often_differs : (holds : Bool) (r : Refusal) → holds ≡ false → ((lists : ℕ → List TakenMutex) → Says lists two.locks.takings.items → holds ≡ holds_back here (env_of shapes lists turn.end) (exits_of shapes lists turn.exits) (env_of shapes lists start) (env_of shapes lists two.env)) → r ≡ refusal here cause.HeldDiffers at → Judges shapes (λ l (v : Unit {0}). v) (often_rule here turns at t body) old two (Err (stop.Refused r))
          often_differs holds r is tells e = stop_judges (stop.Refused r) (grows_often two refl) (read_often two refl) (λ lists apart says.
              let a = often_there lists apart says in
              let b = u.says lists apart says in
              often_behind lists a b
              ∙ ap (λ (c : Bool). after a.exits a.cost (judge.closed here old.env.looped turns at c (holds_back here (env_of shapes lists turn.end) (exits_of shapes lists turn.exits) (env_of shapes lists start) (env_of shapes lists two.env)) (env_of shapes lists two.env) (exits_of shapes lists turn.exits) (a.cost + b.cost))) (sym (returns lists apart) ∙ yes)
              ∙ ap (λ (i : Judged (Unit {0})). after a.exits a.cost i) (not_met (holds_back here (env_of shapes lists turn.end) (exits_of shapes lists turn.exits) (env_of shapes lists start) (env_of shapes lists two.env)) (refusal here cause.HeldDiffers at) (past here old.env.looped (env_of shapes lists two.env) (exits_of shapes lists turn.exits) (turns * (a.cost + b.cost))) (sym (tells lists says) ∙ is))
              ∙ ap Stops (sym e))

          -- the first turn's cost is paid, and then what stands behind the loop is put in place
          pub often_judges : (before paid cost sum : ℕ) (new : Progress) (holds : Bool) → holds ≡ true → ((lists : ℕ → List TakenMutex) → Says lists two.locks.takings.items → holds ≡ holds_back here (env_of shapes lists turn.end) (exits_of shapes lists turn.exits) (env_of shapes lists start) (env_of shapes lists two.env)) → before ≡ old.cost → held_cost paid ≡ held_cost (held_cost before + held_cost two.cost) → held_cost sum ≡ held_cost (held_cost two.cost + held_cost turn.cost) → held_cost cost ≡ held_cost (turns * held_cost sum) → IsPast here shapes old.env.looped two.env turn.exits cost (record two { cost = paid }) new (Ok tt) → Judges shapes (λ l (v : Unit {0}). v) (often_rule here turns at t body) old new (Ok tt)
          often_judges before paid cost sum new holds is tells first pays sums times p = record {
            grows = grows_often new p.still;
            read = read_often new p.still;
            follows = λ lists apart says.
                let there : Says lists two.locks.takings.items = subst (Says lists) p.still says in
                let b = u.says lists apart there in
                let many : held_cost cost ≡ held_cost (turns * held_cost (held_cost two.cost + held_cost turn.cost)) = times ∙ ap (λ (n : ℕ). held_cost (turns * n)) sums in
                often_goes here at t body turns {old = standing shapes lists old} {s = standing shapes lists two} {paid = standing shapes lists (record two { cost = paid })} {new = standing shapes lists new} {held = env_of shapes lists held} {eb = env_of shapes lists turn.end} {start = env_of shapes lists start} {x = exits_of shapes lists turn.exits} {m = b.cost} turn.cost {cost = cost}
                (begins lists) (often_there lists apart there) b.goes (sym (returns lists apart) ∙ yes) (sym (tells lists there) ∙ is) refl refl (pays ∙ ap (λ (n : ℕ). held_cost (held_cost n + held_cost two.cost)) first) (p.says lists apart says) b.counted many;
          }

-- a local's greatest
slot_int : (s : Option known.Slot) (a : ℕ) → Some (IntUpTo a) ≡ held_kind s → s ≡ Some (Some (IntUpTo a))
slot_int (Some (Some k)) a e = cc
slot_int (Some None) a e = absurd cc
slot_int None a e = absurd cc

no_slot_int : (shapes : ℕ → Shape) (o : Option Known) (a : ℕ) → slot_of shapes o ≡ Some (IntUpTo a) → ((n : ℕ) → o ≡ Some (kinds.Int n) → ⊥) → ⊥
no_slot_int shapes (Some (kinds.Int n)) a e other = other n refl
no_slot_int shapes (Some (kinds.Buf n)) a e other = absurd cc
no_slot_int shapes (Some (kinds.Str n)) a e other = absurd cc
no_slot_int shapes (Some (kinds.Pkg n)) a e other = absurd cc
no_slot_int shapes (Some kinds.AnyPkg) a e other = absurd cc
no_slot_int shapes (Some kinds.Mixed) a e other = absurd cc
no_slot_int shapes None a e other = absurd cc

module _ (shapes : ℕ → Shape) (here : Around) (at : ℕ) (t : Tree) (body : Trees) (l c : ℕ) where
  abbrev falls : Option known.Slot → Rule (Unit {0})
  falls s = λ env. judge.falling here s c at body (tested here t) (judged_all here body) env

  -- where there is no greatest, the test tells
  abbrev untold : Rule (Unit {0})
  untold = λ env. then_judge (tested here t (begun here body env)) (λ (u : known.Env). λ et. Stops (refusal here cause.LoopShape at))

  falls_untold : (s : Option known.Slot) → ((a : ℕ) → s ≡ Some (Some (IntUpTo a)) → ⊥) → falls s ≡ untold
  falls_untold (Some (Some (IntUpTo a))) other = absurd (other a refl)
  falls_untold (Some (Some (BufOf n))) other = refl
  falls_untold (Some (Some (StrOf n))) other = refl
  falls_untold (Some (Some (PkgOf s))) other = refl
  falls_untold (Some (Some AnyPkg)) other = refl
  falls_untold (Some (Some Mixed)) other = refl
  falls_untold (Some None) other = refl
  falls_untold None other = refl

  module _ (old : Progress) (o : Option Known) (is : slot_of shapes o ≡ held_kind (slice_get (slots_of shapes old.env.locals) l)) where
    -- a local of an integer's kind
    pub falls_often : (greatest turns : ℕ) {new : Progress} (r : Result (Unit {0}) Stop) → o ≡ Some (kinds.Int greatest) → turns ≡ greatest - c → Judges shapes (λ l (u : Unit {0}). u) (often_rule here turns at t body) old new r → Judges shapes (λ l (u : Unit {0}). u) (falling_rule here l c at t body) old new r
    falls_often greatest turns {new} r some count j = record {
      grows = j.grows;
      read = j.read;
      follows = λ lists apart says. follows_as lists r (j.follows lists apart says);
    }
      where
        rule_is : (lists : ℕ → List TakenMutex) → falling_rule here l c at t body (env_of shapes lists old.env) ≡ often_rule here turns at t body (env_of shapes lists old.env)
        rule_is lists =
            ap (λ (s : Option known.Slot). falls s (env_of shapes lists old.env)) (slot_int (slice_get (slots_of shapes old.env.locals) l) greatest (ap (slot_of shapes) (sym some) ∙ is))
            ∙ ap (λ (n : ℕ). often_rule here n at t body (env_of shapes lists old.env)) (sym count)

        follows_as : (lists : ℕ → List TakenMutex) (q : Result (Unit {0}) Stop) → Follows (λ (u : Unit {0}). u) (often_rule here turns at t body) (standing shapes lists old) (standing shapes lists new) q → Follows (λ (u : Unit {0}). u) (falling_rule here l c at t body) (standing shapes lists old) (standing shapes lists new) q
        follows_as lists (Ok u) f = record { exits = f.exits; cost = f.cost; goes = rule_is lists ∙ f.goes; joined = f.joined; counted = f.counted }
        follows_as lists (Err (stop.Refused q)) f = rule_is lists ∙ f
        follows_as lists (Err stop.NoMemory) f = tt

    -- any other
    module _ (start : Env) (begins : (lists : ℕ → List TakenMutex) → env_of shapes lists start ≡ begun here body (env_of shapes lists old.env)) (other : (n : ℕ) → o ≡ Some (kinds.Int n) → ⊥) where
      abbrev falling_begun : Progress
      falling_begun = record old { env = start }

      untold_is : (lists : ℕ → List TakenMutex) → falling_rule here l c at t body (env_of shapes lists old.env) ≡ then_judge (tested here t (env_of shapes lists start)) (λ (u : known.Env). λ et. Stops (refusal here cause.LoopShape at))
      untold_is lists =
          ap (λ (f : Rule (Unit {0})). f (env_of shapes lists old.env)) (falls_untold (slice_get (slots_of shapes old.env.locals) l) (λ a e. no_slot_int shapes o a (is ∙ ap held_kind e) other))
          ∙ ap (λ (e : known.Env). then_judge (tested here t e) (λ (u : known.Env). λ et. Stops (refusal here cause.LoopShape at))) (sym (begins lists))

      falling_says : (lists : ℕ → List TakenMutex) (new : Standing) (e : Stop) → Follows (env_of shapes lists) (tested here t) (standing shapes lists falling_begun) new (Err e) → Follows (λ (u : Unit {0}). u) (falling_rule here l c at t body) (standing shapes lists old) new (Err e)
      falling_says lists new (stop.Refused r) f = untold_is lists ∙ ap (λ (j : Judged known.Env). then_judge j (λ (u : known.Env). λ et. Stops (refusal here cause.LoopShape at))) f
      falling_says lists new stop.NoMemory f = tt

      pub falling_test_stops : {new : Progress} (e : Stop) → Judges shapes (env_of shapes) (judged_test here t (judged_value here t)) falling_begun new (Err e) → Judges shapes (λ l (u : Unit {0}). u) (falling_rule here l c at t body) old new (Err e)
      falling_test_stops {new} e j = stop_judges e j.grows j.read (λ lists apart says. falling_says lists (standing shapes lists new) e (j.follows lists apart says))

      pub falling_stops : {new : Progress} (held : Env) (r : Refusal) → Judges shapes (env_of shapes) (judged_test here t (judged_value here t)) falling_begun new (Ok held) → r ≡ refusal here cause.LoopShape at → Judges shapes (λ l (u : Unit {0}). u) (falling_rule here l c at t body) old new (Err (stop.Refused r))
      falling_stops {new} held r j e = stop_judges (stop.Refused r) j.grows j.read (λ lists apart says.
          untold_is lists
          ∙ ap (λ (i : Judged known.Env). then_judge i (λ (u : known.Env). λ et. Stops (refusal here cause.LoopShape at))) (j.follows lists apart says).goes
          ∙ ap Stops (sym e))

-- a loop, by its shape
shape_once : (s : bounds.Shape) → Some bound.Once ≡ turns_of s → s ≡ Once
shape_once Once e = refl
shape_once (Up l c) e = absurd cc
shape_once (Down l c) e = absurd cc
shape_once Endless e = absurd cc

shape_up : (s : bounds.Shape) (l c : ℕ) → Some (bound.Up l c) ≡ turns_of s → s ≡ Up l c
shape_up Once l c e = absurd cc
shape_up (Up k b) l c e = cc
shape_up (Down k b) l c e = absurd cc
shape_up Endless l c e = absurd cc

shape_down : (s : bounds.Shape) (l c : ℕ) → Some (bound.Down l c) ≡ turns_of s → s ≡ Down l c
shape_down Once l c e = absurd cc
shape_down (Up k b) l c e = absurd cc
shape_down (Down k b) l c e = cc
shape_down Endless l c e = absurd cc

shape_none : (s : bounds.Shape) → None ≡ turns_of s → s ≡ Endless
shape_none Once e = absurd cc
shape_none (Up l c) e = absurd cc
shape_none (Down l c) e = absurd cc
shape_none Endless e = refl

module _ (shapes : ℕ → Shape) (here : Around) (w : Bool) (at : ℕ) where
  abbrev while_rule : Trees → Rule judged.Yield
  while_rule parts = judged_act here w does.While at parts

  -- one that has no test
  pub no_condition : (ts : List Term) (p : Progress) (r : Refusal) → length ts ≡ 0 → r ≡ refusal here cause.OutsideProfile at → Judges shapes (λ l. yield_of shapes) (while_rule (views ts)) p p (Err (stop.Refused r))
  no_condition [] p r e is = record {
    grows = same_grown p.locks.takings.items;
    read = λ h. h;
    follows = λ lists apart says. ap Stops (sym is);
  }
  no_condition (x ∷ xs) p r e is = absurd (omega (arith, e))

  module _ (t : Tree) (body : Trees) where
    abbrev loop : bounds.Shape → Rule (Unit {0})
    loop s = judged_loop here s at body (judged_test here t (judged_value here t)) (judged_all here body)

    abbrev loop_of : Rule (Unit {0})
    loop_of = loop (shape_of here t body)

    pub turns_once : Some bound.Once ≡ turns_of (shape_of here t body) → once_rule here at t body ≡ loop_of
    turns_once e = ap loop (sym (shape_once (shape_of here t body) e))

    pub turns_up : (l c : ℕ) → Some (bound.Up l c) ≡ turns_of (shape_of here t body) → often_rule here c at t body ≡ loop_of
    turns_up l c e = ap loop (sym (shape_up (shape_of here t body) l c e))

    pub turns_down : (l c : ℕ) → Some (bound.Down l c) ≡ turns_of (shape_of here t body) → falling_rule here l c at t body ≡ loop_of
    turns_down l c e = ap loop (sym (shape_down (shape_of here t body) l c e))

    pub while_goes : {old new : Progress} (rule : Rule (Unit {0})) → rule ≡ loop_of → Judges shapes (λ l (u : Unit {0}). u) rule old new (Ok tt) → Judges shapes (λ l. yield_of shapes) (while_rule (more t body)) old new (Ok yield.Never)
    while_goes {old} {new} rule is j = then_judges {see = λ (u : Unit {0}). u} {say = yield_of shapes} {m = loop_of} (λ (u : Unit {0}). goes Never) {old = old} {mid = new} {new = new} {x = tt} (Ok yield.Never)
        (subst (λ (q : Rule (Unit {0})). Judges shapes (λ l (u : Unit {0}). u) q old new (Ok tt)) is j)
        (gives_judges {see = yield_of shapes} {rule = goes Never} new yield.Never (λ env. refl))

    pub while_stops : {old new : Progress} (rule : Rule (Unit {0})) (e : Stop) → rule ≡ loop_of → Judges shapes (λ l (u : Unit {0}). u) rule old new (Err e) → Judges shapes (λ l. yield_of shapes) (while_rule (more t body)) old new (Err e)
    while_stops {old} {new} rule e is j = stops_judge {see = λ (u : Unit {0}). u} {say = yield_of shapes} {m = loop_of} (λ (u : Unit {0}). goes Never) e
        (subst (λ (q : Rule (Unit {0})). Judges shapes (λ l (u : Unit {0}). u) q old new (Err e)) is j)

    pub endless : (p : Progress) (r : Refusal) → None ≡ turns_of (shape_of here t body) → r ≡ refusal here cause.LoopShape at → Judges shapes (λ l. yield_of shapes) (while_rule (more t body)) p p (Err (stop.Refused r))
    endless p r e is = refused_judges p r (λ lists apart says.
        ap (λ (s : bounds.Shape). then_judge (loop s (env_of shapes lists p.env)) (λ (u : Unit {0}). goes Never)) (shape_none (shape_of here t body) e)
        ∙ ap Stops (sym is))

-- Tests, and what stands under them.
use Rattle.std.proofs.Common.{◌≡◌, ℕ, ◌+◌, max, List, [], ◌∷◌, length, Bool, true, false, Result, Ok, Err, refl, sym, ap, subst, ◌∙◌, arith}
use Rattle.aml_operators.specs.declared.term.Term.{Term}
use Rattle.aml_operators.specs.declared.term.Term.TheViews.{out-Term}
use Rattle.aml_operators.specs.Tree.{Tree, Trees, more, none, view, views}
use Rattle.aml_operators.proofs.Views.{view_out}
use Rattle.aml_causes.specs.declared.cause.Cause.TheVariants as cause
use Rattle.aml_causes.specs.declared.cause.Refusal.{Refusal}
use Rattle.aml_kinds.specs.Kinds.{Kind, Shape}
use Rattle.aml_meaning.specs.declared.action.Action.TheVariants as does
use Rattle.aml_meaning.specs.declared.mutex.TakenMutex.{TakenMutex}
use Rattle.aml_meaning.specs.Meaning.{at_of}
use Rattle.aml_meaning.specs.Rules.{Place}
use Rattle.aml_judged.specs.Known as judged_known
use Rattle.aml_judged.specs.Known.{ends_agree, join_env}
use Rattle.aml_judged.specs.KindRules.{integer_kind}
use Rattle.aml_judged.specs.Judge.{judged_act, judged_all, judged_block, judged_otherwise, judged_test, judged_value, narrowed, place, place_at, refusal}
use Rattle.aml_judged.specs.Judged as judged
use Rattle.aml_judged.specs.Judged.{Around, Judged, Never, no_exits, Rule, ruled, Stops, goes, join_exits, then_judge, ◌>>=◌}
use Rattle.aml_known.specs.declared.accepted.Yield.{Yield}
use Rattle.aml_known.specs.declared.accepted.Yield.TheVariants as yield
use Rattle.aml_known.specs.declared.env.Env.{Env}
use Rattle.aml_known.specs.declared.known.Known.{Known}
use Rattle.aml_known.specs.declared.stop.Stop.{Stop}
use Rattle.aml_known.specs.declared.stop.Stop.TheVariants as stop
use Rattle.aml_known.specs.Views.{AreApart, CanBeRead, env_of, exits_of, Grown, kind_of, Says, yield_of}
use Rattle.aml_known.proofs.Takings.{grown_twice, same_grown, says_earlier}
use Rattle.aml_judging.specs.declared.progress.Progress.{Progress}
use Rattle.aml_judging.specs.Views.{held_cost, Standing, standing}
use Rattle.aml_judging.specs.Follows.{Follows, Goes, Judges}
use Rattle.aml_walk.proofs.Branches.{apart_from, block_stops, either_differs, either_goes, either_rule, other_stops}
use Rattle.aml_walk.proofs.BlocksGoing.{rests, stops_held, then_held}
use Rattle.aml_judging.proofs.Going.{exits_same, then_follows, stops_follow}

-- a place of a term
pub placed_at : (here : Around) (t : Term) → place here (view t) ≡ place_at here (out-Term t).at
placed_at here t = ap (λ (x : Tree). place here x) (view_out t)

module _ (shapes : ℕ → Shape) (here : Around) (t : Tree) where
  abbrev behind_kind : Kind → Rule judged_known.Env
  behind_kind k = ruled (integer_kind (place here t) k) >>= (λ (n : ℕ). λ env. goes (narrowed here t env) env)

  module _ (old mid : Progress) (k : Known) (value : Judges shapes (λ l. kind_of shapes) (judged_value here t) old mid (Ok k)) where
    -- a test of an integer
    pub tests : (n : ℕ) (p : Place) (x : Env) → p ≡ place here t → Ok n ≡ integer_kind p (kind_of shapes k) → ((lists : ℕ → List TakenMutex) → env_of shapes lists x ≡ narrowed here t (env_of shapes lists mid.env)) → Judges shapes (env_of shapes) (judged_test here t (judged_value here t)) old mid (Ok x)
    tests n p x at is narrow = then_held {see = λ l. kind_of shapes} {say = env_of shapes} {m = judged_value here t} behind_kind (Ok x) value (same_grown mid.locks.takings.items) (λ h. h) (λ lists apart says. record {
      exits = no_exits;
      cost = 0;
      goes =
          ap (λ (r : Result ℕ Refusal). then_judge (ruled r (env_of shapes lists mid.env)) (λ (m : ℕ). λ env. goes (narrowed here t env) env)) (sym (is ∙ ap (λ (q : Place). integer_kind q (kind_of shapes k)) at))
          ∙ ap (λ (e : judged_known.Env). judged.Goes e (env_of shapes lists mid.env) no_exits 0) (sym (narrow lists));
      joined = exits_same (exits_of shapes lists mid.exits);
      counted = omega arith;
    })

    -- and of what is none
    pub no_integer : (r : Refusal) (p : Place) → p ≡ place here t → Err r ≡ integer_kind p (kind_of shapes k) → Judges shapes (env_of shapes) (judged_test here t (judged_value here t)) old mid (Err (stop.Refused r))
    no_integer r p at is = then_held {see = λ l. kind_of shapes} {say = env_of shapes} {m = judged_value here t} behind_kind (Err (stop.Refused r)) value (same_grown mid.locks.takings.items) (λ h. h) (λ lists apart says.
        ap (λ (q : Result ℕ Refusal). then_judge (ruled q (env_of shapes lists mid.env)) (λ (m : ℕ). λ env. goes (narrowed here t env) env)) (sym (is ∙ ap (λ (q : Place). integer_kind q (kind_of shapes k)) at)))

  pub test_stops : {old new : Progress} (e : Stop) → Judges shapes (λ l. kind_of shapes) (judged_value here t) old new (Err e) → Judges shapes (env_of shapes) (judged_test here t (judged_value here t)) old new (Err e)
  test_stops e value = stops_held {see = λ l. kind_of shapes} {say = env_of shapes} {m = judged_value here t} behind_kind e value

-- an If
module _ (shapes : ℕ → Shape) (here : Around) (w : Bool) (at : ℕ) where
  abbrev if_rule : Trees → Rule judged.Yield
  if_rule parts = judged_act here w does.If at parts

  -- one that has no test
  pub no_test : (ts : List Term) (p : Progress) (r : Refusal) → length ts ≡ 0 → r ≡ refusal here cause.OutsideProfile at → Judges shapes (λ l. yield_of shapes) (if_rule (views ts)) p p (Err (stop.Refused r))
  no_test [] p r e is = record {
    grows = same_grown p.locks.takings.items;
    read = λ h. h;
    follows = λ lists apart says. ap Stops (sym is);
  }
  no_test (x ∷ xs) p r e is = absurd (omega (arith, e))

  module _ (t : Tree) (body : Trees) where
    abbrev under : judged_known.Env → Rule (Unit {0})
    under held = either_rule (refusal here cause.HeldDiffers at) (judged_block here body) (judged_otherwise here body) held

    abbrev behind_it : judged_known.Env → Rule judged.Yield
    behind_it held = under held >>= (λ (u : Unit {0}). goes Never)

    pub if_test_stops : {old new : Progress} (e : Stop) → Judges shapes (env_of shapes) (judged_test here t (judged_value here t)) old new (Err e) → Judges shapes (λ l. yield_of shapes) (if_rule (more t body)) old new (Err e)
    if_test_stops e j = stops_held {see = env_of shapes} {say = λ l. yield_of shapes} {m = judged_test here t (judged_value here t)} behind_it e j

    module _ (old one : Progress) (held : Env) (tested : Judges shapes (env_of shapes) (judged_test here t (judged_value here t)) old one (Ok held)) where
      -- where a test held, with nothing paid yet
      abbrev under_test : Progress
      under_test = record one { env = held; cost = 0 }

      stops_under : (new : Progress) (e : Stop) → Grown one.locks.takings.items new.locks.takings.items → (CanBeRead one.locks.takings.items → CanBeRead new.locks.takings.items) → ((lists : ℕ → List TakenMutex) → AreApart shapes → Says lists new.locks.takings.items → Follows (λ (u : Unit {0}). u) (under (env_of shapes lists held)) (standing shapes lists one) (standing shapes lists new) (Err e)) → Judges shapes (λ l. yield_of shapes) (if_rule (more t body)) old new (Err e)
      stops_under new e grows read f = then_held {see = env_of shapes} {say = λ l. yield_of shapes} {m = judged_test here t (judged_value here t)} behind_it (Err e) tested grows read (λ lists apart says.
          stops_follow (λ (u : Unit {0}). u) (yield_of shapes) (under (env_of shapes lists held)) (λ (u : Unit {0}). goes Never) (standing shapes lists one) (standing shapes lists new) (standing shapes lists new) e (f lists apart says))

      -- a block that stops
      pub if_block_stops : (new : Progress) (e : Stop) → Judges shapes (λ l (u : Unit {0}). u) (judged_block here body) under_test new (Err e) → Judges shapes (λ l. yield_of shapes) (if_rule (more t body)) old new (Err e)
      if_block_stops new (stop.Refused r) j = stops_under new (stop.Refused r) j.grows j.read (λ lists apart says.
          block_stops (refusal here cause.HeldDiffers at) (judged_block here body) (judged_otherwise here body) (env_of shapes lists held) (standing shapes lists one) (standing shapes lists new) (standing shapes lists new) {q = r} (j.follows lists apart says))
      if_block_stops new stop.NoMemory j = stops_under new stop.NoMemory j.grows j.read (λ lists apart says. tt)

      module _ (two : Progress) (block : Judges shapes (λ l (u : Unit {0}). u) (judged_block here body) under_test two (Ok tt)) where
        -- where the test failed, with nothing paid yet
        abbrev under_else : Progress
        under_else = record two { env = one.env; cost = 0 }

        grows_on : (new : Progress) → Grown two.locks.takings.items new.locks.takings.items → Grown one.locks.takings.items new.locks.takings.items
        grows_on new g = grown_twice one.locks.takings.items two.locks.takings.items new.locks.takings.items block.grows g

        says_two : (new : Progress) (lists : ℕ → List TakenMutex) → Grown two.locks.takings.items new.locks.takings.items → Says lists new.locks.takings.items → Says lists two.locks.takings.items
        says_two new lists g says = says_earlier lists two.locks.takings.items new.locks.takings.items g says

        -- an Else that stops
        pub if_else_stops : (new : Progress) (e : Stop) → Judges shapes (λ l (u : Unit {0}). u) (judged_otherwise here body) under_else new (Err e) → Judges shapes (λ l. yield_of shapes) (if_rule (more t body)) old new (Err e)
        if_else_stops new (stop.Refused r) j = stops_under new (stop.Refused r) (grows_on new j.grows) (λ h. j.read (block.read h)) (λ lists apart says.
            other_stops (refusal here cause.HeldDiffers at) (judged_block here body) (judged_otherwise here body) (env_of shapes lists held) (standing shapes lists one) (standing shapes lists two) (standing shapes lists new) {q = r} (block.follows lists apart (says_two new lists j.grows says)) (j.follows lists apart says))
        if_else_stops new stop.NoMemory j = stops_under new stop.NoMemory (grows_on new j.grows) (λ h. j.read (block.read h)) (λ lists apart says. tt)

        module _ (three : Progress) (other : Judges shapes (λ l (u : Unit {0}). u) (judged_otherwise here body) under_else three (Ok tt)) where
          -- memory that is wanted where both ends are there
          pub if_wants : Judges shapes (λ l. yield_of shapes) (if_rule (more t body)) old three (Err stop.NoMemory)
          if_wants = stops_under three stop.NoMemory (grows_on three other.grows) (λ h. other.read (block.read h)) (λ lists apart says. tt)

          -- ends that hold different mutexes
          pub if_differs : (end : Env) (agrees : Bool) (r : Refusal) → end ≡ two.env → agrees ≡ false → ((lists : ℕ → List TakenMutex) → Says lists three.locks.takings.items → agrees ≡ ends_agree (env_of shapes lists end) (env_of shapes lists three.env)) → r ≡ refusal here cause.HeldDiffers at → Judges shapes (λ l. yield_of shapes) (if_rule (more t body)) old three (Err (stop.Refused r))
          if_differs end agrees r there is tells e = stops_under three (stop.Refused r) (grows_on three other.grows) (λ h. other.read (block.read h)) (λ lists apart says.
              either_differs (refusal here cause.HeldDiffers at) (judged_block here body) (judged_otherwise here body) (env_of shapes lists held) (standing shapes lists one) (standing shapes lists two) (standing shapes lists three) (block.follows lists apart (says_two three lists other.grows says)) (other.follows lists apart says) (ap (λ (d : Env). ends_agree (env_of shapes lists d) (env_of shapes lists three.env)) (sym there) ∙ sym (tells lists says) ∙ is)
              ∙ ap Stops (sym e))

          -- both go on
          pub if_goes : (end : Env) (agrees : Bool) (joined : Env) (before first most cost : ℕ) → end ≡ two.env → agrees ≡ true → ((lists : ℕ → List TakenMutex) → Says lists three.locks.takings.items → agrees ≡ ends_agree (env_of shapes lists end) (env_of shapes lists three.env)) → ((lists : ℕ → List TakenMutex) → AreApart shapes → Says lists three.locks.takings.items → env_of shapes lists joined ≡ join_env (env_of shapes lists end) (env_of shapes lists three.env)) → before ≡ one.cost → first ≡ two.cost → most ≡ max first three.cost → held_cost cost ≡ held_cost (held_cost before + held_cost most) → Judges shapes (λ l. yield_of shapes) (if_rule (more t body)) old (record three { env = joined; cost = cost }) (Ok yield.Never)
          if_goes end agrees joined before first most cost there is tells joins e1 e2 e3 paid = then_held {see = env_of shapes} {say = λ l. yield_of shapes} {m = judged_test here t (judged_value here t)} behind_it (Ok yield.Never) tested (grows_on three other.grows) (λ h. other.read (block.read h)) (λ lists apart says.
              let left : Standing = standing shapes lists (record three { env = joined; cost = cost }) in
              then_follows (yield_of shapes) {m = under (env_of shapes lists held)} (λ (u : Unit {0}). goes Never) {old = standing shapes lists one} {mid = left} left {j = tt} (Ok yield.Never)
              (either_goes (refusal here cause.HeldDiffers at) (judged_block here body) (judged_otherwise here body) (env_of shapes lists held) (standing shapes lists one) (standing shapes lists two) (standing shapes lists three) (held_cost cost) (env_of shapes lists joined) (block.follows lists apart (says_two three lists other.grows says)) (other.follows lists apart says) (ap (λ (d : Env). ends_agree (env_of shapes lists d) (env_of shapes lists three.env)) (sym there) ∙ sym (tells lists says) ∙ is) (joins lists apart says ∙ ap (λ (d : Env). join_env (env_of shapes lists d) (env_of shapes lists three.env)) there) (omega (arith, paid, e1, e2, e3)))
              (rests {rule = goes Never} left Never refl (omega arith)))

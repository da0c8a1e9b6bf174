-- A body that is judged, its end, and the verdict of its method.
use Rattle.std.proofs.Common.{◌≡◌, ◌∙◌, ◌<◌, ◌≤◌, ℕ, List, [], ◌∷◌, Bool, true, false, ◌&&◌, Option, Some, None, Result, Ok, Err, ◌⊎◌, inl, inr, ◌+◌, refl, sym, ap, subst, arith}
use Rattle.std.specs.Prelude.{◌||◌, is_some, nat_lt}
use Rattle.std.specs.Option.{option_map}
use Rattle.std.proofs.lemmas.Bool.{and_from, and_left, and_right, le-ltb, lt-ltb}
use Rattle.aml_causes.specs.declared.cause.Refusal.{Refusal}
use Rattle.aml_kinds.specs.Kinds.{Shape}
use Rattle.aml_operators.specs.Tree.{Trees}
use Rattle.aml_meaning.specs.declared.mutex.TakenMutex.{TakenMutex}
use Rattle.aml_judged.specs.Causes as cause
use Rattle.aml_judged.specs.Known as known
use Rattle.aml_judged.specs.Judged as judged
use Rattle.aml_judged.specs.Judged.{Around, Judged, Rule, Stops}
use Rattle.aml_judged.specs.Judge.{judged_none_held, none_held_at}
use Rattle.aml_judged.specs.Bodies.{entry, judged_body, judged_method}
use Rattle.aml_judged.specs.Verdicts.{Verdict, bounded, most_steps, none_left, result_of, verdict_of}
use Rattle.aml_known.specs.declared.accepted.Yield.{Yield}
use Rattle.aml_known.specs.declared.env.Env.{Env}
use Rattle.aml_known.specs.declared.known.Known.{Known}
use Rattle.aml_known.specs.declared.stop.Stop.{Stop}
use Rattle.aml_known.specs.declared.stop.Stop.TheVariants as stop
use Rattle.aml_known.specs.Views.{AreApart, env_of, exits_of, kind_of, kinds_of, yield_of}
use Rattle.aml_judging.specs.declared.progress.Progress.{Progress}
use Rattle.aml_judging.specs.Views.{held_cost, standing}
use Rattle.aml_judging.specs.Follows.{Goes, IsVerdict, Judges}
use Rattle.aml_judging.proofs.Going.{stops_judge, then_judges}
use Rattle.aml_walk.specs.Begins.{Begins}

-- what is held at an end is told by the table alone
abbrev still : ℕ → ℕ → Judged (Unit {0})
still at table = Stops (record { table = table; at = at; why = cause.StillHeld })

none_held_told : (a b : Around) (at : ℕ) (env : known.Env) → a.table ≡ b.table → judged_none_held a at env ≡ judged_none_held b at env
none_held_told a b at env e = by env.counts env.held
  where
    told : still at a.table ≡ still at b.table
    told = ap (still at) e

    by : (counts : Bool) (h : known.Held) → none_held_at a counts h at env ≡ none_held_at b counts h at env
    by false h = refl
    by true (known.These []) = refl
    by true (known.These (m ∷ ms)) = told
    by true known.Different = told

module _ (shapes : ℕ → Shape) (here end : Around) (at : ℕ) (body : Trees) where
  ended_judges : {mid : Progress} (r : Result (Unit {0}) Stop) → end.table ≡ here.table → Judges shapes (λ l (u : Unit {0}). u) (judged_none_held end at) mid mid r → Judges shapes (λ l (u : Unit {0}). u) (judged_none_held here at) mid mid r
  ended_judges {mid} r same h =
      let e : judged_none_held end at ≡ judged_none_held here at = λ i env. none_held_told end here at env same i in
      subst (λ (rule : Rule (Unit {0})). Judges shapes (λ l (u : Unit {0}). u) rule mid mid r) e h

  -- a body that is judged, and its end
  pub method_judges : {old mid : Progress} (later : ℕ → Shape) (r : Result (Unit {0}) Stop) → later ≡ shapes → end.table ≡ here.table → Judges shapes (λ l (u : Unit {0}). u) (judged_body here body) old mid (Ok tt) → Judges later (λ l (u : Unit {0}). u) (judged_none_held end at) mid mid r → Judges shapes (λ l (u : Unit {0}). u) (judged_method here at body) old mid r
  method_judges {mid = mid} later r numbers same a b =
      let there : Judges shapes (λ l (u : Unit {0}). u) (judged_none_held end at) mid mid r = subst (λ s. Judges s (λ l (u : Unit {0}). u) (judged_none_held end at) mid mid r) numbers b in
      then_judges {see = λ u. u} {m = judged_body here body} (λ u. judged_none_held here at) r a (ended_judges r same there)

module _ (shapes : ℕ → Shape) (here : Around) (at : ℕ) (body : Trees) where
  -- a body that stops
  pub body_judges : {old mid : Progress} (e : Stop) → Judges shapes (λ l (u : Unit {0}). u) (judged_body here body) old mid (Err e) → Judges shapes (λ l (u : Unit {0}). u) (judged_method here at body) old mid (Err e)
  body_judges e a = stops_judge {see = λ u. u} {m = judged_body here body} (λ u. judged_none_held here at) e a

some_left : (see : Env → known.Env) (b c : Option Env) → (is_some b || is_some c) ≡ true → none_left (option_map see b) (option_map see c) ≡ false
some_left see None None e = absurd cc
some_left see None (Some c) e = refl
some_left see (Some b) c e = refl

none_left_told : (see : Env → known.Env) (b c : Option Env) → (is_some b || is_some c) ≡ false → none_left (option_map see b) (option_map see c) ≡ true
none_left_told see None None e = refl
none_left_told see None (Some c) e = absurd cc
none_left_told see (Some b) c e = absurd cc

bounded_not : (b : Bool) (late : Refusal) (a : judged.Accepted) → b ≡ false → bounded b late a ≡ Err late
bounded_not b late a e = rw e refl

bounded_well : (b : Bool) (late : Refusal) (a : judged.Accepted) → b ≡ true → bounded b late a ≡ Ok a
bounded_well b late a e = rw e refl

module _ (shapes : ℕ → Shape) (rule : Rule (Unit {0})) (short : Bool) (late : Refusal) (args : List Known) where
  abbrev verdict : Verdict
  verdict = verdict_of short late (kinds_of shapes args) (rule (entry (kinds_of shapes args)))

  -- what stops is refused
  pub stops_verdict : {old new : Progress} (e : Stop) → AreApart shapes → Begins shapes args old → Judges shapes (λ l (u : Unit {0}). u) rule old new (Err e) → IsVerdict shapes verdict (Err e)
  stops_verdict {old} (stop.Refused r) apart b j =
      let read = j.read b.read in
      let f : rule (env_of shapes read.lists old.env) ≡ Stops r = j.follows read.lists apart read.say in
      ap (verdict_of short late (kinds_of shapes args)) (ap rule (sym (b.env read.lists)) ∙ f)
  stops_verdict stop.NoMemory apart b j = tt

  -- what goes is told by its end, its exits and its cost
  record Ends (p : Progress) : Type 0 where
    lists : ℕ → List TakenMutex
    cost : ℕ
    counted : held_cost p.cost ≡ held_cost cost
    tells : verdict ≡ bounded (short && (none_left (option_map (env_of shapes lists) p.exits.broke) (option_map (env_of shapes lists) p.exits.continued) && nat_lt cost most_steps)) late (record { args = kinds_of shapes args; result = result_of p.env.counts (option_map (kind_of shapes) p.exits.returned); bound = cost; least = p.exits.least })

  ends : {old new : Progress} → AreApart shapes → Begins shapes args old → Judges shapes (λ l (u : Unit {0}). u) rule old new (Ok tt) → Ends new
  ends {old} {new} apart b j =
      let read = j.read b.read in
      let g : Goes rule (standing shapes read.lists old) (standing shapes read.lists new) tt = j.follows read.lists apart read.say in
      let left : exits_of shapes read.lists new.exits ≡ g.exits = g.joined ∙ ap (λ x. judged.join_exits x g.exits) (b.exits read.lists) in
      record {
        lists = read.lists;
        cost = g.cost;
        counted = g.counted ∙ ap (λ c. held_cost (held_cost c + g.cost)) b.cost ∙ omega arith;
        tells =
            ap (verdict_of short late (kinds_of shapes args)) (ap rule (sym (b.env read.lists)) ∙ g.goes ∙ ap (λ x. judged.Goes tt (env_of shapes read.lists new.env) x g.cost) (sym left));
      }

  module _ {old new : Progress} (apart : AreApart shapes) (begins : Begins shapes args old) (judges : Judges shapes (λ l (u : Unit {0}). u) rule old new (Ok tt)) where
    -- chains of calls are long, or something is left, or the cost is too large
    pub late_verdict : (r : Refusal) → r ≡ late → (short ≡ false) ⊎ ((is_some new.exits.broke || is_some new.exits.continued) ≡ true) ⊎ (most_steps ≤ new.cost) → IsVerdict shapes verdict (Err (stop.Refused r))
    late_verdict r e why =
        let end = ends apart begins judges in
        end.tells ∙ bounded_not _ late _ (not_so end why) ∙ ap Err (sym e)
      where
        not_so : (end : Ends new) → (short ≡ false) ⊎ ((is_some new.exits.broke || is_some new.exits.continued) ≡ true) ⊎ (most_steps ≤ new.cost) → (short && (none_left (option_map (env_of shapes end.lists) new.exits.broke) (option_map (env_of shapes end.lists) new.exits.continued) && nat_lt end.cost most_steps)) ≡ false
        not_so end (inl e) = and_left _ _ e
        not_so end (inr (inl e)) = and_right _ _ (and_left _ _ (some_left (env_of shapes end.lists) new.exits.broke new.exits.continued e))
        not_so end (inr (inr le)) = and_right _ _ (and_right _ _ (le-ltb end.cost most_steps (omega (arith, end.counted, le))))

    -- all is well
    pub well_verdict : (y : Yield) → short ≡ true → (is_some new.exits.broke || is_some new.exits.continued) ≡ false → new.cost < most_steps → yield_of shapes y ≡ result_of new.env.counts (option_map (kind_of shapes) new.exits.returned) → verdict ≡ Ok (record { args = kinds_of shapes args; result = yield_of shapes y; bound = new.cost; least = new.exits.least })
    well_verdict y is none lt gives =
        let end = ends apart begins judges in
        let cost : new.cost ≡ end.cost = omega (arith, end.counted, lt) in
        let below : nat_lt end.cost most_steps ≡ true = lt-ltb end.cost most_steps (omega (arith, cost, lt)) in
        let so : (short && (none_left (option_map (env_of shapes end.lists) new.exits.broke) (option_map (env_of shapes end.lists) new.exits.continued) && nat_lt end.cost most_steps)) ≡ true = and_from _ _ is (and_from _ _ (none_left_told (env_of shapes end.lists) new.exits.broke new.exits.continued none) below) in
        end.tells ∙ bounded_well _ late _ so ∙ λ i. Ok (record { args = kinds_of shapes args; result = sym gives i; bound = sym cost i; least = new.exits.least })

-- A turn of a loop's body, judged apart.
use Rattle.std.proofs.Common.{◌≡◌, ℕ, ◌+◌, List, Result, Ok, Err, refl, sym, ap, subst, ◌∙◌, arith}
use Rattle.aml_operators.specs.Tree.{Trees}
use Rattle.aml_causes.specs.declared.cause.Refusal.{Refusal}
use Rattle.aml_kinds.specs.Kinds.{Shape}
use Rattle.aml_meaning.specs.declared.mutex.TakenMutex.{TakenMutex}
use Rattle.aml_judged.specs.Judge.{judged_all}
use Rattle.aml_judged.specs.Judged as judged
use Rattle.aml_judged.specs.Judged.{Around, Rule, Stops, join_exits, no_exits}
use Rattle.aml_known.specs.declared.env.Env.{Env}
use Rattle.aml_known.specs.declared.exits.Exits.{Exits}
use Rattle.aml_known.specs.declared.stop.Stop.{Stop}
use Rattle.aml_known.specs.declared.stop.Stop.TheVariants as stop
use Rattle.aml_known.specs.Views.{AreApart, CanBeRead, env_of, exits_of, Grown, Says}
use Rattle.aml_judging.specs.declared.progress.Progress.{Progress}
use Rattle.aml_judging.specs.declared.turns.Turn.{Turn}
use Rattle.aml_judging.specs.Turns.{IsTurn, StandsStill, Turned, TurnSays}
use Rattle.aml_judging.specs.Views.{held_cost, Standing, standing}
use Rattle.aml_judging.specs.Follows.{Follows, Goes, Judges}

module _ (shapes : ℕ → Shape) (here : Around) (body : Trees) (held : Env) (old : Progress) (none : Exits) (empty : (lists : ℕ → List TakenMutex) → exits_of shapes lists none ≡ no_exits) where
  -- where a turn begins
  abbrev apart : Progress
  apart = record old { env = held; exits = none; cost = 0 }

  turn_is : (lists : ℕ → List TakenMutex) (one : Progress) → Goes (judged_all here body) (standing shapes lists apart) (standing shapes lists one) tt → IsTurn shapes lists (judged_all here body) held (record { end = one.env; exits = one.exits; cost = one.cost })
  turn_is lists one a = record {
    cost = a.cost;
    goes = a.goes ∙ ap (λ (x : judged.Exits). judged.Goes tt (env_of shapes lists one.env) x a.cost) (sym (a.joined ∙ ap (λ (x : judged.Exits). join_exits x a.exits) (empty lists)));
    counted = omega (arith, a.counted);
  }

  -- a turn that goes on leaves all as it was
  pub turns : (one : Progress) (env end : Env) (x exits : Exits) (n cost : ℕ) → env ≡ old.env → x ≡ old.exits → n ≡ old.cost → end ≡ one.env → exits ≡ one.exits → cost ≡ one.cost → Judges shapes (λ l (u : Unit {0}). u) (judged_all here body) apart one (Ok tt) → Turned shapes here body held old (record one { env = env; exits = x; cost = n }) (Ok (record { end = end; exits = exits; cost = cost }))
  turns one env end x exits n cost e1 e2 e3 q1 q2 q3 j = record {
    grows = j.grows;
    read = j.read;
    still = (e1, e2, e3);
    says = λ lists apart says. subst (λ (t : Turn). IsTurn shapes lists (judged_all here body) held t) (λ i. record { end = sym q1 i; exits = sym q2 i; cost = sym q3 i }) (turn_is lists one (j.follows lists apart says));
  }

  turn_says : (lists : ℕ → List TakenMutex) (one : Progress) (e : Stop) → Follows (λ (u : Unit {0}). u) (judged_all here body) (standing shapes lists apart) (standing shapes lists one) (Err e) → TurnSays shapes lists (judged_all here body) held (Err e)
  turn_says lists one (stop.Refused r) f = f
  turn_says lists one stop.NoMemory f = tt

  pub turn_stops : (one : Progress) (e : Stop) → Judges shapes (λ l (u : Unit {0}). u) (judged_all here body) apart one (Err e) → Turned shapes here body held old one (Err e)
  turn_stops one e j = record {
    grows = j.grows;
    read = j.read;
    still = tt;
    says = λ lists apart says. turn_says lists one e (j.follows lists apart says);
  }

-- An If, judged in place: its block, and then its Else from where the test stood.
use Rattle.std.proofs.Common.{◌≡◌, ℕ, ◌+◌, max, Bool, true, false, ◌∙◌, refl, sym, ap, arith}
use Rattle.aml_causes.specs.declared.cause.Refusal.{Refusal}
use Rattle.aml_judged.specs.Known.{Env, join_env, ends_agree}
use Rattle.aml_judged.specs.Judged as judged
use Rattle.aml_judged.specs.Judged.{Exits, Judged, Rule, Stops, agreed, join_exits, meet}
use Rattle.aml_judged.proofs.InPlace.{exits_assoc}
use Rattle.aml_judging.specs.Views.{held_cost, Standing}
use Rattle.aml_judging.specs.Follows.{Goes}

-- from a standing, where its environment is another and nothing is paid yet
abbrev pub apart_from : Standing → Env → Standing
apart_from s env = record s { env = env; cost = 0 }

-- a block from where a test held, and then another from where it failed
abbrev pub either_rule : Refusal → Rule (Unit {0}) → Rule (Unit {0}) → Env → Rule (Unit {0})
either_rule r block other held = λ env. meet r (block held) (other env)

costs_meet : (c a b d n m : ℕ) → a ≡ held_cost (0 + n) → b ≡ held_cost (0 + m) → d ≡ held_cost (c + held_cost (max a b)) → d ≡ held_cost (c + max n m)
costs_meet c a b d n m e f g = omega (arith, e, f, g)

pub both_met : (b : Bool) (r : Refusal) (j : Judged (Unit {0})) → b ≡ true → agreed b r j ≡ j
both_met true r j e = refl
both_met false r j e = absurd cc

pub not_met : (b : Bool) (r : Refusal) (j : Judged (Unit {0})) → b ≡ false → agreed b r j ≡ Stops r
not_met true r j e = absurd cc
not_met false r j e = refl

module _ (r : Refusal) (block other : Rule (Unit {0})) (held : Env) (tested end behind : Standing) where
  -- both go on, and agree
  pub either_goes : (d : ℕ) (env : Env) → Goes block (apart_from tested held) end tt → Goes other (apart_from end tested.env) behind tt → ends_agree end.env behind.env ≡ true → env ≡ join_env end.env behind.env → d ≡ held_cost (tested.cost + held_cost (max end.cost behind.cost)) → Goes (either_rule r block other held) tested (record behind { env = env; cost = d }) tt
  either_goes d env a b agree is paid = record {
    exits = join_exits a.exits b.exits;
    cost = max a.cost b.cost;
    goes = (λ i. meet r (a.goes i) (b.goes i)) ∙ both_met (ends_agree end.env behind.env) r _ agree ∙ ap (λ e. judged.Goes tt e (join_exits a.exits b.exits) (max a.cost b.cost)) (sym is);
    joined = b.joined ∙ ap (λ x. join_exits x b.exits) a.joined ∙ exits_assoc tested.exits a.exits b.exits;
    counted = costs_meet tested.cost end.cost behind.cost d a.cost b.cost a.counted b.counted paid;
  }

  pub either_differs : Goes block (apart_from tested held) end tt → Goes other (apart_from end tested.env) behind tt → ends_agree end.env behind.env ≡ false → either_rule r block other held tested.env ≡ Stops r
  either_differs a b agree = (λ i. meet r (a.goes i) (b.goes i)) ∙ not_met (ends_agree end.env behind.env) r _ agree

  pub block_stops : {q : Refusal} → block held ≡ Stops q → either_rule r block other held tested.env ≡ Stops q
  block_stops {q} a = first (other tested.env)
    where
      first : (j : Judged (Unit {0})) → meet r (block held) j ≡ Stops q
      first (judged.Goes u env x n) = ap (λ i. meet r i (judged.Goes u env x n)) a
      first (Stops p) = ap (λ i. meet r i (Stops p)) a

  pub other_stops : {q : Refusal} → Goes block (apart_from tested held) end tt → other tested.env ≡ Stops q → either_rule r block other held tested.env ≡ Stops q
  other_stops a b = λ i. meet r (a.goes i) (b i)

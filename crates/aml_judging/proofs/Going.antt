-- Rules that follow one another: what is judged in place by parts is judged by the whole.
use Rattle.std.proofs.Common.{◌≡◌, ℕ, ◌+◌, min, List, Option, Some, None, Result, Ok, Err, ◌∙◌, refl, sym, ap, subst, arith}
use Rattle.aml_causes.specs.declared.cause.Refusal.{Refusal}
use Rattle.aml_kinds.specs.Joins.{join}
use Rattle.aml_kinds.specs.Kinds.{Shape}
use Rattle.aml_meaning.specs.declared.mutex.TakenMutex.{TakenMutex}
use Rattle.aml_judged.specs.Known.{join_env}
use Rattle.aml_judged.specs.Judged as judged
use Rattle.aml_judged.specs.Judged.{Exits, after, either, join_exits, no_exits, Judged, Rule, Stops, then_judge, ◌>>=◌}
use Rattle.aml_judged.proofs.InPlace.{after_after, exits_assoc}
use Rattle.aml_known.specs.declared.stop.Stop.{Stop}
use Rattle.aml_known.specs.declared.stop.Stop.TheVariants as stop
use Rattle.aml_known.specs.Views.{AreApart, CanBeRead, env_of, exits_of, Grown, Says}
use Rattle.aml_known.proofs.Takings.{grown_twice, same_grown, says_earlier}
use Rattle.aml_judging.specs.declared.progress.Progress.{Progress}
use Rattle.aml_judging.specs.Views.{held_cost, Standing, standing}
use Rattle.aml_judging.specs.Follows.{Costs, Goes, Follows, Gives, Judges, Paid}

costs_add : (a n m : ℕ) → held_cost (held_cost (a + n) + m) ≡ held_cost (a + (n + m))
costs_add a n m = omega arith

pub then_goes : {J K : Type 0} {m : Rule J} (f : J → Rule K) {old mid new : Standing} {j : J} {k : K} → Goes m old mid j → Goes (f j) mid new k → Goes (m >>= f) old new k
then_goes {J} {K} {m} f {old} {mid} {new} {j} {k} a b = record {
  exits = join_exits a.exits b.exits;
  cost = a.cost + b.cost;
  goes = rw (a.goes, b.goes) refl;
  joined = b.joined ∙ ap (λ x. join_exits x b.exits) a.joined ∙ exits_assoc old.exits a.exits b.exits;
  counted = b.counted ∙ ap (λ x. held_cost (x + b.cost)) a.counted ∙ costs_add old.cost a.cost b.cost;
}

-- what goes on follows where the first part went on
pub then_follows : {Y J K : Type 0} (say : Y → K) {m : Rule J} (f : J → Rule K) {old mid : Standing} (new : Standing) {j : J} (r : Result Y Stop) → Goes m old mid j → Follows say (f j) mid new r → Follows say (m >>= f) old new r
then_follows say f new (Ok y) a b = then_goes f a b
then_follows say f new (Err (stop.Refused r)) a b = rw (a.goes, b) refl
then_follows say f new (Err stop.NoMemory) a b = tt

-- and where it stopped, all stops
pub stops_follow : {X Y J K : Type 0} (see : X → J) (say : Y → K) (m : Rule J) (f : J → Rule K) (old mid new : Standing) (e : Stop) → Follows see m old mid (Err e) → Follows say (m >>= f) old new (Err e)
stops_follow see say m f old mid new (stop.Refused r) a = rw a refl
stops_follow see say m f old mid new stop.NoMemory a = tt

pub then_judges : {X Y J K : Type 0} {shapes : ℕ → Shape} {see : X → J} {say : Y → K} {m : Rule J} (f : J → Rule K) {old mid new : Progress} {x : X} (r : Result Y Stop) → Judges shapes (λ l. see) m old mid (Ok x) → Judges shapes (λ l. say) (f (see x)) mid new r → Judges shapes (λ l. say) (m >>= f) old new r
then_judges {shapes} {see} {say} {m} f {old} {mid} {new} r a b = record {
  read = λ h. b.read (a.read h);
  grows = grown_twice old.locks.takings.items mid.locks.takings.items new.locks.takings.items a.grows b.grows;
  follows = λ lists apart says. then_follows say {m = m} f (standing shapes lists new) r (a.follows lists apart (says_earlier lists mid.locks.takings.items new.locks.takings.items b.grows says)) (b.follows lists apart says);
}

pub stops_judge : {X Y J K : Type 0} {shapes : ℕ → Shape} {see : X → J} {say : Y → K} {m : Rule J} (f : J → Rule K) {old new : Progress} (e : Stop) → Judges shapes (λ l. see) m old new (Err e) → Judges shapes (λ l. say) (m >>= f) old new (Err e)
stops_judge {shapes} {see} {say} {m} f {old} {new} e a = record {
  read = a.read;
  grows = a.grows;
  follows = λ lists apart says. stops_follow see say m f (standing shapes lists old) (standing shapes lists new) (standing shapes lists new) e (a.follows lists apart says);
}

either_none : {X : Type 0} (f : X → X → X) (a : Option X) → a ≡ either f a None
either_none f (Some x) = refl
either_none f None = refl

pub exits_same : (x : Exits) → x ≡ join_exits x no_exits
exits_same x = λ i. record {
  broke = either_none join_env x.broke i;
  continued = either_none join_env x.continued i;
  returned = either_none join x.returned i;
  least = either_none min x.least i;
}

pub stays : {K : Type 0} {rule : Rule K} (s : Progress) (k : K) (shapes : ℕ → Shape) (lists : ℕ → List TakenMutex) → rule (env_of shapes lists s.env) ≡ judged.Goes k (env_of shapes lists s.env) no_exits 0 → Goes rule (standing shapes lists s) (standing shapes lists s) k
stays s k shapes lists e = record {
  exits = no_exits;
  cost = 0;
  goes = e;
  joined = exits_same (exits_of shapes lists s.exits);
  counted = omega arith;
}

-- a rule that costs nothing is followed where nothing changes
pub gives_judges : {X K : Type 0} {shapes : ℕ → Shape} {see : X → K} {rule : Rule K} (p : Progress) (x : X) → Gives see rule (Ok x) → Judges shapes (λ l. see) rule p p (Ok x)
gives_judges {shapes} {see} p x g = record {
  read = λ h. h;
  grows = same_grown p.locks.takings.items;
  follows = λ lists apart says. stays p (see x) shapes lists (g (env_of shapes lists p.env));
}

pub gives_stops : {X K : Type 0} {shapes : ℕ → Shape} {see : X → K} {rule : Rule K} (p : Progress) (r : Refusal) → Gives see rule (Err r) → Judges shapes (λ l. see) rule p p (Err (stop.Refused r))
gives_stops {shapes} p r g = record {
  read = λ h. h;
  grows = same_grown p.locks.takings.items;
  follows = λ lists apart says. g (env_of shapes lists p.env);
}

-- what is left of a rule, from where a loop stands, leads to the whole
pub record Passed {K : Type 0} (rest whole : Rule K) (old mid : Standing) : Type 0 where
  pub exits : Exits
  pub cost : ℕ
  pub goes : whole old.env ≡ after exits cost (rest mid.env)
  pub joined : mid.exits ≡ join_exits old.exits exits
  pub counted : mid.cost ≡ held_cost (old.cost + cost)

pub record Leads {K : Type 0} (shapes : ℕ → Shape) (rest whole : Rule K) (old mid : Progress) : Type 0 where
  pub grows : Grown old.locks.takings.items mid.locks.takings.items
  pub read : CanBeRead old.locks.takings.items → CanBeRead mid.locks.takings.items
  pub passed : (lists : ℕ → List TakenMutex) → AreApart shapes → Says lists mid.locks.takings.items → Passed rest whole (standing shapes lists old) (standing shapes lists mid)

after_nothing : {K : Type 0} (j : Judged K) → j ≡ after no_exits 0 j
after_nothing (judged.Goes k env x n) = ap (judged.Goes k env x) (omega arith)
after_nothing (Stops r) = refl

pub leads_begin : {K : Type 0} {shapes : ℕ → Shape} {rule : Rule K} (p : Progress) → Leads shapes rule rule p p
leads_begin {shapes} {rule} p = record {
  read = λ h. h;
  grows = same_grown p.locks.takings.items;
  passed = λ lists apart says. record {
    exits = no_exits;
    cost = 0;
    goes = after_nothing (rule (env_of shapes lists p.env));
    joined = exits_same (exits_of shapes lists p.exits);
    counted = omega arith;
  };
}

passed_more : {J K : Type 0} {m : Rule J} (f : J → Rule K) {whole : Rule K} {old mid new : Standing} {j : J} → Passed (m >>= f) whole old mid → Goes m mid new j → Passed (f j) whole old new
passed_more {m} f {whole} {old} {mid} {new} {j} p a = record {
  exits = join_exits p.exits a.exits;
  cost = p.cost + a.cost;
  goes = p.goes ∙ ap (λ x. after p.exits p.cost (then_judge x f)) a.goes ∙ after_after p.exits a.exits p.cost a.cost (f j new.env);
  joined = a.joined ∙ ap (λ x. join_exits x a.exits) p.joined ∙ exits_assoc old.exits p.exits a.exits;
  counted = a.counted ∙ ap (λ c. held_cost (c + a.cost)) p.counted ∙ costs_add old.cost p.cost a.cost;
}

pub leads_more : {X J K : Type 0} {shapes : ℕ → Shape} {see : X → J} {m : Rule J} (f : J → Rule K) {whole : Rule K} {old mid new : Progress} {x : X} → Leads shapes (m >>= f) whole old mid → Judges shapes (λ l. see) m mid new (Ok x) → Leads shapes (f (see x)) whole old new
leads_more {m} f {old} {mid} {new} p a = record {
  read = λ h. a.read (p.read h);
  grows = grown_twice old.locks.takings.items mid.locks.takings.items new.locks.takings.items p.grows a.grows;
  passed = λ lists apart says. passed_more {m = m} f (p.passed lists apart (says_earlier lists mid.locks.takings.items new.locks.takings.items a.grows says)) (a.follows lists apart says);
}

pub passed_goes : {K : Type 0} {rest whole : Rule K} {old mid new : Standing} {k : K} → Passed rest whole old mid → Goes rest mid new k → Goes whole old new k
passed_goes {old} p a = record {
  exits = join_exits p.exits a.exits;
  cost = p.cost + a.cost;
  goes = p.goes ∙ ap (after p.exits p.cost) a.goes;
  joined = a.joined ∙ ap (λ x. join_exits x a.exits) p.joined ∙ exits_assoc old.exits p.exits a.exits;
  counted = a.counted ∙ ap (λ c. held_cost (c + a.cost)) p.counted ∙ costs_add old.cost p.cost a.cost;
}

passed_follows : {Y K : Type 0} (say : Y → K) {rest whole : Rule K} {old mid : Standing} (new : Standing) (r : Result Y Stop) → Passed rest whole old mid → Follows say rest mid new r → Follows say whole old new r
passed_follows say new (Ok y) p a = passed_goes p a
passed_follows say new (Err (stop.Refused r)) p a = p.goes ∙ ap (after p.exits p.cost) a
passed_follows say new (Err stop.NoMemory) p a = tt

-- what follows the rest follows the whole
pub leads_on : {Y K : Type 0} {shapes : ℕ → Shape} {say : Y → K} {rest whole : Rule K} {old mid new : Progress} (r : Result Y Stop) → Leads shapes rest whole old mid → Judges shapes (λ l. say) rest mid new r → Judges shapes (λ l. say) whole old new r
leads_on {shapes} {say} {old} {mid} {new} r p a = record {
  read = λ h. a.read (p.read h);
  grows = grown_twice old.locks.takings.items mid.locks.takings.items new.locks.takings.items p.grows a.grows;
  follows = λ lists apart says. passed_follows say (standing shapes lists new) r (p.passed lists apart (says_earlier lists mid.locks.takings.items new.locks.takings.items a.grows says)) (a.follows lists apart says);
}

-- what is paid for
pub paid_judges : {X K : Type 0} {shapes : ℕ → Shape} {see : X → K} (cost : X → ℕ) {rule : Rule K} {old new : Progress} {n : ℕ} {x : X} → Paid n old new → cost x ≡ n → Costs see cost rule (Ok x) → Judges shapes (λ l. see) rule old new (Ok x)
paid_judges {shapes} {see} cost {rule} {old} {new} {n} {x} p e g = record {
  grows = subst (Grown old.locks.takings.items) (sym p.takings) (same_grown old.locks.takings.items);
  read = subst CanBeRead (sym p.takings);
  follows = λ lists apart says. record {
    exits = no_exits;
    cost = cost x;
    goes = g (env_of shapes lists old.env) ∙ ap (λ v. judged.Goes (see x) (env_of shapes lists v) no_exits (cost x)) (sym p.env);
    joined = ap (exits_of shapes lists) p.exits ∙ exits_same (exits_of shapes lists old.exits);
    counted = p.paid ∙ ap (λ m. held_cost (held_cost old.cost + m)) (sym e);
  };
}

pub paid_twice : {n m : ℕ} {old mid new : Progress} → Paid n old mid → Paid m mid new → Paid (n + m) old new
paid_twice {n} {m} {old} {mid} {new} p q = record {
  env = q.env ∙ p.env;
  exits = q.exits ∙ p.exits;
  takings = q.takings ∙ p.takings;
  paid = q.paid ∙ ap (λ c. held_cost (c + m)) p.paid ∙ costs_add (held_cost old.cost) n m;
}

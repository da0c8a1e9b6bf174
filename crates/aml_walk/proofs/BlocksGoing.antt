-- Rules that follow one another, where what is seen stands on what is held up to each taking of a mutex.
use Rattle.std.proofs.Common.{◌≡◌, ℕ, ◌+◌, List, Bool, Result, Ok, Err, subst, arith}
use Rattle.aml_kinds.specs.Kinds.{Shape}
use Rattle.aml_meaning.specs.declared.mutex.TakenMutex.{TakenMutex}
use Rattle.aml_judged.specs.Judged as judged
use Rattle.aml_judged.specs.Judged.{no_exits, Rule, ◌>>=◌}
use Rattle.aml_known.specs.declared.env.Env.{Env}
use Rattle.aml_known.specs.declared.exits.Exits.{Exits}
use Rattle.aml_known.specs.declared.stop.Stop.{Stop}
use Rattle.aml_known.specs.Views.{AreApart, CanBeRead, env_of, exits_of, Grown, Says}
use Rattle.aml_known.proofs.Takings.{grown_twice, same_grown, says_earlier}
use Rattle.aml_judging.specs.declared.progress.Progress.{Progress}
use Rattle.aml_judging.specs.Views.{held_cost, Standing, standing}
use Rattle.aml_judging.specs.Follows.{Follows, Goes, Judges}
use Rattle.aml_judging.proofs.Going.{exits_same, stops_follow, then_follows}

pub then_held : {X Y J K : Type 0} {shapes : ℕ → Shape} {see : (ℕ → List TakenMutex) → X → J} {say : (ℕ → List TakenMutex) → Y → K} {m : Rule J} (f : J → Rule K) {old mid new : Progress} {x : X} (r : Result Y Stop) → Judges shapes see m old mid (Ok x) → Grown mid.locks.takings.items new.locks.takings.items → (CanBeRead mid.locks.takings.items → CanBeRead new.locks.takings.items) → ((lists : ℕ → List TakenMutex) → AreApart shapes → Says lists new.locks.takings.items → Follows (say lists) (f (see lists x)) (standing shapes lists mid) (standing shapes lists new) r) → Judges shapes say (m >>= f) old new r
then_held {shapes} {say} {m} f {old} {mid} {new} r a grows read b = record {
  grows = grown_twice old.locks.takings.items mid.locks.takings.items new.locks.takings.items a.grows grows;
  read = λ h. read (a.read h);
  follows = λ lists apart says. then_follows (say lists) {m = m} f (standing shapes lists new) r (a.follows lists apart (says_earlier lists mid.locks.takings.items new.locks.takings.items grows says)) (b lists apart says);
}

pub stops_held : {X Y J K : Type 0} {shapes : ℕ → Shape} {see : (ℕ → List TakenMutex) → X → J} {say : (ℕ → List TakenMutex) → Y → K} {m : Rule J} (f : J → Rule K) {old new : Progress} (e : Stop) → Judges shapes see m old new (Err e) → Judges shapes say (m >>= f) old new (Err e)
stops_held {shapes} {see} {say} {m} f {old} {new} e a = record {
  grows = a.grows;
  read = a.read;
  follows = λ lists apart says. stops_follow (see lists) (say lists) m f (standing shapes lists old) (standing shapes lists new) (standing shapes lists new) e (a.follows lists apart says);
}

-- where nothing changes and nothing is paid
pub rests : {K : Type 0} {rule : Rule K} (s : Standing) (k : K) → rule s.env ≡ judged.Goes k s.env no_exits 0 → s.cost ≡ held_cost s.cost → Goes rule s s k
rests s k e held = record {
  exits = no_exits;
  cost = 0;
  goes = e;
  joined = exits_same s.exits;
  counted = omega (arith, held);
}

-- from where an environment and a cost are put in place
pub from_other : {X K : Type 0} {shapes : ℕ → Shape} {see : (ℕ → List TakenMutex) → X → K} {rule : Rule K} (p : Progress) (d : Env) (n : ℕ) {e : Env} {m : ℕ} {new : Progress} (r : Result X Stop) → d ≡ e → n ≡ m → Judges shapes see rule (record p { env = d; cost = n }) new r → Judges shapes see rule (record p { env = e; cost = m }) new r
from_other {X} {K} {shapes} {see} {rule} p d n {e} {m} {new} r same equal j = subst (λ (q : Progress). Judges shapes see rule q new r) (λ i. record p { env = same i; cost = equal i }) j

-- and exits
pub from_apart : {X K : Type 0} {shapes : ℕ → Shape} {see : (ℕ → List TakenMutex) → X → K} {rule : Rule K} (p : Progress) (d : Env) (x : Exits) (n : ℕ) {e : Env} {y : Exits} {m : ℕ} {new : Progress} (r : Result X Stop) → d ≡ e → x ≡ y → n ≡ m → Judges shapes see rule (record p { env = d; exits = x; cost = n }) new r → Judges shapes see rule (record p { env = e; exits = y; cost = m }) new r
from_apart {X} {K} {shapes} {see} {rule} p d x n {e} {y} {m} {new} r same alike equal j = subst (λ (q : Progress). Judges shapes see rule q new r) (λ i. record p { env = same i; exits = alike i; cost = equal i }) j

-- from within a loop
pub from_within : {X K : Type 0} {shapes : ℕ → Shape} {see : (ℕ → List TakenMutex) → X → K} {rule : Rule K} (p : Progress) (b : Bool) {d : Bool} {new : Progress} (r : Result X Stop) → b ≡ d → Judges shapes see rule (record p { env = record p.env { looped = b } }) new r → Judges shapes see rule (record p { env = record p.env { looped = d } }) new r
from_within {X} {K} {shapes} {see} {rule} p b {d} {new} r same j = subst (λ (q : Progress). Judges shapes see rule q new r) (λ i. record p { env = record p.env { looped = same i } }) j

-- Terms that stand on no other term's value.
use Rattle.std.proofs.Common.{◌≡◌, ◌∙◌, ℕ, List, [], ◌∷◌, Bool, true, false, Some, Ok, Err, length, refl, sym, ap, subst, arith}
use Rattle.aml_operators.specs.declared.term.Term.{Term}
use Rattle.aml_operators.specs.declared.term.Term.TheViews.{out-Term}
use Rattle.aml_operators.specs.Tree.{Trees, more, none, view, views}
use Rattle.aml_operators.proofs.Views.{view_out}
use Rattle.aml_namespace.specs.declared.link.Link.{Link}
use Rattle.aml_causes.specs.declared.cause.Cause.TheVariants as cause
use Rattle.aml_causes.specs.declared.cause.Refusal.{Refusal}
use Rattle.aml_kinds.specs.Kinds.{IntUpTo, Kind, Shape}
use Rattle.aml_meaning.specs.Actions.{action}
use Rattle.aml_meaning.specs.declared.action.Action.TheVariants as does
use Rattle.aml_meaning.specs.declared.mutex.TakenMutex.{TakenMutex}
use Rattle.aml_judged.specs.Known.{Env, ended}
use Rattle.aml_judged.specs.Judge.{breaking, continuing, if_counts, judged_act, judged_condition, judged_mutex, judged_name, judged_released, judged_size, judged_taken, leaving, refusal, returning}
use Rattle.aml_judged.specs.Judged as judged
use Rattle.aml_judged.specs.Judged.{Always, Around, Judged, Never, Rule, Stops, goes, join_exits, no_exits, then_judge, ◌>>=◌}
use Rattle.aml_known.specs.declared.accepted.Yield.{Yield}
use Rattle.aml_known.specs.declared.accepted.Yield.TheVariants as yield
use Rattle.aml_known.specs.declared.exits.Exits.{Exits}
use Rattle.aml_known.specs.declared.known.Known.{Known}
use Rattle.aml_known.specs.declared.known.Known.TheVariants as known
use Rattle.aml_known.specs.declared.stop.Stop.{Stop}
use Rattle.aml_known.specs.declared.stop.Stop.TheVariants as stop
use Rattle.aml_known.specs.Views.{AreApart, env_of, exits_of, Says, kind_of, yield_of}
use Rattle.aml_known.proofs.Takings.{same_grown}
use Rattle.aml_judging.specs.declared.names.Read.{Read}
use Rattle.aml_judging.specs.declared.progress.Progress.{Progress}
use Rattle.aml_judging.specs.Views.{read_of}
use Rattle.aml_judging.specs.Follows.{Costs, FollowsIn, Gives, Judges, Paid}
use Rattle.aml_judging.proofs.Going.{gives_judges, paid_judges, stops_judge, then_judges}
use Rattle.aml_judging.proofs.Stops.{free_judges, refused_judges, wanting_judges}

module _ (shapes : ℕ → Shape) (here : Around) (w : Bool) (at : ℕ) where
  -- a name alone
  pub name_judges : (parts : Trees) (link : Link) (old new : Progress) (y : Yield) (given : Read) → y ≡ yield.Always given.kind → link ≡ here.link at → Costs (read_of shapes) (λ r. r.events) (judged_name here link at) (Ok given) → Paid given.events old new → Judges shapes (λ l. yield_of shapes) (judged_act here w does.Name at parts) old new (Ok y)
  name_judges parts link old new y given is at_link g p =
      subst (λ (z : Yield). Judges shapes (λ l. yield_of shapes) (judged_act here w does.Name at parts) old new (Ok z)) (sym is)
      (paid_judges {see = yield_of shapes} (λ (z : Yield). given.events) {rule = judged_name here (here.link at) at} {x = yield.Always given.kind} p refl
      (λ env. ap (λ (l : Link). judged_name here l at env) (sym at_link) ∙ g env))

  -- how large something is
  sized_as : (t : Term) (ts : List Term) → views ts ≡ more (view t) none → (env : Env) → judged_act here w does.SizeOf at (views ts) env ≡ then_judge (judged_size here (view t) env) (λ (k : Kind). goes (Always k))
  sized_as t ts one env = ap (λ (parts : Trees). judged_act here w does.SizeOf at parts env) one

  pub sized_judges : (t : Term) (ts : List Term) (p : Progress) (k : Known) → views ts ≡ more (view t) none → FollowsIn shapes (kind_of shapes) (judged_size here (view t)) p.env (Ok k) → Judges shapes (λ l. yield_of shapes) (judged_act here w does.SizeOf at (views ts)) p p (Ok (yield.Always k))
  sized_judges t ts p k one g = free_judges p (yield.Always k) (λ lists apart says.
      sized_as t ts one (env_of shapes lists p.env) ∙ ap (λ (j : Judged Kind). then_judge j (λ (i : Kind). goes (Always i))) (g lists))

  pub sized_stops : (t : Term) (ts : List Term) (p : Progress) (e : Stop) → views ts ≡ more (view t) none → FollowsIn shapes (kind_of shapes) (judged_size here (view t)) p.env (Err e) → Judges shapes (λ l. yield_of shapes) (judged_act here w does.SizeOf at (views ts)) p p (Err e)
  sized_stops t ts p (stop.Refused r) one g = refused_judges p r (λ lists apart says.
      sized_as t ts one (env_of shapes lists p.env) ∙ ap (λ (j : Judged Kind). then_judge j (λ (i : Kind). goes (Always i))) (g lists))
  sized_stops t ts p stop.NoMemory one g = wanting_judges p

  pub not_sized : (ts : List Term) (p : Progress) (r : Refusal) → (length ts ≡ 1 → ⊥) → r ≡ refusal here cause.OutsideProfile at → Judges shapes (λ l. yield_of shapes) (judged_act here w does.SizeOf at (views ts)) p p (Err (stop.Refused r))
  not_sized [] p r differs e = refused_judges p r (λ lists apart says. ap Stops (sym e))
  not_sized (x ∷ []) p r differs e = absurd (differs refl)
  not_sized (x ∷ y ∷ ts) p r differs e = refused_judges p r (λ lists apart says. ap Stops (sym e))

  -- whether something has a name
  pub asked_judges : (s t : Term) (ts : List Term) (p : Progress) (k : Known) → views ts ≡ more (view s) (more (view t) none) → ((env : Env) → judged_condition here at (view s) (view t) env ≡ judged.Goes (Always (kind_of shapes k)) env no_exits 0) → Judges shapes (λ l. yield_of shapes) (judged_act here w does.CondRefOf at (views ts)) p p (Ok (yield.Always k))
  asked_judges s t ts p k two g = free_judges p (yield.Always k) (λ lists apart says.
      ap (λ (parts : Trees). judged_act here w does.CondRefOf at parts (env_of shapes lists p.env)) two ∙ g (env_of shapes lists p.env))

  pub not_asked : (ts : List Term) (p : Progress) (r : Refusal) → (length ts ≡ 2 → ⊥) → r ≡ refusal here cause.OutsideProfile at → Judges shapes (λ l. yield_of shapes) (judged_act here w does.CondRefOf at (views ts)) p p (Err (stop.Refused r))
  not_asked [] p r differs e = refused_judges p r (λ lists apart says. ap Stops (sym e))
  not_asked (x ∷ []) p r differs e = refused_judges p r (λ lists apart says. ap Stops (sym e))
  not_asked (x ∷ y ∷ []) p r differs e = absurd (differs refl)
  not_asked (x ∷ y ∷ z ∷ ts) p r differs e = refused_judges p r (λ lists apart says. ap Stops (sym e))

  -- mutexes that are taken and released
  abbrev taking_it : TakenMutex → Rule judged.Yield
  taking_it m = judged_taken here at m >>= (λ (u : Unit {0}). goes (Always (IntUpTo 0)))

  abbrev releasing_it : TakenMutex → Rule judged.Yield
  releasing_it m = judged_released here at m >>= (λ (u : Unit {0}). goes Never)

  abbrev mutex_of : Term → Rule TakenMutex
  mutex_of o = judged_mutex here at (action (out-Term o).op) (out-Term o).at

  acquire_as : (o u : Term) (ts : List Term) → views ts ≡ more (view o) (more (view u) none) → judged_act here w does.Acquire at (views ts) ≡ (mutex_of o >>= (λ (m : TakenMutex). taking_it m))
  acquire_as o u ts two = ap (λ (parts : Trees). judged_act here w does.Acquire at parts) (two ∙ (λ i. more (view_out o i) (more (view u) none)))

  release_as : (o : Term) (ts : List Term) → views ts ≡ more (view o) none → judged_act here w does.Release at (views ts) ≡ (mutex_of o >>= (λ (m : TakenMutex). releasing_it m))
  release_as o ts one = ap (λ (parts : Trees). judged_act here w does.Release at parts) (one ∙ (λ i. more (view_out o i) none))

  pub acquires_judges : (o u : Term) (ts : List Term) (m : TakenMutex) (old new : Progress) → views ts ≡ more (view o) (more (view u) none) → Gives (λ (n : TakenMutex). n) (mutex_of o) (Ok m) → Judges shapes (λ l (v : Unit {0}). v) (judged_taken here at m) old new (Ok tt) → Judges shapes (λ l. yield_of shapes) (judged_act here w does.Acquire at (views ts)) old new (Ok (yield.Always (known.Int 0)))
  acquires_judges o u ts m old new two g j =
      subst (λ (rule : Rule judged.Yield). Judges shapes (λ l. yield_of shapes) rule old new (Ok (yield.Always (known.Int 0)))) (sym (acquire_as o u ts two))
      (then_judges {see = λ (n : TakenMutex). n} {m = mutex_of o} (λ (n : TakenMutex). taking_it n) {x = m} (Ok (yield.Always (known.Int 0)))
      (gives_judges {see = λ (n : TakenMutex). n} old m g)
      (then_judges {see = λ (v : Unit {0}). v} {m = judged_taken here at m} (λ (v : Unit {0}). goes (Always (IntUpTo 0))) {x = tt} (Ok (yield.Always (known.Int 0))) j
      (gives_judges {see = yield_of shapes} {rule = goes (Always (IntUpTo 0))} new (yield.Always (known.Int 0)) (λ env. refl))))

  pub acquires_stops : (o u : Term) (ts : List Term) (m : TakenMutex) (old new : Progress) (e : Stop) → views ts ≡ more (view o) (more (view u) none) → Gives (λ (n : TakenMutex). n) (mutex_of o) (Ok m) → Judges shapes (λ l (v : Unit {0}). v) (judged_taken here at m) old new (Err e) → Judges shapes (λ l. yield_of shapes) (judged_act here w does.Acquire at (views ts)) old new (Err e)
  acquires_stops o u ts m old new e two g j =
      subst (λ (rule : Rule judged.Yield). Judges shapes (λ l. yield_of shapes) rule old new (Err e)) (sym (acquire_as o u ts two))
      (then_judges {see = λ (n : TakenMutex). n} {m = mutex_of o} (λ (n : TakenMutex). taking_it n) {x = m} (Err e)
      (gives_judges {see = λ (n : TakenMutex). n} old m g)
      (stops_judge {see = λ (v : Unit {0}). v} {m = judged_taken here at m} (λ (v : Unit {0}). goes (Always (IntUpTo 0))) e j))

  pub acquires_none : (o u : Term) (ts : List Term) (p : Progress) (r : Refusal) → views ts ≡ more (view o) (more (view u) none) → Gives (λ (n : TakenMutex). n) (mutex_of o) (Err r) → Judges shapes (λ l. yield_of shapes) (judged_act here w does.Acquire at (views ts)) p p (Err (stop.Refused r))
  acquires_none o u ts p r two g = refused_judges p r (λ lists apart says.
      ap (λ (rule : Rule judged.Yield). rule (env_of shapes lists p.env)) (acquire_as o u ts two)
      ∙ ap (λ (j : Judged TakenMutex). then_judge j (λ (m : TakenMutex). taking_it m)) (g (env_of shapes lists p.env)))

  pub not_acquired : (ts : List Term) (p : Progress) (r : Refusal) → (length ts ≡ 2 → ⊥) → r ≡ refusal here cause.OutsideProfile at → Judges shapes (λ l. yield_of shapes) (judged_act here w does.Acquire at (views ts)) p p (Err (stop.Refused r))
  not_acquired [] p r differs e = refused_judges p r (λ lists apart says. ap Stops (sym e))
  not_acquired (x ∷ []) p r differs e = refused_judges p r (λ lists apart says. ap Stops (sym e))
  not_acquired (x ∷ y ∷ []) p r differs e = absurd (differs refl)
  not_acquired (x ∷ y ∷ z ∷ ts) p r differs e = refused_judges p r (λ lists apart says. ap Stops (sym e))

  pub releases_it : (o : Term) (ts : List Term) (m : TakenMutex) (old new : Progress) → views ts ≡ more (view o) none → Gives (λ (n : TakenMutex). n) (mutex_of o) (Ok m) → Judges shapes (λ l (v : Unit {0}). v) (judged_released here at m) old new (Ok tt) → Judges shapes (λ l. yield_of shapes) (judged_act here w does.Release at (views ts)) old new (Ok yield.Never)
  releases_it o ts m old new one g j =
      subst (λ (rule : Rule judged.Yield). Judges shapes (λ l. yield_of shapes) rule old new (Ok yield.Never)) (sym (release_as o ts one))
      (then_judges {see = λ (n : TakenMutex). n} {m = mutex_of o} (λ (n : TakenMutex). releasing_it n) {x = m} (Ok yield.Never)
      (gives_judges {see = λ (n : TakenMutex). n} old m g)
      (then_judges {see = λ (v : Unit {0}). v} {m = judged_released here at m} (λ (v : Unit {0}). goes Never) {x = tt} (Ok yield.Never) j
      (gives_judges {see = yield_of shapes} {rule = goes Never} new yield.Never (λ env. refl))))

  pub releases_stops : (o : Term) (ts : List Term) (m : TakenMutex) (old new : Progress) (e : Stop) → views ts ≡ more (view o) none → Gives (λ (n : TakenMutex). n) (mutex_of o) (Ok m) → Judges shapes (λ l (v : Unit {0}). v) (judged_released here at m) old new (Err e) → Judges shapes (λ l. yield_of shapes) (judged_act here w does.Release at (views ts)) old new (Err e)
  releases_stops o ts m old new e one g j =
      subst (λ (rule : Rule judged.Yield). Judges shapes (λ l. yield_of shapes) rule old new (Err e)) (sym (release_as o ts one))
      (then_judges {see = λ (n : TakenMutex). n} {m = mutex_of o} (λ (n : TakenMutex). releasing_it n) {x = m} (Err e)
      (gives_judges {see = λ (n : TakenMutex). n} old m g)
      (stops_judge {see = λ (v : Unit {0}). v} {m = judged_released here at m} (λ (v : Unit {0}). goes Never) e j))

  pub releases_none : (o : Term) (ts : List Term) (p : Progress) (r : Refusal) → views ts ≡ more (view o) none → Gives (λ (n : TakenMutex). n) (mutex_of o) (Err r) → Judges shapes (λ l. yield_of shapes) (judged_act here w does.Release at (views ts)) p p (Err (stop.Refused r))
  releases_none o ts p r one g = refused_judges p r (λ lists apart says.
      ap (λ (rule : Rule judged.Yield). rule (env_of shapes lists p.env)) (release_as o ts one)
      ∙ ap (λ (j : Judged TakenMutex). then_judge j (λ (m : TakenMutex). releasing_it m)) (g (env_of shapes lists p.env)))

  pub not_releasing : (ts : List Term) (p : Progress) (r : Refusal) → (length ts ≡ 1 → ⊥) → r ≡ refusal here cause.OutsideProfile at → Judges shapes (λ l. yield_of shapes) (judged_act here w does.Release at (views ts)) p p (Err (stop.Refused r))
  not_releasing [] p r differs e = refused_judges p r (λ lists apart says. ap Stops (sym e))
  not_releasing (x ∷ []) p r differs e = absurd (differs refl)
  not_releasing (x ∷ y ∷ ts) p r differs e = refused_judges p r (λ lists apart says. ap Stops (sym e))

-- ways that end
module _ (shapes : ℕ → Shape) (here : Around) (at : ℕ) (old : Progress) (x : Exits) where
  -- the same behind an exit that counts
  abbrev left : Progress
  left = record old { env = record old.env { counts = false }; exits = x }

  pub breaks_judges : old.env.looped ≡ true → old.env.counts ≡ true → ((lists : ℕ → List TakenMutex) → AreApart shapes → Says lists old.locks.takings.items → exits_of shapes lists x ≡ join_exits (exits_of shapes lists old.exits) (record no_exits { broke = Some (env_of shapes lists old.env) })) → Judges shapes (λ l. yield_of shapes) (breaking here at) old left (Ok yield.Never)
  breaks_judges looped counts joins = record {
    read = λ h. h;
    grows = same_grown old.locks.takings.items;
    follows = λ lists apart says.
        let env : Env = env_of shapes lists old.env in
        record {
          exits = record no_exits { broke = Some env };
          cost = 0;
          goes =
              ap (λ (b : Bool). leaving here b at (record no_exits { broke = if_counts here old.env.counts env }) env) looped
              ∙ ap (λ (b : Bool). judged.Goes Never (ended env) (record no_exits { broke = if_counts here b env }) 0) counts;
          joined = joins lists apart says;
          counted = omega arith;
        };
  }

  pub continues_judges : old.env.looped ≡ true → old.env.counts ≡ true → ((lists : ℕ → List TakenMutex) → AreApart shapes → Says lists old.locks.takings.items → exits_of shapes lists x ≡ join_exits (exits_of shapes lists old.exits) (record no_exits { continued = Some (env_of shapes lists old.env) })) → Judges shapes (λ l. yield_of shapes) (continuing here at) old left (Ok yield.Never)
  continues_judges looped counts joins = record {
    read = λ h. h;
    grows = same_grown old.locks.takings.items;
    follows = λ lists apart says.
        let env : Env = env_of shapes lists old.env in
        record {
          exits = record no_exits { continued = Some env };
          cost = 0;
          goes =
              ap (λ (b : Bool). leaving here b at (record no_exits { continued = if_counts here old.env.counts env }) env) looped
              ∙ ap (λ (b : Bool). judged.Goes Never (ended env) (record no_exits { continued = if_counts here b env }) 0) counts;
          joined = joins lists apart says;
          counted = omega arith;
        };
  }

  pub returns_judges : (k : Known) → old.env.counts ≡ true → ((lists : ℕ → List TakenMutex) → AreApart shapes → exits_of shapes lists x ≡ join_exits (exits_of shapes lists old.exits) (record no_exits { returned = Some (kind_of shapes k) })) → Judges shapes (λ l. yield_of shapes) (returning here (kind_of shapes k)) old left (Ok yield.Never)
  returns_judges k counts joins = record {
    read = λ h. h;
    grows = same_grown old.locks.takings.items;
    follows = λ lists apart says.
        let env : Env = env_of shapes lists old.env in
        record {
          exits = record no_exits { returned = Some (kind_of shapes k) };
          cost = 0;
          goes = ap (λ (b : Bool). judged.Goes Never (ended env) (record no_exits { returned = if_counts here b (kind_of shapes k) }) 0) counts;
          joined = joins lists apart;
          counted = omega arith;
        };
  }

-- and that didn't count
module _ (shapes : ℕ → Shape) (here : Around) (at : ℕ) (p : Progress) where
  pub breaks_unseen : p.env.looped ≡ true → p.env.counts ≡ false → Judges shapes (λ l. yield_of shapes) (breaking here at) p p (Ok yield.Never)
  breaks_unseen looped counts = free_judges p yield.Never (λ lists apart says.
      let env : Env = env_of shapes lists p.env in
      ap (λ (b : Bool). leaving here b at (record no_exits { broke = if_counts here p.env.counts env }) env) looped
      ∙ ap (λ (b : Bool). judged.Goes Never (ended env) (record no_exits { broke = if_counts here b env }) 0) counts
      ∙ ap (λ (b : Bool). judged.Goes Never (record env { counts = b }) no_exits 0) (sym counts))

  pub continues_unseen : p.env.looped ≡ true → p.env.counts ≡ false → Judges shapes (λ l. yield_of shapes) (continuing here at) p p (Ok yield.Never)
  continues_unseen looped counts = free_judges p yield.Never (λ lists apart says.
      let env : Env = env_of shapes lists p.env in
      ap (λ (b : Bool). leaving here b at (record no_exits { continued = if_counts here p.env.counts env }) env) looped
      ∙ ap (λ (b : Bool). judged.Goes Never (ended env) (record no_exits { continued = if_counts here b env }) 0) counts
      ∙ ap (λ (b : Bool). judged.Goes Never (record env { counts = b }) no_exits 0) (sym counts))

  pub returns_unseen : (k : Known) → p.env.counts ≡ false → Judges shapes (λ l. yield_of shapes) (returning here (kind_of shapes k)) p p (Ok yield.Never)
  returns_unseen k counts = free_judges p yield.Never (λ lists apart says.
      let env : Env = env_of shapes lists p.env in
      ap (λ (b : Bool). judged.Goes Never (ended env) (record no_exits { returned = if_counts here b (kind_of shapes k) }) 0) counts
      ∙ ap (λ (b : Bool). judged.Goes Never (record env { counts = b }) no_exits 0) (sym counts))

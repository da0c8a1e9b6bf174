-- Mutexes that are taken, released, or held no longer.
use Rattle.std.proofs.Common.{◌≡◌, ◌∙◌, ℕ, ◌<◌, ◌≤◌, List, [], ◌∷◌, ◌++◌, Bool, true, false, Option, Some, None, IfSome, Ok, Err, refl, sym, ap, arith}
use Rattle.std.specs.Prelude.{nat_le}
use Rattle.std.specs.Option.{option_map}
use Rattle.std.proofs.lemmas.Bool.{le-leb, lt-leb}
use Rattle.aml_causes.specs.declared.cause.Cause.TheVariants as cause
use Rattle.aml_causes.specs.declared.cause.Refusal.{Refusal}
use Rattle.aml_kinds.specs.Kinds.{Shape}
use Rattle.aml_meaning.specs.declared.mutex.TakenMutex.{TakenMutex}
use Rattle.aml_meaning.specs.Mutexes.{without_last}
use Rattle.aml_meaning.specs.State.{greatest_level}
use Rattle.aml_judged.specs.Known as known
use Rattle.aml_judged.specs.Known.{same_held, same_mutexes, with_mutexes}
use Rattle.aml_judged.specs.Judge.{holding_by, is_level, judged_levels, judged_none_held, judged_released, judged_taken, level_or, none_held_at, refusal, released_or, taken_or}
use Rattle.aml_judged.specs.Judged as judged
use Rattle.aml_judged.specs.Judged.{Around, join_exits, no_exits, Stops, taking}
use Rattle.aml_known.specs.declared.exits.Exits.{Exits}
use Rattle.aml_known.specs.declared.locks.Held.{Held}
use Rattle.aml_known.specs.declared.locks.Held.TheVariants as held
use Rattle.aml_known.specs.declared.locks.Locks.{Locks}
use Rattle.aml_known.specs.declared.stop.Stop.TheVariants as stop
use Rattle.aml_known.specs.Views.{CanBeRead, IsCertain, env_of, exits_of, Grown, Says, held_of, mutexes_of}
use Rattle.aml_known.proofs.Takings.{same_grown}
use Rattle.aml_judging.specs.declared.progress.Progress.{Progress}
use Rattle.aml_judging.specs.Follows.{Judges}
use Rattle.aml_judging.proofs.Stops.{free_judges, no_exits_more, refused_judges}

certain_held : (lists : ℕ → List TakenMutex) (h : Held) → (h ≡ held.Different → ⊥) → held_of lists h ≡ known.These (mutexes_of lists h)
certain_held lists held.Nothing e = refl
certain_held lists (held.UpTo i) e = refl
certain_held lists held.Different e = absurd (e refl)

is_certain : (lists : ℕ → List TakenMutex) (h : Held) → IsCertain h → held_of lists h ≡ known.These (mutexes_of lists h)
is_certain lists held.Nothing e = refl
is_certain lists (held.UpTo i) e = refl
is_certain lists held.Different e = absurd e

certain_some : (o : Option Held) (h : Held) → o ≡ Some h → IfSome o IsCertain → IsCertain h
certain_some o h e c = rw e at c

none_left : (here : Around) (at : ℕ) (h : known.Held) (env : known.Env) → same_held h (known.These []) ≡ true → none_held_at here true h at env ≡ judged.Goes tt env no_exits 0
none_left here at (known.These []) env e = refl
none_left here at (known.These (m ∷ ms)) env e = absurd cc
none_left here at known.Different env e = absurd cc

some_left : (here : Around) (at : ℕ) (h : known.Held) (env : known.Env) → same_held h (known.These []) ≡ false → none_held_at here true h at env ≡ Stops (refusal here cause.StillHeld at)
some_left here at (known.These []) env e = absurd cc
some_left here at (known.These (m ∷ ms)) env e = refl
some_left here at known.Different env e = refl

module _ (shapes : ℕ → Shape) (here : Around) (at : ℕ) (old : Progress) where
  pub takes_judges : (m : TakenMutex) (exits : Exits) (locks : Locks) (now : Held) (level : ℕ) → (old.env.held ≡ held.Different → ⊥) → ((lists : ℕ → List TakenMutex) → Says lists old.locks.takings.items → level ≡ greatest_level 0 (mutexes_of lists old.env.held)) → level ≤ m.level → ((lists : ℕ → List TakenMutex) → Says lists locks.takings.items → held_of lists now ≡ known.These (mutexes_of lists old.env.held ++ m ∷ [])) → Grown old.locks.takings.items locks.takings.items → (CanBeRead old.locks.takings.items → CanBeRead locks.takings.items) → ((lists : ℕ → List TakenMutex) → Says lists locks.takings.items → Says lists old.locks.takings.items) → ((lists : ℕ → List TakenMutex) → exits_of shapes lists exits ≡ join_exits (exits_of shapes lists old.exits) (taking (Some m.level))) → Judges shapes (λ l (u : Unit {0}). u) (judged_taken here at m) old (record old { env = record old.env { held = now }; exits = exits; locks = locks }) (Ok tt)
  takes_judges m exits locks now level differs greatest le takes grows read earlier joined = record {
    read = read;
    grows = grows;
    follows = λ lists apart says.
        let ms : List TakenMutex = mutexes_of lists old.env.held in
        let yes : nat_le (greatest_level 0 ms) m.level ≡ true = ap (λ (n : ℕ). nat_le n m.level) (sym (greatest lists (earlier lists says))) ∙ le-leb level m.level le in
        record {
          exits = taking (Some m.level);
          cost = 0;
          goes =
              ap (λ (h : known.Held). holding_by here at (λ ns. taken_or here (nat_le (greatest_level 0 ns) m.level) at m ns) h (env_of shapes lists old.env)) (certain_held lists old.env.held differs)
              ∙ ap (λ (b : Bool). taken_or here b at m ms (env_of shapes lists old.env)) yes
              ∙ ap (λ (h : known.Held). judged.Goes tt (record (env_of shapes lists old.env) { held = h }) (taking (Some m.level)) 0) (sym (takes lists says));
          joined = joined lists;
          counted = omega arith;
        };
  }

  pub low_judges : (m : TakenMutex) (level : ℕ) (r : Refusal) → (old.env.held ≡ held.Different → ⊥) → ((lists : ℕ → List TakenMutex) → Says lists old.locks.takings.items → level ≡ greatest_level 0 (mutexes_of lists old.env.held)) → m.level < level → r ≡ refusal here cause.Level at → Judges shapes (λ l (u : Unit {0}). u) (judged_taken here at m) old old (Err (stop.Refused r))
  low_judges m level r differs greatest lt e = refused_judges old r (λ lists apart says.
      let ms : List TakenMutex = mutexes_of lists old.env.held in
      let no : nat_le (greatest_level 0 ms) m.level ≡ false = ap (λ (n : ℕ). nat_le n m.level) (sym (greatest lists says)) ∙ lt-leb level m.level lt in
      ap (λ (h : known.Held). holding_by here at (λ ns. taken_or here (nat_le (greatest_level 0 ns) m.level) at m ns) h (env_of shapes lists old.env)) (certain_held lists old.env.held differs)
      ∙ ap (λ (b : Bool). taken_or here b at m ms (env_of shapes lists old.env)) no
      ∙ ap Stops (sym e))

  pub releases_judges : (m : TakenMutex) (o : Option Held) (now : Held) → (old.env.held ≡ held.Different → ⊥) → o ≡ Some now → ((lists : ℕ → List TakenMutex) → Says lists old.locks.takings.items → option_map (mutexes_of lists) o ≡ without_last m.object.0 (mutexes_of lists old.env.held)) → IfSome o IsCertain → Judges shapes (λ l (u : Unit {0}). u) (judged_released here at m) old (record old { env = record old.env { held = now } }) (Ok tt)
  releases_judges m o now differs is releases certain = record {
    read = λ h. h;
    grows = same_grown old.locks.takings.items;
    follows = λ lists apart says. record {
      exits = no_exits;
      cost = 0;
      goes =
          ap (λ (h : known.Held). holding_by here at (λ ns. released_or here (without_last m.object.0 ns) at) h (env_of shapes lists old.env)) (certain_held lists old.env.held differs)
          ∙ ap (λ (l : Option (List TakenMutex)). released_or here l at (env_of shapes lists old.env)) (sym (releases lists says) ∙ ap (option_map (mutexes_of lists)) is)
          ∙ ap (λ (h : known.Held). judged.Goes tt (record (env_of shapes lists old.env) { held = h }) no_exits 0) (sym (is_certain lists now (certain_some o now is certain)));
      joined = no_exits_more (exits_of shapes lists old.exits);
      counted = omega arith;
    };
  }

  pub not_released : (m : TakenMutex) (o : Option Held) (r : Refusal) → (old.env.held ≡ held.Different → ⊥) → o ≡ None → ((lists : ℕ → List TakenMutex) → Says lists old.locks.takings.items → option_map (mutexes_of lists) o ≡ without_last m.object.0 (mutexes_of lists old.env.held)) → r ≡ refusal here cause.NotHeld at → Judges shapes (λ l (u : Unit {0}). u) (judged_released here at m) old old (Err (stop.Refused r))
  not_released m o r differs is releases e = refused_judges old r (λ lists apart says.
      ap (λ (h : known.Held). holding_by here at (λ ns. released_or here (without_last m.object.0 ns) at) h (env_of shapes lists old.env)) (certain_held lists old.env.held differs)
      ∙ ap (λ (l : Option (List TakenMutex)). released_or here l at (env_of shapes lists old.env)) (sym (releases lists says) ∙ ap (option_map (mutexes_of lists)) is)
      ∙ ap Stops (sym e))

  pub level_judges : (least : Option ℕ) (may : Bool) → (old.env.held ≡ held.Different → ⊥) → may ≡ true → ((lists : ℕ → List TakenMutex) → Says lists old.locks.takings.items → may ≡ is_level here least (mutexes_of lists old.env.held)) → Judges shapes (λ l (u : Unit {0}). u) (judged_levels here at least) old old (Ok tt)
  level_judges least may differs is tells = free_judges old tt (λ lists apart says.
      ap (λ (h : known.Held). holding_by here at (λ ns. level_or here (is_level here least ns) at) h (env_of shapes lists old.env)) (certain_held lists old.env.held differs)
      ∙ ap (λ (b : Bool). level_or here b at (env_of shapes lists old.env)) (sym (tells lists says) ∙ is))

  pub no_level_judges : (least : Option ℕ) (may : Bool) (r : Refusal) → (old.env.held ≡ held.Different → ⊥) → may ≡ false → ((lists : ℕ → List TakenMutex) → Says lists old.locks.takings.items → may ≡ is_level here least (mutexes_of lists old.env.held)) → r ≡ refusal here cause.Level at → Judges shapes (λ l (u : Unit {0}). u) (judged_levels here at least) old old (Err (stop.Refused r))
  no_level_judges least may r differs is tells e = refused_judges old r (λ lists apart says.
      ap (λ (h : known.Held). holding_by here at (λ ns. level_or here (is_level here least ns) at) h (env_of shapes lists old.env)) (certain_held lists old.env.held differs)
      ∙ ap (λ (b : Bool). level_or here b at (env_of shapes lists old.env)) (sym (tells lists says) ∙ is)
      ∙ ap Stops (sym e))

  pub uncounted_judges : old.env.counts ≡ false → Judges shapes (λ l (u : Unit {0}). u) (judged_none_held here at) old old (Ok tt)
  uncounted_judges e = free_judges old tt (λ lists apart says.
      ap (λ (b : Bool). none_held_at here b (held_of lists old.env.held) at (env_of shapes lists old.env)) e)

  pub none_held_judges : (same : Bool) → old.env.counts ≡ true → same ≡ true → ((lists : ℕ → List TakenMutex) → Says lists old.locks.takings.items → same ≡ same_held (held_of lists old.env.held) (known.These [])) → Judges shapes (λ l (u : Unit {0}). u) (judged_none_held here at) old old (Ok tt)
  none_held_judges same counts is tells = free_judges old tt (λ lists apart says.
      ap (λ (b : Bool). none_held_at here b (held_of lists old.env.held) at (env_of shapes lists old.env)) counts
      ∙ none_left here at (held_of lists old.env.held) (env_of shapes lists old.env) (sym (tells lists says) ∙ is))

  pub held_judges : (same : Bool) (r : Refusal) → old.env.counts ≡ true → same ≡ false → ((lists : ℕ → List TakenMutex) → Says lists old.locks.takings.items → same ≡ same_held (held_of lists old.env.held) (known.These [])) → r ≡ refusal here cause.StillHeld at → Judges shapes (λ l (u : Unit {0}). u) (judged_none_held here at) old old (Err (stop.Refused r))
  held_judges same r counts is tells e = refused_judges old r (λ lists apart says.
      ap (λ (b : Bool). none_held_at here b (held_of lists old.env.held) at (env_of shapes lists old.env)) counts
      ∙ some_left here at (held_of lists old.env.held) (env_of shapes lists old.env) (sym (tells lists says) ∙ is)
      ∙ ap Stops (sym e))

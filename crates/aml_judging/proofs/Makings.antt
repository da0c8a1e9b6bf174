-- What definitions at the top of a body make.
use Rattle.std.proofs.Common.{◌≡◌, ◌≤◌, ◌<◌, ℕ, zero, suc, List, [], ◌∷◌, drop, length, get_or, true, Some, Err, refl, sym, ap, subst, arith}
use Rattle.std.specs.Option.{option_map}
use Rattle.aml_kinds.specs.Kinds.{Kind, Shape}
use Rattle.aml_operators.specs.declared.op.Op.{Op}
use Rattle.aml_operators.specs.declared.term.Term.{Term}
use Rattle.aml_operators.specs.Literal.{literal_of}
use Rattle.aml_operators.specs.Tree.{Tree, Trees, Node, none, more, views}
use Rattle.aml_objects.specs.declared.object.CreatedFieldSize.{CreatedFieldSize}
use Rattle.aml_objects.specs.declared.object.CreatedFieldSize.TheVariants as size
use Rattle.aml_meaning.specs.Actions.{action}
use Rattle.aml_meaning.specs.Definitions.{definition, source_of}
use Rattle.aml_meaning.specs.declared.definition.Definition.{Definition}
use Rattle.aml_meaning.specs.Meaning.{at_of}
use Rattle.aml_meaning.specs.declared.definition.Definition.TheVariants as makes
use Rattle.aml_judged.specs.Causes as cause
use Rattle.aml_judged.specs.Known.{Env}
use Rattle.aml_judged.specs.Judged as judged
use Rattle.aml_judged.specs.Judged.{Around, Judged, no_exits, Rule, Stops, goes, step, ◌>>=◌}
use Rattle.aml_judged.specs.Judge as judge
use Rattle.aml_judged.specs.Judge.{refusal}
use Rattle.aml_judged.specs.Bodies.{Holding, Made, Nothing, first_kind_by, judged_field_made, judged_made, judged_stated, judged_statement, may_make}
use Rattle.aml_known.specs.declared.stop.Stop.{Stop}
use Rattle.aml_known.specs.declared.stop.Stop.TheVariants as stop
use Rattle.aml_known.specs.Views.{CanBeRead, Grown, env_of}
use Rattle.aml_known.proofs.Takings.{same_grown}
use Rattle.aml_judging.specs.declared.progress.Progress.{Progress}
use Rattle.aml_judging.specs.Follows.{Judges, Paid, given_if_memory}

-- what was paid for stops
pub paid_stops : {X K : Type 0} {shapes : ℕ → Shape} (see : X → K) (rule : Rule K) {old new : Progress} {n : ℕ} → Paid n old new → (e : Stop) → ((env : Env) → given_if_memory see rule env (Err e)) → Judges shapes (λ l. see) rule old new (Err e)
paid_stops {shapes} see rule {old} {new} p (stop.Refused r) g = record {
  grows = subst (Grown old.locks.takings.items) (sym p.takings) (same_grown old.locks.takings.items);
  read = subst CanBeRead (sym p.takings);
  follows = λ lists apart says. g (env_of shapes lists old.env);
}
paid_stops {shapes} see rule {old} {new} p stop.NoMemory g = record {
  grows = subst (Grown old.locks.takings.items) (sym p.takings) (same_grown old.locks.takings.items);
  read = subst CanBeRead (sym p.takings);
  follows = λ lists apart says. tt;
}

pub three_are : (ts : List Term) (d e f : Term) → 3 ≤ length ts → length ts < 4 → d ≡ get_or ts 0 d → e ≡ get_or ts 1 e → f ≡ get_or ts 2 f → ts ≡ d ∷ e ∷ f ∷ []
three_are [] d e f h l p q r = absurd (omega (arith, h))
three_are (a ∷ []) d e f h l p q r = absurd (omega (arith, h))
three_are (a ∷ b ∷ []) d e f h l p q r = absurd (omega (arith, h))
three_are (a ∷ b ∷ x ∷ []) d e f h l p q r = λ i. sym p i ∷ sym q i ∷ sym r i ∷ []
three_are (a ∷ b ∷ x ∷ y ∷ ys) d e f h l p q r = absurd (omega (arith, l))

pub four_are : (ts : List Term) (d e f g : Term) → 4 ≤ length ts → length ts < 5 → d ≡ get_or ts 0 d → e ≡ get_or ts 1 e → f ≡ get_or ts 2 f → g ≡ get_or ts 3 g → ts ≡ d ∷ e ∷ f ∷ g ∷ []
four_are [] d e f g h l p q r s = absurd (omega (arith, h))
four_are (a ∷ []) d e f g h l p q r s = absurd (omega (arith, h))
four_are (a ∷ b ∷ []) d e f g h l p q r s = absurd (omega (arith, h))
four_are (a ∷ b ∷ x ∷ []) d e f g h l p q r s = absurd (omega (arith, h))
four_are (a ∷ b ∷ x ∷ y ∷ []) d e f g h l p q r s = λ i. sym p i ∷ sym q i ∷ sym r i ∷ sym s i ∷ []
four_are (a ∷ b ∷ x ∷ y ∷ z ∷ zs) d e f g h l p q r s = absurd (omega (arith, l))

module _ (here : Around) (at : ℕ) where
  pub name_goes : (name data' : Tree) (k : Kind) (o : Op) (from stop : ℕ) (ts : Trees) → data' ≡ Node o from stop ts → may_make here (at_of name) ≡ true → ((env : Env) → first_kind_by here (action o) from ts env ≡ judged.Goes k env no_exits 0) → (env : Env) → judged_made here makes.Name at (more name (more data' none)) env ≡ judged.Goes (Holding k) env no_exits 1
  name_goes name data' k o from stop ts e may first env = rw (may, e, first env) refl

  pub name_stops : {X : Type 0} {Y : Type 0} (see : X → Kind) (say : Y → Made) (name data' : Tree) (o : Op) (from end : ℕ) (ts : Trees) → data' ≡ Node o from end ts → may_make here (at_of name) ≡ true → (e : Stop) → ((env : Env) → given_if_memory see (first_kind_by here (action o) from ts) env (Err e)) → (env : Env) → given_if_memory say (judged_made here makes.Name at (more name (more data' none))) env (Err e)
  name_stops see say name data' o from end ts e may (stop.Refused r) first env = rw (may, e, first env) refl
  name_stops see say name data' o from end ts e may stop.NoMemory first env = tt

  pub sized_goes : (counted : CreatedFieldSize) (from index name : Tree) (j : Judged Made) (env : Env) → may_make here (at_of name) ≡ true → judged_field_made here at (source_of from) (literal_of index) (Some counted) env ≡ j → judged_made here (makes.Field counted) at (more from (more index (more name none))) env ≡ j
  sized_goes counted from index name j env may h = rw may h

  pub counted_goes : (from index count name : Tree) (j : Judged Made) (env : Env) → may_make here (at_of name) ≡ true → judged_field_made here at (source_of from) (literal_of index) (option_map size.Bits (literal_of count)) env ≡ j → judged_made here makes.CountedField at (more from (more index (more count (more name none)))) env ≡ j
  counted_goes from index count name j env may h = rw may h

  pub name_few : (ts : List Term) (env : Env) → length ts < 2 → judged_made here makes.Name at (views ts) env ≡ Stops (refusal here cause.OutsideProfile at)
  name_few [] env lt = refl
  name_few (a ∷ []) env lt = refl
  name_few (a ∷ b ∷ xs) env lt = absurd (omega (arith, lt))

  pub name_many : (ts : List Term) (env : Env) → 3 ≤ length ts → judged_made here makes.Name at (views ts) env ≡ Stops (refusal here cause.OutsideProfile at)
  name_many [] env le = absurd (omega (arith, le))
  name_many (a ∷ []) env le = absurd (omega (arith, le))
  name_many (a ∷ b ∷ []) env le = absurd (omega (arith, le))
  name_many (a ∷ b ∷ x ∷ xs) env le = refl

  pub sized_few : (counted : CreatedFieldSize) (ts : List Term) (env : Env) → length ts < 3 → judged_made here (makes.Field counted) at (views ts) env ≡ Stops (refusal here cause.OutsideProfile at)
  sized_few counted [] env lt = refl
  sized_few counted (a ∷ []) env lt = refl
  sized_few counted (a ∷ b ∷ []) env lt = refl
  sized_few counted (a ∷ b ∷ x ∷ xs) env lt = absurd (omega (arith, lt))

  pub sized_many : (counted : CreatedFieldSize) (ts : List Term) (env : Env) → 4 ≤ length ts → judged_made here (makes.Field counted) at (views ts) env ≡ Stops (refusal here cause.OutsideProfile at)
  sized_many counted [] env le = absurd (omega (arith, le))
  sized_many counted (a ∷ []) env le = absurd (omega (arith, le))
  sized_many counted (a ∷ b ∷ []) env le = absurd (omega (arith, le))
  sized_many counted (a ∷ b ∷ x ∷ []) env le = absurd (omega (arith, le))
  sized_many counted (a ∷ b ∷ x ∷ y ∷ ys) env le = refl

  pub counted_few : (ts : List Term) (env : Env) → length ts < 4 → judged_made here makes.CountedField at (views ts) env ≡ Stops (refusal here cause.OutsideProfile at)
  counted_few [] env lt = refl
  counted_few (a ∷ []) env lt = refl
  counted_few (a ∷ b ∷ []) env lt = refl
  counted_few (a ∷ b ∷ x ∷ []) env lt = refl
  counted_few (a ∷ b ∷ x ∷ y ∷ ys) env lt = absurd (omega (arith, lt))

  pub counted_many : (ts : List Term) (env : Env) → 5 ≤ length ts → judged_made here makes.CountedField at (views ts) env ≡ Stops (refusal here cause.OutsideProfile at)
  counted_many [] env le = absurd (omega (arith, le))
  counted_many (a ∷ []) env le = absurd (omega (arith, le))
  counted_many (a ∷ b ∷ []) env le = absurd (omega (arith, le))
  counted_many (a ∷ b ∷ x ∷ []) env le = absurd (omega (arith, le))
  counted_many (a ∷ b ∷ x ∷ y ∷ []) env le = absurd (omega (arith, le))
  counted_many (a ∷ b ∷ x ∷ y ∷ z ∷ zs) env le = refl

module _ (here : Around) where
  stated_first : (what : Definition) (t : Tree) → what ≡ makes.Nothing → judged_stated here what t ≡ (judge.judged here t >>= λ y. goes Nothing)
  stated_first what t d = rw d refl

  pub stated_nothing : (t : Tree) (o : Op) (at end : ℕ) (ts : Trees) → t ≡ Node o at end ts → definition o ≡ makes.Nothing → judged_statement here t ≡ (judge.judged here t >>= λ y. goes Nothing)
  stated_nothing t o at end ts e d = rw e (stated_first (definition o) (Node o at end ts) d)

  stated_by : (what : Definition) (o : Op) (at end : ℕ) (ts : Trees) → (what ≡ makes.Nothing → ⊥) → judged_stated here what (Node o at end ts) ≡ (step >>= λ u. judged_made here what at ts)
  stated_by makes.Name o at end ts n = refl
  stated_by (makes.Field s) o at end ts n = refl
  stated_by makes.CountedField o at end ts n = refl
  stated_by makes.Nothing o at end ts n = absurd (n refl)

  pub stated_what : (t : Tree) (what : Definition) (o : Op) (at end : ℕ) (ts : Trees) → t ≡ Node o at end ts → definition o ≡ what → (what ≡ makes.Nothing → ⊥) → judged_statement here t ≡ (step >>= λ u. judged_made here what at ts)
  stated_what t what o at end ts e d n = rw (e, d) (stated_by what o at end ts n)

-- what is left of a list where one of its terms comes next
pub left_with : (ts : List Term) (i : ℕ) (t : Term) → i < length ts → t ≡ get_or ts i t → drop i ts ≡ t ∷ drop (suc i) ts
left_with [] i t lt e = absurd (omega (arith, lt))
left_with (a ∷ xs) zero t lt e = ap (λ x. x ∷ xs) (sym e)
left_with (a ∷ xs) (suc i) t lt e = left_with xs i t (omega (arith, lt)) e

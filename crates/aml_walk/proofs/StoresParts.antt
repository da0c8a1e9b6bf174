-- Parts of another number than an operator's.
use Rattle.std.proofs.Common.{◌≡◌, ◌∙◌, ◌-◌, ◌<◌, ◌≤◌, ℕ, List, [], ◌∷◌, Bool, drop, take, length, get_or, Err, refl, sym, ap, arith}
use Rattle.std.proofs.lemmas.List.{take_rest}
use Rattle.aml_operators.specs.declared.term.Term.{Term}
use Rattle.aml_operators.specs.Tree.{more, none, view, views}
use Rattle.aml_causes.specs.declared.cause.Cause.TheVariants as cause
use Rattle.aml_bounds.proofs.OneByOne.{views_at}
use Rattle.aml_kinds.specs.Kinds.{Kind, Shape}
use Rattle.aml_meaning.specs.declared.action.Action.TheVariants as does
use Rattle.aml_meaning.specs.declared.action.Pause.{Pause}
use Rattle.aml_judged.specs.Known.{Env}
use Rattle.aml_judged.specs.Judge.{judged_act, judged_led, judged_stored, refusal}
use Rattle.aml_judged.specs.Judged.{Around, Rule, Stops}
use Rattle.aml_known.specs.declared.stop.Stop.{Stop}
use Rattle.aml_known.specs.declared.stop.Stop.TheVariants as stop
use Rattle.aml_known.specs.Views.{env_of, yield_of}
use Rattle.aml_judging.specs.declared.progress.Progress.{Progress}
use Rattle.aml_judging.specs.Follows.{Judges}
use Rattle.aml_judging.proofs.Stops.{refused_judges}
use Rattle.aml_judging.proofs.Makings.{three_are}

pub three_parts : (ts : List Term) (r s t : Term) → 3 ≤ length ts → length ts < 4 → r ≡ get_or ts 0 r → s ≡ get_or ts 1 s → t ≡ get_or ts 2 t → views ts ≡ more (view r) (more (view s) (more (view t) none))
three_parts ts r s t some below is at end = ap views (three_are ts r s t some below is at end)

-- the first part, and those behind it
pub some_parts : (ts : List Term) (t : Term) → 1 ≤ length ts → t ≡ get_or ts 0 t → views ts ≡ more (view t) (views (take (length ts - 1) (drop 1 ts)))
some_parts ts t some is = views_at ts 0 t (omega (arith, some)) is ∙ ap (λ (l : List Term). more (view t) (views l)) (sym (take_rest ts 1))

module _ (shapes : ℕ → Shape) (here : Around) (w : Bool) (at : ℕ) (p : Progress) where
  abbrev outside : Stop
  outside = stop.Refused (refusal here cause.OutsideProfile at)

  stopped : {X K : Type 0} {see : X → K} {rule : Rule K} → ((env : Env) → rule env ≡ Stops (refusal here cause.OutsideProfile at)) → Judges shapes (λ l. see) rule p p (Err outside)
  stopped g = refused_judges p (refusal here cause.OutsideProfile at) (λ lists apart says. g (env_of shapes lists p.env))

  pub not_dereferenced : (ts : List Term) → (length ts ≡ 1 → ⊥) → Judges shapes (λ l. yield_of shapes) (judged_act here w does.Dereference at (views ts)) p p (Err outside)
  not_dereferenced [] differs = stopped (λ env. refl)
  not_dereferenced (x ∷ []) differs = absurd (differs refl)
  not_dereferenced (x ∷ y ∷ ts) differs = stopped (λ env. refl)

  pub not_paused : (f : Pause) (ts : List Term) → (length ts ≡ 1 → ⊥) → Judges shapes (λ l. yield_of shapes) (judged_act here w (does.Pause f) at (views ts)) p p (Err outside)
  not_paused f [] differs = stopped (λ env. refl)
  not_paused f (x ∷ []) differs = absurd (differs refl)
  not_paused f (x ∷ y ∷ ts) differs = stopped (λ env. refl)

  pub not_returned : (ts : List Term) → (length ts ≡ 1 → ⊥) → Judges shapes (λ l. yield_of shapes) (judged_act here w does.Return at (views ts)) p p (Err outside)
  not_returned [] differs = stopped (λ env. refl)
  not_returned (x ∷ []) differs = absurd (differs refl)
  not_returned (x ∷ y ∷ ts) differs = stopped (λ env. refl)

  pub not_notifying : (ts : List Term) → (length ts ≡ 2 → ⊥) → Judges shapes (λ l. yield_of shapes) (judged_act here w does.Notify at (views ts)) p p (Err outside)
  not_notifying [] differs = stopped (λ env. refl)
  not_notifying (x ∷ []) differs = stopped (λ env. refl)
  not_notifying (x ∷ y ∷ []) differs = absurd (differs refl)
  not_notifying (x ∷ y ∷ z ∷ ts) differs = stopped (λ env. refl)

  pub not_invoking : (ts : List Term) → length ts < 1 → Judges shapes (λ l. yield_of shapes) (judged_act here w does.Invoke at (views ts)) p p (Err outside)
  not_invoking [] below = stopped (λ env. refl)
  not_invoking (x ∷ ts) below = absurd (omega (arith, below))

  pub not_led : (from : ℕ) (ts : List Term) → (length ts ≡ 3 → ⊥) → Judges shapes (λ l. yield_of shapes) (judged_led here does.Index at from (views ts)) p p (Err outside)
  not_led from [] differs = stopped (λ env. refl)
  not_led from (x ∷ []) differs = stopped (λ env. refl)
  not_led from (x ∷ y ∷ []) differs = stopped (λ env. refl)
  not_led from (x ∷ y ∷ z ∷ []) differs = absurd (differs refl)
  not_led from (x ∷ y ∷ z ∷ u ∷ ts) differs = stopped (λ env. refl)

  pub not_written : (k : Kind) (ts : List Term) → (length ts ≡ 3 → ⊥) → Judges shapes (λ l (u : Unit {0}). u) (judged_stored here does.Index at (views ts) k) p p (Err outside)
  not_written k [] differs = stopped (λ env. refl)
  not_written k (x ∷ []) differs = stopped (λ env. refl)
  not_written k (x ∷ y ∷ []) differs = stopped (λ env. refl)
  not_written k (x ∷ y ∷ z ∷ []) differs = absurd (differs refl)
  not_written k (x ∷ y ∷ z ∷ u ∷ ts) differs = stopped (λ env. refl)

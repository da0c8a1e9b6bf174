-- Parts of a known number, more of them, and what is said where there is another number.
use Rattle.std.proofs.Common.{◌≡◌, ◌<◌, ◌≤◌, ℕ, List, [], ◌∷◌, length, get_or, Err, refl, ap, sym, ◌∙◌}
use Rattle.aml_operators.specs.declared.term.Term.{Term}
use Rattle.aml_operators.specs.declared.term.Term.TheViews.{out-Term}
use Rattle.aml_operators.specs.Tree.{Tree, Trees, more, none, view, views}
use Rattle.aml_operators.proofs.Views.{view_out}
use Rattle.aml_kinds.specs.Kinds.{Shape}
use Rattle.aml_causes.specs.declared.cause.Cause.TheVariants as cause
use Rattle.aml_meaning.specs.Meaning.{at_of}
use Rattle.aml_meaning.specs.Rules.{Place}
use Rattle.aml_judged.specs.Judge.{place, place_at, refusal, stops}
use Rattle.aml_judged.specs.Judged.{Around, Rule}
use Rattle.aml_known.specs.declared.stop.Stop.TheVariants as stop
use Rattle.aml_known.specs.Views.{env_of}
use Rattle.aml_judging.specs.declared.progress.Progress.{Progress}
use Rattle.aml_judging.specs.Follows.{Judges}
use Rattle.aml_judging.proofs.Makings.{four_are, three_are}
use Rattle.aml_judging.proofs.Stops.{refused_judges}

pub three_parts : (ts : List Term) (d e f : Term) → 3 ≤ length ts → length ts < 4 → d ≡ get_or ts 0 d → e ≡ get_or ts 1 e → f ≡ get_or ts 2 f → views ts ≡ more (view d) (more (view e) (more (view f) none))
three_parts ts d e f some below p q r = ap views (three_are ts d e f some below p q r)

pub four_parts : (ts : List Term) (d e f g : Term) → 4 ≤ length ts → length ts < 5 → d ≡ get_or ts 0 d → e ≡ get_or ts 1 e → f ≡ get_or ts 2 f → g ≡ get_or ts 3 g → views ts ≡ more (view d) (more (view e) (more (view f) (more (view g) none)))
four_parts ts d e f g some below p q r s = ap views (four_are ts d e f g some below p q r s)

-- where a term stands
pub placed : (here : Around) (t : Term) (p : Place) → p ≡ place_at here (out-Term t).at → p ≡ place here (view t)
placed here t p e = e ∙ ap (λ (u : Tree). place_at here (at_of u)) (sym (view_out t))

-- a rule that says nothing of parts of another number
module _ {X K : Type 0} {shapes : ℕ → Shape} {see : X → K} (here : Around) (at : ℕ) (rule : Trees → Rule K) (p : Progress) where
  outside : (parts : Trees) → rule parts ≡ stops here cause.OutsideProfile at → Judges shapes (λ l. see) (rule parts) p p (Err (stop.Refused (refusal here cause.OutsideProfile at)))
  outside parts e = refused_judges p (refusal here cause.OutsideProfile at) (λ lists apart says. ap (λ (r : Rule K). r (env_of shapes lists p.env)) e)

  pub other_than_one : (ts : List Term) → (length ts ≡ 1 → ⊥) → rule none ≡ stops here cause.OutsideProfile at → ((t u : Tree) (us : Trees) → rule (more t (more u us)) ≡ stops here cause.OutsideProfile at) → Judges shapes (λ l. see) (rule (views ts)) p p (Err (stop.Refused (refusal here cause.OutsideProfile at)))
  other_than_one [] differs few many = outside none few
  other_than_one (x ∷ []) differs few many = absurd (differs refl)
  other_than_one (x ∷ y ∷ ts) differs few many = outside (views (x ∷ y ∷ ts)) (many (view x) (view y) (views ts))

  pub other_than_two : (ts : List Term) → (length ts ≡ 2 → ⊥) → rule none ≡ stops here cause.OutsideProfile at → ((t : Tree) → rule (more t none) ≡ stops here cause.OutsideProfile at) → ((t u v : Tree) (us : Trees) → rule (more t (more u (more v us))) ≡ stops here cause.OutsideProfile at) → Judges shapes (λ l. see) (rule (views ts)) p p (Err (stop.Refused (refusal here cause.OutsideProfile at)))
  other_than_two [] differs few one many = outside none few
  other_than_two (x ∷ []) differs few one many = outside (views (x ∷ [])) (one (view x))
  other_than_two (x ∷ y ∷ []) differs few one many = absurd (differs refl)
  other_than_two (x ∷ y ∷ z ∷ ts) differs few one many = outside (views (x ∷ y ∷ z ∷ ts)) (many (view x) (view y) (view z) (views ts))

  pub other_than_three : (ts : List Term) → (length ts ≡ 3 → ⊥) → rule none ≡ stops here cause.OutsideProfile at → ((t : Tree) → rule (more t none) ≡ stops here cause.OutsideProfile at) → ((t u : Tree) → rule (more t (more u none)) ≡ stops here cause.OutsideProfile at) → ((t u v x : Tree) (us : Trees) → rule (more t (more u (more v (more x us)))) ≡ stops here cause.OutsideProfile at) → Judges shapes (λ l. see) (rule (views ts)) p p (Err (stop.Refused (refusal here cause.OutsideProfile at)))
  other_than_three [] differs few one two many = outside none few
  other_than_three (x ∷ []) differs few one two many = outside (views (x ∷ [])) (one (view x))
  other_than_three (x ∷ y ∷ []) differs few one two many = outside (views (x ∷ y ∷ [])) (two (view x) (view y))
  other_than_three (x ∷ y ∷ z ∷ []) differs few one two many = absurd (differs refl)
  other_than_three (x ∷ y ∷ z ∷ u ∷ ts) differs few one two many = outside (views (x ∷ y ∷ z ∷ u ∷ ts)) (many (view x) (view y) (view z) (view u) (views ts))

  pub other_than_four : (ts : List Term) → (length ts ≡ 4 → ⊥) → rule none ≡ stops here cause.OutsideProfile at → ((t : Tree) → rule (more t none) ≡ stops here cause.OutsideProfile at) → ((t u : Tree) → rule (more t (more u none)) ≡ stops here cause.OutsideProfile at) → ((t u v : Tree) → rule (more t (more u (more v none))) ≡ stops here cause.OutsideProfile at) → ((t u v x y : Tree) (us : Trees) → rule (more t (more u (more v (more x (more y us))))) ≡ stops here cause.OutsideProfile at) → Judges shapes (λ l. see) (rule (views ts)) p p (Err (stop.Refused (refusal here cause.OutsideProfile at)))
  other_than_four [] differs few one two three many = outside none few
  other_than_four (x ∷ []) differs few one two three many = outside (views (x ∷ [])) (one (view x))
  other_than_four (x ∷ y ∷ []) differs few one two three many = outside (views (x ∷ y ∷ [])) (two (view x) (view y))
  other_than_four (x ∷ y ∷ z ∷ []) differs few one two three many = outside (views (x ∷ y ∷ z ∷ [])) (three (view x) (view y) (view z))
  other_than_four (x ∷ y ∷ z ∷ u ∷ []) differs few one two three many = absurd (differs refl)
  other_than_four (x ∷ y ∷ z ∷ u ∷ v ∷ ts) differs few one two three many = outside (views (x ∷ y ∷ z ∷ u ∷ v ∷ ts)) (many (view x) (view y) (view z) (view u) (view v) (views ts))

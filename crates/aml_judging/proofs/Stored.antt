-- What is stored into fields, and what is paid for.
use Rattle.std.proofs.Common.{◌≡◌, ℕ, ◌+◌, List, Option, Some, None, Ok, Err, ◌∙◌, refl, sym, ap, subst, arith}
use Rattle.aml_causes.specs.declared.cause.Refusal.{Refusal}
use Rattle.aml_kinds.specs.Kinds.{Kind, Shape}
use Rattle.aml_regions.specs.Fields.{layout_of}
use Rattle.aml_regions.specs.declared.field.AnyField.{AnyField}
use Rattle.aml_meaning.specs.Fields.{write_count}
use Rattle.aml_meaning.specs.declared.mutex.TakenMutex.{TakenMutex}
use Rattle.aml_meaning.specs.declared.buffer_field.BufferField.{BufferField}
use Rattle.aml_judged.specs.Known.{Env}
use Rattle.aml_judged.specs.Judged as judged
use Rattle.aml_judged.specs.Judged.{Around, no_exits, pays, Rule, ruled, Stops, then_judge}
use Rattle.aml_judged.specs.Judge.{held_kind, judged_buffer_field_stored, judged_field_stored, place_at}
use Rattle.aml_judged.specs.KindRules.{buffer_field_stored_kind, given_kind}
use Rattle.aml_known.specs.Views.{CanBeRead, env_of, exits_of, Grown}
use Rattle.aml_known.proofs.Takings.{same_grown}
use Rattle.aml_judging.specs.declared.progress.Progress.{Progress}
use Rattle.aml_judging.specs.Views.{held_cost}
use Rattle.aml_judging.specs.Follows.{Judges, Paid}
use Rattle.aml_judging.proofs.Going.{exits_same, paid_judges}

module _ (here : Around) (at : ℕ) (k : Kind) where
  pub field_refused : (f : AnyField) (r : Refusal) → given_kind here.width (place_at here at) (layout_of f).bits k ≡ Err r → (env : Env) → judged_field_stored here (Some f) at k env ≡ Stops r
  field_refused f r h env = rw h refl

  pub field_stored : (f : AnyField) → given_kind here.width (place_at here at) (layout_of f).bits k ≡ Ok tt → (env : Env) → judged_field_stored here (Some f) at k env ≡ judged.Goes tt env no_exits (1 + write_count f)
  field_stored f h env = rw h (ap (judged.Goes tt env no_exits) (omega arith))

  pub buffer_field_refused : (f : BufferField) (r : Refusal) → buffer_field_stored_kind here.width (place_at here at) f (held_kind here f.source) k ≡ Err r → (env : Env) → judged_buffer_field_stored here (Some f) at k env ≡ Stops r
  buffer_field_refused f r h env = ap (λ x. then_judge (ruled x env) (λ u. pays 1 tt)) h

  pub buffer_field_stored : (f : BufferField) → buffer_field_stored_kind here.width (place_at here at) f (held_kind here f.source) k ≡ Ok tt → (env : Env) → judged_buffer_field_stored here (Some f) at k env ≡ judged.Goes tt env no_exits 1
  buffer_field_stored f h env = ap (λ x. then_judge (ruled x env) (λ u. pays 1 tt)) h

-- what is paid for, and gives nothing
pub costs_judge : {shapes : ℕ → Shape} {rule : Rule (Unit {0})} {old new : Progress} {n : ℕ} → Paid n old new → ((env : Env) → rule env ≡ judged.Goes tt env no_exits n) → Judges shapes (λ l. λ u. u) rule old new (Ok tt)
costs_judge {n} p g = paid_judges {see = λ u. u} (λ u. n) {x = tt} p refl g

-- a step behind which the environment alone is another
pub put_judges : {shapes : ℕ → Shape} {rule : Rule (Unit {0})} (old mid new : Progress) → Paid 1 mid new → mid.exits ≡ old.exits → mid.cost ≡ old.cost → mid.locks.takings.items ≡ old.locks.takings.items → ((lists : ℕ → List TakenMutex) → rule (env_of shapes lists old.env) ≡ judged.Goes tt (env_of shapes lists mid.env) no_exits 1) → Judges shapes (λ l. λ u. u) rule old new (Ok tt)
put_judges {shapes} {rule} old mid new p x c t g = record {
  grows = subst (Grown old.locks.takings.items) (sym (p.takings ∙ t)) (same_grown old.locks.takings.items);
  read = subst CanBeRead (sym (p.takings ∙ t));
  follows = λ lists apart says. record {
    exits = no_exits;
    cost = 1;
    goes = g lists ∙ ap (λ v. judged.Goes tt (env_of shapes lists v) no_exits 1) (sym p.env);
    joined = ap (exits_of shapes lists) (p.exits ∙ x) ∙ exits_same (exits_of shapes lists old.exits);
    counted = p.paid ∙ ap (λ m. held_cost (held_cost m + 1)) c;
  };
}

-- A term as a statement and as a value, behind its step.
use Rattle.std.proofs.Common.{◌≡◌, ℕ, Bool, true, false, if◌then◌else◌, Result, Ok, Err, refl, sym, ap, subst}
use Rattle.aml_operators.specs.declared.op.Op.{Op}
use Rattle.aml_operators.specs.Tree.{Trees, Node}
use Rattle.aml_causes.specs.declared.cause.Cause.TheVariants as cause
use Rattle.aml_causes.specs.declared.cause.Refusal.{Refusal}
use Rattle.aml_kinds.specs.Kinds.{Shape}
use Rattle.aml_meaning.specs.Actions.{action}
use Rattle.aml_meaning.specs.Definitions.{definition}
use Rattle.aml_meaning.specs.declared.definition.Definition.{Definition}
use Rattle.aml_meaning.specs.declared.definition.Definition.TheVariants as makes
use Rattle.aml_bounds.specs.Shapes.{is_operand}
use Rattle.aml_judged.specs.Judge as judge
use Rattle.aml_judged.specs.Judge.{judged_act, judged_value, not_defined, refusal, stops, wanted}
use Rattle.aml_judged.specs.Judged as judged
use Rattle.aml_judged.specs.Judged.{Always, Around, Rule, step, ◌>>=◌}
use Rattle.aml_known.specs.declared.accepted.Yield.{Yield}
use Rattle.aml_known.specs.declared.accepted.Yield.TheVariants as yield
use Rattle.aml_known.specs.declared.known.Known.{Known}
use Rattle.aml_known.specs.declared.stop.Stop.{Stop}
use Rattle.aml_known.specs.declared.stop.Stop.TheVariants as stop
use Rattle.aml_known.specs.Views.{env_of, kind_of, yield_of}
use Rattle.aml_judging.specs.declared.progress.Progress.{Progress}
use Rattle.aml_judging.specs.Follows.{Gives, GivesOrMemory, Judges, Paid}
use Rattle.aml_judging.proofs.Going.{gives_judges, gives_stops, stops_judge, then_judges}
use Rattle.aml_judging.proofs.Stops.{refused_judges, wanting_judges}
use Rattle.aml_judging.proofs.Stored.{costs_judge}

-- what always gives something, for nothing
module _ {shapes : ℕ → Shape} {rule : Rule judged.Yield} (p : Progress) where
  pub always_judges : (k : Known) → Gives (λ (k : Known). Always (kind_of shapes k)) rule (Ok k) → Judges shapes (λ l. yield_of shapes) rule p p (Ok (yield.Always k))
  always_judges k g = gives_judges {see = yield_of shapes} {rule = rule} p (yield.Always k) g

  pub data_judges : (k : Known) → GivesOrMemory (λ (k : Known). Always (kind_of shapes k)) rule (Ok k) → Judges shapes (λ l. yield_of shapes) rule p p (Ok (yield.Always k))
  data_judges k g = gives_judges {see = yield_of shapes} {rule = rule} p (yield.Always k) g

  pub data_stops : (e : Stop) → GivesOrMemory (λ (k : Known). Always (kind_of shapes k)) rule (Err e) → Judges shapes (λ l. yield_of shapes) rule p p (Err e)
  data_stops (stop.Refused r) g = refused_judges p r (λ lists apart says. g (env_of shapes lists p.env))
  data_stops stop.NoMemory g = wanting_judges p

-- what an operand is, and what it is asked
abbrev operand : Around → Op → ℕ → Trees → Bool → Rule judged.Yield
operand here o at parts b = if b then judged_act here true (action o) at parts else stops here cause.OutsideProfile at

defined : (here : Around) (at : ℕ) (what : Definition) (rule : Rule judged.Yield) → (what ≡ makes.Nothing → ⊥) → not_defined here what at rule ≡ stops here cause.LocalName at
defined here at makes.Name rule n = refl
defined here at (makes.Field s) rule n = refl
defined here at makes.CountedField rule n = refl
defined here at makes.Nothing rule n = absurd (n refl)

module _ {shapes : ℕ → Shape} (here : Around) (o : Op) (at end : ℕ) (parts : Trees) {old mid : Progress} where
  behind_step : {new : Progress} (y : Result Yield Stop) → Paid 1 old mid → Judges shapes (λ l. yield_of shapes) (not_defined here (definition o) at (judged_act here false (action o) at parts)) mid new y → Judges shapes (λ l. yield_of shapes) (judge.judged here (Node o at end parts)) old new y
  behind_step y p j = then_judges {see = λ (u : Unit {0}). u} {m = step} (λ (u : Unit {0}). not_defined here (definition o) at (judged_act here false (action o) at parts)) {x = tt} y (costs_judge p (λ env. refl)) j

  -- a statement that is no definition, and one that is
  pub stated : {new : Progress} {y : Result Yield Stop} → definition o ≡ makes.Nothing → Paid 1 old mid → Judges shapes (λ l. yield_of shapes) (judged_act here false (action o) at parts) mid new y → Judges shapes (λ l. yield_of shapes) (judge.judged here (Node o at end parts)) old new y
  stated {y} d p j = behind_step y p (rw d j)

  pub stated_elsewhere : Paid 1 old mid → (definition o ≡ makes.Nothing → ⊥) → Judges shapes (λ l. yield_of shapes) (judge.judged here (Node o at end parts)) old mid (Err (stop.Refused (refusal here cause.LocalName at)))
  stated_elsewhere p n = behind_step (Err (stop.Refused (refusal here cause.LocalName at))) p
      (refused_judges mid (refusal here cause.LocalName at) (λ lists apart says. ap (λ (r : Rule judged.Yield). r (env_of shapes lists mid.env)) (defined here at (definition o) (judged_act here false (action o) at parts) n)))

  -- a value is wanted
  valued : {new : Progress} (b : Bool) (y : Result Known Stop) → is_operand (action o) parts ≡ b → Paid 1 old mid → Judges shapes (λ l (k : Known). kind_of shapes k) (operand here o at parts b >>= (λ (v : judged.Yield). wanted here at v)) mid new y → Judges shapes (λ l (k : Known). kind_of shapes k) (judged_value here (Node o at end parts)) old new y
  valued {new} b y e p j = then_judges {see = λ (u : Unit {0}). u} {m = step} (λ (u : Unit {0}). operand here o at parts (is_operand (action o) parts) >>= (λ (v : judged.Yield). wanted here at v)) {x = tt} y (costs_judge p (λ env. refl))
      (subst (λ (b : Bool). Judges shapes (λ l (k : Known). kind_of shapes k) (operand here o at parts b >>= (λ (v : judged.Yield). wanted here at v)) mid new y) (sym e) j)

  pub no_operand : Paid 1 old mid → is_operand (action o) parts ≡ false → Judges shapes (λ l (k : Known). kind_of shapes k) (judged_value here (Node o at end parts)) old mid (Err (stop.Refused (refusal here cause.OutsideProfile at)))
  no_operand p e = valued false (Err (stop.Refused (refusal here cause.OutsideProfile at))) e p (refused_judges mid (refusal here cause.OutsideProfile at) (λ lists apart says. refl))

  module _ (p : Paid 1 old mid) (e : is_operand (action o) parts ≡ true) {new : Progress} where
    pub operand_stops : {s : Stop} → Judges shapes (λ l. yield_of shapes) (judged_act here true (action o) at parts) mid new (Err s) → Judges shapes (λ l (k : Known). kind_of shapes k) (judged_value here (Node o at end parts)) old new (Err s)
    operand_stops {s} j = valued true (Err s) e p (stops_judge {see = yield_of shapes} {m = operand here o at parts true} (λ (v : judged.Yield). wanted here at v) s j)

    pub no_value : {y : Yield} {r : Refusal} → Judges shapes (λ l. yield_of shapes) (judged_act here true (action o) at parts) mid new (Ok y) → Gives (kind_of shapes) (wanted here at (yield_of shapes y)) (Err r) → Judges shapes (λ l (k : Known). kind_of shapes k) (judged_value here (Node o at end parts)) old new (Err (stop.Refused r))
    no_value {y} {r} j g = valued true (Err (stop.Refused r)) e p (then_judges {see = yield_of shapes} {m = operand here o at parts true} (λ (v : judged.Yield). wanted here at v) {x = y} (Err (stop.Refused r)) j (gives_stops {see = kind_of shapes} new r g))

    pub operand_goes : {y : Yield} {k : Known} → Judges shapes (λ l. yield_of shapes) (judged_act here true (action o) at parts) mid new (Ok y) → Gives (kind_of shapes) (wanted here at (yield_of shapes y)) (Ok k) → Judges shapes (λ l (k : Known). kind_of shapes k) (judged_value here (Node o at end parts)) old new (Ok k)
    operand_goes {y} {k} j g = valued true (Ok k) e p (then_judges {see = yield_of shapes} {m = operand here o at parts true} (λ (v : judged.Yield). wanted here at v) {x = y} (Ok k) j (gives_judges {see = kind_of shapes} new k g))

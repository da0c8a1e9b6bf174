-- What is stored into a target keeps what is known, and is known.
use Rattle.std.proofs.Common.{◌≡◌, ℕ, zero, suc, List, Option, Some, None, refl, sym, ◌∙◌, subst, arith}
use Rattle.std.specs.Prelude.{Bool, true, false, if◌then◌else◌}
use Rattle.aml_operators.specs.Tree.{Tree, Trees, Node}
use Rattle.aml_namespace.specs.declared.link.Link.{Link}
use Rattle.aml_namespace.specs.declared.link.Link.TheVariants as link
use Rattle.aml_values.specs.Values.{Value}
use Rattle.aml_kinds.specs.Kinds.{Kind}
use Rattle.aml_contents.specs.Contents.{kind_at}
use Rattle.aml_regions.specs.Events.{Event}
use Rattle.aml_meaning.specs.declared.action.Action.{Action}
use Rattle.aml_meaning.specs.declared.action.Action.TheVariants.{Debug, Local, Argument, Name, Dereference, NoTarget}
use Rattle.aml_meaning.specs.Actions.{action}
use Rattle.aml_meaning.specs.State as state
use Rattle.aml_meaning.specs.State.{State, with_steps}
use Rattle.aml_meaning.specs.Parts as parts
use Rattle.aml_meaning.specs.Parts.{◌>>=◌, give, tick, paid, take_step, set_local, set_arg, set_name, stored_or, may_store}
use Rattle.aml_meaning.specs.declared.buffer_field.BufferField.{BufferField}
use Rattle.aml_meaning.specs.Owns.{field_at, own_field, own_stored_or, set_own}
use Rattle.aml_meaning.specs.Meaning.{own_changed, own_stored, Setting, at_of, stored, named_target, changed_in_place, operator_action}
use Rattle.aml_judged.specs.Causes as causes
use Rattle.aml_judged.specs.Known as known
use Rattle.aml_judged.specs.Known.{Env}
use Rattle.aml_judged.specs.Judge as judge
use Rattle.aml_judged.specs.Judge.{judged_into, judged_target, judged_put, judged_in_place, judged_placed, judged_own_stored}
use Rattle.aml_judged.specs.Judged.{NameKinds, Seen, pays, goes}
use Rattle.aml_judged.specs.KindRules.{may_replace}
use Rattle.aml_judged.proofs.Words.{words_of}
use Rattle.aml_judged.proofs.FieldsSafe.{field_stored_safe}
use Rattle.aml_judged.proofs.BufferFieldsSafe.{buffer_field_stored_safe}
use Rattle.aml_judged.proofs.Fits.{set_fits, may_be_stored, stored_names}
use Rattle.aml_judged.proofs.Parts.{ticked, tick_then, stepped}
use Rattle.aml_judged.proofs.Loops.{IsUnit}
use Rattle.aml_meaning.specs.BufferFields.{usable_buffer_field}

module _ (here : Setting) (kinds : NameKinds) (callee : ℕ → Seen) (above : ℕ) (script : List Event) where
  open words_of here kinds callee above use {around, Fine, Safe, Is}

  local_fits : (i : ℕ) (k : Kind) (env : Env) (v : Value) (s : State) → Is v k → Fine env s → Fine (known.with_local env i k) (parts.with_local s i v)
  local_fits i k env v s h fits = record { owned = fits.owned; fields = fits.fields; holds = fits.holds; callers = fits.callers; reached = fits.reached; own = set_fits here.width s.frame.locals env.locals i v k h fits.own; given = fits.given; shared = fits.shared }

  arg_fits : (i : ℕ) (k : Kind) (env : Env) (v : Value) (s : State) → Is v k → Fine env s → Fine (known.with_arg env i k) (parts.with_arg s i v)
  arg_fits i k env v s h fits = record { owned = fits.owned; fields = fits.fields; holds = fits.holds; callers = fits.callers; reached = fits.reached; own = fits.own; given = set_fits here.width s.frame.args env.args i v k h fits.given; shared = fits.shared }

  stored_safe : (b : Bool) (at i : ℕ) (k old : Kind) (v : Value) (env : Env) (s : State) → may_store s.names.kinds i v ≡ b → kind_at kinds.shared i ≡ Some old → may_replace k old ≡ true → Is v k → Fine env s → Safe IsUnit s.steps (goes tt env) (stored_or b here.table at i v s)
  stored_safe true at i k old v env s e f m h fits = (tt, record { owned = fits.owned; fields = fits.fields; holds = fits.holds; callers = fits.callers; reached = fits.reached; own = fits.own; given = fits.given; shared = stored_names here.width kinds.shared s.names i v fits.shared (subst (λ ks. may_store ks i v ≡ true) fits.shared.kinds_stay e) h.word }, omega arith)
  stored_safe false at i k old v env s e f m h fits = absurd (let yes : may_store kinds.shared i v ≡ true = may_be_stored here.width kinds.shared i v k old f m h.fit in let no : may_store kinds.shared i v ≡ false = subst (λ ks. may_store ks i v ≡ false) fits.shared.kinds_stay e in let bad : true ≡ false = sym yes ∙ no in cc)

  into_safe : (at i : ℕ) (o : Option Kind) (k : Kind) (v : Value) (env : Env) (s : State) → kind_at kinds.shared i ≡ o → Is v k → Fine env s → Safe IsUnit s.steps (judged_into around at o k env) ((set_name here.table at i v).run script s)
  unfolding set_name paid
  into_safe at i (Some old) k v env s e h fits = choice (may_replace k old) refl
    where
      choice : (b : Bool) → may_replace k old ≡ b → Safe IsUnit s.steps ((if b then pays 1 tt else judge.stops around causes.WrongKind at) env) ((set_name here.table at i v).run script s)
      choice true m = ticked here.width kinds above IsUnit (goes tt env) s.steps s _ (λ n. stored_safe (may_store s.names.kinds i v) at i k old v env (with_steps s n) refl e m h (stepped here.width kinds above env s n fits))
      choice false m = tt
  into_safe at i None k v env s e h fits = tt

  own_stored_safe : (b : Bool) (at i : ℕ) (k old : Kind) (v : Value) (env : Env) (s : State) → may_store s.frame.owns.kinds i v ≡ b → kind_at kinds.owns i ≡ Some old → may_replace k old ≡ true → Is v k → Fine env s → Safe IsUnit s.steps (goes tt env) (own_stored_or b here.table at i v s)
  own_stored_safe true at i k old v env s e f m h fits = (tt, record { fields = fits.fields; holds = fits.holds; callers = fits.callers; reached = fits.reached; own = fits.own; given = fits.given; shared = fits.shared; owned = stored_names here.width kinds.owns s.frame.owns i v fits.owned (subst (λ ks. may_store ks i v ≡ true) fits.owned.kinds_stay e) h.word }, omega arith)
  own_stored_safe false at i k old v env s e f m h fits = absurd (let yes : may_store kinds.owns i v ≡ true = may_be_stored here.width kinds.owns i v k old f m h.fit in let no : may_store kinds.owns i v ≡ false = subst (λ ks. may_store ks i v ≡ false) fits.owned.kinds_stay e in let bad : true ≡ false = sym yes ∙ no in cc)

  own_held_safe : (at i : ℕ) (o : Option Kind) (k : Kind) (v : Value) (env : Env) (s : State) → kind_at kinds.owns i ≡ o → Is v k → Fine env s → Safe IsUnit s.steps (judged_into around at o k env) ((set_own here.table at i v).run script s)
  unfolding set_own paid
  own_held_safe at i (Some old) k v env s e h fits = choice (may_replace k old) refl
    where
      choice : (b : Bool) → may_replace k old ≡ b → Safe IsUnit s.steps ((if b then pays 1 tt else judge.stops around causes.WrongKind at) env) ((set_own here.table at i v).run script s)
      choice true m = ticked here.width kinds above IsUnit (goes tt env) s.steps s _ (λ n. own_stored_safe (may_store s.frame.owns.kinds i v) at i k old v env (with_steps s n) refl e m h (stepped here.width kinds above env s n fits))
      choice false m = tt
  own_held_safe at i None k v env s e h fits = tt

  own_changed_safe : (f : Option BufferField) (at i : ℕ) (k : Kind) (v : Value) (env : Env) (s : State) → Is v k → Fine env s → Safe IsUnit s.steps (judged_own_stored around f i at k env) ((own_changed here f i at v).run script s)
  own_changed_safe None at i k v env s h fits = own_held_safe at i (kind_at kinds.owns i) k v env s refl h fits
  own_changed_safe (Some f) at i k v env s h fits = buffer_field_stored_safe here kinds callee above script at (usable_buffer_field f) k v env s h fits

  own_into_safe : (at i : ℕ) (k : Kind) (v : Value) (env : Env) (s : State) → Is v k → Fine env s → Safe IsUnit s.steps (judged_own_stored around (field_at kinds.fields i) i at k env) ((own_stored here i at v).run script s)
  unfolding ◌>>=◌ own_field
  own_into_safe at i k v env s h fits = subst (λ fs. Safe IsUnit s.steps (judged_own_stored around (field_at fs i) i at k env) ((own_changed here (field_at s.frame.fields i) i at v).run script s)) fits.fields (own_changed_safe (field_at s.frame.fields i) at i k v env s h fits)

  target_safe : (l : Link) (at : ℕ) (k : Kind) (v : Value) (env : Env) (s : State) → Is v k → Fine env s → Safe IsUnit s.steps (judged_target around l at k env) ((named_target here l at v).run script s)
  target_safe (link.Data id) at k v env s h fits = into_safe at id.0 (kind_at kinds.shared id.0) k v env s refl h fits
  target_safe (link.Own i) at k v env s h fits = own_into_safe at i k v env s h fits
  target_safe (link.BufferField id) at k v env s h fits = buffer_field_stored_safe here kinds callee above script at (here.buffer_field id.0) k v env s h fits
  target_safe (link.Field id) at k v env s h fits = field_stored_safe here kinds callee above script at (here.field id.0) k v env s h fits
  target_safe l at k v env s h fits = tt

  debug_safe : (n : ℕ) (env : Env) (s : State) → Fine env s → Safe IsUnit n (pays 1 tt env) (take_step n s (λ next. state.Goes tt next))
  debug_safe zero env s fits = omega arith
  debug_safe (suc n) env s fits = (tt, stepped here.width kinds above env s n fits, omega arith)

  pub put_safe : (a : Action) (at : ℕ) (ts : Trees) (k : Kind) (v : Value) (env : Env) (s : State) → Is v k → Fine env s → Safe IsUnit s.steps (judged_put around a at k env) ((stored here a at ts v).run script s)
  unfolding ◌>>=◌ tick paid set_local set_arg give
  put_safe (Local i) at ts k v env s h fits = tick_then here.width kinds above IsUnit (goes tt (known.with_local env i k)) s.steps s (λ u next. state.Goes tt (parts.with_local next i v)) (λ m. (tt, local_fits i k env v (with_steps s m) h (stepped here.width kinds above env s m fits), omega arith))
  put_safe (Argument i) at ts k v env s h fits = tick_then here.width kinds above IsUnit (goes tt (known.with_arg env i k)) s.steps s (λ u next. state.Goes tt (parts.with_arg next i v)) (λ m. (tt, arg_fits i k env v (with_steps s m) h (stepped here.width kinds above env s m fits), omega arith))
  put_safe NoTarget at ts k v env s h fits = (tt, fits, omega arith)
  put_safe Debug at ts k v env s h fits = debug_safe s.steps env s fits
  put_safe Name at ts k v env s h fits = target_safe (here.link at) at k v env s h fits
  put_safe a at ts k v env s h fits = tt

  in_place_safe : (a : Action) (at : ℕ) (env : Env) (s : State) → Fine env s → Safe IsUnit s.steps (judged_in_place around a at env) ((changed_in_place here a at).run script s)
  unfolding give
  in_place_safe Dereference at env s fits = tt
  in_place_safe a at env s fits = (tt, fits, omega arith)

  pub placed_safe : (t : Tree) (env : Env) (s : State) → Fine env s → Safe IsUnit s.steps (judged_placed around t env) ((changed_in_place here (operator_action here t) (at_of t)).run script s)
  placed_safe (Node o at stop ts) env s fits = in_place_safe (action o) at env s fits

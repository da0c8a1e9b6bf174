-- What a term reads is of the kind that it is judged to be.
use Rattle.std.proofs.Common.{◌≡◌, ℕ, List, Option, Some, None, Result, Ok, Err, refl, arith, subst}
use Rattle.std.specs.Prelude.{slice_get}
use Rattle.aml_operators.specs.Tree.{Tree, Node}
use Rattle.aml_namespace.specs.declared.link.Link.{Link}
use Rattle.aml_namespace.specs.declared.link.Link.TheVariants as link
use Rattle.aml_values.specs.Values.{Value}
use Rattle.aml_kinds.specs.Kinds.{Kind}
use Rattle.aml_contents.specs.Contents.{content_at, kind_at}
use Rattle.aml_regions.specs.Events.{Event}
use Rattle.aml_meaning.specs.declared.error.AmlError.{AmlError}
use Rattle.aml_meaning.specs.declared.action.Action.{Action}
use Rattle.aml_meaning.specs.declared.action.Action.TheVariants.{Local, Argument, Name, NoTarget}
use Rattle.aml_meaning.specs.Actions.{action}
use Rattle.aml_meaning.specs.State as state
use Rattle.aml_meaning.specs.State.{State}
use Rattle.aml_meaning.specs.Parts.{◌>>=◌, give, stop_with, lift, then_do, get_local, get_arg, get_name, content_or}
use Rattle.aml_meaning.specs.declared.buffer_field.BufferField.{BufferField}
use Rattle.aml_meaning.specs.Owns.{field_at, get_own, own_field}
use Rattle.aml_meaning.specs.Buffers.{size_of}
use Rattle.aml_meaning.specs.Meaning.{data_unless, own_measured, own_seen, named_seen, seen, size, asked, condition, is_there, place_at, own_held, own_read, Setting, want, named, held, yields}
use Rattle.aml_judged.specs.Causes.{Refusal}
use Rattle.aml_judged.specs.Known.{Slot, Env}
use Rattle.aml_judged.specs.Judge as judge
use Rattle.aml_judged.specs.Judge.{wanted, judged_slot, judged_content, judged_name, judged_literal, judged_slot_seen, judged_content_seen, judged_name_seen, judged_seen, judged_size, judged_asked, judged_condition, judged_own, judged_own_seen}
use Rattle.aml_judged.specs.Judged.{NameKinds, Yield, Always, Sometimes, Never, Seen, goes, ruled}
use Rattle.aml_judged.specs.KindRules.{size_kind}
use Rattle.aml_judged.proofs.Words.{words_of}
use Rattle.aml_judged.proofs.FieldsSafe.{field_safe}
use Rattle.aml_judged.proofs.BufferFieldsSafe.{buffer_field_safe}
use Rattle.aml_judged.proofs.KindRules.{plain, Follows, truth_fits, size_follows}
use Rattle.aml_judged.specs.Safe.{FitSlots}
use Rattle.aml_judged.proofs.Fits.{HasFit, get_fits, name_fits}
use Rattle.aml_judged.proofs.Parts.{safe_then}
use Rattle.aml_meaning.specs.BufferFields.{usable_buffer_field}

module _ (here : Setting) (kinds : NameKinds) (callee : ℕ → Seen) (above : ℕ) (script : List Event) where
  open words_of here kinds callee above use {around, Fine, Safe, Is, Yields}

  pub lift_safe : {V K : Type 0} (P : V → K → Type 0) (rk : Result K Refusal) (rv : Result V AmlError) (env : Env) (s : State) → Follows P rk rv → Fine env s → Safe (plain P) s.steps (ruled rk env) ((lift rv).run script s)
  unfolding give stop_with
  lift_safe P (Err e) rv env s h fits = tt
  lift_safe P (Ok k) (Ok v) env s h fits = (h, fits, omega arith)
  lift_safe P (Ok k) (Err e) env s h fits = absurd h

  pub want_safe : (at : ℕ) (y : Yield) (env : Env) (v : Option Value) (s : State) → Yields v y → Fine env s → Safe (plain Is) s.steps (wanted around at y env) ((want here at v).run script s)
  unfolding give stop_with
  want_safe at (Always k) env (Some v) s h fits = (h, fits, omega arith)
  want_safe at (Always k) env None s h fits = absurd h
  want_safe at (Sometimes k) env v s h fits = tt
  want_safe at Never env v s h fits = tt

  -- what is read where its kind is known
  read_safe : (at : ℕ) (k : Kind) (o : Option (Option Value)) (env : Env) (s : State) → HasFit here.width o k → Fine env s → Safe (plain Yields) s.steps (goes (Always k) env) (then_do (content_or here.table at o s) (λ v next. state.Goes (Some v) next))
  read_safe at k (Some (Some v)) env s h fits = (h, fits, omega arith)
  read_safe at k (Some None) env s h fits = absurd h
  read_safe at k None env s h fits = absurd h

  pub slot_safe : (at i : ℕ) (ks : List Slot) (vs : List (Option Value)) (slot : Option Slot) (env : Env) (s : State) → slice_get ks i ≡ slot → FitSlots here.width vs ks → Fine env s → Safe (plain Yields) s.steps (judged_slot around at slot env) (then_do (content_or here.table at (slice_get vs i) s) (λ v next. state.Goes (Some v) next))
  slot_safe at i ks vs (Some (Some k)) env s e fit fits = read_safe at k (slice_get vs i) env s (get_fits here.width vs ks i k e fit) fits
  slot_safe at i ks vs (Some None) env s e fit fits = tt
  slot_safe at i ks vs None env s e fit fits = tt

  pub content_safe : (at i : ℕ) (o : Option Kind) (env : Env) (s : State) → kind_at kinds.shared i ≡ o → Fine env s → Safe (plain Yields) s.steps (judged_content around at o env) ((held here i at).run script s)
  unfolding ◌>>=◌ give get_name
  content_safe at i (Some k) env s e fits = read_safe at k (Some (content_at s.names.contents i)) env s (name_fits here.width kinds.shared s.names i k fits.shared e) fits
  content_safe at i None env s e fits = tt

  own_content_safe : (at i : ℕ) (o : Option Kind) (env : Env) (s : State) → kind_at kinds.owns i ≡ o → Fine env s → Safe (plain Yields) s.steps (judged_content around at o env) ((get_own here.table at i >>= (λ v. yields here v)).run script s)
  unfolding ◌>>=◌ give get_own
  own_content_safe at i (Some k) env s e fits = read_safe at k (Some (content_at s.frame.owns.contents i)) env s (name_fits here.width kinds.owns s.frame.owns i k fits.owned e) fits
  own_content_safe at i None env s e fits = tt

  own_read_safe : (f : Option BufferField) (at i : ℕ) (env : Env) (s : State) → Fine env s → Safe (plain Yields) s.steps (judged_own around f i at env) ((own_read here f i at).run script s)
  own_read_safe None at i env s fits = own_content_safe at i (kind_at kinds.owns i) env s refl fits
  own_read_safe (Some f) at i env s fits = buffer_field_safe here kinds callee above script at (usable_buffer_field f) env s fits

  -- an own name, or the field of a buffer that it is
  pub own_safe : (at i : ℕ) (env : Env) (s : State) → Fine env s → Safe (plain Yields) s.steps (judged_own around (field_at kinds.fields i) i at env) ((own_held here i at).run script s)
  unfolding ◌>>=◌ own_field
  own_safe at i env s fits = subst (λ fs. Safe (plain Yields) s.steps (judged_own around (field_at fs i) i at env) ((own_read here (field_at s.frame.fields i) i at).run script s)) fits.fields (own_read_safe (field_at s.frame.fields i) at i env s fits)

  pub name_safe : (l : Link) (at : ℕ) (env : Env) (s : State) → Fine env s → Safe (plain Yields) s.steps (judged_name around l at env) ((named here l at).run script s)
  name_safe (link.Data id) at env s fits = content_safe at id.0 (kind_at kinds.shared id.0) env s refl fits
  name_safe (link.Own k) at env s fits = own_safe at k env s fits
  name_safe (link.BufferField id) at env s fits = buffer_field_safe here kinds callee above script at (here.buffer_field id.0) env s fits
  name_safe (link.Field id) at env s fits = field_safe here kinds callee above script at (here.field id.0) env s fits
  name_safe l at env s fits = tt

  -- a literal of data
  pub literal_data_safe : (from : Option ℕ) (k : Kind) (v : Value) (env : Env) (s : State) → Is v k → Fine env s → Safe (plain Yields) s.steps (judged_literal around from k env) ((data_unless here from v).run script s)
  unfolding give
  literal_data_safe None k v env s h fits = (h, fits, omega arith)
  literal_data_safe (Some from) k v env s h fits = tt

  -- what SizeOf measures
  seen_safe : (at : ℕ) (k : Kind) (o : Option (Option Value)) (env : Env) (s : State) → HasFit here.width o k → Fine env s → Safe (plain Is) s.steps (goes k env) (content_or here.table at o s)
  seen_safe at k (Some (Some v)) env s h fits = (h, fits, omega arith)
  seen_safe at k (Some None) env s h fits = absurd h
  seen_safe at k None env s h fits = absurd h

  slot_seen_safe : (at i : ℕ) (ks : List Slot) (vs : List (Option Value)) (slot : Option Slot) (env : Env) (s : State) → slice_get ks i ≡ slot → FitSlots here.width vs ks → Fine env s → Safe (plain Is) s.steps (judged_slot_seen around at slot env) (content_or here.table at (slice_get vs i) s)
  slot_seen_safe at i ks vs (Some (Some k)) env s e fit fits = seen_safe at k (slice_get vs i) env s (get_fits here.width vs ks i k e fit) fits
  slot_seen_safe at i ks vs (Some None) env s e fit fits = tt
  slot_seen_safe at i ks vs None env s e fit fits = tt

  content_seen_safe : (at i : ℕ) (o : Option Kind) (env : Env) (s : State) → kind_at kinds.shared i ≡ o → Fine env s → Safe (plain Is) s.steps (judged_content_seen around at o env) ((get_name here.table at i).run script s)
  unfolding get_name
  content_seen_safe at i (Some k) env s e fits = seen_safe at k (Some (content_at s.names.contents i)) env s (name_fits here.width kinds.shared s.names i k fits.shared e) fits
  content_seen_safe at i None env s e fits = tt

  own_content_seen_safe : (at i : ℕ) (o : Option Kind) (env : Env) (s : State) → kind_at kinds.owns i ≡ o → Fine env s → Safe (plain Is) s.steps (judged_content_seen around at o env) ((get_own here.table at i).run script s)
  unfolding get_own
  own_content_seen_safe at i (Some k) env s e fits = seen_safe at k (Some (content_at s.frame.owns.contents i)) env s (name_fits here.width kinds.owns s.frame.owns i k fits.owned e) fits
  own_content_seen_safe at i None env s e fits = tt

  own_measured_safe : (f : Option BufferField) (at i : ℕ) (env : Env) (s : State) → Fine env s → Safe (plain Is) s.steps (judged_own_seen around f i at env) ((own_measured here f i at).run script s)
  own_measured_safe None at i env s fits = own_content_seen_safe at i (kind_at kinds.owns i) env s refl fits
  own_measured_safe (Some f) at i env s fits = tt

  own_seen_safe : (at i : ℕ) (env : Env) (s : State) → Fine env s → Safe (plain Is) s.steps (judged_own_seen around (field_at kinds.fields i) i at env) ((own_seen here i at).run script s)
  unfolding ◌>>=◌ own_field
  own_seen_safe at i env s fits = subst (λ fs. Safe (plain Is) s.steps (judged_own_seen around (field_at fs i) i at env) ((own_measured here (field_at s.frame.fields i) i at).run script s)) fits.fields (own_measured_safe (field_at s.frame.fields i) at i env s fits)

  name_seen_safe : (l : Link) (at : ℕ) (env : Env) (s : State) → Fine env s → Safe (plain Is) s.steps (judged_name_seen around l at env) ((named_seen here l at).run script s)
  name_seen_safe (link.Data id) at env s fits = content_seen_safe at id.0 (kind_at kinds.shared id.0) env s refl fits
  name_seen_safe (link.Own k) at env s fits = own_seen_safe at k env s fits
  name_seen_safe l at env s fits = tt

  act_seen_safe : (a : Action) (at : ℕ) (env : Env) (s : State) → Fine env s → Safe (plain Is) s.steps (judged_seen around a at env) ((seen here a at).run script s)
  unfolding get_local get_arg
  act_seen_safe (Local i) at env s fits = slot_seen_safe at i env.locals s.frame.locals (slice_get env.locals i) env s refl fits.own fits
  act_seen_safe (Argument i) at env s fits = slot_seen_safe at i env.args s.frame.args (slice_get env.args i) env s refl fits.given fits
  act_seen_safe Name at env s fits = name_seen_safe (here.link at) at env s fits
  act_seen_safe a at env s fits = tt

  pub size_safe : (t : Tree) (env : Env) (s : State) → Fine env s → Safe (plain Is) s.steps (judged_size around t env) ((size here t).run script s)
  unfolding ◌>>=◌
  size_safe (Node o at stop ts) env s fits =
      safe_then here.width kinds above (plain Is) (plain Is) s.steps _ _ _ _ (act_seen_safe (action o) at env s fits) (λ k e v s1 h f1.
      lift_safe Is (size_kind here.width (judge.place_at around at) k) (size_of here.width (place_at here at) v) e s1 (size_follows here.width _ _ k v h) f1)

  asked_safe : (what into : Action) (at from : ℕ) (env : Env) (s : State) → Fine env s → Safe (plain Yields) s.steps (judged_asked around what into at env) ((asked here what into at from).run script s)
  unfolding give
  asked_safe Name NoTarget at from env s fits = (truth_fits here.width (is_there (here.link from)), fits, omega arith)
  asked_safe what into at from env s fits = tt

  pub condition_safe : (at : ℕ) (a g : Tree) (env : Env) (s : State) → Fine env s → Safe (plain Yields) s.steps (judged_condition around at a g env) ((condition here at a g).run script s)
  condition_safe at (Node o from stop parts) (Node target behind end others) env s fits = asked_safe (action o) (action target) at from env s fits

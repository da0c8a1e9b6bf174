-- Fields of regions, read and stored into, as they are judged.
use Rattle.std.proofs.Common.{◌≡◌, ℕ, ◌+◌, ◌/◌, List, length, Option, Some, None, Result, Ok, Err, sym, subst, arith}
use Rattle.std.specs.Prelude.{Bool, true, false, ◌==◌, ◌&&◌, if◌then◌else◌, nat_lt}
use Rattle.std.proofs.lemmas.Bool.{eqb-true}
use Rattle.aml_values.specs.Values.{Value, Int, Buf, Str, Pkg}
use Rattle.aml_kinds.specs.Kinds.{Kind, IntUpTo, BufOf}
use Rattle.aml_regions.specs.Events.{Event}
use Rattle.aml_regions.specs.Fields.{layout_of}
use Rattle.aml_regions.specs.declared.field.AnyField.{AnyField}
use Rattle.aml_meaning.specs.declared.error.AmlError.{AmlError}
use Rattle.aml_meaning.specs.State as state
use Rattle.aml_meaning.specs.State.{State, Out, Halts, NoAnswer, Spent, with_steps}
use Rattle.aml_meaning.specs.Parts.{◌>>=◌, give, stop_with, lift, tick, paid, then_do}
use Rattle.aml_meaning.specs.Rules.{Place}
use Rattle.aml_meaning.specs.Fields.{read_value, write_bits, read_count, write_count}
use Rattle.aml_meaning.specs.FieldValues.{buffer_bits, given_bits, takes_buffer, wanted_field}
use Rattle.aml_meaning.specs.Meaning.{Setting, bits_stored, place_at, yields}
use Rattle.aml_judged.specs.Causes as causes
use Rattle.aml_judged.specs.Causes.{Refusal}
use Rattle.aml_judged.specs.Known.{Env}
use Rattle.aml_judged.specs.Judge as judge
use Rattle.aml_judged.specs.Judge.{judged_field, judged_field_stored, judged_written}
use Rattle.aml_judged.specs.Judged.{NameKinds, Always, Seen, no_exits, pays, refuses, ruled, then_judge}
use Rattle.aml_judged.specs.KindRules.{field_kind, given_kind}
use Rattle.aml_judged.specs.Events.{Costs}
use Rattle.aml_judged.specs.Safe.{FitsHeld, FitNames, FitSlots, IsOf, IsUnder}
use Rattle.aml_judged.proofs.Words.{words_of}
use Rattle.aml_judged.proofs.Events.{fields_cost}
use Rattle.aml_judged.proofs.FieldValues.{Makes, field_made}
use Rattle.aml_judged.proofs.KindRules.{plain, Follows}
use Rattle.aml_judged.proofs.Loops.{IsUnit}
use Rattle.aml_judged.proofs.Parts.{after_safe, stepped, tick_then}

abbrev pub Given : (ℕ → ℕ) → Unit {0} → Type 0
Given bit u = Unit {0}

pub given_follows : (width bits : ℕ) (p q : Place) (k : Kind) (v : Value) → IsOf width v k → Follows Given (given_kind width p bits k) (given_bits width q bits v)
given_follows width bits p q (IntUpTo a) (Int n) h = tt
given_follows width bits p q (IntUpTo a) (Buf xs) h = absurd (let bad : false ≡ true = h.fit in cc)
given_follows width bits p q (IntUpTo a) (Str xs) h = absurd (let bad : false ≡ true = h.fit in cc)
given_follows width bits p q (IntUpTo a) (Pkg xs) h = absurd (let bad : false ≡ true = h.fit in cc)
given_follows width bits p q (BufOf n) (Buf xs) h = subst (λ m. Follows Given (if nat_lt width bits && (m == (bits + 7) / 8) then Ok tt else refuses causes.WrongKind p) (buffer_bits (takes_buffer width bits xs) q xs)) (eqb-true (length xs) n h.fit) (choice (takes_buffer width bits xs))
  where
    choice : (b : Bool) → Follows Given (if b then Ok tt else refuses causes.WrongKind p) (buffer_bits b q xs)
    choice true = tt
    choice false = tt
given_follows width bits p q (BufOf n) (Int x) h = absurd (let bad : false ≡ true = h.fit in cc)
given_follows width bits p q (BufOf n) (Str xs) h = absurd (let bad : false ≡ true = h.fit in cc)
given_follows width bits p q (BufOf n) (Pkg xs) h = absurd (let bad : false ≡ true = h.fit in cc)
given_follows width bits p q k v h = tt

module _ (here : Setting) (kinds : NameKinds) (callee : ℕ → Seen) (above : ℕ) (script : List Event) where
  open words_of here kinds callee above use {around, Fine, Safe, Is, Yields}

  -- what is known stays, where frame and names do
  moved : (env : Env) (s last : State) → last.frame ≡ s.frame → last.names ≡ s.names → Fine env s → Fine env last
  moved env s last e g fits = record {
    reached = fits.reached;
    own = subst (λ f. FitSlots here.width f.locals env.locals) (sym e) fits.own;
    given = subst (λ f. FitSlots here.width f.args env.args) (sym e) fits.given;
    shared = subst (λ n. FitNames here.width kinds.shared n) (sym g) fits.shared;
    owned = subst (λ f. FitNames here.width kinds.owns f.owns) (sym e) fits.owned;
    fields = subst (λ f. f.fields ≡ kinds.fields) (sym e) fits.fields;
    holds = subst (λ f. FitsHeld f.held env.held) (sym e) fits.holds;
    callers = subst (IsUnder above) (sym e) fits.callers;
  }

  read_out : (n : ℕ) (k : Kind) (env : Env) (s : State) (o : Out Value) → Costs n s o → Makes (λ v. Is v k) o → Fine env s → Safe (plain Yields) s.steps (pays n (Always k) env) (then_do o (λ v next. state.Goes (Some v) next))
  read_out n k env s (state.Goes v last) c m fits = (m, moved env s last c.1 c.2 fits, c.0)
  read_out n k env s (Halts stop last) c m fits = absurd c
  read_out n k env s (NoAnswer last) c m fits = tt
  read_out n k env s (Spent last) c m fits = c

  write_out : (n : ℕ) (env : Env) (s : State) (o : Out (Unit {0})) → Costs n s o → Fine env s → Safe IsUnit s.steps (pays n tt env) o
  write_out n env s (state.Goes v last) c fits = (tt, moved env s last c.1 c.2 fits, c.0)
  write_out n env s (Halts stop last) c fits = absurd c
  write_out n env s (NoAnswer last) c fits = tt
  write_out n env s (Spent last) c fits = c

  pub field_safe : (at : ℕ) (o : Option AnyField) (env : Env) (s : State) → Fine env s → Safe (plain Yields) s.steps (judged_field around o at env) ((lift (wanted_field (place_at here at) o) >>= (λ f. read_value here.width f >>= (λ v. yields here v))).run script s)
  unfolding ◌>>=◌ give
  field_safe at None env s fits = tt
  field_safe at (Some f) env s fits = read_out (read_count f) (field_kind here.width (layout_of f).bits) env s ((read_value here.width f).run script s) (fields_cost.read here.width f script s) (field_made here.width f script s) fits

  written_safe : (at : ℕ) (o : Option AnyField) (k : Kind) (v : Value) (env : Env) (s : State) → Is v k → Fine env s → Safe IsUnit s.steps (judged_written around o at k env) ((lift (wanted_field (place_at here at) o) >>= (λ f. bits_stored here at f v)).run script s)
  unfolding ◌>>=◌ give stop_with
  written_safe at None k v env s h fits = tt
  written_safe at (Some f) k v env s h fits = by (given_kind here.width (judge.place_at around at) (layout_of f).bits k) (given_bits here.width (place_at here at) (layout_of f).bits v) (given_follows here.width (layout_of f).bits _ _ k v h)
    where
      by : (rk : Result (Unit {0}) Refusal) (rv : Result (ℕ → ℕ) AmlError) → Follows Given rk rv → Safe IsUnit s.steps (then_judge (ruled rk env) (λ u e. pays (write_count f) tt e)) (then_do ((lift rv).run script s) (λ bit next. (write_bits f bit).run script next))
      by (Err r) rv g = tt
      by (Ok u) (Ok bit) g = after_safe here.width kinds above IsUnit no_exits 0 s.steps s.steps (pays (write_count f) tt env) ((write_bits f bit).run script s) (omega arith) (write_out (write_count f) env s ((write_bits f bit).run script s) (fields_cost.write f bit script s) fits)
      by (Ok u) (Err e) g = absurd g

  pub field_stored_safe : (at : ℕ) (o : Option AnyField) (k : Kind) (v : Value) (env : Env) (s : State) → Is v k → Fine env s → Safe IsUnit s.steps (judged_field_stored around o at k env) ((tick >>= (λ u. lift (wanted_field (place_at here at) o) >>= (λ f. bits_stored here at f v))).run script s)
  unfolding ◌>>=◌ tick paid
  field_stored_safe at o k v env s h fits = tick_then here.width kinds above IsUnit (judged_written around o at k env) s.steps s _ (λ m. written_safe at o k v env (with_steps s m) h (stepped here.width kinds above env s m fits))

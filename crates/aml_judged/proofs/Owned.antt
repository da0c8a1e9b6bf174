-- Own names, and their first contents.
use Rattle.std.proofs.Common.{◌≡◌, ℕ, zero, suc, ◌+◌, ◌%◌, ◌^◌, ◌<◌, ◌≤◌, List, [], ◌∷◌, ◌++◌, Option, Some, None, refl, ap, subst, arith}
use Rattle.std.proofs.lemmas.Bool.{and_parts}
use Rattle.std.specs.Prelude.{Bool, true, false, if◌then◌else◌, unwrap_or}
use Rattle.aml_operators.specs.Literal.{literal_in, literal_of}
use Rattle.aml_operators.specs.Tree.{Tree, Trees, Node, none, more}
use Rattle.aml_values.specs.Values.{Value, Int, Buf, Str, Pkg}
use Rattle.aml_kinds.specs.Kinds.{Kind, IntUpTo}
use Rattle.aml_kinds.specs.Fits.{fits}
use Rattle.aml_contents.specs.FirstKinds.{name_kind}
use Rattle.aml_contents.specs.BodyData.{computed_size}
use Rattle.aml_contents.specs.Contents.{Contents, ContentKinds, content_at, are_fitting, is_fitting}
use Rattle.aml_regions.specs.Events.{Event}
use Rattle.aml_meaning.specs.declared.action.Action.{Action}
use Rattle.aml_meaning.specs.declared.action.Action.TheVariants.{Literal, Data}
use Rattle.aml_meaning.specs.declared.definition.Definition.{Definition}
use Rattle.aml_meaning.specs.declared.definition.Definition.TheVariants as makes
use Rattle.aml_meaning.specs.declared.buffer_field.BufferField.{BufferField}
use Rattle.aml_meaning.specs.Actions.{action}
use Rattle.aml_meaning.specs.State as state
use Rattle.aml_meaning.specs.State.{State, Names, Stop, Out, Halts, NoAnswer, Spent, with_steps}
use Rattle.aml_meaning.specs.Parts.{◌>>=◌, give, tick, paid, take_step, then_do, M}
use Rattle.aml_meaning.specs.Owns.{field_at, first_held, with_first, with_made, make_own, define_own, own_field}
use Rattle.aml_meaning.specs.Meaning.{Setting, at_of, outside, want, data_unless}
use Rattle.aml_meaning.specs.Definitions.{define, made, makes_own, own_source, field_source, make_field, source_of}
use Rattle.aml_judged.specs.Causes as causes
use Rattle.aml_judged.specs.Known.{Env, greatest}
use Rattle.aml_judged.specs.Judge.{stops}
use Rattle.aml_judged.specs.Judged.{NameKinds, Seen, Judged, Goes, Stops, no_exits, after, then_judge, goes, Exits, Rule}
use Rattle.aml_judged.specs.Safe.{IsWord, IsOf, FitNames, FitsState, FitsStop, IsSafe}
use Rattle.aml_judged.specs.Small.{IsSmallBy, IsSmall, AllSmall}
use Rattle.aml_judged.specs.Bodies.{grown_kinds, unless_computed, first_kind_by, judged_data, judged_made, Made, Holding, Field, judged_own_source, judged_source, judged_field_made}
use Rattle.aml_judged.proofs.Fits.{both, fits_by, in_range, in_greatest}
use Rattle.aml_judged.proofs.Turns.{value_of}
use Rattle.aml_judged.proofs.Words.{around_of}
use Rattle.aml_judged.proofs.Parts.{stop_left, stop_right}
use Rattle.aml_judged.proofs.KindRules.{plain}
use Rattle.std.specs.Option.{option_map}
use Rattle.aml_namespace.specs.declared.link.Link.{Link}
use Rattle.aml_namespace.specs.declared.link.Link.TheVariants as link
use Rattle.aml_objects.specs.declared.object.CreatedFieldSize.{CreatedFieldSize}
use Rattle.aml_objects.specs.declared.object.CreatedFieldSize.TheVariants as size
use Rattle.aml_meaning.specs.BufferFields.{made_buffer_field}

first_is : (width : ℕ) (v : Value) → IsWord width v → IsOf width (first_held width v) (name_kind (greatest width) v)
first_is width (Int n) h = record { fit = in_greatest width _ (in_range width n); word = in_range width n }
first_is width (Buf bytes) h = record { fit = fits_by (Buf bytes); word = h }
first_is width (Str characters) h = record { fit = fits_by (Str characters); word = h }
first_is width (Pkg es) h = record { fit = fits_by (Pkg es); word = h }

pushed_fit : (vs : Contents) (ks : ContentKinds) (v : Option Value) (k : Option Kind) → are_fitting vs ks ≡ true → is_fitting v k ≡ true → are_fitting (vs ++ v ∷ []) (ks ++ k ∷ []) ≡ true
pushed_fit [] [] v k f h = both (is_fitting v k) true h refl
pushed_fit [] (j ∷ ks) v k f h = absurd cc
pushed_fit (x ∷ vs) [] v k f h = absurd cc
pushed_fit (x ∷ vs) (j ∷ ks) v k f h = let two = and_parts (is_fitting x j) (are_fitting vs ks) f in both (is_fitting x j) (are_fitting (vs ++ v ∷ []) (ks ++ k ∷ [])) two.0 (pushed_fit vs ks v k two.1 h)

pushed_words : (width : ℕ) (vs : Contents) (o : Option Value) (i : ℕ) (u : Value) → content_at (vs ++ o ∷ []) i ≡ Some u → ((j : ℕ) (u : Value) → content_at vs j ≡ Some u → IsWord width u) → ((u : Value) → o ≡ Some u → IsWord width u) → IsWord width u
pushed_words width [] o zero u e w h = h u e
pushed_words width [] o (suc i) u e w h = absurd cc
pushed_words width (x ∷ vs) o zero u e w h = w zero u e
pushed_words width (x ∷ vs) o (suc i) u e w h = pushed_words width vs o i u e (λ j. w (suc j)) h

same_word : (width : ℕ) (v : Value) → IsWord width v → (u : Value) → Some v ≡ Some u → IsWord width u
same_word width v h u e = let same : v ≡ u = cc in subst (IsWord width) same h

pushed_names : (width : ℕ) (ks : ContentKinds) (names : Names) (v : Value) → IsWord width v → FitNames width ks names → FitNames width (ks ++ Some (name_kind (greatest width) v) ∷ []) (with_first width names (Some v))
pushed_names width ks names v small f =
    let first = first_is width v small in
    record {
      kinds_stay = ap (λ l. l ++ Some (name_kind (greatest width) v) ∷ []) f.kinds_stay;
      fitting = pushed_fit names.contents ks (Some (first_held width v)) (Some (name_kind (greatest width) v)) f.fitting first.fit;
      words = λ i u e. pushed_words width names.contents (Some (first_held width v)) i u e f.words (same_word width (first_held width v) first.word);
    }

-- a name that holds nothing of its own
pushed_none : (width : ℕ) (ks : ContentKinds) (names : Names) → FitNames width ks names → FitNames width (ks ++ None ∷ []) (with_first width names None)
pushed_none width ks names f = record {
  kinds_stay = ap (λ l. l ++ None ∷ []) f.kinds_stay;
  fitting = pushed_fit names.contents ks None None f.fitting refl;
  words = λ i u e. pushed_words width names.contents None i u e f.words (λ u e. absurd cc);
}

abbrev SameLink : Link → Link → Type 0
SameLink l k = l ≡ k

module _ (here : Setting) (kinds : NameKinds) (callee : ℕ → Seen) (above : ℕ) (script : List Event) where
  -- a statement at the top of a body, which may have made an own name
  abbrev pub IsMade : ℕ → Judged Made → Out (Unit {0}) → Type 0
  IsMade before (Stops r) o = Unit {0}
  IsMade before (Goes k env x n) (state.Goes v s) = FitsState here.width (grown_kinds kinds k) above env s × (before ≤ s.steps + n)
  IsMade before (Goes k env x n) (Halts stop s) = FitsStop here.width kinds above x stop s × (before ≤ s.steps + n)
  IsMade before (Goes k env x n) (NoAnswer s) = Unit {0}
  IsMade before (Goes k env x n) (Spent s) = before < n

  pub made_tick : (j : Judged Made) (n : ℕ) (s : State) (f : Unit {0} → State → Out (Unit {0})) → ((m : ℕ) → IsMade m j (f tt (with_steps s m))) → IsMade n (after no_exits 1 j) (then_do (take_step n s (λ next. state.Goes tt next)) f)
  made_tick (Stops r) n s f next = tt
  made_tick (Goes k env x c) zero s f next = omega arith
  made_tick (Goes k env x c) (suc n) s f next = by (f tt (with_steps s n)) (next n)
    where
      by : (o : Out (Unit {0})) → IsMade n (Goes k env x c) o → IsMade (suc n) (after no_exits 1 (Goes k env x c)) o
      by (state.Goes v last) h = (h.0, omega (arith, h.1))
      by (Halts stop last) h = (h.0, omega (arith, h.1))
      by (NoAnswer last) h = tt
      by (Spent last) h = omega (arith, h)

  two_tick : (k : Made) (env : Env) (n : ℕ) (s : State) (f : Unit {0} → State → Out Value) (g : Value → State → Out (Unit {0})) → ((m : ℕ) → IsMade m (goes k env) (then_do (f tt (with_steps s m)) g)) → IsMade n (Goes k env no_exits 1) (then_do (then_do (take_step n s (λ next. state.Goes tt next)) f) g)
  two_tick k env zero s f g next = omega arith
  two_tick k env (suc n) s f g next = by (then_do (f tt (with_steps s n)) g) (next n)
    where
      by : (o : Out (Unit {0})) → IsMade n (goes k env) o → IsMade (suc n) (Goes k env no_exits 1) o
      by (state.Goes v last) h = (h.0, omega (arith, h.1))
      by (Halts stop last) h = (h.0, omega (arith, h.1))
      by (NoAnswer last) h = tt
      by (Spent last) h = omega (arith, h)

  -- a value is held first
  held_first : (v : Value) (env : Env) (s : State) → IsWord here.width v → FitsState here.width kinds above env s → FitsState here.width (grown_kinds kinds (Holding (name_kind (greatest here.width) v))) above env (with_made here.width s (Some v) None)
  held_first v env s h f = record { reached = f.reached; own = f.own; given = f.given; shared = f.shared; owned = pushed_names here.width kinds.owns s.frame.owns v h f.owned; fields = ap (λ l. l ++ None ∷ []) f.fields; holds = f.holds; callers = f.callers }

  define_by : (a : Action) (at : ℕ) (ts : Trees) → IsSmallBy here.width here.literal a ts → (env : Env) (s : State) → FitsState here.width kinds above env s → IsMade s.steps (then_judge (after no_exits 1 (first_kind_by (around_of here kinds callee) a at ts env)) (λ k. goes (Holding k))) ((value_of (around_of here kinds callee) here refl a at ts >>= (λ v. define_own here.width v)).run script s)
  unfolding ◌>>=◌ tick paid give make_own
  define_by (Literal q) at ts small env s fits = two_tick (Holding (IntUpTo (greatest here.width))) env s.steps s _ _ (λ m. (held_first (Int (unwrap_or (literal_in q ts) 0 % 2 ^ here.width)) env (with_steps s m) (in_range here.width (unwrap_or (literal_in q ts) 0)) (record { reached = fits.reached; own = fits.own; given = fits.given; shared = fits.shared; owned = fits.owned; fields = fits.fields; holds = fits.holds; callers = fits.callers }), omega arith))
  define_by (Data q) at ts small env s fits = by (computed_size q at ts)
    where
      by : (o : Option ℕ) → IsMade s.steps (then_judge (after no_exits 1 (unless_computed (around_of here kinds callee) o (name_kind (greatest here.width) (here.literal q ts)) env)) (λ k. goes (Holding k))) (then_do (then_do (take_step {V = Unit {0}} s.steps s (λ next. state.Goes tt next)) (λ u next. then_do ((data_unless here o (here.literal q ts)).run script next) (λ v last. (want here at v).run script last))) (λ v next. (define_own here.width v).run script next))
      by (Some from) = tt
      by None = two_tick (Holding (name_kind (greatest here.width) (here.literal q ts))) env s.steps s _ _ (λ m. (held_first (here.literal q ts) env (with_steps s m) small (record { reached = fits.reached; own = fits.own; given = fits.given; shared = fits.shared; owned = fits.owned; fields = fits.fields; holds = fits.holds; callers = fits.callers }), omega arith))
  define_by a at ts small env s fits = tt

  define_safe : (t : Tree) → IsSmall here.width here.literal t → (env : Env) (s : State) → FitsState here.width kinds above env s → IsMade s.steps (then_judge (judged_data (around_of here kinds callee) t env) (λ k. goes (Holding k))) ((define here t).run script s)
  define_safe (Node o at stop ts) small env s fits = define_by (action o) at ts small.0 env s fits

  -- a part, and what it makes
  after_made : (x : Exits) (n from before : ℕ) (j : Judged Made) (o : Out (Unit {0})) → before ≤ from + n → IsMade from j o → IsMade before (after x n j) o
  after_made x n from before (Stops r) o le h = tt
  after_made x n from before (Goes k env y m) (state.Goes v s) le h = (h.0, omega (arith, le, h.1))
  after_made x n from before (Goes k env y m) (Halts stop s) le h = (stop_right here.width kinds above x y stop s h.0, omega (arith, le, h.1))
  after_made x n from before (Goes k env y m) (NoAnswer s) le h = tt
  after_made x n from before (Goes k env y m) (Spent s) le h = omega (arith, le, h)

  halted_made : (x : Exits) (n before : ℕ) (j : Judged Made) (stop : Stop) (s : State) → FitsStop here.width kinds above x stop s → before ≤ s.steps + n → IsMade before (after x n j) (Halts stop s)
  halted_made x n before (Goes k env y m) stop s h le = (stop_left here.width kinds above x y stop s h, omega (arith, le))
  halted_made x n before (Stops r) stop s h le = tt

  unanswered_made : (before : ℕ) (j : Judged Made) (s : State) → IsMade before j (NoAnswer s)
  unanswered_made before (Goes k env x n) s = tt
  unanswered_made before (Stops r) s = tt

  spent_made : (x : Exits) (n before : ℕ) (j : Judged Made) (s : State) → before < n → IsMade before (after x n j) (Spent s)
  spent_made x n before (Goes k env y m) s lt = omega (arith, lt)
  spent_made x n before (Stops r) s lt = tt

  then_made : {V K : Type 0} (P : V → K → Type 0) (before : ℕ) (j : Judged K) (jf : K → Env → Judged Made) (o : Out V) (f : V → State → Out (Unit {0})) → IsSafe here.width kinds above (plain P) before j o → ((k : K) (env : Env) (v : V) (s : State) → P v k → FitsState here.width kinds above env s → IsMade s.steps (jf k env) (f v s)) → IsMade before (then_judge j jf) (then_do o f)
  then_made P before (Stops r) jf o f h next = tt
  then_made P before (Goes k env x n) jf (state.Goes v s) f h next = after_made x n s.steps before (jf k env) (f v s) h.2 (next k env v s h.0 h.1)
  then_made P before (Goes k env x n) jf (Halts stop s) f h next = halted_made x n before (jf k env) stop s h.0 h.1
  then_made P before (Goes k env x n) jf (NoAnswer s) f h next = unanswered_made before (after x n (jf k env)) s
  then_made P before (Goes k env x n) jf (Spent s) f h next = spent_made x n before (jf k env) s h

  -- the source of a field
  own_source_safe : (at k : ℕ) (f : Option BufferField) (env : Env) (s : State) → FitsState here.width kinds above env s → IsSafe here.width kinds above (plain SameLink) s.steps (judged_own_source (around_of here kinds callee) at k f env) ((own_source here at k f).run script s)
  unfolding give
  own_source_safe at k None env s fits = (refl, fits, omega arith)
  own_source_safe at k (Some f) env s fits = tt

  source_safe : (at : ℕ) (l : Link) (env : Env) (s : State) → FitsState here.width kinds above env s → IsSafe here.width kinds above (plain SameLink) s.steps (judged_source (around_of here kinds callee) at l env) ((field_source here at l).run script s)
  unfolding ◌>>=◌ give own_field
  source_safe at (link.Data id) env s fits = (refl, fits, omega arith)
  source_safe at (link.Own k) env s fits = subst (λ fs. IsSafe here.width kinds above (plain SameLink) s.steps (judged_own_source (around_of here kinds callee) at k (field_at fs k) env) ((own_source here at k (field_at s.frame.fields k)).run script s)) fits.fields (own_source_safe at k (field_at s.frame.fields k) env s fits)
  source_safe at l env s fits = tt

  -- a field of a buffer is made
  field_first : (f g : BufferField) (env : Env) (s : State) → f ≡ g → FitsState here.width kinds above env s → FitsState here.width (grown_kinds kinds (Field g)) above env (with_made here.width s None (Some f))
  field_first f g env s e h = record { reached = h.reached; own = h.own; given = h.given; shared = h.shared; owned = pushed_none here.width kinds.owns s.frame.owns h.owned; fields = (λ i. h.fields i ++ Some (e i) ∷ []); holds = h.holds; callers = h.callers }

  field_made_safe : (at : ℕ) (from index : Option ℕ) (counted : Option CreatedFieldSize) (env : Env) (s : State) → FitsState here.width kinds above env s → IsMade s.steps (judged_field_made (around_of here kinds callee) at from index counted env) ((make_field here at from index counted).run script s)
  unfolding ◌>>=◌ make_own
  field_made_safe at (Some from) (Some index) (Some counted) env s fits =
      then_made SameLink s.steps _ (λ l. goes (Field (made_buffer_field here.width l counted index))) ((field_source here at (here.link from)).run script s) _ (source_safe at (here.link from) env s fits)
      (λ k e v s1 same f1. (field_first (made_buffer_field here.width v counted index) (made_buffer_field here.width k counted index) e s1 (ap (λ l. made_buffer_field here.width l counted index) same) f1, omega arith))
  field_made_safe at None index counted env s fits = tt
  field_made_safe at (Some from) None counted env s fits = tt
  field_made_safe at (Some from) (Some index) None env s fits = tt

  -- where a definition makes an own name
  where_made : (b : Bool) (rule : Rule Made) (m : M (Unit {0})) (at : ℕ) (env : Env) (s : State) → IsMade s.steps (rule env) (m.run script s) → IsMade s.steps ((if b then rule else stops (around_of here kinds callee) causes.LocalName at) env) ((if b then m else outside here at).run script s)
  where_made true rule m at env s h = h
  where_made false rule m at env s h = tt

  pub made_safe : (d : Definition) (at : ℕ) (ts : Trees) → AllSmall here.width here.literal ts → (env : Env) (s : State) → FitsState here.width kinds above env s → IsMade s.steps (judged_made (around_of here kinds callee) d at ts env) ((made here d at ts).run script s)
  made_safe makes.Name at (more name (more held none)) small env s fits = where_made (makes_own here (at_of name)) (λ e. then_judge (judged_data (around_of here kinds callee) held e) (λ k. goes (Holding k))) (define here held) at env s (define_safe held small.1.0 env s fits)
  made_safe (makes.Field counted) at (more source (more index (more name none))) small env s fits = where_made (makes_own here (at_of name)) (judged_field_made (around_of here kinds callee) at (source_of source) (literal_of index) (Some counted)) (make_field here at (source_of source) (literal_of index) (Some counted)) at env s (field_made_safe at (source_of source) (literal_of index) (Some counted) env s fits)
  made_safe makes.CountedField at (more source (more index (more count (more name none)))) small env s fits = where_made (makes_own here (at_of name)) (judged_field_made (around_of here kinds callee) at (source_of source) (literal_of index) (option_map size.Bits (literal_of count))) (make_field here at (source_of source) (literal_of index) (option_map size.Bits (literal_of count))) at env s (field_made_safe at (source_of source) (literal_of index) (option_map size.Bits (literal_of count)) env s fits)
  made_safe d at ts small env s fits = tt

-- What an Index leads to, and a byte that is written.
use Rattle.std.proofs.Common.{◌≡◌, ◌∙◌, ℕ, List, Bool, Option, Result, Ok, Err, refl, ap, subst}
use Rattle.aml_operators.specs.declared.term.Term.{Term}
use Rattle.aml_operators.specs.declared.term.Term.TheViews.{out-Term}
use Rattle.aml_operators.specs.Tree.{Tree, Trees, more, none, view, views}
use Rattle.aml_operators.proofs.Views.{view_out}
use Rattle.aml_causes.specs.declared.cause.Cause.TheVariants as cause
use Rattle.aml_causes.specs.declared.cause.Refusal.{Refusal}
use Rattle.aml_kinds.specs.Kinds.{Kind, Shape}
use Rattle.aml_meaning.specs.Actions.{action}
use Rattle.aml_meaning.specs.Rules.{Place}
use Rattle.aml_meaning.specs.declared.action.Action.{Action}
use Rattle.aml_meaning.specs.declared.action.Action.TheVariants as does
use Rattle.aml_judged.specs.KindRules.{byte_written_kind, led_kind}
use Rattle.aml_judged.specs.Judge.{held_kind, judged_act, judged_indexed, judged_led, judged_put, judged_store, judged_stored, judged_untargeted, judged_value, number_of, place_at, stops}
use Rattle.aml_judged.specs.Judged as judged
use Rattle.aml_judged.specs.Judged.{Always, Around, Rule, goes, pays, ruled, step, ◌>>=◌}
use Rattle.aml_known.specs.declared.accepted.Yield.TheVariants as yield
use Rattle.aml_known.specs.declared.known.Known.{Known}
use Rattle.aml_known.specs.declared.stop.Stop.{Stop}
use Rattle.aml_known.specs.declared.stop.Stop.TheVariants as stop
use Rattle.aml_known.specs.Views.{kind_of, yield_of}
use Rattle.aml_kind_rules.specs.Tells.{Obeys}
use Rattle.aml_judging.specs.declared.progress.Progress.{Progress}
use Rattle.aml_judging.specs.Follows.{Gives, Judges, Paid}
use Rattle.aml_judging.proofs.Going.{Leads, gives_judges, gives_stops, leads_more, leads_on}
use Rattle.aml_judging.proofs.Stored.{costs_judge}
use Rattle.aml_walk.proofs.StoresRuled.{leads_as, leads_stop, obeyed_judges, ruled_judges, ruled_stops}
use Rattle.aml_walk.proofs.StoresActs.{place_out}

module _ (here : Around) where
  -- a DerefOf of one
  pub dereferenced_is : (w : Bool) (at : ℕ) (o : Term) (ts : List Term) → views ts ≡ more (view o) none → judged_act here w does.Dereference at (views ts) ≡ judged_led here (action (out-Term o).op) at (out-Term o).at (views (out-Term o).parts.items)
  dereferenced_is w at o ts one = ap (λ (parts : Trees). judged_act here w does.Dereference at parts) (one ∙ (λ i. more (view_out o i) none))

  -- of what is no Index
  pub led_elsewhere : (a : Action) (at from : ℕ) (parts : Trees) → (a ≡ does.Index → ⊥) → judged_led here a at from parts ≡ stops here cause.OutsideProfile at
  led_elsewhere does.Index at from parts differs = absurd (differs refl)
  led_elsewhere a at from parts differs = refl

  -- a target by its operator
  pub store_is : (t : Term) (k : Kind) → judged_store here (view t) k ≡ judged_stored here (action (out-Term t).op) (out-Term t).at (views (out-Term t).parts.items) k
  store_is t k = ap (λ (v : Tree). judged_store here v k) (view_out t)

  -- one that is no Index
  pub stored_elsewhere : (a : Action) (at : ℕ) (parts : Trees) (k : Kind) → (a ≡ does.Index → ⊥) → judged_stored here a at parts k ≡ judged_put here a at k
  stored_elsewhere does.Index at parts k differs = absurd (differs refl)
  stored_elsewhere a at parts k differs = refl

module _ (shapes : ℕ → Shape) (here : Around) (at from : ℕ) (a i own : Term) (ts : List Term) (old : Progress) (three : views ts ≡ more (view a) (more (view i) (more (view own) none))) where
  abbrev leading : Rule judged.Yield
  leading = judged_led here does.Index at from (views ts)

  abbrev led_as : Kind → Kind → Result Kind Refusal
  led_as j k = led_kind (place_at here from) (place_at here (out-Term a).at) j (place_at here (out-Term i).at) k (number_of here (view i))

  abbrev led_ruled : Kind → Kind → Rule judged.Yield
  led_ruled j k = ruled (led_as j k) >>= (λ (v : Kind). goes (Always v))

  abbrev led_second : Kind → Rule judged.Yield
  led_second j = judged_value here (view i) >>= (λ (k : Kind). led_ruled j k)

  abbrev led_first : Rule judged.Yield
  led_first = judged_value here (view a) >>= (λ (j : Kind). led_second j)

  abbrev led_alone : Rule (Unit {0})
  led_alone = judged_untargeted here from (action (out-Term own).op)

  abbrev led_behind : Rule judged.Yield
  led_behind = led_alone >>= (λ (u : Unit {0}). led_first)

  abbrev led_rule : Rule judged.Yield
  led_rule = step >>= (λ (u : Unit {0}). led_behind)

  led_is : leading ≡ led_rule
  led_is = ap (λ (parts : Trees). judged_led here does.Index at from parts) (three ∙ (λ n. more (view a) (more (view i) (more (view_out own n) none))))
      ∙ (λ n. step >>= (λ (u : Unit {0}). led_alone >>= (λ (u : Unit {0}). judged_value here (view a) >>= (λ (j : Kind). judged_value here (view i) >>= (λ (k : Kind). ruled (led_kind (place_at here from) (place_out here a n) j (place_out here i n) k (number_of here (view i))) >>= (λ (v : Kind). goes (Always v)))))))

  module _ {begun : Progress} (paid : Paid 1 old begun) where
    led_begun : Leads shapes led_behind leading old begun
    led_begun = leads_more {see = λ (u : Unit {0}). u} {m = step} (λ (u : Unit {0}). led_behind) {x = tt} (leads_as old led_is) (costs_judge paid (λ env. refl))

    pub led_targeted : (r : Refusal) → Gives (λ (u : Unit {0}). u) led_alone (Err r) → Judges shapes (λ l. yield_of shapes) leading old begun (Err (stop.Refused r))
    led_targeted r g = leads_stop {see = λ (u : Unit {0}). u} {say = yield_of shapes} {m = led_alone} (λ (u : Unit {0}). led_first) (stop.Refused r) led_begun (gives_stops {see = λ (u : Unit {0}). u} begun r g)

    module _ (alone : Gives (λ (u : Unit {0}). u) led_alone (Ok tt)) where
      led_untargeted : Leads shapes led_first leading old begun
      led_untargeted = leads_more {see = λ (u : Unit {0}). u} {m = led_alone} (λ (u : Unit {0}). led_first) {x = tt} led_begun (gives_judges {see = λ (u : Unit {0}). u} begun tt alone)

      pub led_first_stops : {mid : Progress} (e : Stop) → Judges shapes (λ l. kind_of shapes) (judged_value here (view a)) begun mid (Err e) → Judges shapes (λ l. yield_of shapes) leading old mid (Err e)
      led_first_stops e j = leads_stop {see = kind_of shapes} {say = yield_of shapes} {m = judged_value here (view a)} (λ (j : Kind). led_second j) e led_untargeted j

      module _ {mid : Progress} {j : Known} (first : Judges shapes (λ l. kind_of shapes) (judged_value here (view a)) begun mid (Ok j)) where
        led_valued : Leads shapes (led_second (kind_of shapes j)) leading old mid
        led_valued = leads_more {see = kind_of shapes} {m = judged_value here (view a)} (λ (j : Kind). led_second j) led_untargeted first

        pub led_second_stops : {new : Progress} (e : Stop) → Judges shapes (λ l. kind_of shapes) (judged_value here (view i)) mid new (Err e) → Judges shapes (λ l. yield_of shapes) leading old new (Err e)
        led_second_stops e h = leads_stop {see = kind_of shapes} {say = yield_of shapes} {m = judged_value here (view i)} (λ (k : Kind). led_ruled (kind_of shapes j) k) e led_valued h

        module _ {new : Progress} {k : Known} (second : Judges shapes (λ l. kind_of shapes) (judged_value here (view i)) mid new (Ok k)) where
          led_both : Leads shapes (led_ruled (kind_of shapes j) (kind_of shapes k)) leading old new
          led_both = leads_more {see = kind_of shapes} {m = judged_value here (view i)} (λ (k : Kind). led_ruled (kind_of shapes j) k) led_valued second

          pub led_stops : (e : Stop) → Obeys (kind_of shapes) (Err e) (led_as (kind_of shapes j) (kind_of shapes k)) → Judges shapes (λ l. yield_of shapes) leading old new (Err e)
          led_stops e h = leads_stop {see = kind_of shapes} {say = yield_of shapes} {m = ruled (led_as (kind_of shapes j) (kind_of shapes k))} (λ (v : Kind). goes (Always v)) e led_both (obeyed_judges (kind_of shapes) (led_as (kind_of shapes j) (kind_of shapes k)) new (Err e) h)

          pub led_judges : (v : Known) → Obeys (kind_of shapes) (Ok v) (led_as (kind_of shapes j) (kind_of shapes k)) → Judges shapes (λ l. yield_of shapes) leading old new (Ok (yield.Always v))
          led_judges v h = leads_on (Ok (yield.Always v))
              (leads_more {see = kind_of shapes} {m = ruled (led_as (kind_of shapes j) (kind_of shapes k))} (λ (v : Kind). goes (Always v)) {x = v} led_both (obeyed_judges (kind_of shapes) (led_as (kind_of shapes j) (kind_of shapes k)) new (Ok v) h))
              (gives_judges {see = yield_of shapes} {rule = goes (Always (kind_of shapes v))} new (yield.Always v) (λ env. refl))

module _ (shapes : ℕ → Shape) (here : Around) (at : ℕ) (x i own : Term) (ts : List Term) (v : Kind) (old : Progress) (three : views ts ≡ more (view x) (more (view i) (more (view own) none))) where
  abbrev writing : Rule (Unit {0})
  writing = judged_stored here does.Index at (views ts) v

  abbrev written_as : ℕ → Kind → Result (Unit {0}) Refusal
  written_as from j = byte_written_kind (place_at here at) (place_at here from) (held_kind here (here.link from)) (place_at here (out-Term i).at) j v

  abbrev written_ruled : ℕ → Kind → Rule (Unit {0})
  written_ruled from j = ruled (written_as from j) >>= (λ (u : Unit {0}). pays 1 tt)

  abbrev written_behind : ℕ → Rule (Unit {0})
  written_behind from = judged_value here (view i) >>= (λ (j : Kind). written_ruled from j)

  abbrev written_first : Rule ℕ
  written_first = judged_indexed here at (action (out-Term own).op) (view x)

  abbrev written_rule : Rule (Unit {0})
  written_rule = written_first >>= (λ (from : ℕ). written_behind from)

  written_is : writing ≡ written_rule
  written_is = ap (λ (parts : Trees). judged_stored here does.Index at parts v) (three ∙ (λ n. more (view x) (more (view i) (more (view_out own n) none))))
      ∙ (λ n. written_first >>= (λ (from : ℕ). judged_value here (view i) >>= (λ (j : Kind). ruled (byte_written_kind (place_at here at) (place_at here from) (held_kind here (here.link from)) (place_out here i n) j v) >>= (λ (u : Unit {0}). pays 1 tt))))

  pub written_none : (r : Refusal) → Gives (λ (n : ℕ). n) written_first (Err r) → Judges shapes (λ l (u : Unit {0}). u) writing old old (Err (stop.Refused r))
  written_none r g = leads_stop {see = λ (n : ℕ). n} {say = λ (u : Unit {0}). u} {m = written_first} (λ (from : ℕ). written_behind from) (stop.Refused r) (leads_as old written_is) (gives_stops {see = λ (n : ℕ). n} old r g)

  module _ (from : ℕ) (first : Gives (λ (n : ℕ). n) written_first (Ok from)) where
    written_leads : Leads shapes (written_behind from) writing old old
    written_leads = leads_more {see = λ (n : ℕ). n} {m = written_first} (λ (from : ℕ). written_behind from) {x = from} (leads_as old written_is) (gives_judges {see = λ (n : ℕ). n} old from first)

    pub written_stops : {new : Progress} (e : Stop) → Judges shapes (λ l. kind_of shapes) (judged_value here (view i)) old new (Err e) → Judges shapes (λ l (u : Unit {0}). u) writing old new (Err e)
    written_stops e j = leads_stop {see = kind_of shapes} {say = λ (u : Unit {0}). u} {m = judged_value here (view i)} (λ (j : Kind). written_ruled from j) e written_leads j

    module _ {mid : Progress} {j : Known} (second : Judges shapes (λ l. kind_of shapes) (judged_value here (view i)) old mid (Ok j)) where
      written_valued : Leads shapes (written_ruled from (kind_of shapes j)) writing old mid
      written_valued = leads_more {see = kind_of shapes} {m = judged_value here (view i)} (λ (j : Kind). written_ruled from j) written_leads second

      pub not_in_place : (r : Refusal) → Err r ≡ written_as from (kind_of shapes j) → Judges shapes (λ l (u : Unit {0}). u) writing old mid (Err (stop.Refused r))
      not_in_place r e = leads_stop {see = λ (u : Unit {0}). u} {say = λ (u : Unit {0}). u} {m = ruled (written_as from (kind_of shapes j))} (λ (u : Unit {0}). pays 1 tt) (stop.Refused r) written_valued (ruled_stops (λ (u : Unit {0}). u) (written_as from (kind_of shapes j)) mid r e)

      pub written_judges : {new : Progress} → Ok tt ≡ written_as from (kind_of shapes j) → Paid 1 mid new → Judges shapes (λ l (u : Unit {0}). u) writing old new (Ok tt)
      written_judges e p = leads_on (Ok tt)
          (leads_more {see = λ (u : Unit {0}). u} {m = ruled (written_as from (kind_of shapes j))} (λ (u : Unit {0}). pays 1 tt) {x = tt} written_valued (ruled_judges (λ (u : Unit {0}). u) (written_as from (kind_of shapes j)) mid tt e))
          (costs_judge p (λ env. refl))

-- the rules at places that are the same
pub byte_written_same : (x : Result (Unit {0}) Refusal) (j v : Kind) {p q r p' q' r' : Place} {old old' : Option Kind} → x ≡ byte_written_kind p q old r j v → p ≡ p' → q ≡ q' → old ≡ old' → r ≡ r' → x ≡ byte_written_kind p' q' old' r' j v
byte_written_same x j v e a b c d = e ∙ (λ n. byte_written_kind (a n) (b n) (c n) (d n) j v)

pub obeys_led : {X : Type 0} (see : X → Kind) (x : Result X Stop) (j k : Kind) {p q r p' q' r' : Place} {n n' : Option ℕ} → Obeys see x (led_kind p q j r k n) → p ≡ p' → q ≡ q' → r ≡ r' → n ≡ n' → Obeys see x (led_kind p' q' j r' k n')
obeys_led see x j k h a b c d = subst (Obeys see x) (λ i. led_kind (a i) (b i) j (c i) k (d i)) h

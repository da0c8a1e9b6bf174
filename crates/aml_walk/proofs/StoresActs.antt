-- Notices, pauses and Returns, behind their operands.
use Rattle.std.proofs.Common.{◌≡◌, ◌∙◌, ℕ, List, Bool, Ok, Err, refl, ap}
use Rattle.aml_operators.specs.declared.term.Term.{Term}
use Rattle.aml_operators.specs.declared.term.Term.TheViews.{out-Term}
use Rattle.aml_operators.specs.Tree.{Trees, more, none, view, views}
use Rattle.aml_operators.proofs.Views.{view_out}
use Rattle.aml_causes.specs.declared.cause.Refusal.{Refusal}
use Rattle.aml_kinds.specs.Kinds.{Kind, Shape}
use Rattle.aml_meaning.specs.Actions.{action}
use Rattle.aml_meaning.specs.Rules.{Place}
use Rattle.aml_meaning.specs.declared.action.Action.TheVariants as does
use Rattle.aml_meaning.specs.declared.action.Pause.{Pause}
use Rattle.aml_judged.specs.KindRules.{integer_kind, notice_kind}
use Rattle.aml_judged.specs.Judge.{judged_act, judged_none_held, judged_notified, judged_value, place, place_at, returning}
use Rattle.aml_judged.specs.Judged as judged
use Rattle.aml_judged.specs.Judged.{Around, Never, Rule, pays, ruled, ◌>>=◌}
use Rattle.aml_known.specs.declared.accepted.Yield.{Yield}
use Rattle.aml_known.specs.declared.accepted.Yield.TheVariants as yield
use Rattle.aml_known.specs.declared.known.Known.{Known}
use Rattle.aml_known.specs.declared.stop.Stop.{Stop}
use Rattle.aml_known.specs.declared.stop.Stop.TheVariants as stop
use Rattle.aml_known.specs.Views.{kind_of, yield_of}
use Rattle.aml_judging.specs.declared.progress.Progress.{Progress}
use Rattle.aml_judging.specs.Follows.{Gives, Judges, Paid}
use Rattle.aml_judging.proofs.Going.{Leads, gives_judges, gives_stops, leads_more, leads_on, paid_judges}
use Rattle.aml_walk.proofs.StoresRuled.{leads_as, leads_stop, ruled_judges, ruled_stops}

-- a place of a term
pub place_out : (here : Around) (t : Term) → place here (view t) ≡ place_at here (out-Term t).at
place_out here t = ap (place here) (view_out t)

module _ (shapes : ℕ → Shape) (here : Around) where
  -- an integer is wanted, and then a step is paid
  abbrev paid_for : ℕ → Kind → Rule judged.Yield
  paid_for from k = ruled (integer_kind (place_at here from) k) >>= (λ (n : ℕ). pays 1 Never)

  module _ {whole : Rule judged.Yield} {old mid : Progress} (from : ℕ) (k : Kind) (leads : Leads shapes (paid_for from k) whole old mid) where
    pub not_integer : (r : Refusal) → Err r ≡ integer_kind (place_at here from) k → Judges shapes (λ l. yield_of shapes) whole old mid (Err (stop.Refused r))
    not_integer r e = leads_stop {see = λ (n : ℕ). n} {say = yield_of shapes} {m = ruled (integer_kind (place_at here from) k)} (λ (n : ℕ). pays 1 Never) (stop.Refused r) leads (ruled_stops (λ (n : ℕ). n) (integer_kind (place_at here from) k) mid r e)

    pub paid_off : {new : Progress} (n : ℕ) → Ok n ≡ integer_kind (place_at here from) k → Paid 1 mid new → Judges shapes (λ l. yield_of shapes) whole old new (Ok yield.Never)
    paid_off n e p = leads_on (Ok yield.Never)
        (leads_more {see = λ (n : ℕ). n} {m = ruled (integer_kind (place_at here from) k)} (λ (n : ℕ). pays 1 Never) leads (ruled_judges (λ (n : ℕ). n) (integer_kind (place_at here from) k) mid n e))
        (paid_judges {see = yield_of shapes} (λ (y : Yield). 1) {rule = pays 1 Never} {x = yield.Never} p refl (λ env. refl))

  -- a pause of one operand
  module _ (w : Bool) (at : ℕ) (f : Pause) (t : Term) (ts : List Term) (old : Progress) (one : views ts ≡ more (view t) none) where
    abbrev pausing : Rule judged.Yield
    pausing = judged_act here w (does.Pause f) at (views ts)

    abbrev pause_rule : Rule judged.Yield
    pause_rule = judged_value here (view t) >>= (λ (k : Kind). paid_for (out-Term t).at k)

    pause_is : pausing ≡ pause_rule
    pause_is = ap (λ (parts : Trees). judged_act here w (does.Pause f) at parts) one ∙ ap (λ (p : Place). judged_value here (view t) >>= (λ (k : Kind). ruled (integer_kind p k) >>= (λ (n : ℕ). pays 1 Never))) (place_out here t)

    pub pause_stops : {new : Progress} (e : Stop) → Judges shapes (λ l. kind_of shapes) (judged_value here (view t)) old new (Err e) → Judges shapes (λ l. yield_of shapes) pausing old new (Err e)
    pause_stops e j = leads_stop {see = kind_of shapes} {say = yield_of shapes} {m = judged_value here (view t)} (λ (k : Kind). paid_for (out-Term t).at k) e (leads_as old pause_is) j

    pub pause_leads : {new : Progress} {k : Known} → Judges shapes (λ l. kind_of shapes) (judged_value here (view t)) old new (Ok k) → Leads shapes (paid_for (out-Term t).at (kind_of shapes k)) pausing old new
    pause_leads j = leads_more {see = kind_of shapes} {m = judged_value here (view t)} (λ (k : Kind). paid_for (out-Term t).at k) (leads_as old pause_is) j

  -- a Return of one
  module _ (w : Bool) (at : ℕ) (t : Term) (ts : List Term) (old : Progress) (one : views ts ≡ more (view t) none) where
    abbrev giving : Rule judged.Yield
    giving = judged_act here w does.Return at (views ts)

    abbrev given_behind : Kind → Rule judged.Yield
    given_behind k = judged_none_held here at >>= (λ (u : Unit {0}). returning here k)

    abbrev given_rule : Rule judged.Yield
    given_rule = judged_value here (view t) >>= (λ (k : Kind). given_behind k)

    given_is : giving ≡ given_rule
    given_is = ap (λ (parts : Trees). judged_act here w does.Return at parts) one

    pub given_stops : {new : Progress} (e : Stop) → Judges shapes (λ l. kind_of shapes) (judged_value here (view t)) old new (Err e) → Judges shapes (λ l. yield_of shapes) giving old new (Err e)
    given_stops e j = leads_stop {see = kind_of shapes} {say = yield_of shapes} {m = judged_value here (view t)} (λ (k : Kind). given_behind k) e (leads_as old given_is) j

    module _ {mid : Progress} {k : Known} (j : Judges shapes (λ l. kind_of shapes) (judged_value here (view t)) old mid (Ok k)) where
      given_leads : Leads shapes (given_behind (kind_of shapes k)) giving old mid
      given_leads = leads_more {see = kind_of shapes} {m = judged_value here (view t)} (λ (k : Kind). given_behind k) (leads_as old given_is) j

      pub still_held : (e : Stop) → Judges shapes (λ l (u : Unit {0}). u) (judged_none_held here at) mid mid (Err e) → Judges shapes (λ l. yield_of shapes) giving old mid (Err e)
      still_held e h = leads_stop {see = λ (u : Unit {0}). u} {say = yield_of shapes} {m = judged_none_held here at} (λ (u : Unit {0}). returning here (kind_of shapes k)) e given_leads h

      pub given_back : {new : Progress} → Judges shapes (λ l (u : Unit {0}). u) (judged_none_held here at) mid mid (Ok tt) → Judges shapes (λ l. yield_of shapes) (returning here (kind_of shapes k)) mid new (Ok yield.Never) → Judges shapes (λ l. yield_of shapes) giving old new (Ok yield.Never)
      given_back h r = leads_on (Ok yield.Never) (leads_more {see = λ (u : Unit {0}). u} {m = judged_none_held here at} (λ (u : Unit {0}). returning here (kind_of shapes k)) given_leads h) r

  -- a notice of two
  module _ (w : Bool) (at : ℕ) (o t : Term) (ts : List Term) (old : Progress) (two : views ts ≡ more (view o) (more (view t) none)) where
    abbrev noticing : Rule judged.Yield
    noticing = judged_act here w does.Notify at (views ts)

    abbrev notice_paid : Bool → Kind → Rule judged.Yield
    notice_paid may k = ruled (notice_kind (place_at here (out-Term o).at) may) >>= (λ (u : Unit {0}). paid_for (out-Term t).at k)

    abbrev notice_behind : Bool → Rule judged.Yield
    notice_behind may = judged_value here (view t) >>= (λ (k : Kind). notice_paid may k)

    abbrev notice_first : Rule Bool
    notice_first = judged_notified here (action (out-Term o).op) (out-Term o).at

    abbrev notice_rule : Rule judged.Yield
    notice_rule = notice_first >>= (λ (may : Bool). notice_behind may)

    notice_is : noticing ≡ notice_rule
    notice_is = ap (λ (parts : Trees). judged_act here w does.Notify at parts) (two ∙ (λ i. more (view_out o i) (more (view t) none)))
        ∙ ap (λ (p : Place). notice_first >>= (λ (may : Bool). judged_value here (view t) >>= (λ (k : Kind). ruled (notice_kind (place_at here (out-Term o).at) may) >>= (λ (u : Unit {0}). ruled (integer_kind p k) >>= (λ (n : ℕ). pays 1 Never))))) (place_out here t)

    pub notice_none : (r : Refusal) → Gives (λ (b : Bool). b) notice_first (Err r) → Judges shapes (λ l. yield_of shapes) noticing old old (Err (stop.Refused r))
    notice_none r g = leads_stop {see = λ (b : Bool). b} {say = yield_of shapes} {m = notice_first} (λ (may : Bool). notice_behind may) (stop.Refused r) (leads_as old notice_is) (gives_stops {see = λ (b : Bool). b} old r g)

    module _ (may : Bool) (first : Gives (λ (b : Bool). b) notice_first (Ok may)) where
      notice_leads : Leads shapes (notice_behind may) noticing old old
      notice_leads = leads_more {see = λ (b : Bool). b} {m = notice_first} (λ (may : Bool). notice_behind may) {x = may} (leads_as old notice_is) (gives_judges {see = λ (b : Bool). b} old may first)

      pub notice_stops : {new : Progress} (e : Stop) → Judges shapes (λ l. kind_of shapes) (judged_value here (view t)) old new (Err e) → Judges shapes (λ l. yield_of shapes) noticing old new (Err e)
      notice_stops e j = leads_stop {see = kind_of shapes} {say = yield_of shapes} {m = judged_value here (view t)} (λ (k : Kind). notice_paid may k) e notice_leads j

      module _ {mid : Progress} {k : Known} (j : Judges shapes (λ l. kind_of shapes) (judged_value here (view t)) old mid (Ok k)) where
        notice_valued : Leads shapes (notice_paid may (kind_of shapes k)) noticing old mid
        notice_valued = leads_more {see = kind_of shapes} {m = judged_value here (view t)} (λ (k : Kind). notice_paid may k) notice_leads j

        pub no_notice : (r : Refusal) → Err r ≡ notice_kind (place_at here (out-Term o).at) may → Judges shapes (λ l. yield_of shapes) noticing old mid (Err (stop.Refused r))
        no_notice r e = leads_stop {see = λ (u : Unit {0}). u} {say = yield_of shapes} {m = ruled (notice_kind (place_at here (out-Term o).at) may)} (λ (u : Unit {0}). paid_for (out-Term t).at (kind_of shapes k)) (stop.Refused r) notice_valued (ruled_stops (λ (u : Unit {0}). u) (notice_kind (place_at here (out-Term o).at) may) mid r e)

        pub noticed_leads : Ok tt ≡ notice_kind (place_at here (out-Term o).at) may → Leads shapes (paid_for (out-Term t).at (kind_of shapes k)) noticing old mid
        noticed_leads e = leads_more {see = λ (u : Unit {0}). u} {m = ruled (notice_kind (place_at here (out-Term o).at) may)} (λ (u : Unit {0}). paid_for (out-Term t).at (kind_of shapes k)) {x = tt} notice_valued (ruled_judges (λ (u : Unit {0}). u) (notice_kind (place_at here (out-Term o).at) may) mid tt e)

-- Names with arguments.
use Rattle.std.proofs.Common.{◌≡◌, ◌∙◌, ℕ, List, Bool, Result, Ok, Err, refl, sym, ap, subst}
use Rattle.aml_operators.specs.declared.term.Term.{Term}
use Rattle.aml_operators.specs.declared.term.Term.TheViews.{out-Term}
use Rattle.aml_operators.specs.Tree.{Trees, more, view, views}
use Rattle.aml_operators.proofs.Views.{view_out}
use Rattle.aml_paths.specs.declared.scope.ObjectId.{ObjectId}
use Rattle.aml_namespace.specs.declared.link.Link.{Link}
use Rattle.aml_namespace.specs.declared.link.Link.TheVariants as link
use Rattle.aml_causes.specs.declared.cause.Cause.TheVariants as cause
use Rattle.aml_causes.specs.declared.cause.Refusal.{Refusal}
use Rattle.aml_kinds.specs.Kinds.{Kind, Shape}
use Rattle.aml_meaning.specs.declared.action.Action.TheVariants as does
use Rattle.aml_judged.specs.Judge.{judged_act, judged_call, judged_interface, judged_invoked, judged_name, judged_values, not_reaching, refusal}
use Rattle.aml_judged.specs.Judged as judged
use Rattle.aml_judged.specs.Judged.{Around, Rule, Seen, ◌>>=◌}
use Rattle.aml_known.specs.declared.accepted.Yield.{Yield}
use Rattle.aml_known.specs.declared.accepted.Yield.TheVariants as yield
use Rattle.aml_known.specs.declared.stop.Stop.{Stop}
use Rattle.aml_known.specs.declared.stop.Stop.TheVariants as stop
use Rattle.aml_known.specs.Views.{env_of, yield_of}
use Rattle.aml_judging.specs.declared.names.Read.{Read}
use Rattle.aml_judging.specs.declared.progress.Progress.{Progress}
use Rattle.aml_judging.specs.Views.{read_of}
use Rattle.aml_judging.specs.Follows.{Costs, Gives, Judges, Paid}
use Rattle.aml_judging.proofs.Going.{Leads, gives_judges, gives_stops, leads_more, leads_on, paid_judges}
use Rattle.aml_judging.proofs.Stops.{refused_judges}
use Rattle.aml_walk.proofs.StoresRuled.{leads_as, leads_stop}

module _ (here : Around) (w : Bool) (from : ℕ) (arguments : Trees) (given : Rule (List Kind)) where
  -- what takes no arguments
  invoked_name : (l : Link) → ((id : ObjectId) → l ≡ link.Method id → ⊥) → (l ≡ link.OsInterfaces → ⊥) → ((id : ObjectId) → l ≡ link.Object id → ⊥) → judged_invoked here w l from arguments given ≡ judged_name here l from
  invoked_name (link.Method id) a b c = absurd (a id refl)
  invoked_name link.OsInterfaces a b c = absurd (b refl)
  invoked_name (link.Object id) a b c = absurd (c id refl)
  invoked_name l a b c = refl

module _ (shapes : ℕ → Shape) (here : Around) (w : Bool) (at : ℕ) (n : Term) (rest ts : List Term) (l : Link) (old : Progress) (some : views ts ≡ more (view n) (views rest)) (linked : l ≡ here.link (out-Term n).at) where
  abbrev invoking : Rule judged.Yield
  invoking = judged_act here w does.Invoke at (views ts)

  abbrev given_kinds : Rule (List Kind)
  given_kinds = judged_values here (views rest)

  invoked_is : invoking ≡ judged_invoked here w l (out-Term n).at (views rest) given_kinds
  invoked_is = ap (λ (parts : Trees). judged_act here w does.Invoke at parts) (some ∙ (λ i. more (view_out n i) (views rest)))
      ∙ ap (λ (m : Link). judged_invoked here w m (out-Term n).at (views rest) given_kinds) (sym linked)

  -- a method
  module _ (id : ObjectId) (m : Seen) (method : l ≡ link.Method id) (seen : m ≡ here.callee id.0) where
    abbrev call_behind : Rule judged.Yield
    call_behind = given_kinds >>= (λ (ks : List Kind). judged_call here w (out-Term n).at m (views rest) ks)

    abbrev call_first : Rule (Unit {0})
    call_first = not_reaching here (out-Term n).at m.reaches

    abbrev call_rule : Rule judged.Yield
    call_rule = call_first >>= (λ (u : Unit {0}). call_behind)

    call_is : invoking ≡ call_rule
    call_is = invoked_is
        ∙ ap (λ (o : Link). judged_invoked here w o (out-Term n).at (views rest) given_kinds) method
        ∙ ap (λ (o : Seen). not_reaching here (out-Term n).at o.reaches >>= (λ (u : Unit {0}). given_kinds >>= (λ (ks : List Kind). judged_call here w (out-Term n).at o (views rest) ks))) (sym seen)

    pub call_reaches : (r : Refusal) → Gives (λ (u : Unit {0}). u) call_first (Err r) → Judges shapes (λ l. yield_of shapes) invoking old old (Err (stop.Refused r))
    call_reaches r g = leads_stop {see = λ (u : Unit {0}). u} {say = yield_of shapes} {m = call_first} (λ (u : Unit {0}). call_behind) (stop.Refused r) (leads_as old call_is) (gives_stops {see = λ (u : Unit {0}). u} old r g)

    module _ (may : Gives (λ (u : Unit {0}). u) call_first (Ok tt)) where
      call_leads : Leads shapes call_behind invoking old old
      call_leads = leads_more {see = λ (u : Unit {0}). u} {m = call_first} (λ (u : Unit {0}). call_behind) {x = tt} (leads_as old call_is) (gives_judges {see = λ (u : Unit {0}). u} old tt may)

      pub call_stops : {X : Type 0} (see : X → List Kind) {new : Progress} (e : Stop) → Judges shapes (λ l. see) given_kinds old new (Err e) → Judges shapes (λ l. yield_of shapes) invoking old new (Err e)
      call_stops see e j = leads_stop {see = see} {say = yield_of shapes} {m = given_kinds} (λ (ks : List Kind). judged_call here w (out-Term n).at m (views rest) ks) e call_leads j

      pub call_goes : {X : Type 0} (see : X → List Kind) {mid new : Progress} {x : X} (r : Result Yield Stop) → Judges shapes (λ l. see) given_kinds old mid (Ok x) → Judges shapes (λ l. yield_of shapes) (judged_call here w (out-Term n).at m (views rest) (see x)) mid new r → Judges shapes (λ l. yield_of shapes) invoking old new r
      call_goes see r j h = leads_on r (leads_more {see = see} {m = given_kinds} (λ (ks : List Kind). judged_call here w (out-Term n).at m (views rest) ks) call_leads j) h

  -- `_OSI`
  module _ (interfaces : l ≡ link.OsInterfaces) where
    abbrev asked_behind : List Kind → Rule judged.Yield
    asked_behind ks = judged_interface here (out-Term n).at (views rest) ks

    asked_is : invoking ≡ (given_kinds >>= (λ (ks : List Kind). asked_behind ks))
    asked_is = invoked_is ∙ ap (λ (o : Link). judged_invoked here w o (out-Term n).at (views rest) given_kinds) interfaces

    pub asked_stops : {X : Type 0} (see : X → List Kind) {new : Progress} (e : Stop) → Judges shapes (λ l. see) given_kinds old new (Err e) → Judges shapes (λ l. yield_of shapes) invoking old new (Err e)
    asked_stops see e j = leads_stop {see = see} {say = yield_of shapes} {m = given_kinds} (λ (ks : List Kind). asked_behind ks) e (leads_as old asked_is) j

    module _ {X : Type 0} (see : X → List Kind) {mid : Progress} {x : X} (j : Judges shapes (λ l. see) given_kinds old mid (Ok x)) where
      asked_leads : Leads shapes (asked_behind (see x)) invoking old mid
      asked_leads = leads_more {see = see} {m = given_kinds} (λ (ks : List Kind). asked_behind ks) (leads_as old asked_is) j

      pub asked_none : (r : Refusal) → Costs (read_of shapes) (λ (g : Read). g.events) (asked_behind (see x)) (Err r) → Judges shapes (λ l. yield_of shapes) invoking old mid (Err (stop.Refused r))
      asked_none r g = leads_on (Err (stop.Refused r)) asked_leads (refused_judges {see = yield_of shapes} mid r (λ lists apart says. g (env_of shapes lists mid.env)))

      pub asked_judges : {new : Progress} (y : Yield) (given : Read) → y ≡ yield.Always given.kind → Costs (read_of shapes) (λ (g : Read). g.events) (asked_behind (see x)) (Ok given) → Paid given.events mid new → Judges shapes (λ l. yield_of shapes) invoking old new (Ok y)
      asked_judges {new} y given is g p = subst (λ (z : Yield). Judges shapes (λ l. yield_of shapes) invoking old new (Ok z)) (sym is)
          (leads_on (Ok (yield.Always given.kind)) asked_leads (paid_judges {see = yield_of shapes} (λ (z : Yield). given.events) {rule = asked_behind (see x)} {x = yield.Always given.kind} p refl g))

  -- what is no name of a value
  pub invoked_object : (id : ObjectId) → l ≡ link.Object id → Judges shapes (λ l. yield_of shapes) invoking old old (Err (stop.Refused (refusal here cause.WrongKind (out-Term n).at)))
  invoked_object id e = refused_judges old (refusal here cause.WrongKind (out-Term n).at) (λ lists apart says.
      ap (λ (rule : Rule judged.Yield). rule (env_of shapes lists old.env)) invoked_is
      ∙ ap (λ (o : Link). judged_invoked here w o (out-Term n).at (views rest) given_kinds (env_of shapes lists old.env)) e)

  -- a name that takes none
  module _ (a : (id : ObjectId) → l ≡ link.Method id → ⊥) (b : l ≡ link.OsInterfaces → ⊥) (c : (id : ObjectId) → l ≡ link.Object id → ⊥) where
    named_is : invoking ≡ judged_name here l (out-Term n).at
    named_is = invoked_is ∙ invoked_name here w (out-Term n).at (views rest) given_kinds l a b c

    pub named_none : (r : Refusal) → Costs (read_of shapes) (λ (g : Read). g.events) (judged_name here l (out-Term n).at) (Err r) → Judges shapes (λ l. yield_of shapes) invoking old old (Err (stop.Refused r))
    named_none r g = leads_on (Err (stop.Refused r)) (leads_as old named_is) (refused_judges {see = yield_of shapes} old r (λ lists apart says. g (env_of shapes lists old.env)))

    pub named_judges : {new : Progress} (y : Yield) (given : Read) → y ≡ yield.Always given.kind → Costs (read_of shapes) (λ (g : Read). g.events) (judged_name here l (out-Term n).at) (Ok given) → Paid given.events old new → Judges shapes (λ l. yield_of shapes) invoking old new (Ok y)
    named_judges {new} y given is g p = subst (λ (z : Yield). Judges shapes (λ l. yield_of shapes) invoking old new (Ok z)) (sym is)
        (leads_on (Ok (yield.Always given.kind)) (leads_as old named_is) (paid_judges {see = yield_of shapes} (λ (z : Yield). given.events) {rule = judged_name here l (out-Term n).at} {x = yield.Always given.kind} p refl g))

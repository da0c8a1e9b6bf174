-- Calls behind their arguments.
use Rattle.std.proofs.Common.{◌≡◌, ◌∙◌, ◌<◌, ◌≤◌, ℕ, get_or, length, List, [], ◌∷◌, Bool, true, false, Option, Some, Result, Ok, Err, refl, sym, ap, subst, arith}
use Rattle.aml_operators.specs.declared.term.Term.{Term}
use Rattle.aml_operators.specs.declared.term.Term.TheViews.{out-Term}
use Rattle.aml_operators.specs.Tree.{Trees, view, views}
use Rattle.aml_operators.proofs.Views.{view_out}
use Rattle.aml_causes.specs.declared.cause.Cause.TheVariants as cause
use Rattle.aml_causes.specs.declared.cause.Refusal.{Refusal}
use Rattle.aml_kinds.specs.Kinds.{Kind, Shape}
use Rattle.aml_meaning.specs.declared.mutex.TakenMutex.{TakenMutex}
use Rattle.aml_meaning.specs.Rules.{Place}
use Rattle.aml_judged.specs.Known.{Env}
use Rattle.aml_judged.specs.KindRules.{interface_kind}
use Rattle.aml_judged.specs.Judge.{are_within, calling, is_accepted, judged_call, judged_interface, judged_levels, not_deep, place, place_at, refusal, with_result}
use Rattle.aml_judged.specs.Judged as judged
use Rattle.aml_judged.specs.Judged.{Always, Around, goes, join_exits, no_exits, Rule, ruled, Seen, Stops, taking, then_judge, ◌>>=◌}
use Rattle.aml_known.specs.declared.accepted.Accepted.{Accepted}
use Rattle.aml_known.specs.declared.accepted.Yield.{Yield}
use Rattle.aml_known.specs.declared.env.Env as program
use Rattle.aml_known.specs.declared.exits.Exits.{Exits}
use Rattle.aml_known.specs.declared.known.Known.{Known}
use Rattle.aml_known.specs.declared.stop.Stop.{Stop}
use Rattle.aml_known.specs.declared.stop.Stop.TheVariants as stop
use Rattle.aml_known.specs.Views.{accepted_of, AreApart, CanBeRead, env_of, exits_of, Grown, kind_of, kinds_of, yield_of}
use Rattle.aml_known.proofs.Takings.{same_grown}
use Rattle.aml_judging.specs.declared.progress.Progress.{Progress}
use Rattle.aml_judging.specs.Follows.{Gives, Judges, Paid}
use Rattle.aml_judging.proofs.Going.{gives_judges, stops_judge, then_judges}
use Rattle.aml_judging.proofs.Stops.{free_judges, refused_judges}

module _ (here : Around) (at : ℕ) (m : Seen) (arguments : Trees) (ks : List Kind) where
  abbrev behind_levels : judged.Accepted → Rule judged.Yield
  behind_levels a = judged_levels here at a.least >>= (λ (u : Unit {0}). calling here a)

  abbrev behind_within : judged.Accepted → Rule judged.Yield
  behind_within a = are_within here ks a.args arguments >>= (λ (u : Unit {0}). behind_levels a)

  abbrev behind_deep : judged.Accepted → Rule judged.Yield
  behind_deep a = not_deep here at m.deep >>= (λ (u : Unit {0}). behind_within a)

  abbrev behind_accepted : Rule judged.Yield
  behind_accepted = is_accepted here at m.accepted >>= (λ (a : judged.Accepted). behind_deep a)

module _ (shapes : ℕ → Shape) (here : Around) (w : Bool) (at : ℕ) (m : Seen) (arguments : Trees) (kinds : List Known) (old : Progress) where
  abbrev call : Rule judged.Yield
  call = judged_call here w at m arguments (kinds_of shapes kinds)

  -- where a value is wanted that need not be given
  pub no_result : (r : Refusal) → Gives (λ (u : Unit {0}). u) (with_result here w at m.accepted) (Err r) → Judges shapes (λ l. yield_of shapes) call old old (Err (stop.Refused r))
  no_result r g = stops_judge {see = λ (u : Unit {0}). u} {m = with_result here w at m.accepted} (λ (u : Unit {0}). behind_accepted here at m arguments (kinds_of shapes kinds)) (stop.Refused r) (refused_judges old r (λ lists apart says. g (env_of shapes lists old.env)))

  module _ (a : Accepted) (there : m.accepted ≡ Some (accepted_of shapes a)) (may : Gives (λ (u : Unit {0}). u) (with_result here w at m.accepted) (Ok tt)) where
    behind_there : (new : Progress) (r : Result Yield Stop) → Judges shapes (λ l. yield_of shapes) (behind_deep here at m arguments (kinds_of shapes kinds) (accepted_of shapes a)) old new r → Judges shapes (λ l. yield_of shapes) call old new r
    behind_there new r j =
        then_judges {see = λ (u : Unit {0}). u} {m = with_result here w at m.accepted} (λ (u : Unit {0}). behind_accepted here at m arguments (kinds_of shapes kinds)) {x = tt} r
        (gives_judges {see = λ (u : Unit {0}). u} old tt may)
        (then_judges {see = λ (b : judged.Accepted). b} {m = is_accepted here at m.accepted} (λ (b : judged.Accepted). behind_deep here at m arguments (kinds_of shapes kinds) b) {x = accepted_of shapes a} r
        (gives_judges {see = λ (b : judged.Accepted). b} old (accepted_of shapes a) (λ env. ap (λ (o : Option judged.Accepted). is_accepted here at o env) there)) j)

    -- a chain that is too long
    pub too_deep : (r : Refusal) → m.deep ≡ true → r ≡ refusal here cause.Depth at → Judges shapes (λ l. yield_of shapes) call old old (Err (stop.Refused r))
    too_deep r deep e = behind_there old (Err (stop.Refused r)) (
        stops_judge {see = λ (u : Unit {0}). u} {m = not_deep here at m.deep} (λ (u : Unit {0}). behind_within here at m arguments (kinds_of shapes kinds) (accepted_of shapes a)) (stop.Refused r)
        (refused_judges old r (λ lists apart says. ap (λ (b : Bool). not_deep here at b (env_of shapes lists old.env)) deep ∙ ap Stops (sym e))))

    module _ (short : m.deep ≡ false) where
      behind_short : (new : Progress) (r : Result Yield Stop) → Judges shapes (λ l. yield_of shapes) (behind_within here at m arguments (kinds_of shapes kinds) (accepted_of shapes a)) old new r → Judges shapes (λ l. yield_of shapes) call old new r
      behind_short new r j = behind_there new r (
          then_judges {see = λ (u : Unit {0}). u} {m = not_deep here at m.deep} (λ (u : Unit {0}). behind_within here at m arguments (kinds_of shapes kinds) (accepted_of shapes a)) {x = tt} r
          (gives_judges {see = λ (u : Unit {0}). u} old tt (λ env. ap (λ (b : Bool). not_deep here at b env) short)) j)

      -- arguments of other kinds
      pub not_within : (r : Refusal) (taken : List Known) → taken ≡ a.args.items → (AreApart shapes → Gives (λ (u : Unit {0}). u) (are_within here (kinds_of shapes kinds) (kinds_of shapes taken) arguments) (Err r)) → Judges shapes (λ l. yield_of shapes) call old old (Err (stop.Refused r))
      not_within r taken is g = behind_short old (Err (stop.Refused r)) (
          stops_judge {see = λ (u : Unit {0}). u} {m = are_within here (kinds_of shapes kinds) (kinds_of shapes a.args.items) arguments} (λ (u : Unit {0}). behind_levels here at m arguments (kinds_of shapes kinds) (accepted_of shapes a)) (stop.Refused r)
          (refused_judges old r (λ lists apart says. ap (λ (ts : List Known). are_within here (kinds_of shapes kinds) (kinds_of shapes ts) arguments (env_of shapes lists old.env)) (sym is) ∙ g apart (env_of shapes lists old.env))))

      module _ (taken : List Known) (is : taken ≡ a.args.items) (within : AreApart shapes → Gives (λ (u : Unit {0}). u) (are_within here (kinds_of shapes kinds) (kinds_of shapes taken) arguments) (Ok tt)) where
        behind_kinds : (new : Progress) (r : Result Yield Stop) → Judges shapes (λ l. yield_of shapes) (behind_levels here at m arguments (kinds_of shapes kinds) (accepted_of shapes a)) old new r → Judges shapes (λ l. yield_of shapes) call old new r
        behind_kinds new r j = behind_short new r (
            then_judges {see = λ (u : Unit {0}). u} {m = are_within here (kinds_of shapes kinds) (kinds_of shapes a.args.items) arguments} (λ (u : Unit {0}). behind_levels here at m arguments (kinds_of shapes kinds) (accepted_of shapes a)) {x = tt} r
            (free_judges {see = λ (u : Unit {0}). u} old tt (λ lists apart says. ap (λ (ts : List Known). are_within here (kinds_of shapes kinds) (kinds_of shapes ts) arguments (env_of shapes lists old.env)) (sym is) ∙ within apart (env_of shapes lists old.env))) j)

        -- a level that is too low
        pub no_level : (new : Progress) (e : Stop) → Judges shapes (λ l (u : Unit {0}). u) (judged_levels here at a.least) old new (Err e) → Judges shapes (λ l. yield_of shapes) call old new (Err e)
        no_level new e j = behind_kinds new (Err e) (
            stops_judge {see = λ (u : Unit {0}). u} {m = judged_levels here at a.least} (λ (u : Unit {0}). calling here (accepted_of shapes a)) e j)

        -- what the call gives, within its bound
        pub called_well : (mid new : Progress) (x : Exits) → Judges shapes (λ l (u : Unit {0}). u) (judged_levels here at a.least) old mid (Ok tt) → ((lists : ℕ → List TakenMutex) → exits_of shapes lists x ≡ join_exits (exits_of shapes lists mid.exits) (taking a.least)) → Paid a.bound (record mid { exits = x }) new → Judges shapes (λ l. yield_of shapes) call old new (Ok a.result)
        called_well mid new x j joined p = behind_kinds new (Ok a.result) (
            then_judges {see = λ (u : Unit {0}). u} {m = judged_levels here at a.least} (λ (u : Unit {0}). calling here (accepted_of shapes a)) {x = tt} (Ok a.result) j (record {
              grows = subst (Grown mid.locks.takings.items) (sym p.takings) (same_grown mid.locks.takings.items);
              read = subst CanBeRead (sym p.takings);
              follows = λ lists apart says. record {
                exits = taking a.least;
                cost = a.bound;
                goes = ap (λ (e : program.Env). judged.Goes (yield_of shapes a.result) (env_of shapes lists e) (taking a.least) a.bound) (sym p.env);
                joined = ap (exits_of shapes lists) p.exits ∙ joined lists;
                counted = p.paid;
              };
            }))

-- what is asked of other than one string
pub not_asked : (shapes : ℕ → Shape) (here : Around) (at : ℕ) (ts : List Term) (ks : List Known) (r : Refusal) → ((length ts ≡ 1) × (length ks ≡ 1) → ⊥) → r ≡ refusal here cause.OutsideProfile at → (env : Env) → judged_interface here at (views ts) (kinds_of shapes ks) env ≡ Stops r
not_asked shapes here at [] ks r differs e env = ap Stops (sym e)
not_asked shapes here at (x ∷ []) [] r differs e env = ap Stops (sym e)
not_asked shapes here at (x ∷ []) (k ∷ []) r differs e env = absurd (differs (refl, refl))
not_asked shapes here at (x ∷ []) (k ∷ j ∷ ks) r differs e env = ap Stops (sym e)
not_asked shapes here at (x ∷ y ∷ ts) ks r differs e env = ap Stops (sym e)

-- where one of three lists is longer
pub not_alike : (shapes : ℕ → Shape) (here : Around) (ks js : List Known) (ts : List Term) (r : Refusal) → ((length ks ≡ 0) × (length js ≡ 0) × (length ts ≡ 0) → ⊥) → ((1 ≤ length ks) × (1 ≤ length js) × (1 ≤ length ts) → ⊥) → r ≡ refusal here cause.OutsideProfile 0 → (env : Env) → are_within here (kinds_of shapes ks) (kinds_of shapes js) (views ts) env ≡ Stops r
not_alike shapes here [] [] [] r differs unlike e env = absurd (differs (refl, refl, refl))
not_alike shapes here [] [] (t ∷ ts) r differs unlike e env = ap Stops (sym e)
not_alike shapes here [] (j ∷ js) ts r differs unlike e env = ap Stops (sym e)
not_alike shapes here (k ∷ ks) [] ts r differs unlike e env = ap Stops (sym e)
not_alike shapes here (k ∷ ks) (j ∷ js) [] r differs unlike e env = ap Stops (sym e)
not_alike shapes here (k ∷ ks) (j ∷ js) (t ∷ ts) r differs unlike e env = absurd (unlike (omega arith, omega arith, omega arith))

-- what is asked of one that is no string
pub no_string : (shapes : ℕ → Shape) (here : Around) (at : ℕ) (ts : List Term) (t : Term) (ks : List Known) (d : Known) (r : Refusal) (width : ℕ) (from : Place) → 1 ≤ length ts → length ts < 2 → t ≡ get_or ts 0 t → 1 ≤ length ks → length ks < 2 → width ≡ here.width → from ≡ place_at here (out-Term t).at → Err r ≡ interface_kind width from (kind_of shapes (get_or ks 0 d)) → (env : Env) → judged_interface here at (views ts) (kinds_of shapes ks) env ≡ Stops r
no_string shapes here at [] t ks d r width from some below is any only wide stands e env = absurd (omega (arith, some))
no_string shapes here at (x ∷ y ∷ ts) t ks d r width from some below is any only wide stands e env = absurd (omega (arith, below))
no_string shapes here at (x ∷ []) t [] d r width from some below is any only wide stands e env = absurd (omega (arith, any))
no_string shapes here at (x ∷ []) t (k ∷ j ∷ ks) d r width from some below is any only wide stands e env = absurd (omega (arith, only))
no_string shapes here at (x ∷ []) t (k ∷ []) d r width from some below is any only wide stands e env =
    let there : place here (view x) ≡ from = ap (λ (u : Term). place here (view u)) (sym is) ∙ ap (place here) (view_out t) ∙ sym stands in
    ap (λ (o : Result Kind Refusal). then_judge (ruled o env) (λ (v : Kind). goes (Always v))) ((λ i. interface_kind (sym wide i) (there i) (kind_of shapes k)) ∙ sym e)

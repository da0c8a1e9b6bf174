-- The kinds of some terms, one behind the other.
use Rattle.std.proofs.Common.{◌≡◌, ◌∙◌, ◌+◌, ◌++◌, ◌<◌, ℕ, suc, List, [], ◌∷◌, drop, length, get_or, Ok, Err, refl, sym, ap, subst, append_assoc, append-nil, arith}
use Rattle.std.proofs.lemmas.List.{map_push}
use Rattle.aml_operators.specs.declared.term.Term.{Term}
use Rattle.aml_operators.specs.Tree.{Tree, Trees, more, none, view, views}
use Rattle.aml_kinds.specs.Kinds.{Kind, Shape}
use Rattle.aml_judged.specs.Known.{Env}
use Rattle.aml_judged.specs.Judge.{judged_value, judged_values}
use Rattle.aml_judged.specs.Judged as judged
use Rattle.aml_judged.specs.Judged.{Around, Exits, Judged, Rule, Stops, after, goes, no_exits, then_judge, ◌>>=◌}
use Rattle.aml_judged.proofs.InPlace.{after_after}
use Rattle.aml_known.specs.declared.known.Known.{Known}
use Rattle.aml_known.specs.declared.stop.Stop.{Stop}
use Rattle.aml_known.specs.declared.stop.Stop.TheVariants as stop
use Rattle.aml_known.specs.Views.{kind_of, kinds_of}
use Rattle.aml_judging.specs.declared.progress.Progress.{Progress}
use Rattle.aml_judging.specs.Follows.{Judges}
use Rattle.aml_judging.proofs.Going.{Leads, exits_same, gives_judges, leads_more, leads_on}
use Rattle.aml_judging.proofs.Stops.{wanting_judges}
use Rattle.aml_judging.proofs.Makings.{left_with}
use Rattle.aml_walk.proofs.StoresRuled.{leads_as, leads_stop}

after_then : {J K : Type 0} (x : Exits) (n : ℕ) (j : Judged J) (g : J → Rule K) → then_judge (after x n j) g ≡ after x n (then_judge j g)
after_then x n (judged.Goes k env y m) g = sym (after_after x y n m (g k env))
after_then x n (Stops r) g = refl

-- parts may be taken together
judge_assoc : {J K L : Type 0} (j : Judged J) (f : J → Rule K) (g : K → Rule L) → then_judge (then_judge j f) g ≡ then_judge j (λ (k : J) (env : Env). then_judge (f k env) g)
judge_assoc (judged.Goes k env x n) f g = after_then x n (f k env) g
judge_assoc (Stops r) f g = refl

module _ (shapes : ℕ → Shape) (here : Around) where
  -- the kinds of the rest, behind some
  abbrev pub behind : List Kind → Trees → Rule (List Kind)
  behind ks ts = judged_values here ts >>= (λ (js : List Kind). goes (ks ++ js))

  behind_none : (j : Judged (List Kind)) → j ≡ then_judge j (λ (js : List Kind). goes ([] ++ js))
  behind_none (judged.Goes k env x n) = let e : n ≡ n + 0 = omega arith in λ i. judged.Goes k env (exits_same x i) (e i)
  behind_none (Stops r) = refl

  begins : (ts : Trees) → judged_values here ts ≡ behind [] ts
  begins ts = λ i env. behind_none (judged_values here ts env) i

  behind_one : (ks : List Kind) (k : Kind) (ts : Trees) (env : Env) → then_judge (then_judge (judged_values here ts env) (λ (js : List Kind). goes (k ∷ js))) (λ (js : List Kind). goes (ks ++ js)) ≡ behind (ks ++ k ∷ []) ts env
  behind_one ks k ts env = judge_assoc (judged_values here ts env) (λ (js : List Kind). goes (k ∷ js)) (λ (js : List Kind). goes (ks ++ js))
      ∙ ap (λ (f : List Kind → Rule (List Kind)). then_judge (judged_values here ts env) f) (λ i js e. judged.Goes (sym (append_assoc ks (k ∷ []) js) i) e no_exits 0)

  abbrev one_more : List Kind → Tree → Trees → Rule (List Kind)
  one_more ks t ts = judged_value here t >>= (λ (k : Kind). behind (ks ++ k ∷ []) ts)

  goes_more : (ks : List Kind) (t : Tree) (ts : Trees) → behind ks (more t ts) ≡ one_more ks t ts
  goes_more ks t ts = λ i env. (judge_assoc (judged_value here t env) (λ (k : Kind) (e : Env). then_judge (judged_values here ts e) (λ (js : List Kind). goes (k ∷ js))) (λ (js : List Kind). goes (ks ++ js))
      ∙ ap (λ (f : Kind → Rule (List Kind)). then_judge (judged_value here t env) f) (λ j k e. behind_one ks k ts e j)) i

  ends : (ks : List Kind) → behind ks none ≡ goes ks
  ends ks = λ i env. judged.Goes (append-nil ks i) env no_exits 0

  -- from the first on
  pub values_begin : (ts : List Term) (ks : List Known) (p : Progress) → ks ≡ [] → Leads shapes (behind (kinds_of shapes ks) (views ts)) (judged_values here (views ts)) p p
  values_begin ts ks p e = leads_as p (begins (views ts) ∙ ap (λ (l : List Known). behind (kinds_of shapes l) (views ts)) (sym e))

  module _ {whole : Rule (List Kind)} (ts : List Term) (i : ℕ) (t : Term) (ks : List Known) {old mid : Progress} (lt : i < length ts) (is : t ≡ get_or ts i t) (leads : Leads shapes (behind (kinds_of shapes ks) (views (drop i ts))) whole old mid) where
    opened : Leads shapes (one_more (kinds_of shapes ks) (view t) (views (drop (suc i) ts))) whole old mid
    opened = subst (λ (rest : Rule (List Kind)). Leads shapes rest whole old mid) (ap (λ (l : List Term). behind (kinds_of shapes ks) (views l)) (left_with ts i t lt is) ∙ goes_more (kinds_of shapes ks) (view t) (views (drop (suc i) ts))) leads

    pub value_stops : {X : Type 0} (see : X → List Kind) {new : Progress} (e : Stop) → Judges shapes (λ l. kind_of shapes) (judged_value here (view t)) mid new (Err e) → Judges shapes (λ l. see) whole old new (Err e)
    value_stops see e j = leads_stop {see = kind_of shapes} {say = see} {m = judged_value here (view t)} (λ (k : Kind). behind (kinds_of shapes ks ++ k ∷ []) (views (drop (suc i) ts))) e opened j

    module _ {new : Progress} {k : Known} (j : Judges shapes (λ l. kind_of shapes) (judged_value here (view t)) mid new (Ok k)) where
      behind_it : Leads shapes (behind (kinds_of shapes ks ++ kind_of shapes k ∷ []) (views (drop (suc i) ts))) whole old new
      behind_it = leads_more {see = kind_of shapes} {m = judged_value here (view t)} (λ (k : Kind). behind (kinds_of shapes ks ++ k ∷ []) (views (drop (suc i) ts))) opened j

      pub value_unkept : {X : Type 0} (see : X → List Kind) → Judges shapes (λ l. see) whole old new (Err stop.NoMemory)
      value_unkept see = leads_on (Err stop.NoMemory) behind_it (wanting_judges {see = see} new)

      pub value_more : (js : List Known) → js ≡ ks ++ k ∷ [] → Leads shapes (behind (kinds_of shapes js) (views (drop (i + 1) ts))) whole old new
      value_more js e =
          let next : suc i ≡ i + 1 = omega arith in
          let pushed : kinds_of shapes ks ++ kind_of shapes k ∷ [] ≡ kinds_of shapes js = sym (map_push (kind_of shapes) ks k) ∙ ap (kinds_of shapes) (sym e) in
          subst (λ (n : ℕ). Leads shapes (behind (kinds_of shapes js) (views (drop n ts))) whole old new) next
          (subst (λ (l : List Kind). Leads shapes (behind l (views (drop (suc i) ts))) whole old new) pushed behind_it)

  -- behind the last
  pub values_end : {X : Type 0} (see : X → List Kind) {whole : Rule (List Kind)} (ts : List Term) (ks : List Known) (x : X) {old new : Progress} → ts ≡ [] → see x ≡ kinds_of shapes ks → Leads shapes (behind (kinds_of shapes ks) (views ts)) whole old new → Judges shapes (λ l. see) whole old new (Ok x)
  values_end see {whole} ts ks x {old} {new} none_left same leads =
      leads_on (Ok x)
      (subst (λ (rest : Rule (List Kind)). Leads shapes rest whole old new) (ap (λ (l : List Term). behind (kinds_of shapes ks) (views l)) none_left ∙ ends (kinds_of shapes ks) ∙ ap (λ (l : List Kind). goes l) (sym same)) leads)
      (gives_judges {see = see} {rule = goes (see x)} new x (λ env. refl))

-- An If's block and its Else, a statement at a time.
use Rattle.std.proofs.Common.{◌≡◌, ℕ, zero, suc, ◌+◌, ◌<◌, ◌≤◌, List, [], ◌∷◌, drop, length, get_or, Bool, true, false, Result, Ok, Err, refl, sym, ap, subst, ◌∙◌, arith}
use Rattle.std.specs.Prelude.{if◌then◌else◌}
use Rattle.aml_operators.specs.declared.op.Op.{Op}
use Rattle.aml_operators.specs.declared.term.Term.{Term}
use Rattle.aml_operators.specs.declared.term.Term.TheViews.{out-Term}
use Rattle.aml_operators.specs.Tree.{Tree, Trees, Node, more, none, view, views}
use Rattle.aml_operators.proofs.Views.{view_out}
use Rattle.aml_meaning.specs.Meaning.{is_else}
use Rattle.aml_judged.specs.Judged.{Around, Rule, Yield, goes, ◌>>=◌}
use Rattle.aml_judged.specs.Judge.{judged, judged_all, judged_block, judged_otherwise}
use Rattle.aml_kinds.specs.Kinds.{Shape}
use Rattle.aml_known.specs.declared.accepted.Yield as known
use Rattle.aml_known.specs.declared.stop.Stop.{Stop}
use Rattle.aml_known.specs.Views.{yield_of}
use Rattle.aml_judging.specs.declared.progress.Progress.{Progress}
use Rattle.aml_judging.specs.Follows.{Judges}
use Rattle.aml_judging.proofs.Going.{Leads, gives_judges, leads_more, leads_on, stops_judge}
use Rattle.aml_judging.proofs.Makings.{left_with}

-- nothing is left of a list behind its end
pub none_left : (ts : List Term) (i : ℕ) → length ts ≤ i → drop i ts ≡ []
none_left [] zero le = refl
none_left [] (suc i) le = refl
none_left (a ∷ xs) zero le = absurd (omega (arith, le))
none_left (a ∷ xs) (suc i) le = none_left xs i (omega (arith, le))

module _ (here : Around) where
  block_by : (x : Tree) (o : Op) (at end : ℕ) (ps ts : Trees) (b : Bool) → x ≡ Node o at end ps → is_else o ≡ b → judged_block here (more x ts) ≡ (if b then goes tt else (judged here x >>= (λ (y : Yield). judged_block here ts)))
  block_by x o at end ps ts b e d = rw (e, d) refl

  otherwise_by : (x : Tree) (o : Op) (at end : ℕ) (ps ts : Trees) (b : Bool) → x ≡ Node o at end ps → is_else o ≡ b → judged_otherwise here (more x ts) ≡ (if b then judged_all here ps else judged_otherwise here ts)
  otherwise_by x o at end ps ts b e d = rw (e, d) refl

  -- a block ends at an Else
  pub block_else : (ts : List Term) (i : ℕ) (t : Term) → i < length ts → t ≡ get_or ts i t → is_else (out-Term t).op ≡ true → judged_block here (views (drop i ts)) ≡ goes tt
  block_else ts i t lt is d =
      ap (λ (l : List Term). judged_block here (views l)) (left_with ts i t lt is)
      ∙ block_by (view t) (out-Term t).op (out-Term t).at (out-Term t).end (views (out-Term t).parts.items) (views (drop (suc i) ts)) true (view_out t) d

  -- and goes on with any other statement
  pub block_more : (ts : List Term) (i : ℕ) (t : Term) → i < length ts → t ≡ get_or ts i t → is_else (out-Term t).op ≡ false → judged_block here (views (drop i ts)) ≡ (judged here (view t) >>= (λ (y : Yield). judged_block here (views (drop (suc i) ts))))
  block_more ts i t lt is d =
      ap (λ (l : List Term). judged_block here (views l)) (left_with ts i t lt is)
      ∙ block_by (view t) (out-Term t).op (out-Term t).at (out-Term t).end (views (out-Term t).parts.items) (views (drop (suc i) ts)) false (view_out t) d

  -- what an Else has
  pub otherwise_else : (ts parts : List Term) (i : ℕ) (t : Term) → i < length ts → t ≡ get_or ts i t → is_else (out-Term t).op ≡ true → parts ≡ (out-Term t).parts.items → judged_otherwise here (views (drop i ts)) ≡ judged_all here (views parts)
  otherwise_else ts parts i t lt is d same =
      ap (λ (l : List Term). judged_otherwise here (views l)) (left_with ts i t lt is)
      ∙ otherwise_by (view t) (out-Term t).op (out-Term t).at (out-Term t).end (views (out-Term t).parts.items) (views (drop (suc i) ts)) true (view_out t) d
      ∙ ap (λ (l : List Term). judged_all here (views l)) (sym same)

  pub otherwise_more : (ts : List Term) (i : ℕ) (t : Term) → i < length ts → t ≡ get_or ts i t → is_else (out-Term t).op ≡ false → judged_otherwise here (views (drop i ts)) ≡ judged_otherwise here (views (drop (suc i) ts))
  otherwise_more ts i t lt is d =
      ap (λ (l : List Term). judged_otherwise here (views l)) (left_with ts i t lt is)
      ∙ otherwise_by (view t) (out-Term t).op (out-Term t).at (out-Term t).end (views (out-Term t).parts.items) (views (drop (suc i) ts)) false (view_out t) d

module _ (shapes : ℕ → Shape) (here : Around) (ts : List Term) (old one : Progress) where
  abbrev statements : ℕ → Progress → Type 0
  statements i p = Leads shapes (judged_all here (views (drop i ts))) (judged_all here (views ts)) old p

  abbrev in_block : ℕ → Progress → Type 0
  in_block i p = Leads shapes (judged_block here (views (drop i ts))) (judged_block here (views ts)) old p

  -- behind the last statement
  pub all_done : (i : ℕ) → length ts ≤ i → statements i one → Judges shapes (λ l (u : Unit {0}). u) (judged_all here (views ts)) old one (Ok tt)
  all_done i le leads = leads_on {say = λ (u : Unit {0}). u} {rest = judged_all here (views (drop i ts))} (Ok tt) leads (gives_judges {see = λ (u : Unit {0}). u} one tt (λ env. ap (λ (l : List Term). judged_all here (views l) env) (none_left ts i le)))

  pub block_done : (i : ℕ) → length ts ≤ i → in_block i one → Judges shapes (λ l (u : Unit {0}). u) (judged_block here (views ts)) old one (Ok tt)
  block_done i le leads = leads_on {say = λ (u : Unit {0}). u} {rest = judged_block here (views (drop i ts))} (Ok tt) leads (gives_judges {see = λ (u : Unit {0}). u} one tt (λ env. ap (λ (l : List Term). judged_block here (views l) env) (none_left ts i le)))

  -- where there is no Else
  pub otherwise_done : (i : ℕ) → length ts ≤ i → judged_otherwise here (views (drop i ts)) ≡ judged_otherwise here (views ts) → one ≡ old → Judges shapes (λ l (u : Unit {0}). u) (judged_otherwise here (views ts)) old one (Ok tt)
  otherwise_done i le all same =
      subst (λ (p : Progress). Judges shapes (λ l (u : Unit {0}). u) (judged_otherwise here (views ts)) old p (Ok tt)) (sym same)
      (gives_judges {see = λ (u : Unit {0}). u} old tt (λ env. ap (λ (rule : Rule (Unit {0})). rule env) (sym all) ∙ ap (λ (l : List Term). judged_otherwise here (views l) env) (none_left ts i le)))

  module _ (i : ℕ) (t : Term) (lt : i < length ts) (is : t ≡ get_or ts i t) where
    all_as : judged_all here (views (drop i ts)) ≡ (judged here (view t) >>= (λ (y : Yield). judged_all here (views (drop (suc i) ts))))
    all_as = ap (λ (l : List Term). judged_all here (views l)) (left_with ts i t lt is)

    next : i + 1 ≡ suc i
    next = omega arith

    pub all_more : {two : Progress} {y : known.Yield} → statements i one → Judges shapes (λ l. yield_of shapes) (judged here (view t)) one two (Ok y) → statements (i + 1) two
    all_more {two} {y} leads j =
        subst (λ (k : ℕ). statements k two) (sym next)
        (leads_more {see = yield_of shapes} {m = judged here (view t)} (λ (z : Yield). judged_all here (views (drop (suc i) ts))) {x = y}
        (subst (λ (rule : Rule (Unit {0})). Leads shapes rule (judged_all here (views ts)) old one) all_as leads) j)

    pub all_stops : {two : Progress} (e : Stop) → statements i one → Judges shapes (λ l. yield_of shapes) (judged here (view t)) one two (Err e) → Judges shapes (λ l (u : Unit {0}). u) (judged_all here (views ts)) old two (Err e)
    all_stops {two} e leads j =
        leads_on {say = λ (u : Unit {0}). u} {rest = judged_all here (views (drop i ts))} (Err e) leads
        (subst (λ (rule : Rule (Unit {0})). Judges shapes (λ l (u : Unit {0}). u) rule one two (Err e)) (sym all_as)
        (stops_judge {see = yield_of shapes} {say = λ (u : Unit {0}). u} {m = judged here (view t)} (λ (z : Yield). judged_all here (views (drop (suc i) ts))) e j))

    -- a block ends at its Else
    pub block_ends : is_else (out-Term t).op ≡ true → in_block i one → Judges shapes (λ l (u : Unit {0}). u) (judged_block here (views ts)) old one (Ok tt)
    block_ends d leads = leads_on {say = λ (u : Unit {0}). u} {rest = judged_block here (views (drop i ts))} (Ok tt) leads (gives_judges {see = λ (u : Unit {0}). u} one tt (λ env. ap (λ (rule : Rule (Unit {0})). rule env) (block_else here ts i t lt is d)))

    pub block_next : {two : Progress} {y : known.Yield} → is_else (out-Term t).op ≡ false → in_block i one → Judges shapes (λ l. yield_of shapes) (judged here (view t)) one two (Ok y) → in_block (i + 1) two
    block_next {two} {y} d leads j =
        subst (λ (k : ℕ). in_block k two) (sym next)
        (leads_more {see = yield_of shapes} {m = judged here (view t)} (λ (z : Yield). judged_block here (views (drop (suc i) ts))) {x = y}
        (subst (λ (rule : Rule (Unit {0})). Leads shapes rule (judged_block here (views ts)) old one) (block_more here ts i t lt is d) leads) j)

    pub block_halts : {two : Progress} (e : Stop) → is_else (out-Term t).op ≡ false → in_block i one → Judges shapes (λ l. yield_of shapes) (judged here (view t)) one two (Err e) → Judges shapes (λ l (u : Unit {0}). u) (judged_block here (views ts)) old two (Err e)
    block_halts {two} e d leads j =
        leads_on {say = λ (u : Unit {0}). u} {rest = judged_block here (views (drop i ts))} (Err e) leads
        (subst (λ (rule : Rule (Unit {0})). Judges shapes (λ l (u : Unit {0}). u) rule one two (Err e)) (sym (block_more here ts i t lt is d))
        (stops_judge {see = yield_of shapes} {say = λ (u : Unit {0}). u} {m = judged here (view t)} (λ (z : Yield). judged_block here (views (drop (suc i) ts))) e j))

    -- an Else is judged
    pub otherwise_here : (parts : List Term) {two : Progress} (r : Result (Unit {0}) Stop) → is_else (out-Term t).op ≡ true → parts ≡ (out-Term t).parts.items → judged_otherwise here (views (drop i ts)) ≡ judged_otherwise here (views ts) → one ≡ old → Judges shapes (λ l (u : Unit {0}). u) (judged_all here (views parts)) one two r → Judges shapes (λ l (u : Unit {0}). u) (judged_otherwise here (views ts)) old two r
    otherwise_here parts {two} r d parts_are all same j =
        subst (λ (rule : Rule (Unit {0})). Judges shapes (λ l (u : Unit {0}). u) rule old two r) (sym (otherwise_else here ts parts i t lt is d parts_are) ∙ all)
        (subst (λ (p : Progress). Judges shapes (λ l (u : Unit {0}). u) (judged_all here (views parts)) p two r) same j)

    pub otherwise_next : is_else (out-Term t).op ≡ false → judged_otherwise here (views (drop i ts)) ≡ judged_otherwise here (views ts) → judged_otherwise here (views (drop (i + 1) ts)) ≡ judged_otherwise here (views ts)
    otherwise_next d all = ap (λ (k : ℕ). judged_otherwise here (views (drop k ts))) next ∙ sym (otherwise_more here ts i t lt is d) ∙ all

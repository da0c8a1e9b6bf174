-- What judging a body sees of methods is what it sees of those that the body calls.
use Rattle.std.proofs.Common.{◌≡◌, ℕ, List, [], ◌∷◌, ◌++◌, Option, Some, None, refl, sym, ap, subst}
use Rattle.std.specs.Prelude.{Bool, true, false, if◌then◌else◌}
use Rattle.aml_operators.specs.Shape.{operator_of}
use Rattle.aml_operators.specs.Tree.{Tree, Trees, Node, none, more}
use Rattle.aml_namespace.specs.declared.link.Link.{Link}
use Rattle.aml_namespace.specs.declared.link.Link.TheVariants as link
use Rattle.aml_kinds.specs.Kinds.{Kind, IntUpTo}
use Rattle.aml_meaning.specs.declared.action.Action.{Action}
use Rattle.aml_meaning.specs.declared.action.Action.TheVariants.{Acquire, Binary, ByOne, Compare, Concatenate, CondRefOf, Convert, Dereference, Divide, If, Index, Invoke, LNot, Notify, Pause, Release, Return, SizeOf, Store, Unary, While}
use Rattle.aml_meaning.specs.declared.definition.Definition.{Definition}
use Rattle.aml_meaning.specs.declared.definition.Definition.TheVariants as makes
use Rattle.aml_meaning.specs.Actions.{action}
use Rattle.aml_meaning.specs.Definitions.{definition}
use Rattle.aml_meaning.specs.Meaning.{at_of, is_else}
use Rattle.aml_meaning.specs.Rules.{Place}
use Rattle.aml_bounds.specs.Shapes.{is_operand, Shape}
use Rattle.aml_calls.specs.Calls.{called, called_by, calls_in_term, calls_of}
use Rattle.aml_calls.specs.Chains.{end_of, has_cycle, is_among, is_short, Reaches, TellsReach}
use Rattle.aml_calls.proofs.Among.{among_back, among_front, first_among, not_both, or_left, rest_among}
use Rattle.aml_calls.proofs.ChainLaws.{chains_are_counted}
use Rattle.aml_judged.specs.Causes as cause
use Rattle.aml_judged.specs.Causes.{Refusal}
use Rattle.aml_judged.specs.Known.{Env}
use Rattle.aml_judged.specs.KindRules.{combined_kind, concatenated_kind, converted_kind, divided_kind, led_kind, transformed_kind}
use Rattle.aml_judged.specs.Judged.{Always, Around, Judged, Rule, Seen, Yield, goes, meet, ruled, step, then_judge}
use Rattle.aml_judged.specs.Judge as judge
use Rattle.aml_judged.specs.Judge.{judged, judged_act, judged_all, judged_block, judged_call, judged_dereferenced, judged_invoked, judged_led, judged_loop, judged_otherwise, judged_store, judged_stored, judged_test, judged_value, judged_values, not_defined, not_reaching}
use Rattle.aml_judged.specs.Bodies.{grown, judged_body, judged_method, judged_stated, judged_statement}
use Rattle.aml_judged.specs.Laws.{CallsAreSeen, CyclesAreLong}
use Rattle.aml_judged.specs.Verdicts.{around_for, called_from, calls_by, seen_from}

then_same : {J K : Type 0} (i j : Judged J) (f g : J → Env → Judged K) → i ≡ j → ((k : J) (env : Env) → f k env ≡ g k env) → then_judge i f ≡ then_judge j g
then_same i j f g p q = λ x. then_judge (p x) (λ k env. q k env x)

-- what follows a part that is the same anyway
like : {J K : Type 0} (i : Judged J) (f g : J → Env → Judged K) → ((k : J) (env : Env) → f k env ≡ g k env) → then_judge i f ≡ then_judge i g
like i f g q = λ x. then_judge i (λ k env. q k env x)

meet_same : {K : Type 0} (r : Refusal) (a b c d : Judged K) → a ≡ b → c ≡ d → meet r a c ≡ meet r b d
meet_same r a b c d p q = λ x. meet r (p x) (q x)

if_same : {K : Type 0} (b : Bool) (rule other last end : Rule K) (env : Env) → rule env ≡ other env → last env ≡ end env → (if b then rule else last) env ≡ (if b then other else end) env
if_same true rule other last end env p q = p
if_same false rule other last end env p q = q

module _ (here : Around) (other : ℕ → Seen) where
  abbrev place : Tree → Place
  place t = judge.place here t

  abbrev place_at : ℕ → Place
  place_at at = judge.place_at here at

  abbrev number : Tree → Option ℕ
  number t = judge.number_of here t

  abbrev there : Around
  there = record here { callee = other }

  -- both see the same of these
  abbrev pub Agree : List ℕ → Type 0
  Agree ks = (j : ℕ) → is_among j ks ≡ true → here.callee j ≡ other j

  abbrev pub Agrees : Tree → Type 0
  Agrees t = Agree (calls_in_term here.link t)

  abbrev pub AgreeAll : Trees → Type 0
  AgreeAll ts = Agree (calls_of here.link ts)

  first_agrees : (t : Tree) (ts : Trees) → AgreeAll (more t ts) → Agrees t
  first_agrees t ts h = λ j e. h j (among_front j (calls_in_term here.link t) (calls_of here.link ts) e)

  rest_agree : (t : Tree) (ts : Trees) → AgreeAll (more t ts) → AgreeAll ts
  rest_agree t ts h = λ j e. h j (among_back j (calls_in_term here.link t) (calls_of here.link ts) e)

  name_agrees : (a : Action) (parts : Trees) → Agree (called_by here.link a parts ++ calls_of here.link parts) → Agree (called_by here.link a parts)
  name_agrees a parts h = λ j e. h j (among_front j (called_by here.link a parts) (calls_of here.link parts) e)

  parts_agree : (a : Action) (parts : Trees) → Agree (called_by here.link a parts ++ calls_of here.link parts) → AgreeAll parts
  parts_agree a parts h = λ j e. h j (among_back j (called_by here.link a parts) (calls_of here.link parts) e)

  invoked_same : (w : Bool) (l : Link) (at : ℕ) (arguments : Trees) (given others : Rule (List Kind)) (env : Env) → Agree (called l) → ((next : Env) → given next ≡ others next) → judged_invoked here w l at arguments given env ≡ judged_invoked there w l at arguments others env
  invoked_same w (link.Method id) at arguments given others env h p =
      let q : here.callee id.0 ≡ other id.0 = h id.0 (first_among id.0 []) in
      λ x. then_judge (not_reaching here at (q x).reaches env) (λ u e1. then_judge (p e1 x) (λ ks e2. judged_call here w at (q x) arguments ks e2))
  invoked_same w link.OsInterfaces at arguments given others env h p = then_same _ _ _ _ (p env) (λ ks e1. refl)
  invoked_same w l at arguments given others env h p = refl

  loop_same : (s : Shape) (at : ℕ) (body : Trees) (tests test : Rule Env) (rules rule : Rule (Unit {0})) (env : Env) → ((next : Env) → tests next ≡ test next) → ((next : Env) → rules next ≡ rule next) → judged_loop here s at body tests rules env ≡ judged_loop there s at body test rule env
  loop_same s at body tests test rules rule env p q = λ x. judged_loop here s at body (λ next. p next x) (λ next. q next x) env

  test_same : (t : Tree) (rule others : Rule Kind) (env : Env) → rule env ≡ others env → judged_test here t rule env ≡ judged_test there t others env
  test_same t rule others env p = then_same _ _ _ _ p (λ k e1. refl)

  defined_same : (d : Definition) (at : ℕ) (rule others : Rule Yield) (env : Env) → rule env ≡ others env → not_defined here d at rule env ≡ not_defined there d at others env
  defined_same makes.Nothing at rule others env p = p
  defined_same d at rule others env p = refl

  mutual
    judged_same : (t : Tree) (env : Env) → Agrees t → judged here t env ≡ judged there t env
    judged_same (Node o at stop parts) env h = like (step env) _ _ (λ u e1. defined_same (definition o) at (judged_act here false (action o) at parts) (judged_act there false (action o) at parts) e1 (act_same false (action o) at parts e1 h))

    value_same : (t : Tree) (env : Env) → Agrees t → judged_value here t env ≡ judged_value there t env
    value_same (Node o at stop parts) env h =
        like (step env) _ _ (λ u e1.
        then_same _ _ (λ y. judge.wanted here at y) (λ y. judge.wanted there at y) (if_same (is_operand (action o) parts) (judged_act here true (action o) at parts) (judged_act there true (action o) at parts) (judge.stops here cause.OutsideProfile at) (judge.stops there cause.OutsideProfile at) e1 (act_same true (action o) at parts e1 h) refl) (λ y e2. refl))

    act_same : (w : Bool) (a : Action) (at : ℕ) (parts : Trees) (env : Env) → Agree (called_by here.link a parts ++ calls_of here.link parts) → judged_act here w a at parts env ≡ judged_act there w a at parts env
    act_same w (Binary f) at (more a (more b (more g none))) env h =
        let o = parts_agree (Binary f) (more a (more b (more g none))) h in
        then_same _ _ _ _ (value_same a env (first_agrees a (more b (more g none)) o)) (λ j e1.
        then_same _ _ _ _ (value_same b e1 (first_agrees b (more g none) (rest_agree a (more b (more g none)) o))) (λ k e2.
        like (ruled (combined_kind here.width f (place a) j (place b) k (number b)) e2) _ _ (λ v e3.
        then_same _ _ _ _ (store_same g v e3 (first_agrees g none (rest_agree b (more g none) (rest_agree a (more b (more g none)) o)))) (λ u e4. refl))))
    act_same w (Unary f) at (more a (more g none)) env h =
        let o = parts_agree (Unary f) (more a (more g none)) h in
        then_same _ _ _ _ (value_same a env (first_agrees a (more g none) o)) (λ k e1.
        like (ruled (transformed_kind here.width f (place a) k) e1) _ _ (λ v e2.
        then_same _ _ _ _ (store_same g v e2 (first_agrees g none (rest_agree a (more g none) o))) (λ u e3. refl)))
    act_same w (ByOne f) at (more a none) env h =
        let o = parts_agree (ByOne f) (more a none) h in
        like (judge.judged_placed here a env) _ _ (λ u e1.
        then_same _ _ _ _ (value_same a e1 (first_agrees a none o)) (λ j e2.
        like (ruled (combined_kind here.width f (place a) j (place a) (IntUpTo 1) (Some 1)) e2) _ _ (λ v e3.
        then_same _ _ _ _ (store_same a v e3 (first_agrees a none o)) (λ u e4. refl))))
    act_same w (Compare f) at (more a (more b none)) env h =
        let o = parts_agree (Compare f) (more a (more b none)) h in
        then_same _ _ _ _ (value_same a env (first_agrees a (more b none) o)) (λ j e1.
        then_same _ _ _ _ (value_same b e1 (first_agrees b none (rest_agree a (more b none) o))) (λ k e2. refl))
    act_same w LNot at (more a none) env h =
        let o = parts_agree LNot (more a none) h in
        then_same _ _ _ _ (value_same a env (first_agrees a none o)) (λ k e1. refl)
    act_same w Divide at (more a (more b (more r (more q none)))) env h =
        let o = parts_agree Divide (more a (more b (more r (more q none)))) h in
        then_same _ _ _ _ (value_same a env (first_agrees a (more b (more r (more q none))) o)) (λ j e1.
        then_same _ _ _ _ (value_same b e1 (first_agrees b (more r (more q none)) (rest_agree a (more b (more r (more q none))) o))) (λ k e2.
        like (ruled (divided_kind here.width (place a) j (place b) k (number b)) e2) _ _ (λ d e3.
        then_same _ _ _ _ (store_same r d.remainder e3 (first_agrees r (more q none) (rest_agree b (more r (more q none)) (rest_agree a (more b (more r (more q none))) o)))) (λ u e4.
        then_same _ _ _ _ (store_same q d.quotient e4 (first_agrees q none (rest_agree r (more q none) (rest_agree b (more r (more q none)) (rest_agree a (more b (more r (more q none))) o))))) (λ u e5. refl)))))
    act_same w (Convert f) at (more a (more g none)) env h =
        let o = parts_agree (Convert f) (more a (more g none)) h in
        then_same _ _ _ _ (value_same a env (first_agrees a (more g none) o)) (λ k e1.
        like (ruled (converted_kind here.width f (place_at at) (place a) k) e1) _ _ (λ v e2.
        then_same _ _ _ _ (store_same g v e2 (first_agrees g none (rest_agree a (more g none) o))) (λ u e3. refl)))
    act_same w Concatenate at (more a (more b (more g none))) env h =
        let o = parts_agree Concatenate (more a (more b (more g none))) h in
        then_same _ _ _ _ (value_same a env (first_agrees a (more b (more g none)) o)) (λ j e1.
        then_same _ _ _ _ (value_same b e1 (first_agrees b (more g none) (rest_agree a (more b (more g none)) o))) (λ k e2.
        like (ruled (concatenated_kind (place_at at) (place a) j (place b) k) e2) _ _ (λ v e3.
        then_same _ _ _ _ (store_same g v e3 (first_agrees g none (rest_agree b (more g none) (rest_agree a (more b (more g none)) o)))) (λ u e4. refl))))
    act_same w Dereference at (more a none) env h = led_same at a env (first_agrees a none (parts_agree Dereference (more a none) h))
    act_same w Store at (more a (more g none)) env h =
        let o = parts_agree Store (more a (more g none)) h in
        then_same _ _ _ _ (value_same a env (first_agrees a (more g none) o)) (λ v e1.
        then_same _ _ _ _ (store_same g v e1 (first_agrees g none (rest_agree a (more g none) o))) (λ u e2. refl))
    act_same w Return at (more a none) env h =
        then_same _ _ _ _ (value_same a env (first_agrees a none (parts_agree Return (more a none) h))) (λ v e1. refl)
    act_same w If at (more t body) env h =
        let o = parts_agree If (more t body) h in
        then_same _ _ _ _ (test_same t (judged_value here t) (judged_value there t) env (value_same t env (first_agrees t body o))) (λ held e1.
        then_same _ _ _ _ (meet_same _ _ _ _ _ (block_same body held (rest_agree t body o)) (otherwise_same body e1 (rest_agree t body o))) (λ u e2. refl))
    act_same w While at (more t body) env h =
        let o = parts_agree While (more t body) h in
        then_same _ _ _ _ (loop_same (judge.shape_of here t body) at body (judged_test here t (judged_value here t)) (judged_test there t (judged_value there t)) (judged_all here body) (judged_all there body) env (λ next. test_same t (judged_value here t) (judged_value there t) next (value_same t next (first_agrees t body o))) (λ next. all_same body next (rest_agree t body o))) (λ u e1. refl)
    act_same w Invoke at (more name arguments) env h =
        invoked_same w (here.link (at_of name)) (at_of name) arguments (judged_values here arguments) (judged_values there arguments) env (name_agrees Invoke (more name arguments) h)
        (λ next. values_same arguments next (rest_agree name arguments (parts_agree Invoke (more name arguments) h)))
    act_same w Notify at (more t (more a none)) env h =
        like (judge.judged_notified here (action (operator_of t)) (at_of t) env) _ _ (λ may e1. then_same _ _ _ _ (value_same a e1 (first_agrees a none (rest_agree t (more a none) (parts_agree Notify (more t (more a none)) h)))) (λ k e2. refl))
    act_same w (Pause f) at (more a none) env h =
        then_same _ _ _ _ (value_same a env (first_agrees a none (parts_agree (Pause f) (more a none) h))) (λ k e1. refl)
    act_same w SizeOf at (more a none) env h = refl
    act_same w CondRefOf at (more a (more g none)) env h = refl
    act_same w Acquire at (more t (more timeout none)) env h = refl
    act_same w Release at (more t none) env h = refl
    act_same w a at parts env h = refl

    store_same : (t : Tree) (k : Kind) (env : Env) → Agrees t → judged_store here t k env ≡ judged_store there t k env
    store_same (Node o at stop parts) k env h = stored_same (action o) at parts k env (parts_agree (action o) parts h)

    stored_same : (a : Action) (at : ℕ) (parts : Trees) (k : Kind) (env : Env) → AgreeAll parts → judged_stored here a at parts k env ≡ judged_stored there a at parts k env
    stored_same Index at (more x (more i (more g none))) k env o =
        like (judge.judged_indexed here at (action (operator_of g)) x env) _ _ (λ from e1. then_same _ _ _ _ (value_same i e1 (first_agrees i (more g none) (rest_agree x (more i (more g none)) o))) (λ j e2. refl))
    stored_same a at parts k env o = refl

    led_same : (at : ℕ) (t : Tree) (env : Env) → Agrees t → judged_dereferenced here at t env ≡ judged_dereferenced there at t env
    led_same at (Node o from stop parts) env h = led_by_same at (action o) from parts env (parts_agree (action o) parts h)

    led_by_same : (at : ℕ) (a : Action) (from : ℕ) (parts : Trees) (env : Env) → AgreeAll parts → judged_led here a at from parts env ≡ judged_led there a at from parts env
    led_by_same at Index from (more a (more i (more g none))) env o =
        like (step env) _ _ (λ u e1.
        like (judge.judged_untargeted here from (action (operator_of g)) e1) _ _ (λ u e2.
        then_same _ _ _ _ (value_same a e2 (first_agrees a (more i (more g none)) o)) (λ j e3.
        then_same _ _ (λ k env. then_judge (ruled (led_kind (place_at from) (place a) j (place i) k (number i)) env) (λ v. goes (Always v))) (λ k env. then_judge (ruled (led_kind (place_at from) (place a) j (place i) k (number i)) env) (λ v. goes (Always v))) (value_same i e3 (first_agrees i (more g none) (rest_agree a (more i (more g none)) o))) (λ k e4. refl))))
    led_by_same at a from parts env o = refl

    values_same : (ts : Trees) (env : Env) → AgreeAll ts → judged_values here ts env ≡ judged_values there ts env
    values_same none env o = refl
    values_same (more t ts) env o =
        then_same _ _ _ _ (value_same t env (first_agrees t ts o)) (λ k e1. then_same _ _ _ _ (values_same ts e1 (rest_agree t ts o)) (λ ks e2. refl))

    all_same : (ts : Trees) (env : Env) → AgreeAll ts → judged_all here ts env ≡ judged_all there ts env
    all_same none env o = refl
    all_same (more t ts) env o = then_same _ _ _ _ (judged_same t env (first_agrees t ts o)) (λ y e1. all_same ts e1 (rest_agree t ts o))

    block_same : (ts : Trees) (env : Env) → AgreeAll ts → judged_block here ts env ≡ judged_block there ts env
    block_same none env o = refl
    block_same (more t ts) env o =
        if_same (is_else (operator_of t)) (goes tt) (goes tt) (λ env. then_judge (judged here t env) (λ y. judged_block here ts)) (λ env. then_judge (judged there t env) (λ y. judged_block there ts)) env refl (then_same _ _ _ _ (judged_same t env (first_agrees t ts o)) (λ y e1. block_same ts e1 (rest_agree t ts o)))

    otherwise_same : (ts : Trees) (env : Env) → AgreeAll ts → judged_otherwise here ts env ≡ judged_otherwise there ts env
    otherwise_same none env o = refl
    otherwise_same (more (Node q at stop parts) ts) env o =
        if_same (is_else q) (judged_all here parts) (judged_all there parts) (judged_otherwise here ts) (judged_otherwise there ts) env (all_same parts env (parts_agree (action q) parts (first_agrees (Node q at stop parts) ts o))) (otherwise_same ts env (rest_agree (Node q at stop parts) ts o))

  stated_same : (d : Definition) (t : Tree) (env : Env) → Agrees t → judged_stated here d t env ≡ judged_stated there d t env
  stated_same makes.Nothing t env h = then_same _ _ _ _ (judged_same t env h) (λ y e1. refl)
  stated_same d (Node o at stop ts) env h = refl

  statement_same : (t : Tree) (env : Env) → Agrees t → judged_statement here t env ≡ judged_statement there t env
  statement_same (Node o at stop ts) env h = stated_same (definition o) (Node o at stop ts) env h

body_same : (here : Around) (other : ℕ → Seen) (ts : Trees) (env : Env) → AgreeAll here other ts → judged_body here ts env ≡ judged_body (record here { callee = other }) ts env
body_same here other none env o = refl
body_same here other (more t ts) env o =
    then_same _ _ _ _ (statement_same here other t env (first_agrees here other t ts o)) (λ made next. body_same (grown here made) other ts next (rest_agree here other t ts o))

pub method_same : (here : Around) (other : ℕ → Seen) (opcode : ℕ) (ts : Trees) (env : Env) → AgreeAll here other ts → judged_method here opcode ts env ≡ judged_method (record here { callee = other }) opcode ts env
method_same here other opcode ts env o = then_same _ _ _ _ (body_same here other ts env o) (λ u next. refl)

if_true : {X : Type 0} (b : Bool) (x y : X) → b ≡ true → (if b then x else y) ≡ x
if_true true x y e = refl
if_true false x y e = absurd cc

pub calls_are_seen : CallsAreSeen
calls_are_seen all known k m there env =
    method_same (around_for all known k m) (λ j. record (seen_from all known k j) { accepted = known j }) m.opcode m.body env (λ j e.
    let among : is_among j (called_from all k) ≡ true = subst (λ o. is_among j (calls_by o) ≡ true) (sym there) e in
    ap (λ a. record (seen_from all known k j) { accepted = a }) (if_true (is_among j (called_from all k)) (known j) None among))

-- a chain's end stands in it
end_among : (k : ℕ) (ks : List ℕ) → is_among (end_of k ks) (k ∷ ks) ≡ true
end_among k [] = first_among k []
end_among k (j ∷ js) = rest_among (end_of j js) k (j ∷ js) (end_among j js)

long : (calls : ℕ → List ℕ) (k j : ℕ) → is_short calls 64 k ≡ true → is_among j (calls k) ≡ true → Reaches calls j k → ⊥
long calls k j short among r =
    not_both (has_cycle (k ∷ (j ∷ r.behind)))
    (or_left (is_among k (j ∷ r.behind)) (has_cycle (j ∷ r.behind)) (subst (λ n. is_among n (j ∷ r.behind) ≡ true) r.ends (end_among j r.behind)))
    (((chains_are_counted calls).no_cycle 64 k short).never (j ∷ r.behind) (among, r.chain))

pub cycles_are_long : CyclesAreLong
cycles_are_long all tells k j short among = by (all.reaches j k) (tells.each j k)
  where
    by : (b : Bool) → TellsReach (called_from all) j k b → b ≡ false
    by true r = absurd (long (called_from all) k j short among r)
    by false r = refl

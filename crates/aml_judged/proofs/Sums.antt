-- What statements and bodies cost: the sum over them, by the turns of their loops.
use Rattle.std.proofs.Common.{inl, inr, ◌≡◌, ℕ, suc, ◌+◌, ◌*◌, ◌-◌, max, List, [], ◌∷◌, ◌++◌, Option, Some, None, refl, sym, ap, ◌∙◌, subst, arith}
use Rattle.std.proofs.lemmas.Bool.{and_parts, or_parts}
use Rattle.std.proofs.Math.Nat.{mul-add, suc-mul}
use Rattle.std.specs.Prelude.{◌⊎◌, ◌==◌, Bool, true, false, map, if◌then◌else◌, slice_get}
use Rattle.aml_operators.specs.declared.op.Op.{Op}
use Rattle.aml_operators.specs.declared.op.Op.TheVariants as operator
use Rattle.aml_operators.specs.Tree.{Tree, Trees, Node, none, more}
use Rattle.std.specs.Option.{option_map}
use Rattle.aml_operators.specs.Literal.{literal_of}
use Rattle.aml_namespace.specs.declared.link.Link.{Link}
use Rattle.aml_namespace.specs.declared.link.Link.TheVariants as link
use Rattle.aml_objects.specs.declared.object.CreatedFieldSize.{CreatedFieldSize}
use Rattle.aml_objects.specs.declared.object.CreatedFieldSize.TheVariants as size
use Rattle.aml_kinds.specs.Kinds.{Kind, IntUpTo}
use Rattle.aml_contents.specs.BodyData.{computed_size}
use Rattle.aml_meaning.specs.declared.action.Action.{Action}
use Rattle.aml_meaning.specs.declared.action.Action.TheVariants.{Data, If, Literal, Unwritten, While}
use Rattle.aml_meaning.specs.declared.definition.Definition.{Definition}
use Rattle.aml_meaning.specs.declared.definition.Definition.TheVariants as makes
use Rattle.aml_meaning.specs.Actions.{action}
use Rattle.aml_meaning.specs.Definitions.{definition, source_of}
use Rattle.aml_meaning.specs.Owns.{field_at}
use Rattle.aml_meaning.specs.declared.buffer_field.BufferField.{BufferField}
use Rattle.aml_meaning.specs.Meaning.{at_of, is_else}
use Rattle.aml_bounds.specs.declared.role.Role.TheVariants as role_is
use Rattle.aml_bounds.specs.declared.turn_count.TurnCount.{TurnCount}
use Rattle.aml_bounds.specs.declared.turn_count.TurnCount.TheVariants as turn_count
use Rattle.aml_bounds.specs.Shapes.{Shape, Once, Up, Down, Endless}
use Rattle.aml_bounds.specs.Steps.{every_operand, first_steps, steps_as, steps_by, steps_from, steps_of_all, steps_of_block, steps_of_else, turned}
use Rattle.aml_calls.specs.Chains.{has_cycle, is_among}
use Rattle.aml_calls.proofs.Among.{same_number}
use Rattle.aml_judged.specs.Causes as cause
use Rattle.aml_judged.specs.Causes.{Refusal}
use Rattle.aml_judged.specs.KindRules.{integer_kind}
use Rattle.aml_judged.specs.Known.{Env, Slot, ends_agree, in_loop}
use Rattle.aml_judged.specs.Judged.{Accepted, Around, Exits, Judged, Goes, Stops, Rule, agreed, meet, then_judge, goes, no_exits, step}
use Rattle.aml_judged.specs.Judge as judge
use Rattle.aml_judged.specs.Judge.{begun, closed, comes_back, exit_holds, falling, holds_back, judged, judged_act, judged_all, judged_block, judged_loop, judged_otherwise, judged_test, judged_value, not_defined, often, once, once_ended, past, shape_of}
use Rattle.aml_judged.specs.Bodies as top
use Rattle.aml_judged.specs.Bodies.{entry, grown, judged_body, judged_made, judged_method, judged_stated, judged_statement}
use Rattle.aml_judged.specs.Verdicts.{accepted_of, around_for, bounded, verdict_by, verdict_of}
use Rattle.aml_judged.specs.Sums.{AreTurns, behind, before_test, CostsAreSums, falling_loop, known_costs, Loop, loop_of, loops_by, loops_in, loops_in_all, loops_in_block, loops_in_body, loops_in_else, only_calls_take, calls_alone_take, takes_rightly, test_of, turns_among}
use Rattle.aml_judged.proofs.LoopPlaces.{own_places}
use Rattle.aml_judged.proofs.Costs.{Costs, act_costs, after_costs, costs_same, if_costs, lone_sum, none_held_free, ruled_then, stopped_costs, then_costs, then_free, then_stopped, value_costs, values_from, values_sum}

-- turns of loops of two parts
turns_front : (turns : ℕ → TurnCount) (ls ks : List Loop) → AreTurns turns (ls ++ ks) → AreTurns turns ls
turns_front turns [] ks h = tt
turns_front turns (l ∷ ls) ks h = (h.0, turns_front turns ls ks h.1)

turns_back : (turns : ℕ → TurnCount) (ls ks : List Loop) → AreTurns turns (ls ++ ks) → AreTurns turns ks
turns_back turns [] ks h = h
turns_back turns (l ∷ ls) ks h = turns_back turns ls ks h.1

-- a part, and what follows, whose loops turn so from what is known behind the part
then_by : {J K : Type 0} (turns : ℕ → TurnCount) (a b : ℕ) (j : Judged J) (f : J → Env → Judged K) (loops : J → Env → List Loop) → AreTurns turns (behind j loops) → Costs a j → ((k : J) (env : Env) → AreTurns turns (loops k env) → Costs b (f k env)) → Costs (a + b) (then_judge j f)
then_by turns a b (Goes k env x n) f loops h c next = after_costs a b n x (f k env) c (next k env h)
then_by turns a b (Stops r) f loops h c next = tt

agreed_costs : {K : Type 0} (b : Bool) (n : ℕ) (r : Refusal) (j : Judged K) → Costs n j → Costs n (agreed b r j)
agreed_costs true n r j h = h
agreed_costs false n r j h = tt

meet_costs : {K : Type 0} (r : Refusal) (n m : ℕ) (i j : Judged K) → Costs n i → Costs m j → Costs (max n m) (meet r i j)
meet_costs r n m (Goes k a x p) (Goes l b y q) e f = agreed_costs (ends_agree a b) (max n m) r _ (ap (λ v. max v q) e ∙ ap (λ v. max n v) f)
meet_costs r n m (Goes k a x p) (Stops s) e f = tt
meet_costs r n m (Stops s) j e f = tt

-- either of two lists, and the loops in it
branch_costs : {K : Type 0} (turns : ℕ → TurnCount) (b : Bool) (n m : ℕ) (rule other : Rule K) (env : Env) (ls ks : List Loop) → AreTurns turns (if b then ls else ks) → (AreTurns turns ls → Costs n (rule env)) → (AreTurns turns ks → Costs m (other env)) → Costs (if b then n else m) ((if b then rule else other) env)
branch_costs turns true n m rule other env ls ks h f g = f h
branch_costs turns false n m rule other env ls ks h f g = g h

-- what makes something at the top of a body, and takes a step more if it is a Name
abbrev made_cost : Definition → ℕ
made_cost makes.Name = 1
made_cost d = 0

abbrev IsMaking : Definition → Type 0
IsMaking makes.Nothing = ⊥
IsMaking d = Unit {0}

record Defines (o : Op) : Type 0 where
  making : IsMaking (definition o)
  unwritten : action o ≡ Unwritten
  first : first_steps o ≡ suc (made_cost (definition o))

defines : (o : Op) → (definition o ≡ makes.Nothing) ⊎ Defines o
defines operator.Name = inr (record { making = tt; unwritten = refl; first = refl })
defines operator.CreateBitField = inr (record { making = tt; unwritten = refl; first = refl })
defines operator.CreateByteField = inr (record { making = tt; unwritten = refl; first = refl })
defines operator.CreateWordField = inr (record { making = tt; unwritten = refl; first = refl })
defines operator.CreateDWordField = inr (record { making = tt; unwritten = refl; first = refl })
defines operator.CreateQWordField = inr (record { making = tt; unwritten = refl; first = refl })
defines operator.CreateField = inr (record { making = tt; unwritten = refl; first = refl })
defines o = inl refl

plain_first : (o : Op) → definition o ≡ makes.Nothing → first_steps o ≡ 1
plain_first operator.Name e = absurd cc
plain_first o e = refl

-- n + 1 tests and n bodies
turned_sum : (c n m : ℕ) → n + c * (n + m) ≡ suc c * n + c * m
turned_sum c n m = let e = mul-add c n m in let f = suc-mul c n in omega (arith, e, f)

module _ (here : Around) (turns : ℕ → TurnCount) where
  abbrev value_sum : Tree → ℕ
  value_sum t = steps_as (known_costs here turns) role_is.Operand t

  abbrev all_sum : Trees → ℕ
  all_sum ts = steps_from (known_costs here turns) every_operand 0 ts

  abbrev act_sum : Action → ℕ → Trees → ℕ
  act_sum a at parts = steps_by (known_costs here turns) a at parts

  abbrev Take : Trees → Type 0
  Take ts = only_calls_take here.link ts ≡ true

  abbrev Takes : Tree → Type 0
  Takes t = calls_alone_take here.link t ≡ true

  all_values : (ts : Trees) → values_sum here turns ts ≡ all_sum ts
  all_values ts = sym (values_from here turns every_operand 0 (λ k. refl) ts)

  first_takes : (t : Tree) (ts : Trees) → Take (more t ts) → Takes t
  first_takes t ts h = (and_parts (calls_alone_take here.link t) (only_calls_take here.link ts) h).0

  rest_take : (t : Tree) (ts : Trees) → Take (more t ts) → Take ts
  rest_take t ts h = (and_parts (calls_alone_take here.link t) (only_calls_take here.link ts) h).1

  parts_take : (o : Op) (at stop : ℕ) (parts : Trees) → Takes (Node o at stop parts) → (takes_rightly here.link (action o) parts ≡ true) × Take parts
  parts_take o at stop parts h = and_parts (takes_rightly here.link (action o) parts) (only_calls_take here.link parts) h

  test_costs : (t : Tree) (env : Env) → Takes t → Costs (value_sum t) (test_of here t env)
  test_costs t env h = then_free (value_sum t) (judged_value here t env) _ (value_costs here turns t env h) (λ k e1. ruled_then 0 (integer_kind (judge.place here t) k) _ e1 (λ u. refl))

  -- a loop behind its test
  ended_costs : (outer : Bool) (at m : ℕ) (et : Env) (j : Judged (Unit {0})) → Costs m j → Costs m (once_ended here outer at et j)
  ended_costs outer at m et (Goes u eb x q) e = agreed_costs (exit_holds here x.broke et) m _ _ e
  ended_costs outer at m et (Stops r) e = tt

  once_costs : (outer : Bool) (at n m : ℕ) (jt : Judged Env) (rb : Rule (Unit {0})) (loops : Env → Env → List Loop) → AreTurns turns (behind jt loops) → Costs n jt → ((held failed : Env) → AreTurns turns (loops held failed) → Costs m (rb held)) → Costs (n + m) (once here outer at jt rb)
  once_costs outer at n m (Goes held et xt p) rb loops h c next = after_costs n m p xt _ c (ended_costs outer at m et (rb held) (next held et h))
  once_costs outer at n m (Stops r) rb loops h c next = tt

  closed_costs : (outer : Bool) (count at n m : ℕ) (back holds : Bool) (et : Env) (x : Exits) → n ≡ m → Costs (count * m) (closed here outer count at back holds et x n)
  closed_costs outer count at n m true holds et x e = agreed_costs holds (count * m) _ _ (ap (λ v. count * v) e)
  closed_costs outer count at n m false holds et x e = tt

  turned_costs : (outer : Bool) (count at p n m : ℕ) (start et : Env) (j : Judged (Unit {0})) → p ≡ n → Costs m j → Costs (count * (n + m)) (judge.turned here outer count at p start et j)
  turned_costs outer count at p n m start et (Goes u eb x q) e f = closed_costs outer count at (p + q) (n + m) _ _ et x (omega (arith, e, f))
  turned_costs outer count at p n m start et (Stops r) e f = tt

  often_costs : (outer : Bool) (count at n m : ℕ) (start : Env) (jt : Judged Env) (rb : Rule (Unit {0})) (loops : Env → Env → List Loop) → AreTurns turns (behind jt loops) → Costs n jt → ((held failed : Env) → AreTurns turns (loops held failed) → Costs m (rb held)) → Costs (suc count * n + count * m) (often here outer count at start jt rb)
  often_costs outer count at n m start (Goes held et xt p) rb loops h c next =
      costs_same _ _ _ (turned_sum count n m)
      (after_costs n (count * (n + m)) p xt _ c (turned_costs outer count at p n m start et (rb held) c (next held et h)))
  often_costs outer count at n m start (Stops r) rb loops h c next = tt

  module _ (at : ℕ) (t : Tree) (body : Trees) (env : Env) (takes : Takes t) (bodies : (held : Env) → AreTurns turns (loops_in_all here body held) → Costs (all_sum body) (judged_all here body held)) where
    abbrev While_sum : ℕ
    While_sum = turned (turns at) (value_sum t) (all_sum body)

    abbrev While_of : Rule (Unit {0}) → Type 0
    While_of rule = Costs While_sum (rule env)

    -- as often as is told
    told : (count : TurnCount) (j : Judged (Unit {0})) → turns at ≡ count → Costs (turned count (value_sum t) (all_sum body)) j → Costs While_sum j
    told count j e h = costs_same _ _ j (sym (ap (λ c. turned c (value_sum t) (all_sum body)) e)) h

    falling_costs : (slot : Option Slot) (c : ℕ) → AreTurns turns (falling_loop here at slot c ++ behind (test_of here t (begun here body env)) (λ held failed. loops_in_all here body held)) → Costs While_sum (falling here slot c at body (judged_test here t (judged_value here t)) (judged_all here body) env)
    falling_costs (Some (Some (IntUpTo a))) c h =
        told (turn_count.AtMost (a - c)) _ h.0
        (often_costs env.looped (a - c) at (value_sum t) (all_sum body) (begun here body env) (test_of here t (begun here body env)) (judged_all here body) (λ held failed. loops_in_all here body held) h.1 (test_costs t (begun here body env) takes) (λ held failed m. bodies held m))
    falling_costs slot c h = stopped_costs _ _ (then_stopped (test_of here t (begun here body env)) _ (λ u e. tt))

    loop_costs : (s : Shape) → AreTurns turns (loop_of here s at env ++ behind (test_of here t (before_test here s body env)) (λ held failed. loops_in_all here body held)) → Costs While_sum (judged_loop here s at body (judged_test here t (judged_value here t)) (judged_all here body) env)
    loop_costs Once h =
        told turn_count.Once _ h.0
        (once_costs env.looped at (value_sum t) (all_sum body) (test_of here t (in_loop true env)) (judged_all here body) (λ held failed. loops_in_all here body held) h.1 (test_costs t (in_loop true env) takes) (λ held failed m. bodies held m))
    loop_costs (Up l c) h =
        told (turn_count.AtMost c) _ h.0
        (often_costs env.looped c at (value_sum t) (all_sum body) (begun here body env) (test_of here t (begun here body env)) (judged_all here body) (λ held failed. loops_in_all here body held) h.1 (test_costs t (begun here body env) takes) (λ held failed m. bodies held m))
    loop_costs (Down l c) h = falling_costs (slice_get env.locals l) c h
    loop_costs Endless h = tt

  first_term : (o : Op) (at : ℕ) (parts : Trees) (env : Env) → Costs (act_sum (action o) at parts) (judged_act here false (action o) at parts env) → Costs (first_steps o + act_sum (action o) at parts) (then_judge (step env) (λ u next. not_defined here (definition o) at (judged_act here false (action o) at parts) next))
  first_term o at parts env h = by (definition o) refl
    where
      by : (d : Definition) → definition o ≡ d → Costs (first_steps o + act_sum (action o) at parts) (then_judge (step env) (λ u next. not_defined here d at (judged_act here false (action o) at parts) next))
      by makes.Nothing e = let one = plain_first o e in costs_same (1 + act_sum (action o) at parts) (first_steps o + act_sum (action o) at parts) _ (omega (arith, one)) (after_costs 1 (act_sum (action o) at parts) 1 no_exits (judged_act here false (action o) at parts env) refl h)
      by d e = tt

  mutual
    pub term_costs : (t : Tree) (env : Env) → Takes t → AreTurns turns (loops_in here t env) → Costs (value_sum t) (judged here t env)
    term_costs (Node o at stop parts) env h l =
        let two = parts_take o at stop parts h in
        first_term o at parts env (statement_costs (action o) at parts env two.0 two.1 l)

    statement_costs : (a : Action) (at : ℕ) (parts : Trees) (env : Env) → takes_rightly here.link a parts ≡ true → Take parts → AreTurns turns (loops_by here a at parts env) → Costs (act_sum a at parts) (judged_act here false a at parts env)
    statement_costs If at none env h o l = tt
    statement_costs If at (more t body) env h o l =
        then_by turns (value_sum t) (max (steps_of_block (known_costs here turns) body) (steps_of_else (known_costs here turns) body)) (test_of here t env) _ (λ held failed. loops_in_block here body held ++ loops_in_else here body failed) l (test_costs t env (first_takes t body o)) (λ held failed m.
        then_free (max (steps_of_block (known_costs here turns) body) (steps_of_else (known_costs here turns) body)) (meet (judge.refusal here cause.HeldDiffers at) (judged_block here body held) (judged_otherwise here body failed)) _
        (meet_costs _ _ _ _ _ (block_costs body held (rest_take t body o) (turns_front turns (loops_in_block here body held) _ m)) (else_costs body failed (rest_take t body o) (turns_back turns (loops_in_block here body held) _ m)))
        (λ u e2. refl))
    statement_costs While at none env h o l = tt
    statement_costs While at (more t body) env h o l =
        then_free (turned (turns at) (value_sum t) (all_sum body)) (judged_loop here (shape_of here t body) at body (judged_test here t (judged_value here t)) (judged_all here body) env) _
        (loop_costs at t body env (first_takes t body o) (λ held m. costs_same _ _ _ (all_values body) (all_costs body held (rest_take t body o) m)) (shape_of here t body) l)
        (λ u e2. refl)
    statement_costs a at parts env h o l = act_costs here turns false a at parts env h o tt

    all_costs : (ts : Trees) (env : Env) → Take ts → AreTurns turns (loops_in_all here ts env) → Costs (values_sum here turns ts) (judged_all here ts env)
    all_costs none env o l = refl
    all_costs (more t ts) env o l =
        then_by turns (value_sum t) (values_sum here turns ts) (judged here t env) _ (λ y next. loops_in_all here ts next) (turns_back turns (loops_in here t env) _ l) (term_costs t env (first_takes t ts o) (turns_front turns (loops_in here t env) _ l))
        (λ y next m. all_costs ts next (rest_take t ts o) m)

    block_costs : (ts : Trees) (env : Env) → Take ts → AreTurns turns (loops_in_block here ts env) → Costs (steps_of_block (known_costs here turns) ts) (judged_block here ts env)
    block_costs none env o l = refl
    block_costs (more (Node q at stop parts) ts) env o l =
        branch_costs turns (is_else q) 0 _ (goes tt) _ env [] _ l (λ m. refl) (λ m.
        then_by turns (value_sum (Node q at stop parts)) (steps_of_block (known_costs here turns) ts) (judged here (Node q at stop parts) env) _ (λ y next. loops_in_block here ts next) (turns_back turns (loops_in here (Node q at stop parts) env) _ m) (term_costs (Node q at stop parts) env (first_takes (Node q at stop parts) ts o) (turns_front turns (loops_in here (Node q at stop parts) env) _ m))
        (λ y next k. block_costs ts next (rest_take (Node q at stop parts) ts o) k))

    else_costs : (ts : Trees) (env : Env) → Take ts → AreTurns turns (loops_in_else here ts env) → Costs (steps_of_else (known_costs here turns) ts) (judged_otherwise here ts env)
    else_costs none env o l = refl
    else_costs (more (Node q at stop parts) ts) env o l =
        branch_costs turns (is_else q) (all_sum parts) (steps_of_else (known_costs here turns) ts) (judged_all here parts) (judged_otherwise here ts) env _ _ l
        (λ m. costs_same _ _ _ (all_values parts) (all_costs parts env (parts_take q at stop parts (first_takes (Node q at stop parts) ts o)).1 m))
        (λ m. else_costs ts env (rest_take (Node q at stop parts) ts o) m)

  -- what a statement at the top of a body makes
  computed_free : (o : Option ℕ) (k : Kind) (env : Env) → Costs 0 (top.unless_computed here o k env)
  computed_free None k env = refl
  computed_free (Some from) k env = tt

  first_kind_free : (a : Action) (at : ℕ) (ts : Trees) (env : Env) → Costs 0 (top.first_kind_by here a at ts env)
  first_kind_free (Literal o) at ts env = refl
  first_kind_free (Data o) at ts env = computed_free (computed_size o at ts) _ env
  first_kind_free a at ts env = tt

  data_costs : (t : Tree) (env : Env) → Costs 1 (top.judged_data here t env)
  data_costs (Node o at stop ts) env = then_free 1 (step env) _ refl (λ u next. first_kind_free (action o) at ts next)

  own_source_free : (at k : ℕ) (f : Option BufferField) (env : Env) → Costs 0 (top.judged_own_source here at k f env)
  own_source_free at k None env = refl
  own_source_free at k (Some f) env = tt

  source_free : (at : ℕ) (l : Link) (env : Env) → Costs 0 (top.judged_source here at l env)
  source_free at (link.Data id) env = refl
  source_free at (link.Own k) env = own_source_free at k (field_at here.kinds.fields k) env
  source_free at l env = tt

  field_made_free : (at : ℕ) (from index : Option ℕ) (counted : Option CreatedFieldSize) (env : Env) → Costs 0 (top.judged_field_made here at from index counted env)
  field_made_free at (Some from) (Some index) (Some counted) env = then_free 0 (top.judged_source here at (here.link from) env) _ (source_free at (here.link from) env) (λ source next. refl)
  field_made_free at (Some from) (Some index) None env = tt
  field_made_free at (Some from) None counted env = tt
  field_made_free at None index counted env = tt

  made_costs : (d : Definition) (at : ℕ) (ts : Trees) (env : Env) → Costs (made_cost d) (judged_made here d at ts env)
  made_costs makes.Name at (more name (more held none)) env =
      if_costs (top.may_make here (at_of name)) 1 (λ env. then_judge (top.judged_data here held env) (λ k. goes (top.Holding k))) (judge.stops here cause.LocalName at) env (then_free 1 (top.judged_data here held env) _ (data_costs held env) (λ k next. refl)) tt
  made_costs (makes.Field counted) at (more source (more index (more name none))) env =
      if_costs (top.may_make here (at_of name)) 0 (top.judged_field_made here at (source_of source) (literal_of index) (Some counted)) (judge.stops here cause.LocalName at) env (field_made_free at (source_of source) (literal_of index) (Some counted) env) tt
  made_costs makes.CountedField at (more source (more index (more count (more name none)))) env =
      if_costs (top.may_make here (at_of name)) 0 (top.judged_field_made here at (source_of source) (literal_of index) (option_map size.Bits (literal_of count))) (judge.stops here cause.LocalName at) env (field_made_free at (source_of source) (literal_of index) (option_map size.Bits (literal_of count)) env) tt
  made_costs d at ts env = tt

  making_costs : (d : Definition) (o : Op) (at stop : ℕ) (ts : Trees) (env : Env) → IsMaking d → Costs (1 + made_cost d) (judged_stated here d (Node o at stop ts) env)
  making_costs makes.Nothing o at stop ts env h = absurd h
  making_costs d o at stop ts env h = then_costs 1 (made_cost d) (step env) _ refl (λ u next. made_costs d at ts next)

  stated_costs : (t : Tree) (env : Env) → Takes t → AreTurns turns (loops_in here t env) → Costs (value_sum t) (judged_statement here t env)
  stated_costs (Node o at stop ts) env h l = by (defines o)
    where
      by : (definition o ≡ makes.Nothing) ⊎ Defines o → Costs (value_sum (Node o at stop ts)) (judged_stated here (definition o) (Node o at stop ts) env)
      by (inl e) = subst (λ d. Costs (value_sum (Node o at stop ts)) (judged_stated here d (Node o at stop ts) env)) (sym e) (then_free (value_sum (Node o at stop ts)) _ _ (term_costs (Node o at stop ts) env h l) (λ y next. refl))
      by (inr d) =
          let nothing : 0 ≡ act_sum (action o) at ts = subst (λ a. 0 ≡ act_sum a at ts) (sym d.unwritten) (lone_sum here turns Unwritten at 0 ts tt (λ i. refl) refl) in
          let first = d.first in
          costs_same (1 + made_cost (definition o)) _ _ (omega (arith, nothing, first)) (making_costs (definition o) o at stop ts env d.making)

body_costs : (here : Around) (turns : ℕ → TurnCount) (ts : Trees) (env : Env) → only_calls_take here.link ts ≡ true → AreTurns turns (loops_in_body here ts env) → Costs (values_sum here turns ts) (judged_body here ts env)
body_costs here turns none env o l = refl
body_costs here turns (more t ts) env o l =
    then_by turns (value_sum here turns t) (values_sum here turns ts) (judged_statement here t env) _ (λ made next. loops_in_body (grown here made) ts next) (turns_back turns (loops_in here t env) _ l) (stated_costs here turns t env (first_takes here turns t ts o) (turns_front turns (loops_in here t env) _ l))
    (λ made next m. body_costs (grown here made) turns ts next (rest_take here turns t ts o) m)

method_costs : (here : Around) (turns : ℕ → TurnCount) (opcode : ℕ) (ts : Trees) (env : Env) → only_calls_take here.link ts ≡ true → AreTurns turns (loops_in_body here ts env) → Costs (steps_of_all (known_costs here turns) ts) (judged_method here opcode ts env)
method_costs here turns opcode ts env o l =
    costs_same _ _ _ (all_values here turns ts) (then_free (values_sum here turns ts) _ _ (body_costs here turns ts env o l) (λ u next. none_held_free here turns next.counts next.held opcode next))

gone_costs : {K : Type 0} (s n : ℕ) (k : K) (env : Env) (x : Exits) (j : Judged K) → j ≡ Goes k env x n → Costs s j → n ≡ s
gone_costs s n k env x j e h = subst (λ i. Costs s i) e h

bounded_bound : (b : Bool) (late : Refusal) (a c : Accepted) → accepted_of (Some (bounded b late a)) ≡ Some c → c.bound ≡ a.bound
bounded_bound true late a c e = let same : a ≡ c = cc in ap (λ r. r.bound) (sym same)
bounded_bound false late a c e = absurd cc

verdict_bound : (short : Bool) (late : Refusal) (args : List Kind) (s : ℕ) (a : Accepted) (j : Judged (Unit {0})) → Costs s j → accepted_of (Some (verdict_of short late args j)) ≡ Some a → a.bound ≡ s
verdict_bound short late args s a (Goes u env x n) h e = bounded_bound _ late _ a e ∙ h
verdict_bound short late args s a (Stops r) h e = absurd cc

-- the turns of a loop more are not asked at another place
turns_more : (l : Loop) (all ls : List Loop) → is_among l.at (map (λ k. k.at) ls) ≡ false → AreTurns (turns_among all) ls → AreTurns (turns_among (l ∷ all)) ls
turns_more l all [] away h = tt
turns_more l all (k ∷ ls) away h =
    let two = or_parts (l.at == k.at) (is_among l.at (map (λ i. i.at) ls)) away in
    ((let other = two.0 in rw other h.0), turns_more l all ls two.1 h.1)

turns_found : (loops : List Loop) → has_cycle (map (λ l. l.at) loops) ≡ false → AreTurns (turns_among loops) loops
turns_found [] e = tt
turns_found (l ∷ ls) e =
    let two = or_parts (is_among l.at (map (λ k. k.at) ls)) (has_cycle (map (λ k. k.at) ls)) e in
    ((let same = same_number l.at in rw same refl), turns_more l ls ls two.0 (turns_found ls two.1))

pub costs_are_sums : CostsAreSums
costs_are_sums = record {
  cost = λ here turns body env end x n takes told e.
      gone_costs _ n tt end x (judged_body here body env) e (body_costs here turns body env takes told) ∙ all_values here turns body;
  turns = λ here body env e. turns_found (loops_in_body here body env) (own_places here body env e);
  bound = λ all known are k a m is there turns takes told.
      let found : accepted_of (verdict_by all known k (all.methods.callee k)) ≡ Some a = sym (are.each k) ∙ is in
      verdict_bound _ _ (all.args k) (steps_of_all (known_costs (around_for all known k m) turns) m.body) a
      (judged_method (around_for all known k m) m.opcode m.body (entry (all.args k)))
      (method_costs (around_for all known k m) turns m.opcode m.body (entry (all.args k)) takes told)
      (subst (λ o. accepted_of (verdict_by all known k o) ≡ Some a) there found);
}

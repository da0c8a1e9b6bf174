-- Loops that the judgement comes to stand at places of Whiles, no more of them than there are Whiles.
use Rattle.std.proofs.Common.{◌≡◌, ◌≤◌, ℕ, ◌+◌, List, [], ◌∷◌, ◌++◌, Option, Some, refl, sym, subst, arith}
use Rattle.std.proofs.lemmas.Bool.{eqb-true, or_parts}
use Rattle.std.specs.Prelude.{Bool, true, false, ◌==◌, ◌||◌, if◌then◌else◌, map, slice_get}
use Rattle.aml_operators.specs.Tree.{Tree, Trees, Node, none, more}
use Rattle.aml_kinds.specs.Kinds.{IntUpTo}
use Rattle.aml_meaning.specs.declared.action.Action.{Action}
use Rattle.aml_meaning.specs.declared.action.Action.TheVariants.{If, While}
use Rattle.aml_meaning.specs.Actions.{action}
use Rattle.aml_meaning.specs.Meaning.{is_else}
use Rattle.aml_bounds.specs.Shapes.{Shape, Once, Up, Down, Endless}
use Rattle.aml_calls.specs.Chains.{has_cycle, is_among}
use Rattle.aml_calls.proofs.Among.{is_false, neither, same_number}
use Rattle.aml_judged.specs.Known.{Env, Slot}
use Rattle.aml_judged.specs.Judged.{Around, Judged, Goes, Stops}
use Rattle.aml_judged.specs.Judge.{judged, shape_of}
use Rattle.aml_judged.specs.Bodies.{grown, judged_statement}
use Rattle.aml_judged.specs.Sums.{before_test, behind, falling_loop, Loop, loop_of, loops_by, loops_in, loops_in_all, loops_in_block, loops_in_body, loops_in_else, test_of, while_place, while_places, while_places_in}

-- how often a number stands in a list
abbrev one_if : Bool → ℕ
one_if true = 1
one_if false = 0

abbrev occurs : ℕ → List ℕ → ℕ
occurs p [] = 0
occurs p (k ∷ ks) = one_if (p == k) + occurs p ks

occurs_append : (p : ℕ) (ks js : List ℕ) → occurs p (ks ++ js) ≡ occurs p ks + occurs p js
occurs_append p [] js = omega arith
occurs_append p (k ∷ ks) js = let e = occurs_append p ks js in omega (arith, e)

absent : (p : ℕ) (ks : List ℕ) → is_among p ks ≡ false → occurs p ks ≡ 0
absent p [] e = refl
absent p (k ∷ ks) e =
    let two = or_parts (p == k) (is_among p ks) e in
    let rest = absent p ks two.1 in by (p == k) two.0 rest
  where
    by : (b : Bool) → b ≡ false → occurs p ks ≡ 0 → one_if b + occurs p ks ≡ 0
    by true e rest = absurd cc
    by false e rest = omega (arith, rest)

present : (p : ℕ) (ks : List ℕ) → is_among p ks ≡ true → 1 ≤ occurs p ks
present p [] e = absurd cc
present p (k ∷ ks) e = by (p == k) e (λ f. present p ks f)
  where
    by : (b : Bool) → (b || is_among p ks) ≡ true → (is_among p ks ≡ true → 1 ≤ occurs p ks) → 1 ≤ one_if b + occurs p ks
    by true e again = omega arith
    by false e again = let le = again e in omega (arith, le)

once_each : (ks : List ℕ) → has_cycle ks ≡ false → (p : ℕ) → occurs p ks ≤ 1
once_each [] e p = omega arith
once_each (k ∷ ks) e p =
    let two = or_parts (is_among k ks) (has_cycle ks) e in by (p == k) refl two.0 (once_each ks two.1 p)
  where
    by : (b : Bool) → (p == k) ≡ b → is_among k ks ≡ false → occurs p ks ≤ 1 → one_if b + occurs p ks ≤ 1
    by true same away le = let no = absent p ks (subst (λ n. is_among n ks ≡ false) (sym (eqb-true p k same)) away) in omega (arith, no)
    by false same away le = omega (arith, le)

each_once : (ks : List ℕ) → ((p : ℕ) → occurs p ks ≤ 1) → has_cycle ks ≡ false
each_once [] h = refl
each_once (k ∷ ks) h =
    neither (is_among k ks) (has_cycle ks) (is_false (is_among k ks) (λ among. twice (k == k) (same_number k) (h k) (present k ks among)))
    (each_once ks (λ p. fewer (one_if (p == k)) (occurs p ks) (h p)))
  where
    twice : (b : Bool) → b ≡ true → one_if b + occurs k ks ≤ 1 → 1 ≤ occurs k ks → ⊥
    twice true e le lt = omega (arith, le, lt)
    twice false e le lt = absurd cc

    fewer : (a b : ℕ) → a + b ≤ 1 → b ≤ 1
    fewer a b le = omega (arith, le)

-- how many of some loops stand at a place
abbrev at_place : ℕ → List Loop → ℕ
at_place p ls = occurs p (map (λ l. l.at) ls)

at_append : (p : ℕ) (ls ks : List Loop) → at_place p (ls ++ ks) ≡ at_place p ls + at_place p ks
at_append p [] ks = omega arith
at_append p (l ∷ ls) ks = let e = at_append p ls ks in omega (arith, e)

behind_most : {K : Type 0} (p m : ℕ) (j : Judged K) (f : K → Env → List Loop) → ((k : K) (env : Env) → at_place p (f k env) ≤ m) → at_place p (behind j f) ≤ m
behind_most p m (Goes k env x n) f h = h k env
behind_most p m (Stops r) f h = omega arith

-- the same beside others
behind_beside : {K : Type 0} (p m n : ℕ) (j : Judged K) (f : K → Env → List Loop) → n ≤ m → ((k : K) (env : Env) → at_place p (f k env) + n ≤ m) → at_place p (behind j f) + n ≤ m
behind_beside p m n (Goes k env x c) f le h = h k env
behind_beside p m n (Stops r) f le h = omega (arith, le)

either_most : (p m : ℕ) (b : Bool) (ls ks js : List Loop) → at_place p ks ≤ m → at_place p ls + at_place p js ≤ m → at_place p (if b then [] else ls) + at_place p (if b then ks else js) ≤ m
either_most p m true ls ks js le lt = omega (arith, le)
either_most p m false ls ks js le lt = lt

module _ (here : Around) (p : ℕ) where
  falling_most : (at : ℕ) (slot : Option Slot) (c : ℕ) → at_place p (falling_loop here at slot c) ≤ occurs p (at ∷ [])
  falling_most at (Some (Some (IntUpTo a))) c = omega arith
  falling_most at slot c = omega arith

  loop_most : (s : Shape) (at : ℕ) (env : Env) → at_place p (loop_of here s at env) ≤ occurs p (at ∷ [])
  loop_most Once at env = omega arith
  loop_most (Up l c) at env = omega arith
  loop_most (Down l c) at env = falling_most at (slice_get env.locals l) c
  loop_most Endless at env = omega arith

  mutual
    tree_most : (t : Tree) (env : Env) → at_place p (loops_in here t env) ≤ occurs p (while_places t)
    tree_most (Node o at stop parts) env = act_most (action o) at parts env

    act_most : (a : Action) (at : ℕ) (parts : Trees) (env : Env) → at_place p (loops_by here a at parts env) ≤ occurs p (while_place a at ++ while_places_in parts)
    act_most If at (more t body) env =
        let both = occurs_append p (while_places t) (while_places_in body) in
        let most = behind_most p (occurs p (while_places_in body)) (test_of here t env) (λ held failed. loops_in_block here body held ++ loops_in_else here body failed) (λ held failed.
        let two = at_append p (loops_in_block here body held) (loops_in_else here body failed) in
        let le = blocks_most body held failed in omega (arith, two, le)) in
        omega (arith, both, most)
    act_most While at (more t body) env =
        let both = occurs_append p (while_places t) (while_places_in body) in
        let two = at_append p (loop_of here (shape_of here t body) at env) (behind (test_of here t (before_test here (shape_of here t body) body env)) (λ held failed. loops_in_all here body held)) in
        let first = loop_most (shape_of here t body) at env in
        let most = behind_most p (occurs p (while_places_in body)) (test_of here t (before_test here (shape_of here t body) body env)) (λ held failed. loops_in_all here body held) (λ held failed. all_most body held) in
        omega (arith, both, two, first, most)
    act_most a at parts env = omega arith

    all_most : (ts : Trees) (env : Env) → at_place p (loops_in_all here ts env) ≤ occurs p (while_places_in ts)
    all_most none env = omega arith
    all_most (more t ts) env =
        let both = occurs_append p (while_places t) (while_places_in ts) in
        let two = at_append p (loops_in here t env) (behind (judged here t env) (λ y next. loops_in_all here ts next)) in
        let first = tree_most t env in
        let most = behind_most p (occurs p (while_places_in ts)) (judged here t env) (λ y next. loops_in_all here ts next) (λ y next. all_most ts next) in
        omega (arith, both, two, first, most)

    -- an If's own block and its Else stand behind one another
    blocks_most : (ts : Trees) (held failed : Env) → at_place p (loops_in_block here ts held) + at_place p (loops_in_else here ts failed) ≤ occurs p (while_places_in ts)
    blocks_most none held failed = omega arith
    blocks_most (more (Node o at stop parts) ts) held failed =
        let both = occurs_append p (while_places (Node o at stop parts)) (while_places_in ts) in
        let parted = occurs_append p (while_place (action o) at) (while_places_in parts) in
        let inner = all_most parts failed in
        let two = at_append p (loops_in here (Node o at stop parts) held) (behind (judged here (Node o at stop parts) held) (λ y next. loops_in_block here ts next)) in
        let first = act_most (action o) at parts held in
        let alone = blocks_most ts held failed in
        let most = behind_beside p (occurs p (while_places_in ts)) (at_place p (loops_in_else here ts failed)) (judged here (Node o at stop parts) held) (λ y next. loops_in_block here ts next) (omega (arith, alone)) (λ y next. blocks_most ts next failed) in
        either_most p (occurs p (while_places_in (more (Node o at stop parts) ts))) (is_else o) (loops_in here (Node o at stop parts) held ++ behind (judged here (Node o at stop parts) held) (λ y next. loops_in_block here ts next)) (loops_in_all here parts failed) (loops_in_else here ts failed)
        (omega (arith, both, parted, inner)) (omega (arith, both, two, first, most))

body_most : (here : Around) (p : ℕ) (ts : Trees) (env : Env) → at_place p (loops_in_body here ts env) ≤ occurs p (while_places_in ts)
body_most here p none env = omega arith
body_most here p (more t ts) env =
    let both = occurs_append p (while_places t) (while_places_in ts) in
    let two = at_append p (loops_in here t env) (behind (judged_statement here t env) (λ made next. loops_in_body (grown here made) ts next)) in
    let first = tree_most here p t env in
    let most = behind_most p (occurs p (while_places_in ts)) (judged_statement here t env) (λ made next. loops_in_body (grown here made) ts next) (λ made next. body_most (grown here made) p ts next) in
    omega (arith, both, two, first, most)

-- where each While has its own place, so has each loop
pub own_places : (here : Around) (ts : Trees) (env : Env) → has_cycle (while_places_in ts) ≡ false → has_cycle (map (λ l. l.at) (loops_in_body here ts env)) ≡ false
own_places here ts env e = each_once (map (λ l. l.at) (loops_in_body here ts env)) (λ p. let one = once_each (while_places_in ts) e p in let le = body_most here p ts env in omega (arith, one, le))

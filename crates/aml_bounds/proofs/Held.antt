-- Numbers of steps that are held at a limit: held early or late, sums, products and the greater of two are the same.
use Rattle.std.proofs.Common.{◌≡◌, ◌≤◌, ◌<◌, ◌+◌, ◌*◌, ℕ, zero, suc, List, length, drop, get_or, min, max, refl, sym, ap, ◌∙◌, arith, inl, inr, add-one, add-zero}
use Rattle.std.proofs.Math.ListN.{drop_of_length-le}
use Rattle.std.specs.Prelude.{Bool, true, false, if◌then◌else◌}
use Rattle.aml_operators.specs.declared.term.Term.{Term}
use Rattle.aml_operators.specs.declared.term.Term.TheViews.{out-Term}
use Rattle.aml_operators.specs.Shape.{operator_of}
use Rattle.aml_operators.specs.Tree.{Tree, Trees, Node, none, more, view, views}
use Rattle.aml_operators.proofs.Views.{view_out}
use Rattle.aml_meaning.specs.declared.action.Action.{Action}
use Rattle.aml_meaning.specs.declared.action.Action.TheVariants as does
use Rattle.aml_meaning.specs.Actions.{action}
use Rattle.aml_meaning.specs.Meaning.{is_else}
use Rattle.aml_bounds.specs.declared.role.Role.{Role}
use Rattle.aml_bounds.specs.declared.role.Role.TheVariants.{Indexed, Operand, Target}
use Rattle.aml_bounds.proofs.OneByOne.{views_at}
use Rattle.std.proofs.Math.Nat.{mul-add, suc-mul, zero-mul}
use Rattle.std.proofs.lemmas.Bool.Decides.{leb_tells}
use Rattle.aml_bounds.specs.declared.turn_count.TurnCount.{TurnCount}
use Rattle.aml_bounds.specs.declared.turn_count.TurnCount.TheVariants.{AtMost, Once}
use Rattle.aml_bounds.specs.Steps.{extra_steps, held, index_steps, Knows, most_steps, read_role, role, steps_as, steps_by, steps_from, steps_of_block, steps_of_else, target_steps, turned, written_role, every_operand}

pub sum_left : (l x y : ℕ) → min (min x l + y) l ≡ min (x + y) l
sum_left l x y = omega arith

pub sum_right : (l x y : ℕ) → min (x + min y l) l ≡ min (x + y) l
sum_right l x y = omega arith

pub sum_both : (l x y : ℕ) → min (min x l + min y l) l ≡ min (x + y) l
sum_both l x y = omega arith

pub max_both : (l x y : ℕ) → max (min x l) (min y l) ≡ min (max x y) l
max_both l x y = omega arith

pub times_held : (l n x : ℕ) → min (n * min x l) l ≡ min (n * x) l
times_held l zero x = ap (λ k. min k l) (zero-mul (min x l) ∙ sym (zero-mul x))
times_held l (suc n) x = elim (leb_tells x l) [
  | inl e ↦ ap (λ k. min (suc n * k) l) (low x l e.1)
  | inr e ↦ high x e.1
]
  where
    low : (x l : ℕ) → x ≤ l → min x l ≡ x
    low x l le = omega arith

    high : (x : ℕ) → l < x → min (suc n * min x l) l ≡ min (suc n * x) l
    high x lt =
        let held : min x l ≡ l = omega arith in
        let one : suc n * min x l ≡ n * min x l + min x l = suc-mul n (min x l) in
        let two : suc n * x ≡ n * x + x = suc-mul n x in
        omega (arith, held, one, two)

-- a loop's steps, by the held steps of its test and its body
pub turned_held : (l : ℕ) (count : TurnCount) (t b : ℕ) → min (turned count (min t l) (min b l)) l ≡ min (turned count t b) l
turned_held l Once t b = sum_both l t b
turned_held l (AtMost n) t b =
    let one = times_held l (suc n) t in
    let two = times_held l n b in
    let both = sum_both l (suc n * min t l) (n * min b l) in
    let whole = sum_both l (suc n * t) (n * b) in
    sym both ∙ ap (λ k. min (k + min (n * min b l) l) l) one ∙ ap (λ k. min (min (suc n * t) l + k) l) two ∙ whole

-- the same as code adds them up
pub turned_as : (l n t b : ℕ) → min (t + min (n * min (t + b) l) l) l ≡ min (suc n * t + n * b) l
turned_as l n t b =
    ap (λ k. min (t + k) l) (times_held l n (t + b)) ∙ sum_right l t (n * (t + b))
    ∙ (let one : suc n * t ≡ n * t + t = suc-mul n t in let two : n * (t + b) ≡ n * t + n * b = mul-add n t b in omega (arith, one, two))

abbrev parts_of : Tree → Trees
parts_of (Node o at stop parts) = parts

-- a sum so far, and the steps of what is behind
pub record SoFar (total rest all : ℕ) : Type 0 where
  pub low : total ≤ most_steps
  pub is : held (total + rest) ≡ held all

pub so_far_more : (total part new step rest before all : ℕ) → part ≡ held step → new ≡ held (total + part) → before ≡ step + rest → SoFar total before all → SoFar new rest all
so_far_more total part new step rest before all e f g h =
    let most = most_steps in
    let is = h.is in
    record {
      low = omega (arith, f);
      is = ap (λ n. held (n + rest)) (f ∙ ap (λ n. held (total + n)) e ∙ sum_right most total step) ∙ sum_left most (total + step) rest ∙ ap held (again total step rest before g) ∙ is;
    }
  where
    again : (a b c d : ℕ) → d ≡ b + c → a + b + c ≡ a + d
    again a b c d i = omega (arith, i)

pub so_far_done : (total rest all : ℕ) → rest ≡ 0 → SoFar total rest all → total ≡ held all
so_far_done total rest all e h =
    let low = h.low in
    let is = h.is in
    small total rest e low ∙ is
  where
    small : (a b : ℕ) → b ≡ 0 → a ≤ most_steps → a ≡ held (a + b)
    small a b i le = omega (arith, i, le)

module _ (here : Knows) where
  -- the steps of one and of those behind it
  pub from_step : (roles : ℕ → Role) (i : ℕ) (ts : List Term) (t : Term) → i < length ts → t ≡ get_or ts i t → steps_from here roles i (views (drop i ts)) ≡ steps_as here (roles i) (view t) + steps_from here roles (i + 1) (views (drop (i + 1) ts))
  from_step roles i ts t lt is =
      ap (steps_from here roles i) (views_at ts i t lt is) ∙ ap (λ n. steps_as here (roles i) (view t) + steps_from here roles n (views (drop (i + 1) ts))) (sym (add-one i))

  pub from_end : (roles : ℕ → Role) (i : ℕ) (ts : List Term) → length ts ≤ i → steps_from here roles i (views (drop i ts)) ≡ 0
  from_end roles i ts le = ap (λ (xs : List Term). steps_from here roles i (views xs)) (drop_of_length-le ts le)

  block_node : (t : Tree) (ts : Trees) → steps_of_block here (more t ts) ≡ (if is_else (operator_of t) then 0 else steps_as here Operand t + steps_of_block here ts)
  block_node (Node o at stop parts) ts = refl

  else_node : (t : Tree) (ts : Trees) → steps_of_else here (more t ts) ≡ (if is_else (operator_of t) then steps_from here every_operand 0 (parts_of t) else steps_of_else here ts)
  else_node (Node o at stop parts) ts = refl

  taken : (b : Bool) (x y : ℕ) → b ≡ true → (if b then x else y) ≡ x
  taken true x y e = refl
  taken false x y e = absurd cc

  left_out : (b : Bool) (x y : ℕ) → b ≡ false → (if b then x else y) ≡ y
  left_out true x y e = absurd cc
  left_out false x y e = refl

  operator_out : (t : Term) → operator_of (view t) ≡ (out-Term t).op
  operator_out t = ap operator_of (view_out t)

  module _ (ts : List Term) (i : ℕ) (t : Term) (lt : i < length ts) (is : t ≡ get_or ts i t) where
    pub block_step : is_else (out-Term t).op ≡ false → steps_of_block here (views (drop i ts)) ≡ steps_as here Operand (view t) + steps_of_block here (views (drop (i + 1) ts))
    block_step e = ap (steps_of_block here) (views_at ts i t lt is) ∙ block_node (view t) (views (drop (i + 1) ts)) ∙ left_out (is_else (operator_of (view t))) 0 _ (ap is_else (operator_out t) ∙ e)

    pub block_ends : is_else (out-Term t).op ≡ true → steps_of_block here (views (drop i ts)) ≡ 0
    block_ends e = ap (steps_of_block here) (views_at ts i t lt is) ∙ block_node (view t) (views (drop (i + 1) ts)) ∙ taken (is_else (operator_of (view t))) 0 _ (ap is_else (operator_out t) ∙ e)

    pub else_step : is_else (out-Term t).op ≡ false → steps_of_else here (views (drop i ts)) ≡ steps_of_else here (views (drop (i + 1) ts))
    else_step e = ap (steps_of_else here) (views_at ts i t lt is) ∙ else_node (view t) (views (drop (i + 1) ts)) ∙ left_out (is_else (operator_of (view t))) _ (steps_of_else here (views (drop (i + 1) ts))) (ap is_else (operator_out t) ∙ e)

    pub else_here : is_else (out-Term t).op ≡ true → steps_of_else here (views (drop i ts)) ≡ steps_from here every_operand 0 (views (out-Term t).parts.items)
    else_here e = ap (steps_of_else here) (views_at ts i t lt is) ∙ else_node (view t) (views (drop (i + 1) ts)) ∙ taken (is_else (operator_of (view t))) _ (steps_of_else here (views (drop (i + 1) ts))) (ap is_else (operator_out t) ∙ e) ∙ ap (λ x. steps_from here every_operand 0 (parts_of x)) (view_out t)

  pub block_end : (i : ℕ) (ts : List Term) → length ts ≤ i → steps_of_block here (views (drop i ts)) ≡ 0
  block_end i ts le = ap (λ (xs : List Term). steps_of_block here (views xs)) (drop_of_length-le ts le)

  -- an operator that is neither If nor While
  pub plain_steps : (a : Action) → (a ≡ does.If → ⊥) → (a ≡ does.While → ⊥) → (at : ℕ) (parts : Trees) → steps_by here a at parts ≡ extra_steps here a at parts + steps_from here (role a) 0 parts
  plain_steps does.If n m at parts = absurd (n refl)
  plain_steps does.While n m at parts = absurd (m refl)
  plain_steps a n m at none = sym (add-zero (extra_steps here a at none))
  plain_steps a n m at (more t ts) = refl

  -- a target's own steps, and those of its parts
  pub target_as : (t : Term) → steps_as here Target (view t) ≡ target_steps here (action (out-Term t).op) (out-Term t).at + steps_from here (written_role (action (out-Term t).op)) 0 (views (out-Term t).parts.items)
  target_as t = ap (steps_as here Target) (view_out t)

  pub read_as : (t : Term) → steps_as here Indexed (view t) ≡ index_steps (action (out-Term t).op) + steps_from here (read_role (action (out-Term t).op)) 0 (views (out-Term t).parts.items)
  read_as t = ap (steps_as here Indexed) (view_out t)

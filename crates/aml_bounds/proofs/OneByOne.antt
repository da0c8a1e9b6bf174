-- Terms one by one: what stands in the first, or in those behind it.
use Rattle.std.proofs.Common.{◌≡◌, ◌+◌, ◌<◌, ◌≤◌, ℕ, zero, suc, List, [], ◌∷◌, length, drop, get_or, refl, sym, ap, ◌∙◌, arith, drop-cons, add-one}
use Rattle.std.specs.Prelude.{Bool, true, false, ◌||◌, ◌&&◌, not, None, if◌then◌else◌}
use Rattle.aml_operators.specs.declared.term.Term.{Term}
use Rattle.aml_operators.specs.declared.term.Term.TheViews.{out-Term}
use Rattle.aml_operators.specs.Tree.{Tree, Trees, Node, none, more, view, views}
use Rattle.aml_operators.proofs.Views.{view_out}
use Rattle.aml_meaning.specs.Actions.{action}
use Rattle.aml_bounds.specs.Shapes.{acts, assigns, assigns_in, continues, continues_by, continues_in, is_continue, is_leave, is_local, leaves, only, second, Shape, third, third_or_fourth}
use Rattle.aml_bounds.specs.Loops.{against, compared, falls, rises, shape_by, steps, turns_of}
use Rattle.aml_meaning.specs.declared.action.Action.TheVariants as does
use Rattle.aml_meaning.specs.declared.action.Arithmetic.TheVariants as arithmetic
use Rattle.aml_meaning.specs.declared.action.Action.{Action}

pub views_at : (ts : List Term) (i : ℕ) (t : Term) → i < length ts → t ≡ get_or ts i t → views (drop i ts) ≡ more (view t) (views (drop (i + 1) ts))
views_at ts i t lt e =
    let one : drop i ts ≡ t ∷ drop (i + 1) ts = drop-cons ts i t lt ∙ ap (λ x. x ∷ drop (suc i) ts) (sym e) ∙ ap (λ n. t ∷ drop n ts) (sym (add-one i)) in
    ap views one

-- of two, the first holds, or it doesn't
pub first_holds : (p q : Bool) → p ≡ true → (p || q) ≡ true
first_holds true q e = refl
first_holds false q e = absurd cc

pub second_holds : (p q : Bool) → p ≡ false → (p || q) ≡ q
second_holds true q e = absurd cc
second_holds false q e = refl

-- the last of some statements
pub last_leaves : (ts : List Term) (k : ℕ) (t : Term) → suc k ≡ length ts → t ≡ get_or ts k t → leaves (views ts) ≡ is_leave (action (out-Term t).op)
last_leaves [] k t le e = absurd (omega (arith, le))
last_leaves (x ∷ []) zero t le e = ap (acts is_leave) (ap view (sym e) ∙ view_out t)
last_leaves (x ∷ []) (suc k) t le e = absurd (omega (arith, le))
last_leaves (x ∷ y ∷ ts) zero t le e = absurd (omega (arith, le))
last_leaves (x ∷ y ∷ ts) (suc k) t le e = last_leaves (y ∷ ts) k t (omega (arith, le)) e

-- parts of another number
pub not_one : (p : Tree → Bool) (ts : List Term) → (length ts ≡ 1 → ⊥) → only p (views ts) ≡ false
not_one p [] h = refl
not_one p (a ∷ []) h = absurd (h refl)
not_one p (a ∷ b ∷ ts) h = refl

pub not_two : (p : Tree → Bool) (ts : List Term) → (length ts ≡ 2 → ⊥) → second p (views ts) ≡ false
not_two p [] h = refl
not_two p (a ∷ []) h = refl
not_two p (a ∷ b ∷ []) h = absurd (h refl)
not_two p (a ∷ b ∷ c ∷ ts) h = refl

pub not_three : (p : Tree → Bool) (ts : List Term) → (length ts ≡ 3 → ⊥) → third p (views ts) ≡ false
not_three p [] h = refl
not_three p (a ∷ []) h = refl
not_three p (a ∷ b ∷ []) h = refl
not_three p (a ∷ b ∷ c ∷ []) h = absurd (h refl)
not_three p (a ∷ b ∷ c ∷ d ∷ ts) h = refl

pub not_four : (p : Tree → Bool) (ts : List Term) → (length ts ≡ 4 → ⊥) → third_or_fourth p (views ts) ≡ false
not_four p [] h = refl
not_four p (a ∷ []) h = refl
not_four p (a ∷ b ∷ []) h = refl
not_four p (a ∷ b ∷ c ∷ []) h = refl
not_four p (a ∷ b ∷ c ∷ d ∷ []) h = absurd (h refl)
not_four p (a ∷ b ∷ c ∷ d ∷ e ∷ ts) h = refl

pub no_sum : (width l : ℕ) (ts : List Term) → (length ts ≡ 3 → ⊥) → rises width l (does.Binary arithmetic.Add) (views ts) ≡ false
no_sum w l [] h = refl
no_sum w l (a ∷ []) h = refl
no_sum w l (a ∷ b ∷ []) h = refl
no_sum w l (a ∷ b ∷ c ∷ []) h = absurd (h refl)
no_sum w l (a ∷ b ∷ c ∷ d ∷ ts) h = refl

pub no_difference : (width l : ℕ) (ts : List Term) → (length ts ≡ 3 → ⊥) → falls width l (does.Binary arithmetic.Subtract) (views ts) ≡ false
no_difference w l [] h = refl
no_difference w l (a ∷ []) h = refl
no_difference w l (a ∷ b ∷ []) h = refl
no_difference w l (a ∷ b ∷ c ∷ []) h = absurd (h refl)
no_difference w l (a ∷ b ∷ c ∷ d ∷ ts) h = refl

-- an operator that is neither Continue nor a loop
pub other_continues : (a : Action) → (a ≡ does.Continue → ⊥) → (a ≡ does.While → ⊥) → (ts : Trees) → (is_continue a || continues_by a ts) ≡ continues_in ts
other_continues does.Continue n m ts = absurd (n refl)
other_continues does.While n m ts = absurd (m refl)
other_continues a n m none = refl
other_continues a n m (more t ts) = refl

-- a loop whose test has other parts
pub not_alone : (width l : ℕ) (shape : ℕ → ℕ → Shape) (moves : ℕ → Action → Trees → Bool) (ts : List Term) (c : Tree) (body : Trees) → 1 ≤ length ts → turns_of (against width shape moves (does.Local l) (views ts) c body) ≡ None
not_alone w l shape moves [] c body h = absurd (omega arith)
not_alone w l shape moves (t ∷ ts) c body h = refl

pub no_comparison : (width : ℕ) (shape : ℕ → ℕ → Shape) (moves : ℕ → Action → Trees → Bool) (ts : List Term) (body : Trees) → (length ts ≡ 2 → ⊥) → turns_of (compared width shape moves (views ts) body) ≡ None
no_comparison w shape moves [] body h = refl
no_comparison w shape moves (a ∷ []) body h = refl
no_comparison w shape moves (a ∷ b ∷ []) body h = absurd (h refl)
no_comparison w shape moves (a ∷ b ∷ c ∷ ts) body h = refl

pub no_local : (width l : ℕ) (ts : List Term) (body : Trees) → 1 ≤ length ts → turns_of (shape_by width (does.Local l) (views ts) body) ≡ None
no_local w l [] body h = absurd (omega arith)
no_local w l (t ∷ ts) body h = refl

-- a list of statements whose first moves the local, stands in its way, or does neither
stepped : Bool → Bool → Bool → Bool → Bool → Bool
stepped moved later here again rest = if moved then not later else not here && (not again && rest)

stepped_first : (moved later here again rest : Bool) → moved ≡ true → stepped moved later here again rest ≡ not later
unfolding stepped
stepped_first true later here again rest e = refl
stepped_first false later here again rest e = absurd cc

stepped_blocked : (moved later here again rest : Bool) → moved ≡ false → (here || again) ≡ true → stepped moved later here again rest ≡ false
unfolding stepped
stepped_blocked true later here again rest e f = absurd cc
stepped_blocked false later true again rest e f = refl
stepped_blocked false later false true rest e f = refl
stepped_blocked false later false false rest e f = absurd cc

stepped_on : (moved later here again rest : Bool) → moved ≡ false → (here || again) ≡ false → stepped moved later here again rest ≡ rest
unfolding stepped
stepped_on true later here again rest e f = absurd cc
stepped_on false later true again rest e f = absurd cc
stepped_on false later false true rest e f = absurd cc
stepped_on false later false false rest e f = refl

acts_on : (ℕ → Action → Trees → Bool) → ℕ → Tree → Bool
acts_on moves l (Node o at stop parts) = moves l (action o) parts

steps_node : (moves : ℕ → Action → Trees → Bool) (l : ℕ) (t : Tree) (rest : Trees) → steps moves l (more t rest) ≡ stepped (acts_on moves l t) (assigns_in (is_local l) rest) (assigns (is_local l) t) (continues t) (steps moves l rest)
unfolding stepped acts_on
steps_node moves l (Node o at stop parts) rest = refl

moved_node : (moves : ℕ → Action → Trees → Bool) (l : ℕ) (t : Term) → acts_on moves l (view t) ≡ moves l (action (out-Term t).op) (views (out-Term t).parts.items)
unfolding acts_on
moved_node moves l t = ap (acts_on moves l) (view_out t)

module _ (moves : ℕ → Action → Trees → Bool) (l : ℕ) (ts : List Term) (i : ℕ) (t : Term) (lt : i < length ts) (is : t ≡ get_or ts i t) where
  steps_at : steps moves l (views (drop i ts)) ≡ stepped (acts_on moves l (view t)) (assigns_in (is_local l) (views (drop (i + 1) ts))) (assigns (is_local l) (view t)) (continues (view t)) (steps moves l (views (drop (i + 1) ts)))
  steps_at = ap (steps moves l) (views_at ts i t lt is) ∙ steps_node moves l (view t) (views (drop (i + 1) ts))

  pub moved_first : moves l (action (out-Term t).op) (views (out-Term t).parts.items) ≡ true → steps moves l (views (drop i ts)) ≡ not (assigns_in (is_local l) (views (drop (i + 1) ts)))
  moved_first e = steps_at ∙ stepped_first _ _ (assigns (is_local l) (view t)) (continues (view t)) (steps moves l (views (drop (i + 1) ts))) (moved_node moves l t ∙ e)

  pub blocked_first : moves l (action (out-Term t).op) (views (out-Term t).parts.items) ≡ false → (assigns (is_local l) (view t) || continues (view t)) ≡ true → steps moves l (views (drop i ts)) ≡ false
  blocked_first e f = steps_at ∙ stepped_blocked _ (assigns_in (is_local l) (views (drop (i + 1) ts))) _ _ (steps moves l (views (drop (i + 1) ts))) (moved_node moves l t ∙ e) f

  pub passed_first : moves l (action (out-Term t).op) (views (out-Term t).parts.items) ≡ false → (assigns (is_local l) (view t) || continues (view t)) ≡ false → steps moves l (views (drop i ts)) ≡ steps moves l (views (drop (i + 1) ts))
  passed_first e f = steps_at ∙ stepped_on _ (assigns_in (is_local l) (views (drop (i + 1) ts))) _ _ (steps moves l (views (drop (i + 1) ts))) (moved_node moves l t ∙ e) f

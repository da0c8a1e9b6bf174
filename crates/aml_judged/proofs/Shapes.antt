-- What a loop's shape tells of its test and of its body.
use Rattle.std.proofs.Common.{◌≡◌, ℕ, zero, suc, ◌%◌, ◌^◌, ◌<◌, List, Option, Some, None, refl, sym, ap, ◌∙◌, subst, arith}
use Rattle.std.specs.Prelude.{Bool, true, false, ◌==◌, ◌&&◌, not, if◌then◌else◌, slice_get, nat_lt}
use Rattle.std.proofs.lemmas.Bool.{and_parts, ltb-true}
use Rattle.std.proofs.lemmas.Bool.Decides.{nat_tests}
use Rattle.std.proofs.lemmas.Nat.{pow_pos}
use Rattle.std.proofs.Math.Nat.{mod-lt}
use Rattle.aml_operators.specs.Tree.{Tree, Trees, Node, none, more}
use Rattle.aml_operators.specs.Literal.{literal_in}
use Rattle.aml_values.specs.Values.{Value, Int, Buf, Str, Pkg}
use Rattle.aml_regions.specs.Events.{Event}
use Rattle.aml_meaning.specs.declared.action.Action.{Action}
use Rattle.aml_meaning.specs.declared.action.Action.TheVariants.{Argument, Literal, Local, Compare}
use Rattle.aml_meaning.specs.declared.action.Comparison.TheVariants as comparison
use Rattle.aml_meaning.specs.Actions.{action}
use Rattle.aml_meaning.specs.State as state
use Rattle.aml_meaning.specs.State.{State, Frame, Stop, Error, Out, Halts, NoAnswer, Spent, with_steps, state_of}
use Rattle.aml_meaning.specs.Parts.{M, ◌>>=◌, give, stop_with, lift, tick, paid, take_step, then_do, Falls}
use Rattle.aml_meaning.specs.Rules.{Place, integer, compared, truth}
use Rattle.aml_meaning.specs.Meaning.{Setting, act, value, want, tested, place, gives_value, outside}
use Rattle.aml_bounds.specs.Loops.{spelled, number, number_of, rises, falls, steps, counted, against, shape_by, shape_of}
use Rattle.aml_judged.specs.Judged.{Around}
use Rattle.aml_bounds.specs.Shapes.{is_arg, Shape, Once, Up, Down, Endless, is_local, acts, leaves, continues_in}
use Rattle.aml_judged.proofs.Turns.{reads_arg, Only, then_only, step_only, value_of, Reads, reads, local_only, Spells, spells, Stays, not_true, want_only}

-- the place holds an integer below, or above, a number
pub record Below (c : ℕ) (slot : Option (Option Value)) : Type 0 where
  pub number : ℕ
  pub is : slot ≡ Some (Some (Int number))
  pub below : number < c

pub record Above (c : ℕ) (slot : Option (Option Value)) : Type 0 where
  pub number : ℕ
  pub is : slot ≡ Some (Some (Int number))
  pub above : c < number

abbrev pub OnGoes : {V : Type 0} → (V → State → Type 0) → Out V → Type 0
OnGoes R (state.Goes v s) = R v s
OnGoes R (Halts stop s) = Unit {0}
OnGoes R (NoAnswer s) = Unit {0}
OnGoes R (Spent s) = Unit {0}

pub any_goes : {V : Type 0} (R : V → State → Type 0) (o : Out V) → ((v : V) (s : State) → R v s) → OnGoes R o
any_goes R (state.Goes v s) h = h v s
any_goes R (Halts stop s) h = tt
any_goes R (NoAnswer s) h = tt
any_goes R (Spent s) h = tt

pub only_goes : {V : Type 0} (R T : V → State → Type 0) (o : Out V) → ((v : V) (s : State) → R v s → T v s) → Only R o → OnGoes T o
only_goes R T (state.Goes v s) f h = f v s h
only_goes R T (Halts stop s) f h = tt
only_goes R T (NoAnswer s) f h = tt
only_goes R T (Spent s) f h = tt

-- a test takes a step
abbrev pub Lower : {V : Type 0} → ℕ → Out V → Type 0
Lower n (state.Goes v s) = s.steps < n
Lower n (Halts stop s) = Unit {0}
Lower n (NoAnswer s) = Unit {0}
Lower n (Spent s) = Unit {0}

lowered : {V : Type 0} (n m : ℕ) (o : Out V) → n < m → Falls n o → Lower m o
lowered n m (state.Goes v s) lt le = omega (arith, lt, le)
lowered n m (Halts stop s) lt le = tt
lowered n m (NoAnswer s) lt le = tt
lowered n m (Spent s) lt le = tt

module _ (around : Around) (here : Setting) (widths : here.width ≡ around.width) where
  -- a test that holds tells this of a local
  abbrev pub TestsAt : (Option (Option Value) → Type 0) → (Frame → Option (Option Value)) → M ℕ → Type 0
  TestsAt R slot test = (script : List Event) (s : State) → Only (λ n next. Stays around here widths s.frame next × ((n ≡ 0 → ⊥) → R (slot s.frame))) (test.run script s)

  abbrev pub Tests : (Option (Option Value) → Type 0) → ℕ → M ℕ → Type 0
  Tests R l test = (script : List Event) (s : State) → Only (λ n next. Stays around here widths s.frame next × ((n ≡ 0 → ⊥) → R (slice_get s.frame.locals l))) (test.run script s)

  abbrev pub Told : M ℕ → Trees → Shape → Type 0
  Told test body Once = (leaves body ≡ true) × (continues_in body ≡ false)
  Told test body (Up l c) = (steps (rises around.width) l body ≡ true) × (c < 2 ^ around.width) × Tests (Below c) l test
  Told test body (Down l c) = (steps (falls around.width) l body ≡ true) × Tests (Above c) l test
  Told test body Endless = Unit {0}

  spelled_small : (o : Option ℕ) (n : ℕ) → spelled around.width o ≡ Some n → n < 2 ^ around.width
  spelled_small (Some m) n e = let same : m % 2 ^ around.width ≡ n = cc in subst (λ k. k < 2 ^ around.width) same (mod-lt m (pow_pos around.width))
  spelled_small None n e = absurd cc

  number_small : (a : Action) (parts : Trees) (n : ℕ) → number around.width a parts ≡ Some n → n < 2 ^ around.width
  number_small (Literal o) parts n e = spelled_small (literal_in o parts) n e
  number_small a parts n e = absurd cc

  small : (t : Tree) (n : ℕ) → number_of around.width t ≡ Some n → n < 2 ^ around.width
  small (Node o at stop parts) n e = number_small (action o) parts n e

  truth_holds : (b : Bool) (n : ℕ) → truth here.width b ≡ Int n → (n ≡ 0 → ⊥) → b ≡ true
  truth_holds true n e nz = refl
  truth_holds false n e nz = absurd (nz (let same : Int 0 ≡ Int n = e in cc))

  abbrev Says : (Option (Option Value) → Type 0) → Frame → Option (Option Value) → Value → State → Type 0
  Says R f slot r next = Stays around here widths f next × ((n : ℕ) → r ≡ Int n → (n ≡ 0 → ⊥) → R slot)

  abbrev MaySay : (Option (Option Value) → Type 0) → Frame → Option (Option Value) → Option Value → State → Type 0
  MaySay R f slot o next = (r : Value) → o ≡ Some r → Says R f slot r next

  says_it : (R : Option (Option Value) → Type 0) (f : Frame) (slot : Option (Option Value)) (r : Value) (s : State) → s.frame ≡ f → ((n : ℕ) → r ≡ Int n → (n ≡ 0 → ⊥) → R slot) → MaySay R f slot (Some r) s
  says_it R f slot r s e h q g = let same : r ≡ q = cc in (e, λ n k. h n (same ∙ k))

  less_by : (p q : Place) (slot : Option (Option Value)) (v : Value) (c : ℕ) → slot ≡ Some (Some v) → (script : List Event) (s : State) → Only (Says (Below c) s.frame slot) ((lift (compared here.width comparison.LLess p v q (Int c))).run script s)
  unfolding give stop_with
  less_by p q slot (Int x) c e script s = (refl, λ n f nz. record { number = x; is = e; below = ltb-true x c (truth_holds (nat_lt x c) n f nz) })
  less_by p q slot (Buf xs) c e script s = tt
  less_by p q slot (Str xs) c e script s = tt
  less_by p q slot (Pkg xs) c e script s = tt

  greater_by : (p q : Place) (slot : Option (Option Value)) (v : Value) (c : ℕ) → slot ≡ Some (Some v) → (script : List Event) (s : State) → Only (Says (Above c) s.frame slot) ((lift (compared here.width comparison.LGreater p v q (Int c))).run script s)
  unfolding give stop_with
  greater_by p q slot (Int x) c e script s = (refl, λ n f nz. record { number = x; is = e; above = ltb-true c x (truth_holds (nat_lt c x) n f nz) })
  greater_by p q slot (Buf xs) c e script s = tt
  greater_by p q slot (Str xs) c e script s = tt
  greater_by p q slot (Pkg xs) c e script s = tt

  -- the test behind a comparison's value
  integer_says : (R : Option (Option Value) → Type 0) (f : Frame) (slot : Option (Option Value)) (p : Place) (r : Value) (script : List Event) (s : State) → Says R f slot r s → Only (λ n next. Stays around here widths f next × ((n ≡ 0 → ⊥) → R slot)) ((lift (integer p r)).run script s)
  unfolding give stop_with
  integer_says R f slot p (Int n) script s h = (h.0, h.1 n refl)
  integer_says R f slot p (Buf xs) script s h = tt
  integer_says R f slot p (Str xs) script s h = tt
  integer_says R f slot p (Pkg xs) script s h = tt

  less_at : (slot : Frame → Option (Option Value)) (at : ℕ) (a c : Tree) (n : ℕ) → ((script : List Event) (s : State) → Only (Reads around here widths s.frame (slot s.frame)) ((value here a).run script s)) → number_of around.width c ≡ Some n → (p : Place) → TestsAt (Below n) slot (tested here p (value_of around here widths (Compare comparison.LLess) at (more a (more c none))))
  unfolding ◌>>=◌ tick paid give
  less_at slot at a c n read f p script s =
      then_only (Says (Below n) s.frame (slot s.frame)) _ _ _
      (step_only _ s.steps s _ (λ m.
      then_only (MaySay (Below n) s.frame (slot s.frame)) _ _ _
      (then_only (Reads around here widths s.frame (slot s.frame)) _ _ _ (read script (with_steps s m)) (λ v s1 h.
      then_only (Spells around here widths s1.frame n) _ _ _ (spells around here widths c n f script s1) (λ u s2 k.
      then_only (Says (Below n) s2.frame (slot s.frame)) _ _ _ (subst (λ w. Only (Says (Below n) s2.frame (slot s.frame)) ((lift (compared here.width comparison.LLess (place here a) v (place here c) w)).run script s2)) (sym k.0) (less_by (place here a) (place here c) (slot s.frame) v n h.0 script s2)) (λ r s3 g.
      says_it (Below n) s.frame (slot s.frame) r s3 (g.0 ∙ k.1 ∙ h.1) g.1))))
      (λ o next h. want_only around here widths (Says (Below n) s.frame (slot s.frame)) at o script next h)))
      (λ r next h. integer_says (Below n) s.frame (slot s.frame) p r script next h)

  less_act : (l at : ℕ) (a c : Tree) (n : ℕ) → acts (is_local l) a ≡ true → number_of around.width c ≡ Some n → (p : Place) → Tests (Below n) l (tested here p (value_of around here widths (Compare comparison.LLess) at (more a (more c none))))
  less_act l at a c n e f p = less_at (λ x. slice_get x.locals l) at a c n (reads around here widths l a e) f p

  greater_act : (l at : ℕ) (a c : Tree) (n : ℕ) → acts (is_local l) a ≡ true → number_of around.width c ≡ Some n → (p : Place) → Tests (Above n) l (tested here p (value_of around here widths (Compare comparison.LGreater) at (more a (more c none))))
  unfolding ◌>>=◌ tick paid give
  greater_act l at a c n e f p script s =
      then_only (Says (Above n) s.frame (slice_get s.frame.locals l)) _ _ _
      (step_only _ s.steps s _ (λ m.
      then_only (MaySay (Above n) s.frame (slice_get s.frame.locals l)) _ _ _
      (then_only (Reads around here widths s.frame (slice_get s.frame.locals l)) _ _ _ (reads around here widths l a e script (with_steps s m)) (λ v s1 h.
      then_only (Spells around here widths s1.frame n) _ _ _ (spells around here widths c n f script s1) (λ u s2 k.
      then_only (Says (Above n) s2.frame (slice_get s.frame.locals l)) _ _ _ (subst (λ w. Only (Says (Above n) s2.frame (slice_get s.frame.locals l)) ((lift (compared here.width comparison.LGreater (place here a) v (place here c) w)).run script s2)) (sym k.0) (greater_by (place here a) (place here c) (slice_get s.frame.locals l) v n h.0 script s2)) (λ r s3 g.
      says_it (Above n) s.frame (slice_get s.frame.locals l) r s3 (g.0 ∙ k.1 ∙ h.1) g.1))))
      (λ o next h. want_only around here widths (Says (Above n) s.frame (slice_get s.frame.locals l)) at o script next h)))
      (λ r next h. integer_says (Above n) s.frame (slice_get s.frame.locals l) p r script next h)

  local_says : (l : ℕ) (p : Place) (f : Frame) (slot : Option (Option Value)) (v : Value) (script : List Event) (s : State) → Reads around here widths f slot v s → Only (λ n next. Stays around here widths f next × ((n ≡ 0 → ⊥) → Above 0 slot)) ((lift (integer p v)).run script s)
  unfolding give stop_with
  local_says l p f slot (Int n) script s h = (h.1, λ nz. record { number = n; is = h.0; above = positive n nz })
    where
      positive : (n : ℕ) → (n ≡ 0 → ⊥) → 0 < n
      positive zero nz = absurd (nz refl)
      positive (suc n) nz = omega arith
  local_says l p f slot (Buf xs) script s h = tt
  local_says l p f slot (Str xs) script s h = tt
  local_says l p f slot (Pkg xs) script s h = tt

  local_act : (l at : ℕ) (parts : Trees) (p : Place) → Tests (Above 0) l (tested here p (value_of around here widths (Local l) at parts))
  unfolding ◌>>=◌
  local_act l at parts p script s = then_only (Reads around here widths s.frame (slice_get s.frame.locals l)) _ _ _ (local_only around here widths l at parts script s) (λ v next h. local_says l p s.frame (slice_get s.frame.locals l) v script next h)

  is_local_same : (l : ℕ) (a : Action) → a ≡ Local l → is_local l a ≡ true
  is_local_same l a e = rw e (let same : (l == l) ≡ true = grind (arith, nat_tests) in same)

  is_arg_same : (i : ℕ) (a : Action) → a ≡ Argument i → is_arg i a ≡ true
  is_arg_same i a e = rw e (let same : (i == i) ≡ true = grind (arith, nat_tests) in same)

  counted_up : (test : M ℕ) (l : ℕ) (o : Option ℕ) (body : Trees) → ((n : ℕ) → o ≡ Some n → (n < 2 ^ around.width) × Tests (Below n) l test) → Told test body (counted Up (rises around.width) l o body)
  counted_up test l None body h = tt
  counted_up test l (Some n) body h = choice (steps (rises around.width) l body) refl
    where
      choice : (b : Bool) → (steps (rises around.width) l body) ≡ b → Told test body (if b then Up l n else Endless)
      choice true e = let t = h n refl in (e, t.0, t.1)
      choice false e = tt

  counted_down : (test : M ℕ) (l : ℕ) (o : Option ℕ) (body : Trees) → ((n : ℕ) → o ≡ Some n → Tests (Above n) l test) → Told test body (counted Down (falls around.width) l o body)
  counted_down test l None body h = tt
  counted_down test l (Some n) body h = choice (steps (falls around.width) l body) refl
    where
      choice : (b : Bool) → (steps (falls around.width) l body) ≡ b → Told test body (if b then Down l n else Endless)
      choice true e = (e, h n refl)
      choice false e = tt

  against_up : (test : M ℕ) (a : Action) (parts : Trees) (c : Tree) (body : Trees) → ((l n : ℕ) → a ≡ Local l → number_of around.width c ≡ Some n → (n < 2 ^ around.width) × Tests (Below n) l test) → Told test body (against around.width Up (rises around.width) a parts c body)
  against_up test (Local l) none c body h = counted_up test l (number_of around.width c) body (λ n e. h l n refl e)
  against_up test a parts c body h = tt

  against_down : (test : M ℕ) (a : Action) (parts : Trees) (c : Tree) (body : Trees) → ((l n : ℕ) → a ≡ Local l → number_of around.width c ≡ Some n → Tests (Above n) l test) → Told test body (against around.width Down (falls around.width) a parts c body)
  against_down test (Local l) none c body h = counted_down test l (number_of around.width c) body (λ n e. h l n refl e)
  against_down test a parts c body h = tt

  tells_by : (p : Place) (a : Action) (at : ℕ) (parts body : Trees) → Told (tested here p (value_of around here widths a at parts)) body (shape_by around.width a parts body)
  tells_by p (Compare comparison.LLess) at (more (Node o from stop parts) (more c none)) body = against_up (tested here p (value_of around here widths (Compare comparison.LLess) at (more (Node o from stop parts) (more c none)))) (action o) parts c body (λ l n e f. (small c n f, less_act l at (Node o from stop parts) c n (is_local_same l (action o) e) f p))
  tells_by p (Compare comparison.LGreater) at (more (Node o from stop parts) (more c none)) body = against_down (tested here p (value_of around here widths (Compare comparison.LGreater) at (more (Node o from stop parts) (more c none)))) (action o) parts c body (λ l n e f. greater_act l at (Node o from stop parts) c n (is_local_same l (action o) e) f p)
  tells_by p (Local l) at none body = counted_down (tested here p (value_of around here widths (Local l) at none)) l (Some 0) body (λ n e. let zero_is : 0 ≡ n = cc in subst (λ k. Tests (Above k) l (tested here p (value_of around here widths (Local l) at none))) zero_is (local_act l at none p))
  tells_by p a at parts body = tt

  pub tells : (p : Place) (t : Tree) (body : Trees) → Told (tested here p (value here t)) body (shape_of around.width t body)
  tells p (Node o at stop parts) body = choice (leaves body && not (continues_in body)) refl
    where
      choice : (b : Bool) → (leaves body && not (continues_in body)) ≡ b → Told (tested here p (value here (Node o at stop parts))) body (if b then Once else shape_by around.width (action o) parts body)
      choice true e = let two = and_parts (leaves body) (not (continues_in body)) e in (two.0, not_true around here widths _ two.1)
      choice false e = tells_by p (action o) at parts body

  -- what a test that held tells of a local, for what is known in its block
  abbrev pub BelowBy : Action → Option ℕ → Frame → Type 0
  BelowBy (Local i) (Some (suc n)) f = Below (suc n) (slice_get f.locals i)
  BelowBy (Argument i) (Some (suc n)) f = Below (suc n) (slice_get f.args i)
  BelowBy a o f = Unit {0}

  abbrev pub BelowAct : Action → Trees → Frame → Type 0
  BelowAct (Compare comparison.LLess) (more (Node x at stop none) (more c none)) f = BelowBy (action x) (number_of around.width c) f
  BelowAct a parts f = Unit {0}

  abbrev pub BelowTree : Tree → Frame → Type 0
  BelowTree (Node o at stop parts) f = BelowAct (action o) parts f

  abbrev Tells : (Frame → Type 0) → ℕ → State → Type 0
  Tells R v next = (v ≡ 0 → ⊥) → R next.frame

  below_by : (at from stop : ℕ) (x : _) (c : Tree) (p : Place) (script : List Event) (s : State) (a : Action) (o : Option ℕ) → action x ≡ a → number_of around.width c ≡ o → OnGoes (Tells (BelowBy a o)) ((tested here p (value_of around here widths (Compare comparison.LLess) at (more (Node x from stop none) (more c none)))).run script s)
  below_by at from stop x c p script s (Local i) (Some (suc n)) e f =
      only_goes _ (Tells (BelowBy (Local i) (Some (suc n)))) _ (λ v next h nz. let b = h.1 nz in record { number = b.number; is = ap (λ g. slice_get g.locals i) h.0 ∙ b.is; below = b.below }) (less_act i at (Node x from stop none) c (suc n) (is_local_same i (action x) e) f p script s)
  below_by at from stop x c p script s (Argument i) (Some (suc n)) e f =
      only_goes _ (Tells (BelowBy (Argument i) (Some (suc n)))) _ (λ v next h nz. let b = h.1 nz in record { number = b.number; is = ap (λ g. slice_get g.args i) h.0 ∙ b.is; below = b.below }) (less_at (λ z. slice_get z.args i) at (Node x from stop none) c (suc n) (reads_arg around here widths i (Node x from stop none) (is_arg_same i (action x) e)) f p script s)
  below_by at from stop x c p script s a o e f = any_goes (Tells (BelowBy a o)) ((tested here p (value_of around here widths (Compare comparison.LLess) at (more (Node x from stop none) (more c none)))).run script s) (λ v next nz. tt)

  below_act : (p : Place) (a : Action) (at : ℕ) (parts : Trees) (script : List Event) (s : State) → OnGoes (Tells (BelowAct a parts)) ((tested here p (value_of around here widths a at parts)).run script s)
  below_act p (Compare comparison.LLess) at (more (Node x from stop none) (more c none)) script s = below_by at from stop x c p script s (action x) (number_of around.width c) refl refl
  below_act p a at parts script s = any_goes (Tells (BelowAct a parts)) ((tested here p (value_of around here widths a at parts)).run script s) (λ v next nz. tt)

  pub test_tells : (p : Place) (t : Tree) (script : List Event) (s : State) → OnGoes (λ v next. (v ≡ 0 → ⊥) → BelowTree t next.frame) ((tested here p (value here t)).run script s)
  test_tells p (Node o at stop parts) script s = below_act p (action o) at parts script s

  step_lower : {V W : Type 0} (n : ℕ) (s : State) (f : M V) (g : V → M W) (script : List Event) → Lower {V = W} n (then_do (then_do (take_step {V = Unit {0}} n s (λ next. state.Goes tt next)) (λ u next. f.run script next)) (λ v next. (g v).run script next))
  unfolding ◌>>=◌
  step_lower zero s f g script = tt
  step_lower (suc n) s f g script = lowered n (suc n) _ (omega arith) ((f >>= g).falls script (with_steps s n))

  pub test_lower : (p : Place) (t : Tree) (script : List Event) (s : State) → Lower s.steps ((tested here p (value here t)).run script s)
  unfolding ◌>>=◌ tick paid
  test_lower p (Node o at stop parts) script s = step_lower s.steps s ((if gives_value here (action o) parts then act here (action o) at parts else outside here at) >>= (λ v. want here at v)) (λ v. lift (integer p v)) script

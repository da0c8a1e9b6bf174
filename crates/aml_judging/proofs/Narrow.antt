-- What is known where a test held, by the parts of the test.
use Rattle.std.proofs.Common.{◌≡◌, ◌≤◌, ◌<◌, ◌&&◌, ◌==◌, ℕ, List, [], ◌∷◌, length, get_or, Bool, true, false, refl, sym, inl, inr, arith}
use Rattle.std.proofs.lemmas.Bool.Decides.{eqb_tells}
use Rattle.aml_operators.specs.Tree.{Tree, Trees, Node, none, more, view, views}
use Rattle.aml_operators.specs.declared.term.Term.{Term}
use Rattle.aml_meaning.specs.declared.action.Action.TheVariants.{Compare}
use Rattle.aml_meaning.specs.declared.action.Comparison.{Comparison}
use Rattle.aml_meaning.specs.declared.action.Comparison.TheVariants as comparison
use Rattle.aml_judged.specs.Known.{Env}
use Rattle.aml_judged.specs.Judged.{Around}
use Rattle.aml_judged.specs.Judge.{narrowed_act}

-- a list of two terms, by its terms
pub two_are : (ts : List Term) (d e : Term) → 2 ≤ length ts → length ts < 3 → d ≡ get_or ts 0 d → e ≡ get_or ts 1 e → ts ≡ d ∷ e ∷ []
two_are [] d e h l p q = absurd (omega (arith, h))
two_are (a ∷ []) d e h l p q = absurd (omega (arith, h))
two_are (a ∷ b ∷ []) d e h l p q = λ i. sym p i ∷ sym q i ∷ []
two_are (a ∷ b ∷ x ∷ xs) d e h l p q = absurd (omega (arith, l))

pub none_are : (n : ℕ) (ts : List Term) → n ≡ length ts → true ≡ (n == 0) → ts ≡ []
none_are n [] l e = refl
none_are n (a ∷ xs) l e = elim (eqb_tells n 0) [ inl p ↦ absurd (omega (arith, p.1, l)) | inr p ↦ absurd cc ]

module _ (here : Around) where
  alone : (f : Comparison) (x : Tree) (env : Env) → narrowed_act here (Compare f) (more x none) env ≡ env
  alone comparison.LLess (Node x at stop none) env = refl
  alone comparison.LLess (Node x at stop (more p ps)) env = refl
  alone f x env = refl

  several : (f : Comparison) (x y z : Tree) (zs : Trees) (env : Env) → narrowed_act here (Compare f) (more x (more y (more z zs))) env ≡ env
  several comparison.LLess (Node x at stop none) y z zs env = refl
  several comparison.LLess (Node x at stop (more p ps)) y z zs env = refl
  several f x y z zs env = refl

  no_parts : (f : Comparison) (env : Env) → narrowed_act here (Compare f) none env ≡ env
  no_parts comparison.LLess env = refl
  no_parts f env = refl

  pub narrowed_few : (f : Comparison) (ts : List Term) (env : Env) → length ts < 2 → narrowed_act here (Compare f) (views ts) env ≡ env
  narrowed_few f [] env lt = no_parts f env
  narrowed_few f (a ∷ []) env lt = alone f (view a) env
  narrowed_few f (a ∷ b ∷ xs) env lt = absurd (omega (arith, lt))

  pub narrowed_many : (f : Comparison) (ts : List Term) (env : Env) → 3 ≤ length ts → narrowed_act here (Compare f) (views ts) env ≡ env
  narrowed_many f [] env le = absurd (omega (arith, le))
  narrowed_many f (a ∷ []) env le = absurd (omega (arith, le))
  narrowed_many f (a ∷ b ∷ []) env le = absurd (omega (arith, le))
  narrowed_many f (a ∷ b ∷ x ∷ xs) env le = several f (view a) (view b) (view x) (views xs) env

  -- what is compared has parts
  pub narrowed_nested : (f : Comparison) (x : Tree) (env : Env) (o : _) (at stop : ℕ) (n : ℕ) (ts : List Term) (y : Tree) → x ≡ Node o at stop (views ts) → n ≡ length ts → false ≡ (n == 0) → narrowed_act here (Compare f) (more x (more y none)) env ≡ env
  narrowed_nested f x env o at stop n [] y e l h = let z : false ≡ (0 == 0) = rw l at h in absurd cc
  narrowed_nested comparison.LLess x env o at stop n (a ∷ xs) y e l h = rw e refl
  narrowed_nested f x env o at stop n (a ∷ xs) y e l h = refl

pub three_hold : (a b c x y z : Bool) → x ≡ a → x ≡ true → y ≡ b → y ≡ true → z ≡ c → z ≡ (a && (b && c))
three_hold true true c x y z p q r s t = t
three_hold true false c x y z p q r s t = absurd cc
three_hold false b c x y z p q r s t = absurd cc

pub first_fails : (a b c x v : Bool) → x ≡ a → x ≡ false → v ≡ false → v ≡ (a && (b && c))
first_fails true b c x v p q r = absurd cc
first_fails false b c x v p q r = r

pub second_fails : (a b c x y v : Bool) → x ≡ a → x ≡ true → y ≡ b → y ≡ false → v ≡ false → v ≡ (a && (b && c))
second_fails true true c x y v p q r s t = absurd cc
second_fails true false c x y v p q r s t = t
second_fails false b c x y v p q r s t = t

-- The meaning of a method hangs on its bytes alone: whatever tells the statements of methods' bodies, they are the same.
use Rattle.std.proofs.Common.{◌≡◌, ℕ, Option, Some, None, refl, sym, ap, ◌∙◌}
use Rattle.aml_bodies.specs.Methods.{Around}
use Rattle.aml_meaning.specs.Methods.{callee_in, methods_of}
use Rattle.aml_namespace.specs.Load.{Shown}
use Rattle.aml_namespace.specs.Names.{method_at}
use Rattle.aml_objects.specs.declared.object.Method.{Method}
use Rattle.aml_operators.specs.Tree.{Trees}

module _ (ns : Shown) (a b : Around ns) where
  -- two tellings of one body that has a tree
  same_body : (k : ℕ) (m : Method) → method_at ns k ≡ Some m → (x : Trees) → a.bodies k ≡ Some x → b.bodies k ≡ Some x
  same_body k m is x p =
      let read = a.are.only k m is x p in
      b.are.all k m is read.0 read.1 ∙ sym (a.are.all k m is read.0 read.1) ∙ p

  same_bodies : (k : ℕ) (m : Method) → method_at ns k ≡ Some m → (x y : Option Trees) → a.bodies k ≡ x → b.bodies k ≡ y →
      ((z : Trees) → b.bodies k ≡ Some z → a.bodies k ≡ Some z) → x ≡ y
  same_bodies k m is None None p q back = refl
  same_bodies k m is (Some x) y p q back = sym (same_body k m is x p) ∙ q
  same_bodies k m is None (Some y) p q back = sym p ∙ back y q

module _ (ns : Shown) (a b : Around ns) where
  same_callee : (k : ℕ) (o : Option Method) → method_at ns k ≡ o → callee_in ns k o (a.bodies k) ≡ callee_in ns k o (b.bodies k)
  same_callee k None is = refl
  same_callee k (Some m) is = ap (callee_in ns k (Some m)) (same_bodies ns a b k m is (a.bodies k) (b.bodies k) refl refl (same_body ns b a k m is))

  pub same_methods : methods_of ns a.bodies ≡ methods_of ns b.bodies
  same_methods = λ i. record (methods_of ns a.bodies) { callee = λ k. same_callee k (method_at ns k) refl i }

-- An accepted method is there with its statements, wherever what is kept of bodies is right.
use Rattle.std.proofs.Common.{◌≡◌, ℕ, List, Option, Some, None, refl}
use Rattle.std.specs.Prelude.{IsSome}
use Rattle.aml_bodies.proofs.Around.{around_there}
use Rattle.aml_bodies.proofs.Methods.{there}
use Rattle.aml_bodies.specs.Kept.{kept_at}
use Rattle.aml_bodies.specs.Methods.{Around}
use Rattle.aml_bodies.specs.declared.keeping.Kept.{Kept}
use Rattle.aml_interp.specs.Answers.{IsReady}
use Rattle.aml_known.specs.declared.accepted.Accepted.{Accepted}
use Rattle.aml_namespace.specs.Names.{IsBodyOf, method_at}
use Rattle.aml_namespace.specs.Shows.{shown}
use Rattle.aml_objects.specs.declared.object.Method.{Method}
use Rattle.aml_operators.specs.Tree.{Tree, Trees}
use Rattle.aml_verify.specs.Said.{verdict_at}
use Rattle.aml_verify.specs.declared.checked.Checked.{Checked}
use Rattle.aml_verify.specs.declared.verdict.Verdict.TheVariants as verdict

kept_of : (o : Option Kept) → IsSome o → (one : Kept) × (o ≡ Some one)
kept_of None h = absurd cc
kept_of (Some one) h = (one, refl)

module _ (c : Checked) (ready : IsReady c) (k : ℕ) (a : Accepted) (said : verdict_at c.verdicts.items k ≡ Some (verdict.Accepted a)) where
  pub method : (m : Method) × (method_at (shown c.namespace.now) k ≡ Some m)
  method = there (shown c.namespace.now) k (ready.there k a said)

  module _ (m : Method) (is : method_at (shown c.namespace.now) k ≡ Some m) where
    around : Around (shown c.namespace.now)
    around = around_there (shown c.namespace.now)

    body_of : (b : Option Trees) → around.bodies k ≡ b → (ts : List Tree) × IsBodyOf (shown c.namespace.now) k m ts
    body_of None none =
        let one = kept_of (kept_at c.kept.items k) (ready.kept k a said) in
        absurd ((ready.sound.are k one.0 one.1).read m is around.bodies around.are none)
    body_of (Some b) found = around.are.only k m is b found

    pub body : (ts : List Tree) × IsBodyOf (shown c.namespace.now) k m ts
    body = body_of (around.bodies k) refl

-- An accepted method that gives a value takes no arguments.
use Rattle.std.proofs.Common.{◌≡◌, ℕ, List, [], ◌∷◌, Option, Some, None, refl, ap, ◌∙◌}
use Rattle.std.proofs.lemmas.Option.{same_Some}
use Rattle.std.proofs.lemmas.Bool.{eqb-true}
use Rattle.std.specs.Option.{option_and_then}
use Rattle.std.specs.Prelude.{true}
use Rattle.acpi_objects.specs.Gives.{gives_value}
use Rattle.aml_kinds.specs.Kinds.{Shape}
use Rattle.aml_known.specs.Views.{accepted_of, kinds_of}
use Rattle.aml_known.specs.declared.accepted.Accepted.{Accepted}
use Rattle.aml_known.specs.declared.known.Known.{Known}
use Rattle.aml_methods.proofs.JudgingsThere.{judgings_are_there}
use Rattle.aml_methods.specs.Judgings.{Told, arguments_of}
use Rattle.aml_objects.specs.Entries.{object_at}
use Rattle.aml_namespace.specs.Load.{Shown}
use Rattle.aml_namespace.specs.Names.{method_at, method_in}
use Rattle.aml_namespace.specs.Shows.{shown}
use Rattle.aml_objects.specs.declared.object.Method.{Method}
use Rattle.aml_objects.specs.declared.object.Object.{Object}
use Rattle.aml_objects.specs.declared.object.Object.TheVariants as object
use Rattle.aml_shapes.specs.Numbers.{numbered}
use Rattle.aml_verdict_laws.proofs.Known.{verdicts_are_there}
use Rattle.aml_verify.proofs.Accepting.{by_callee}
use Rattle.aml_verify.specs.Accepts.{are_of, takes}
use Rattle.aml_verify.specs.Said.{verdict_at}
use Rattle.aml_verify.specs.Verdicts.{IsChecked}
use Rattle.aml_verify.specs.declared.checked.Checked.{Checked}
use Rattle.aml_verify.specs.declared.verdict.Verdict.{Verdict}
use Rattle.aml_verify.specs.declared.verdict.Verdict.TheVariants as verdict

-- a method without arguments has none of any kind
no_arguments : (ns : Shown) (told : Told) (k : ℕ) (m : Method) → m.args ≡ 0 → arguments_of ns told k m ≡ []
no_arguments ns told k m none = rw none refl

-- a method that gives a value has no arguments
zero_args : (o : Option Object) (m : Method) → option_and_then method_in o ≡ Some m → gives_value o ≡ true → m.args ≡ 0
zero_args None m is gives = absurd cc
zero_args (Some (object.Method n)) m is gives =
    let same : n ≡ m = same_Some n m is in
    let none : n.args ≡ 0 = eqb-true n.args 0 gives in rw (← same) none
zero_args (Some o) m is gives = absurd cc

-- no kinds are those of no list but the empty one
no_kinds : (shapes : ℕ → Shape) (ks : List Known) → kinds_of shapes ks ≡ [] → are_of ks [] ≡ true
no_kinds shapes [] e = refl
no_kinds shapes (k ∷ ks) e = absurd cc

module _ (told : Told) (c : Checked) (is : IsChecked told c) (k : ℕ) (a : Accepted) (said : verdict_at c.verdicts.items k ≡ Some (verdict.Accepted a)) where
  taken : (m : Method) → method_at (shown c.namespace.now) k ≡ Some m → m.args ≡ 0 → takes (verdict_at c.verdicts.items k) [] ≡ true
  taken m there none =
      let j = judgings_are_there (shown c.namespace.now) told in
      let answer = verdicts_are_there j.0 in
      let args_are = by_callee j.0 answer.known k (j.0.methods.callee k) (accepted_of (numbered c.shapes) a)
      (is.right j.0 j.1 answer.known answer.are k m there (verdict.Accepted a) said) in
      ap (λ (o : Option Verdict). takes o []) said
      ∙ no_kinds (numbered c.shapes) a.args.items (args_are ∙ j.1.args k m there ∙ no_arguments (shown c.namespace.now) told k m none)

  by_method : (o : Option Method) → method_at (shown c.namespace.now) k ≡ o → gives_value (object_at (shown c.namespace.now).entries k) ≡ true → takes (verdict_at c.verdicts.items k) [] ≡ true
  by_method None none gives = (let unsaid : verdict_at c.verdicts.items k ≡ None = is.only k none in absurd cc)
  by_method (Some m) there gives = taken m there (zero_args (object_at (shown c.namespace.now).entries k) m there gives)

  pub takes_none : gives_value (object_at (shown c.namespace.now).entries k) ≡ true → takes (verdict_at c.verdicts.items k) [] ≡ true
  takes_none gives = by_method (method_at (shown c.namespace.now) k) refl gives

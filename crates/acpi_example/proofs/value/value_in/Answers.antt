use Rattle.std.proofs.Common.{◌≡◌, ◌∙◌, Some, Result, Ok, Err, subst, sym, true}
use Rattle.std.proofs.lemmas.Option.{same_Some}
use Rattle.std.specs.Prelude.{IfOk}
use Rattle.std.specs.Result.{result_ok}
use Rattle.aml_contents.specs.Belongs.{Belong}
use Rattle.aml_contents.specs.Held.{content_kinds}
use Rattle.aml_contents.specs.declared.names.Names.{Names}
use Rattle.aml_namespace.specs.Shows.{shown}
use Rattle.aml_signatures.specs.Signed.{kinds_told}
use Rattle.aml_verify.specs.Verdicts.{IsChecked}
use Rattle.aml_verify.specs.declared.checked.Checked.{Checked}
use Rattle.acpi_example.proofs.value.value_in.Goals as goal

-- what holds of a value, wherever there is one
of_ok : {T E : Type 0} (holds : T → Type 0) (r : Result T E) (x : T) → Some x ≡ result_ok r → IfOk r holds → holds x
of_ok holds (Ok y) x is there = subst holds (sym (same_Some x y is)) there
of_ok holds (Err e) x is there = absurd cc

-- the verdicts are the verifier's, its answer was that no arguments are taken, and the names are the namespace's
pub evaluate-requires-clause-checked : goal.evaluate-requires-clause-checked
evaluate-requires-clause-checked g c = record {
  told = kinds_told c.new-signatures.result;
  checked = of_ok (IsChecked (kinds_told c.new-signatures.result)) c.verify.result c.in_ok-checked.checked c.in_ok-checked.ensures.value c.verify.ensures.checked;
}

pub evaluate-requires-clause-accepted : goal.evaluate-requires-clause-accepted
evaluate-requires-clause-accepted g c =
    let does : c.accepts.result ≡ true = cc c.if-not-accepts.false in
    sym (rw c.deref.ensures.value at c.accepts.ensures.takes) ∙ does

pub evaluate-requires-clause-names : goal.evaluate-requires-clause-names
evaluate-requires-clause-names g c =
    let same : c.in_ok-checked.checked.namespace.now ≡ c.args.namespace.now =
    of_ok (λ (v : Checked). v.namespace.now ≡ c.args.namespace.now) c.verify.result c.in_ok-checked.checked c.in_ok-checked.ensures.value c.verify.ensures.namespace in
    rw same
    (of_ok (λ (n : Names). Belong (shown c.args.namespace.now) (content_kinds n)) c.initial.result c.in_ok-names.names c.in_ok-names.ensures.value c.initial.ensures.belong)

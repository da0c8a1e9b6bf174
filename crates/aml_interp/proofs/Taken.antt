-- A method that takes values is accepted, and evaluated with the steps that its verdict says.
use Rattle.std.proofs.Common.{◌≡◌, List, Option, Some, None, refl}
use Rattle.std.specs.Prelude.{true}
use Rattle.aml_interp.specs.Answers.{bound_of}
use Rattle.aml_known.specs.declared.accepted.Accepted.{Accepted}
use Rattle.aml_values.specs.Values.{Value}
use Rattle.aml_verify.specs.Accepts.{takes}
use Rattle.aml_verify.specs.declared.verdict.Verdict.{Verdict}
use Rattle.aml_verify.specs.declared.verdict.Verdict.TheVariants as verdict

pub taken : (said : Option Verdict) (values : List Value) → takes said values ≡ true → (a : Accepted) × (said ≡ Some (verdict.Accepted a)) × (bound_of said ≡ Some a.bound)
taken (Some (verdict.Accepted a)) values is = (a, refl, refl)
taken (Some (verdict.Refused r finding)) values is = absurd cc
taken (Some (verdict.Unreadable table r)) values is = absurd cc
taken None values is = absurd cc

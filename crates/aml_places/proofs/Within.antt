-- What is read at a place is read within the bytes.
use Rattle.std.proofs.Common.{◌≡◌, ℕ, ◌≤◌, List, length, Result, Ok, Err, IsOk, refl, arith}
use Rattle.aml_lex.specs.Reading.{name_string_at, package_end_at, string_data_at}
use Rattle.aml_lex.proofs.Laws.{name_string_ends, package_end_ends, string_data_ends}

within_if : {X F : Type 0} (r : Result X F) (P : Type 0) → ((x : X) → r ≡ Ok x → P) → IsOk r → P
within_if (Ok x) P h ok = h x refl
within_if (Err f) P h ok = absurd cc

pub package_within : (bytes : List ℕ) (at : ℕ) → IsOk (package_end_at bytes at) → at ≤ length bytes
package_within bytes at ok = within_if (package_end_at bytes at) (at ≤ length bytes) (λ r e. let w = package_end_ends bytes at r e in omega (arith, w)) ok

pub name_within : (bytes : List ℕ) (at : ℕ) → IsOk (name_string_at bytes at) → at ≤ length bytes
name_within bytes at ok = within_if (name_string_at bytes at) (at ≤ length bytes) (λ r e. let w = name_string_ends bytes at r e in omega (arith, w)) ok

pub text_within : (bytes : List ℕ) (at : ℕ) → IsOk (string_data_at bytes at) → at ≤ length bytes
text_within bytes at ok = within_if (string_data_at bytes at) (at ≤ length bytes) (λ r e. let w = string_data_ends bytes at r e in omega (arith, w)) ok

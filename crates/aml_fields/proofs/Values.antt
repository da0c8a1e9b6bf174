-- Fields as values.
use Rattle.std.proofs.Common.{◌≡◌, ℕ, ◌≤◌, ◌<◌, true, false, List, Result, Ok, Err, refl, sym, subst, arith}
use Rattle.std.proofs.lemmas.Bool.Decides.{nat_tests}
use Rattle.std.specs.Prelude.{nat_le}
use Rattle.aml_values.specs.Values.{Value, Int, Buf}
use Rattle.aml_regions.specs.declared.field.AnyField.{AnyField}
use Rattle.aml_regions.specs.Fields.{layout_of}
use Rattle.aml_meaning.specs.Fields.{read_bytes, read_integer, read_value, value_read}
use Rattle.aml_meaning.specs.Parts.{◌>>=◌}
use Rattle.aml_meaning.specs.State.{State, with_steps}
use Rattle.aml_meaning.specs.Runs.{Halt, NoMemory, Runs}
use Rattle.aml_meaning.proofs.Runs.{runs_give, runs_no_memory, runs_stop, runs_then, runs_with_memory}
use Rattle.aml_fields.proofs.Events.{runs_memory_fewer}

module _ (width : ℕ) (f : AnyField) (s0 s1 : State) where
  as_integer : (r : Result Value Halt) → (layout_of f).bits ≤ width → Runs r (value_read true f) s0 s1 → Runs r (read_value width f) s0 s1
  unfolding read_value
  as_integer r le runs = let t : nat_le (layout_of f).bits width ≡ true = grind (arith, nat_tests) in subst (λ b. Runs r (value_read b f) s0 s1) (sym t) runs

  as_bytes : (r : Result Value Halt) → width < (layout_of f).bits → Runs r (value_read false f) s0 s1 → Runs r (read_value width f) s0 s1
  unfolding read_value
  as_bytes r lt runs = let t : nat_le (layout_of f).bits width ≡ false = grind (arith, nat_tests) in subst (λ b. Runs r (value_read b f) s0 s1) (sym t) runs

  pub narrow_value : (n : ℕ) → (layout_of f).bits ≤ width → Runs (Ok n) (read_integer f) s0 s1 → Runs (Ok (Int n)) (read_value width f) s0 s1
  narrow_value n le runs = as_integer _ le (runs_then _ runs (runs_give (Int n) s1))

  pub narrow_stops : (halt : Halt) → (layout_of f).bits ≤ width → Runs (Err halt) (read_integer f) s0 s1 → Runs (Err halt) (read_value width f) s0 s1
  narrow_stops halt le runs = as_integer _ le (runs_stop _ runs)

  pub wide_value : (bytes : List ℕ) → width < (layout_of f).bits → Runs (Ok bytes) (read_bytes f) s0 s1 → Runs (Ok (Buf bytes)) (read_value width f) s0 s1
  wide_value bytes lt runs = as_bytes _ lt (runs_then _ (runs_with_memory runs) (runs_give (Buf bytes) s1))

  pub wide_stops : (halt : Halt) → width < (layout_of f).bits → Runs (Err halt) (read_bytes f) s0 s1 → Runs (Err halt) (read_value width f) s0 s1
  wide_stops halt lt runs = as_bytes _ lt (runs_stop _ (runs_with_memory runs))

-- memory is wanted for the bytes, with fewer steps counted as left
pub wide_memory : (width : ℕ) (f : AnyField) (s : State) (k : ℕ) → k ≤ s.steps → width < (layout_of f).bits → Runs (Err NoMemory) (read_value width f) s (with_steps s k)
unfolding read_value ◌>>=◌
wide_memory width f s k le lt = let t : nat_le (layout_of f).bits width ≡ false = grind (arith, nat_tests) in
    subst (λ b. Runs (Err NoMemory) (value_read b f) s (with_steps s k)) (sym t) (runs_memory_fewer (value_read false f) s s k le (runs_no_memory (value_read false f) s (λ script. refl)))

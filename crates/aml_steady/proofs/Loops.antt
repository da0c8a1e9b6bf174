-- Loops have what all parts have, where their tests and bodies do.
use Rattle.std.proofs.Common.{ℕ, zero, suc}
use Rattle.std.specs.Prelude.{◌==◌}
use Rattle.aml_meaning.specs.Parts.{M, give}
use Rattle.aml_meaning.specs.Loops.{turned, turns, loop}
use Rattle.aml_steady.proofs.Closed.{Closed, has_choice}

module _ (Has : (V : Type 0) → M V → Type 0) (is : Closed Has) where
  pub has_turns : (n : ℕ) (test : M ℕ) (body : M (Unit {0})) → Has _ test → Has _ body → Has _ (turns n test body)
  has_turns zero test body h g = is.is_spent
  has_turns (suc n) test body h g =
      is.joined test _ h (λ v. has_choice Has is (v == 0) (give tt) (turned body (turns n test body)) (is.gives tt) (is.turn_goes_on body (turns n test body) g (has_turns n test body h g)))

  pub has_loop : (test : M ℕ) (body : M (Unit {0})) → Has _ test → Has _ body → Has _ (loop test body)
  has_loop test body h g = is.loops test body (λ n. has_turns n test body h g)

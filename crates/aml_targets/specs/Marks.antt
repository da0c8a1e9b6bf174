-- Which locals and which arguments are marked as targets.
use Rattle.std.specs.Prelude.{◌≡◌, ◌<◌, ◌||◌, ℕ, List, slice_get, unwrap_or, Bool, false}
use Rattle.aml_operators.specs.Tree.{Trees, none, more}
use Rattle.aml_meaning.specs.declared.action.Action.{Action}
use Rattle.aml_bounds.specs.Shapes.{acts, is_arg, is_local}
use Rattle.aml_targets.specs.declared.targets.Targets.{Targets}

abbrev pub is_marked : List Bool → ℕ → Bool
is_marked marks i = unwrap_or (slice_get marks i) false

-- just those are marked that were, and those that are found
pub record Adds (found : (Action → Bool) → Bool) (old new : Targets) : Type 0 where
  pub locals : (i : ℕ) → i < 8 →
      is_marked new.locals i ≡ (is_marked old.locals i || found (is_local i))
  pub args : (i : ℕ) → i < 7 → is_marked new.args i ≡ (is_marked old.args i || found (is_arg i))

-- just those are marked that are found
pub record AreTargets (found : (Action → Bool) → Bool) (targets : Targets) : Type 0 where
  pub locals : (i : ℕ) → i < 8 → is_marked targets.locals i ≡ found (is_local i)
  pub args : (i : ℕ) → i < 7 → is_marked targets.args i ≡ found (is_arg i)

-- whether one of some terms is such a place
abbrev pub acts_in : (Action → Bool) → Trees → Bool
acts_in is none = false
acts_in is (more t ts) = acts is t || acts_in is ts

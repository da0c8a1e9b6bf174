-- Which end of a turn is told.
use Rattle.std.proofs.Common.{◌≡◌, ℕ, Bool, true, false, List, Option, Some, None, ap, ◌∙◌, if◌then◌else◌}
use Rattle.aml_kinds.specs.Kinds.{Shape}
use Rattle.aml_meaning.specs.declared.mutex.TakenMutex.{TakenMutex}
use Rattle.aml_judged.specs.Known.{end_within}
use Rattle.aml_known.specs.declared.env.Env.{Env}
use Rattle.aml_known.specs.Views.{env_of}
use Rattle.aml_findings.specs.Finds.{told_end}

module _ (shapes : ℕ → Shape) (lists : ℕ → List TakenMutex) (end : Env) (continued : Option Env) (start : Env) where
  -- that of the Continues
  pub told_continued : (other : Env) → continued ≡ Some other → end_within (env_of shapes lists end) (env_of shapes lists start) ≡ true → told_end shapes lists end continued start ≡ other
  told_continued other e h = ap (λ c. told_end shapes lists end c start) e ∙ ap (λ (b : Bool). if b then other else end) h

  -- that of the body, which is not within what it began with
  pub told_changed : (other : Env) → continued ≡ Some other → end_within (env_of shapes lists end) (env_of shapes lists start) ≡ false → told_end shapes lists end continued start ≡ end
  told_changed other e h = ap (λ c. told_end shapes lists end c start) e ∙ ap (λ (b : Bool). if b then other else end) h

  -- or beside which there are no Continues
  pub told_alone : continued ≡ None → told_end shapes lists end continued start ≡ end
  told_alone e = ap (λ c. told_end shapes lists end c start) e

-- What a loop lacks that has no shape (the shapes are those of aml_bounds), for people.
use Rattle.std.specs.Prelude.{◌≡◌, ℕ, Bool, if◌then◌else◌, Option, Some, None}
use Rattle.aml_operators.specs.Tree.{Tree, Trees, Node, none, more}
use Rattle.aml_meaning.specs.Actions.{action}
use Rattle.aml_meaning.specs.declared.action.Action.{Action}
use Rattle.aml_meaning.specs.declared.action.Action.TheVariants as does
use Rattle.aml_meaning.specs.declared.action.Comparison.TheVariants as comparison
use Rattle.aml_bounds.specs.Loops.{number_of}
use Rattle.aml_bounds.specs.Shapes.{assigns_in}
use Rattle.aml_judged.specs.Judged.{Around}
use Rattle.aml_targets.specs.Marks.{AreTargets, is_marked}
use Rattle.aml_targets.specs.declared.targets.Targets.{Targets}
use Rattle.aml_findings.specs.declared.finding.Change.{Change}
use Rattle.aml_findings.specs.declared.finding.Change.TheVariants as change
use Rattle.aml_findings.specs.declared.finding.Finding.{Finding}
use Rattle.aml_findings.specs.declared.finding.Finding.TheVariants as finding
use Rattle.aml_findings.specs.declared.finding.LoopLack.{LoopLack}
use Rattle.aml_findings.specs.declared.finding.LoopLack.TheVariants as lack

-- by which locals the body stores into
module _ (is_stored : ℕ → Bool) where
  -- a local that is to change by one in each turn: no store changes it, or not one alone does
  abbrev pub changed_lack : Change → ℕ → LoopLack
  changed_lack wanted l = if is_stored l then lack.Otherwise l wanted else lack.Unchanged l wanted

  -- a test that is a local
  abbrev pub alone_lack : ℕ → Trees → LoopLack
  alone_lack l none = changed_lack change.OneLess l
  alone_lack l parts = lack.Test

  -- a local that is compared with a limit, by the number of that, if it is a literal
  abbrev pub limited_lack : Change → ℕ → Trees → Option ℕ → LoopLack
  limited_lack wanted l none (Some limit) = changed_lack wanted l
  limited_lack wanted l none None = lack.Limit l
  limited_lack wanted l parts limit = lack.Test

module _ (width : ℕ) (is_stored : ℕ → Bool) where
  -- what is compared with a limit
  abbrev pub against_action : Change → Action → Trees → Tree → LoopLack
  against_action wanted (does.Local l) parts limit =
      limited_lack is_stored wanted l parts (number_of width limit)
  against_action wanted other parts limit = lack.Test

  abbrev pub against_lack : Change → Tree → Tree → LoopLack
  against_lack wanted (Node o at stop parts) limit = against_action wanted (action o) parts limit

  abbrev pub compared_lack : Change → Trees → LoopLack
  compared_lack wanted (more what (more limit none)) = against_lack wanted what limit
  compared_lack wanted parts = lack.Test

  -- by the test: up by LLess, down by LGreater or by a local alone
  abbrev pub tested_action : Action → Trees → LoopLack
  tested_action (does.Compare comparison.LLess) parts = compared_lack change.OneMore parts
  tested_action (does.Compare comparison.LGreater) parts = compared_lack change.OneLess parts
  tested_action (does.Local l) parts = alone_lack is_stored l parts
  tested_action other parts = lack.Test

  abbrev pub tested_lack : Tree → LoopLack
  tested_lack (Node o at stop parts) = tested_action (action o) parts

-- a loop's test and its body: by the locals that are targets in the body
pub record FindsLack (here : Around) (test : Tree) (body : Trees) (result : Finding) : Type 0 where
  pub targets : Targets
  pub are : AreTargets (λ is. assigns_in is body) targets
  pub told : result ≡ finding.Lack (tested_lack here.width (is_marked targets.locals) test)

-- What is held, read by a copy: memory is wanted only where that is no integer.
use Rattle.std.proofs.Common.{ℕ, Option, Some, Result}
use Rattle.std.specs.Prelude.{slice_get}
use Rattle.aml_values.specs.Values.{Value}
use Rattle.aml_contents.specs.Contents.{content_at}
use Rattle.aml_namespace.specs.declared.link.Link.{Link}
use Rattle.aml_meaning.specs.declared.error.AmlError.{AmlError}
use Rattle.aml_meaning.specs.Changes.{held_by, peek, result_takes_memory}
use Rattle.aml_meaning.specs.Owns.{get_own}
use Rattle.aml_meaning.specs.Parts.{copy_takes_memory, get_arg, get_local, get_name}
use Rattle.aml_meaning.specs.Runs.{Halt, Runs, content, ruled}
use Rattle.aml_meaning.specs.State.{State}
use Rattle.aml_meaning.proofs.Changed.{runs_peek}
use Rattle.aml_meaning.proofs.Owned.{runs_get_own}
use Rattle.aml_meaning.proofs.Runs.{runs_get_arg, runs_get_local, runs_get_name}
use Rattle.aml_scene.specs.Tells.{IsOrWanted}
use Rattle.aml_scene.proofs.Ruled.{runs_or_wanted}

module _ (table at k : ℕ) (s : State) {answer : Result Value Halt} where
  pub copied_local : IsOrWanted (copy_takes_memory (slice_get s.frame.locals k)) answer (content table at (slice_get s.frame.locals k)) → Runs answer (get_local table at k) s s
  unfolding get_local
  copied_local e = runs_or_wanted (copy_takes_memory (slice_get s.frame.locals k)) answer _ (get_local table at k) s (λ script w. w) e (runs_get_local table at k s)

  pub copied_arg : IsOrWanted (copy_takes_memory (slice_get s.frame.args k)) answer (content table at (slice_get s.frame.args k)) → Runs answer (get_arg table at k) s s
  unfolding get_arg
  copied_arg e = runs_or_wanted (copy_takes_memory (slice_get s.frame.args k)) answer _ (get_arg table at k) s (λ script w. w) e (runs_get_arg table at k s)

  pub copied_name : IsOrWanted (copy_takes_memory (Some (content_at s.names.contents k))) answer (content table at (Some (content_at s.names.contents k))) → Runs answer (get_name table at k) s s
  unfolding get_name
  copied_name e = runs_or_wanted (copy_takes_memory (Some (content_at s.names.contents k))) answer _ (get_name table at k) s (λ script w. w) e (runs_get_name table at k s)

  pub copied_own : IsOrWanted (copy_takes_memory (Some (content_at s.frame.owns.contents k))) answer (content table at (Some (content_at s.frame.owns.contents k))) → Runs answer (get_own table at k) s s
  unfolding get_own
  copied_own e = runs_or_wanted (copy_takes_memory (Some (content_at s.frame.owns.contents k))) answer _ (get_own table at k) s (λ script w. w) e (runs_get_own table at k s)

-- what a rule reads of what a name holds
pub copied_peek : (l : Link) (rule : Option Value → Result Value AmlError) (s : State) {answer : Result Value Halt} → IsOrWanted (result_takes_memory (rule (held_by l s))) answer (ruled (rule (held_by l s))) → Runs answer (peek l rule) s s
unfolding peek
copied_peek l rule s {answer = answer} e = runs_or_wanted (result_takes_memory (rule (held_by l s))) answer _ (peek l rule) s (λ script w. w) e (runs_peek l rule s)

use Rattle.std.proofs.Common.{sym, ◌∙◌}
use Rattle.aml_meaning.proofs.Mutexes.{runs_none_held, runs_none_watched, runs_still_held}
use Rattle.aml_machine.proofs.Rising.{none_there, some_there}
use Rattle.aml_acts.proofs.mutex.none_held.Goals as goal

pub returns-then-not-are_watched : goal.returns-then-not-are_watched
returns-then-not-are_watched c = λ log. runs_none_watched _ _ _ (sym c.are_watched.ensures ∙ c.if-not-are_watched.true)

pub returns-then-is_empty : goal.returns-then-is_empty
returns-then-is_empty c = λ log. runs_none_held _ _ _ (none_there _ (sym c.is_empty.ensures ∙ c.if-is_empty.true))

pub returns-else-is_empty : goal.returns-else-is_empty
returns-else-is_empty c = λ log.
    let held = some_there c.args.machine.now.frame.mutexes.taken.items (sym c.is_empty.ensures ∙ c.if-is_empty.false) in
    rw c.fails.ensures (runs_still_held _ _ _ (sym c.are_watched.ensures ∙ c.if-not-are_watched.false) held.0 held.1 held.2)

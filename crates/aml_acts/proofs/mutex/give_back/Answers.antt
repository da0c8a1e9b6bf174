use Rattle.std.proofs.Common.{ap, sym, ◌∙◌}
use Rattle.aml_meaning.proofs.Mutexes.{runs_release, runs_release_stop, runs_release_unwatched}
use Rattle.aml_machine.specs.Mutexes.{held_if}
use Rattle.aml_machine.specs.Views.{frame_of, names_of}
use Rattle.aml_acts.proofs.mutex.give_back.Goals as goal

pub returns-then-not-are_watched-clause-means : goal.returns-then-not-are_watched-clause-means
returns-then-not-are_watched-clause-means c = λ log.
    runs_release_unwatched (frame_of c.args.machine.now.frame) (names_of c.args.machine.now.names) c.args.machine.now.steps log c.args.scene.now.table c.args.at c.args.mutex (sym c.are_watched.ensures ∙ c.if-not-are_watched.true)

pub returns-then-release-clause-means : goal.returns-then-release-clause-means
returns-then-release-clause-means c = λ log.
    rw (c.release.ensures.outside, c.release.ensures.watched) (runs_release (frame_of c.args.machine.now.frame) (names_of c.args.machine.now.names) c.args.machine.now.steps log c.args.scene.now.table c.args.at c.args.mutex
    (sym c.are_watched.ensures ∙ c.if-not-are_watched.false) c.release.new.self.taken.items (c.release.ensures.released ∙ ap (λ b. held_if b c.release.new.self.taken.items) c.if-release.true))

pub returns-else-release-clause-means : goal.returns-else-release-clause-means
returns-else-release-clause-means c = λ log.
    rw (c.fails.ensures, c.release.ensures.kept c.if-release.false, c.release.ensures.outside, c.release.ensures.watched) (runs_release_stop (frame_of c.args.machine.now.frame) (names_of c.args.machine.now.names) c.args.machine.now.steps log _ c.args.at c.args.mutex
    (sym c.are_watched.ensures ∙ c.if-not-are_watched.false) (c.release.ensures.released ∙ ap (λ b. held_if b c.release.new.self.taken.items) c.if-release.false))

use Rattle.std.proofs.Common.{◌∙◌, ◌++◌, ◌∷◌, [], IfSome, ◌<◌, ap, length, subst, sym}
use Rattle.std.specs.Prelude.{if◌then◌else◌, is_ok, max}
use Rattle.aml_meaning.specs.State.{greatest_level}
use Rattle.aml_known.specs.Views.{CanBeRead, held_before}
use Rattle.aml_known.specs.declared.locks.Taking.{Taking}
use Rattle.aml_known.proofs.Takings.{last_held, last_there, one_more_read}
use Rattle.aml_known.proofs.locks.Locks.take.Goals as goal

pub returns-in-Ok-clause-read : goal.returns-in-Ok-clause-read
returns-in-Ok-clause-read c = λ read.
    let old = c.args.self.now.takings.items in
    let t : Taking = record { mutex = c.args.mutex; before = c.last.result; greatest = c.max.result } in
    let items = c.push.ensures.items ∙ ap (λ r. if is_ok r then old ++ t ∷ [] else old) c.in-Ok.is in
    let there = last_there (length old) c.args.held c.in_ok-greatest.ensures.there in
    let behind = subst (λ o. IfSome o (λ before. before < length old)) (sym c.last.ensures) there in
    subst CanBeRead (sym items) (one_more_read old t read behind (λ lists say.
    c.max.ensures
    ∙ ap (λ g. max g c.args.mutex.level) (
    c.in_ok-greatest.ensures.level lists say
    ∙ ap (greatest_level 0) (sym (last_held lists c.args.held) ∙ ap (held_before lists) (sym c.last.ensures))
    )))

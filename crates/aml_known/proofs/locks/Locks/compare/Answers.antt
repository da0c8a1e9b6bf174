use Rattle.std.proofs.Common.{◌≡◌, ◌∙◌, ◌&&◌, [], true, sym, ap, subst}
use Rattle.aml_judged.specs.Known.{same_mutexes}
use Rattle.aml_known.specs.Views.{held_before}
use Rattle.aml_known.proofs.Ends.{and_false, and_true, mutexes_same}
use Rattle.aml_known.proofs.Takings.{before_there, ends_compared, none_held, some_held}
use Rattle.aml_known.proofs.locks.Locks.compare.Goals as goal

pub returns-then-one-other-clause-tells : goal.returns-then-one-other-clause-tells
returns-then-one-other-clause-tells c = λ lists say.
    subst (λ j. same_mutexes (lists c.args.one) (lists j) ≡ true) c.if-one-other.true (mutexes_same (lists c.args.one))

pub returns-then-not-is_same-clause-tells : goal.returns-then-not-is_same-clause-tells
returns-then-not-is_same-clause-tells c = λ lists say.
    let a = c.in_ok-a.a in
    let b = c.in_ok-b.b in
    let fronts = same_mutexes (held_before lists a.before) (held_before lists b.before) in
    ends_compared lists c.args.self.now.takings.items c.args.one c.args.other a b say c.in_ok-a.ensures.there c.in_ok-b.ensures.there
    ∙ ap (λ same. fronts && same) (sym c.is_same.ensures ∙ c.if-not-is_same.true)
    ∙ and_false fronts

pub returns-in-Some-Some-clause-tells : goal.returns-in-Some-Some-clause-tells
returns-in-Some-Some-clause-tells c = λ lists say.
    let a = c.in_ok-a.a in
    let b = c.in_ok-b.b in
    let fronts = same_mutexes (held_before lists a.before) (held_before lists b.before) in
    ends_compared lists c.args.self.now.takings.items c.args.one c.args.other a b say c.in_ok-a.ensures.there c.in_ok-b.ensures.there
    ∙ ap (λ same. fronts && same) (sym c.is_same.ensures ∙ c.if-not-is_same.false)
    ∙ and_true fronts
    ∙ ap (λ o. same_mutexes (held_before lists o) (held_before lists b.before)) c.in-Some-Some.is-0
    ∙ ap (λ o. same_mutexes (lists c.in-Some-Some.one) (held_before lists o)) c.in-Some-Some.is-1

pub returns-in-Some-None-clause-tells : goal.returns-in-Some-None-clause-tells
returns-in-Some-None-clause-tells c = λ lists say.
    let a = c.in_ok-a.a in
    let b = c.in_ok-b.b in
    let takings = c.args.self.now.takings.items in
    let fronts = same_mutexes (held_before lists a.before) (held_before lists b.before) in
    let first = before_there takings c.args.one c.in-Some-None.field-0-0 a c.in_ok-a.ensures.there c.in_ok-a.ensures.behind c.in-Some-None.is-0 in
    ends_compared lists takings c.args.one c.args.other a b say c.in_ok-a.ensures.there c.in_ok-b.ensures.there
    ∙ ap (λ same. fronts && same) (sym c.is_same.ensures ∙ c.if-not-is_same.false)
    ∙ and_true fronts
    ∙ ap (λ o. same_mutexes (held_before lists o) (held_before lists b.before)) c.in-Some-None.is-0
    ∙ ap (λ o. same_mutexes (lists c.in-Some-None.field-0-0) (held_before lists o)) c.in-Some-None.is-1
    ∙ some_held lists takings c.in-Some-None.field-0-0 first.0 say first.1

pub returns-in-Some-None-2-clause-tells : goal.returns-in-Some-None-2-clause-tells
returns-in-Some-None-2-clause-tells c = λ lists say.
    let a = c.in_ok-a.a in
    let b = c.in_ok-b.b in
    let takings = c.args.self.now.takings.items in
    let fronts = same_mutexes (held_before lists a.before) (held_before lists b.before) in
    let first = before_there takings c.args.other c.in-Some-None.field-0-1 b c.in_ok-b.ensures.there c.in_ok-b.ensures.behind c.in-Some-None.is-1 in
    ends_compared lists takings c.args.one c.args.other a b say c.in_ok-a.ensures.there c.in_ok-b.ensures.there
    ∙ ap (λ same. fronts && same) (sym c.is_same.ensures ∙ c.if-not-is_same.false)
    ∙ and_true fronts
    ∙ ap (λ o. same_mutexes (held_before lists o) (held_before lists b.before)) c.in-Some-None.is-0
    ∙ ap (λ o. same_mutexes [] (held_before lists o)) c.in-Some-None.is-1
    ∙ none_held lists takings c.in-Some-None.field-0-1 first.0 say first.1

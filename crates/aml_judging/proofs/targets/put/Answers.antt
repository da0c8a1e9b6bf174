use Rattle.std.proofs.Common.{◌≡◌, ◌+◌, refl, ap, subst, ◌∙◌, arith}
use Rattle.std.proofs.lemmas.Result.{err_from_is_err_and}
use Rattle.aml_judged.specs.Judged as judged
use Rattle.aml_judged.specs.Judged.{no_exits}
use Rattle.aml_judging.specs.Follows.{Paid}
use Rattle.aml_judging.proofs.Going.{gives_judges, gives_stops, paid_twice}
use Rattle.aml_judging.proofs.Stored.{costs_judge, put_judges}
use Rattle.aml_judging.proofs.targets.put.Goals as goal
use Rattle.aml_judging.proofs.targets.put.Goals.{in-Local, in-Argument, in-Debug, in-Name+in_ok-events-in-Name}

pub returns-in-NoTarget : goal.returns-in-NoTarget
returns-in-NoTarget g c = rw c.in-NoTarget.is (gives_judges {see = λ u. u} c.args.progress.now tt (λ env. refl))

pub returns-in_err-events-in-Name : goal.returns-in_err-events-in-Name
returns-in_err-events-in-Name g c =
    let p = err_from_is_err_and c.from_residual.result c.from_residual.ensures.1 in
    rw (c.in-Name.is, p.1, p.2) (gives_stops {see = λ u. u} c.args.progress.now c.in_err-events-in-Name.field-0.0 (λ env. rw (← c.link.ensures) (c.in_err-events-in-Name.ensures env)))

pub returns : goal.returns
returns g c = elim c.match-action.branch [
  | in-Local w ↦ put_judges c.args.progress.now c.match-action.progress c.step.new.self c.step.ensures (ap (λ p. p.exits) w.progress-is) (ap (λ p. p.cost) w.progress-is) (ap (λ p. p.locks.takings.items) w.progress-is) (λ lists. rw (w.in-Local.is, w.progress-is, w.set_kind.ensures (g.A.Shapes.numbered c.args.here.now)) refl)
  | in-Argument w ↦ put_judges c.args.progress.now c.match-action.progress c.step.new.self c.step.ensures (ap (λ p. p.exits) w.progress-is) (ap (λ p. p.cost) w.progress-is) (ap (λ p. p.locks.takings.items) w.progress-is) (λ lists. rw (w.in-Argument.is, w.progress-is, w.set_kind-in-Argument.ensures (g.A.Shapes.numbered c.args.here.now)) refl)
  | in-Debug w ↦ rw w.in-Debug.is (costs_judge (subst (λ p. Paid 1 p c.step.new.self) w.progress-is c.step.ensures) (λ env. refl))
  | in-Name+in_ok-events-in-Name w ↦ rw w.in-Name.is (costs_judge (paid_twice w.pay.ensures (subst (λ p. Paid 1 p c.step.new.self) w.progress-is c.step.ensures)) (λ env. rw (← w.link.ensures) (w.in_ok-events-in-Name.ensures env) ∙ (let e : 1 + w.in_ok-events-in-Name.events ≡ w.in_ok-events-in-Name.events + 1 = omega arith in ap (λ m. judged.Goes tt env no_exits m) e)))
]

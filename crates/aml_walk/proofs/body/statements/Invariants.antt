use Rattle.std.proofs.Common.{◌≡◌, drop}
use Rattle.aml_operators.specs.Tree.{views}
use Rattle.aml_judged.specs.Bodies.{judged_body}
use Rattle.aml_judging.proofs.Going.{Leads}
use Rattle.aml_walk.proofs.body.statements.Given as goal

abbrev pub invariant-loop-term : goal.invariant-loop-term
invariant-loop-term g l =
    (g.A.Shapes.numbered l.here ≡ g.A.Shapes.numbered l.initial.here)
    × ((g.A.Around.around l.here).table ≡ (g.A.Around.around l.initial.here).table)
    × Leads (g.A.Shapes.numbered l.initial.here) (judged_body (g.A.Around.around l.here) (views (drop l.term-index l.body))) (judged_body (g.A.Around.around l.initial.here) (views l.body)) l.initial.progress l.progress

use Rattle.std.proofs.Common.{◌∙◌, sym}
use Rattle.aml_operators.specs.Tree.{views}
use Rattle.aml_integers.specs.Known.{marked}
use Rattle.aml_integers.proofs.Alike.{known_decides}
use Rattle.aml_integers.proofs.Alone.{first_fails, first_holds}
use Rattle.aml_integers.proofs.walk.integers_alone.Goals as goal

pub returns-then-not-are_integers : goal.returns-then-not-are_integers
returns-then-not-are_integers g c = λ methods m known.
    sym (first_fails _ _ (sym (c.are_integers.ensures (g.A.Shapes.numbered c.args.here.now)) ∙ c.if-not-are_integers.true))

pub returns : goal.returns
returns g c = λ methods m known.
    let here = g.A.Around.around c.args.here.now in
    c.all_alone.ensures
    ∙ known_decides here methods m here.kinds.shared (marked c.args.only.now) (views c.args.body.now) known
    ∙ sym (first_holds _ _ (sym (c.are_integers.ensures (g.A.Shapes.numbered c.args.here.now)) ∙ c.if-not-are_integers.false))

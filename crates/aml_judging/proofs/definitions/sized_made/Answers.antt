use Rattle.std.proofs.Common.{◌≡◌, true}
use Rattle.aml_operators.specs.Tree.{view}
use Rattle.aml_operators.proofs.Views.{view_out}
use Rattle.aml_meaning.specs.Meaning.{at_of}
use Rattle.aml_judged.specs.Bodies.{may_make}
use Rattle.aml_judging.proofs.Makings.{sized_goes}
use Rattle.aml_judging.proofs.definitions.sized_made.Goals as goal

pub returns : goal.returns
returns g c = λ env.
    let may : may_make (g.A.Around.around c.args.here.now) (at_of (view c.args.name.now)) ≡ true = rw (view_out c.args.name.now, ← c.may_make.ensures) c.if-not-may_make.false in
    sized_goes (g.A.Around.around c.args.here.now) c.args.at c.args.size (view c.args.from.now) (view c.args.index.now) (view c.args.name.now) _ env may (rw (← c.source_place.ensures, ← c.literal_of.ensures) (c.field_made.ensures env))

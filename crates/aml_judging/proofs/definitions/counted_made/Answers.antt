use Rattle.std.proofs.Common.{◌≡◌, true}
use Rattle.std.specs.Option.{option_map}
use Rattle.aml_operators.specs.Literal.{literal_of}
use Rattle.aml_operators.specs.Tree.{view}
use Rattle.aml_operators.proofs.Views.{view_out}
use Rattle.aml_meaning.specs.Meaning.{at_of}
use Rattle.aml_judged.specs.Bodies.{may_make}
use Rattle.aml_objects.specs.declared.object.CreatedFieldSize.TheVariants as size
use Rattle.aml_judging.proofs.Makings.{counted_goes}
use Rattle.aml_judging.proofs.definitions.counted_made.Goals as goal
use Rattle.aml_judging.proofs.definitions.counted_made.Goals.{in-Some, in-None}

pub returns : goal.returns
returns g c = λ env.
    let may : may_make (g.A.Around.around c.args.here.now) (at_of (view c.args.name.now)) ≡ true = rw (view_out c.args.name.now, ← c.may_make.ensures) c.if-not-may_make.false in
    let counted : c.match-literal_of.size ≡ option_map size.Bits (literal_of (view c.args.count.now)) = elim c.match-literal_of.branch [ in-Some w ↦ rw (← c.literal_of.ensures, w.in-Some.is) w.size-is | in-None w ↦ rw (← c.literal_of.ensures, w.in-None.is) w.size-is ] in
    counted_goes (g.A.Around.around c.args.here.now) c.args.at (view c.args.from.now) (view c.args.index.now) (view c.args.count.now) (view c.args.name.now) _ env may (rw (← counted, ← c.source_place.ensures, ← c.literal_of-2.ensures) (c.field_made.ensures env))

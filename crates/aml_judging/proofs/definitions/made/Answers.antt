use Rattle.std.proofs.lemmas.Result.{err_from_is_err_and}
use Rattle.aml_findings.specs.Views.{made_of}
use Rattle.aml_judging.proofs.Going.{gives_judges, gives_stops}
use Rattle.aml_judging.proofs.definitions.made.Goals as goal

pub returns-in-Name : goal.returns-in-Name
returns-in-Name g c = rw c.in-Name.is c.name_among.ensures

pub returns-in_err-part-in-Field : goal.returns-in_err-part-in-Field
returns-in_err-part-in-Field g c =
    let p = err_from_is_err_and c.from_residual.result c.from_residual.ensures.1 in
    rw (c.in-Field.is, p.1, p.2) (gives_stops {see = made_of (g.A.Shapes.numbered c.args.here.now)} c.args.progress.now c.in_err-part-in-Field.field-0.0 (λ env. c.in_err-part-in-Field.ensures env))

pub returns-in_ok-part-in-Field : goal.returns-in_ok-part-in-Field
returns-in_ok-part-in-Field g c = rw c.in-Field.is (gives_judges {see = made_of (g.A.Shapes.numbered c.args.here.now)} c.args.progress.now c.in_ok-part-in-Field.part (λ env. c.in_ok-part-in-Field.ensures env))

pub returns-in_err-part-in-CountedField : goal.returns-in_err-part-in-CountedField
returns-in_err-part-in-CountedField g c =
    let p = err_from_is_err_and c.from_residual-in_err-part-in-CountedField.result c.from_residual-in_err-part-in-CountedField.ensures.1 in
    rw (c.in-CountedField.is, p.1, p.2) (gives_stops {see = made_of (g.A.Shapes.numbered c.args.here.now)} c.args.progress.now c.in_err-part-in-CountedField.field-0.0 (λ env. c.in_err-part-in-CountedField.ensures env))

pub returns-in_ok-part-in-CountedField : goal.returns-in_ok-part-in-CountedField
returns-in_ok-part-in-CountedField g c = rw c.in-CountedField.is (gives_judges {see = made_of (g.A.Shapes.numbered c.args.here.now)} c.args.progress.now c.in_ok-part-in-CountedField.part (λ env. c.in_ok-part-in-CountedField.ensures env))
